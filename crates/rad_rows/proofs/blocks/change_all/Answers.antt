use Rattle.std.proofs.Common.{◌≡◌, arith, length, subst, sym}
use Rattle.rad_rows.specs.Blocks.{block_mapped}
use Rattle.rad_rows.specs.Entries.{IsGrouped}
use Rattle.rad_rows.proofs.EntryLemmas.{as_many, entries_more}
use Rattle.rad_rows.proofs.GroupLemmas.{grouped_zero}
use Rattle.rad_rows.proofs.blocks.change_all.Goals as goal

pub loop-at-preserved : goal.loop-at-preserved
loop-at-preserved g c =
    entries_more (block_mapped (g.C.Change.to c.args.by.now)) c.args.blocks.now.entries c.loop-at.blocks.entries c.loop-at.at
    c.index_mut.result.now c.change_all.new.self c.loop-at.invariant c.index_mut.ensures.value c.change_all.ensures

pub returns-clause-grouped : goal.returns-clause-grouped
returns-clause-grouped g c =
    let ys = c.loop-at.blocks.entries in
    let many : length ys ≡ length c.args.blocks.now.entries =
    as_many (block_mapped (g.C.Change.to c.args.by.now)) c.args.blocks.now.entries ys c.loop-at.at c.loop-at.invariant in
    subst (λ l. IsGrouped g.T.Row.is_live 0 l ys) (sym c.forget.ensures)
    (grouped_zero g.T.Row.is_live (length c.args.bounds.now) ys (omega (arith, many, c.requires.enough)))

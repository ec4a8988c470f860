use Rattle.std.proofs.Common.{◌∙◌, sym}
use Rattle.rad_rows.proofs.EntryLemmas.{no_some}
use Rattle.rad_rows.proofs.PlaceLemmas.{entry_at_key, find_at, find_none}
use Rattle.rad_rows.proofs.blocks.find.Goals as goal

pub returns-in_default : goal.returns-in_default
returns-in_default g c =
    sym (find_none g.T.Row.number c.args.number c.args.blocks.now.entries c.requires.placed (no_some _ c.in_default.ensures.found))

pub returns : goal.returns
returns g c =
    c.find.ensures
    ∙
    sym (find_at g.T.Row.number c.args.number 0 c.args.blocks.now.entries c.in-Some.at c.index.result.now c.requires.ascends
    c.requires.placed
    (entry_at_key g.T.Row.number c.args.number c.args.blocks.now.entries c.in-Some.at _ c.index.result.now
    (sym c.in-Some.ensures.index)
    c.index.ensures))

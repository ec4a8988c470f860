use Rattle.std.proofs.Common.{arith, subst, sym, take}
use Rattle.std.specs.List.{All}
use Rattle.std.proofs.lemmas.Grind.{common_steps}
use Rattle.std.proofs.lemmas.List.{take_more_set}
use Rattle.std.proofs.lemmas.List.Edits.{map_over_more}
use Rattle.rad_rows.specs.Blocks.{LivesUntil}
use Rattle.rad_rows.proofs.BlockLemmas.{lives_more, lives_to_end}
use Rattle.rad_rows.proofs.plain.change_all.Goals as goal

pub loop-row-preserved : goal.loop-row-preserved
loop-row-preserved g c =
    let live = g.T.Row.is_live in
    let spans = c.args.spans.now in
    let xs = c.loop-row.row-items in
    let i = c.loop-row.row-index in
    let row = c.change.new.row in
    record {
      items = grind (arith, common_steps, map_over_more (g.C.Change.to c.args.by.now));
      bound = subst (All (LivesUntil live spans c.min-bound.result)) (sym (take_more_set xs i row (omega arith)))
          (lives_more live spans c.loop-row.bound c.ends.result c.min-bound.result (take i xs) row (omega arith) (omega arith)
          c.loop-row.invariant.bound
          (lives_to_end live spans c.ends.result row c.ends.ensures));
    }

use Rattle.std.proofs.Common.{arith}
use Rattle.std.proofs.lemmas.Grind.{common_steps}
use Rattle.std.proofs.lemmas.List.Edits.{map_over_more}
use Rattle.rad_rows.specs.Rows.{change_row}
use Rattle.rad_rows.proofs.BlockLemmas.{lives_set}
use Rattle.rad_rows.proofs.plain.change.Goals as goal

pub loop-row-preserved : goal.loop-row-preserved
loop-row-preserved g c =
    let xs = c.loop-row.row-items in
    let i = c.loop-row.row-index in
    record {
      items = grind (arith, common_steps, map_over_more (change_row g.T.Row.number c.args.number (g.C.Change.to c.args.by.now)));
      bound = lives_set g.T.Row.is_live c.args.spans.now c.loop-row.bound c.change_one.new.bound xs i c.change_one.new.row
          c.change_one.ensures.earlier c.loop-row.invariant.bound c.change_one.ensures.bound;
    }

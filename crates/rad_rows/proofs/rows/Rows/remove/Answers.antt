use Rattle.std.proofs.Common.{◌∙◌, ap}
use Rattle.rad_rows.specs.Entries.{all_rows}
use Rattle.rad_rows.proofs.RowsLemmas.{consistent_without, rows_without}
use Rattle.rad_rows.proofs.rows.Rows.remove.Goals as goal

pub invariant_of-self : goal.invariant_of-self
invariant_of-self g c =
    let old = c.self.inside in
    consistent_without g.T.Row.number g.T.Row.is_live old.spans c.args.number old.last old.count c.remove-count.result old.bounds
    old.ready
    old.blocks.entries c.remove-count.new.blocks.entries c.self.invariant c.remove-count.ensures.entries
    c.remove-count.ensures.count

pub returns-clause-rows : goal.returns-clause-rows
returns-clause-rows g c =
    rw (← c.self.view_is) (ap all_rows c.remove-count.ensures.entries
    ∙ rows_without g.T.Row.number c.args.number c.self.inside.blocks.entries)

use Rattle.std.proofs.Common.{◌∙◌, ap}
use Rattle.rad_rows.specs.Entries.{all_rows}
use Rattle.rad_rows.proofs.RowsLemmas.{consistent_cut, rows_cut}
use Rattle.rad_rows.proofs.rows.Rows.expire.Goals as goal

pub invariant_of-self : goal.invariant_of-self
invariant_of-self g c =
    let old = c.self.inside in
    consistent_cut g.T.Row.number g.T.Row.is_live old.spans c.args.now old.last old.count c.sweep.result old.bounds
    c.sweep.new.bounds
    old.ready
    old.blocks.entries c.sweep.new.blocks.entries c.self.invariant c.sweep.ensures.entries c.sweep.ensures.count
    c.sweep.ensures.grouped

pub returns-clause-rows : goal.returns-clause-rows
returns-clause-rows g c =
    rw (← c.self.view_is) (ap all_rows c.sweep.ensures.entries
    ∙ rows_cut g.T.Row.is_live c.self.inside.spans c.args.now c.self.inside.blocks.entries c.self.invariant.sound.spanned)

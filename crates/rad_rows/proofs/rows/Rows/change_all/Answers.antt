use Rattle.std.proofs.Common.{◌∙◌, ap}
use Rattle.rad_rows.specs.Entries.{all_rows}
use Rattle.rad_rows.proofs.RowsLemmas.{consistent_mapped, rows_mapped}
use Rattle.rad_rows.proofs.rows.Rows.change_all.Goals as goal

pub invariant_of-self : goal.invariant_of-self
invariant_of-self g c =
    let old = c.self.inside in
    consistent_mapped g.T.Row.number g.T.Row.is_live old.spans old.last old.count old.bounds c.change_all.new.bounds old.ready
    (g.C.Change.to c.args.by.now) old.blocks.entries c.change_all.new.blocks.entries c.requires c.self.invariant
    c.change_all.ensures.entries c.change_all.ensures.grouped

pub returns-clause-rows : goal.returns-clause-rows
returns-clause-rows g c =
    rw (← c.self.view_is) (ap all_rows c.change_all.ensures.entries
    ∙ rows_mapped (g.C.Change.to c.args.by.now) c.self.inside.blocks.entries)

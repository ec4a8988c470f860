use Rattle.std.proofs.Common.{◌∙◌, ap}
use Rattle.rad_rows.specs.Entries.{all_rows}
use Rattle.rad_rows.specs.Rows.{change_row}
use Rattle.rad_rows.proofs.RowsLemmas.{changed_number, consistent_mapped, rows_mapped}
use Rattle.rad_rows.proofs.rows.Rows.change.Goals as goal

pub invariant_of-self : goal.invariant_of-self
invariant_of-self g c =
    let number = g.T.Row.number in
    let to = g.C.Change.to c.args.by.now in
    let old = c.self.inside in
    consistent_mapped number g.T.Row.is_live old.spans old.last old.count old.bounds c.change.new.bounds old.ready
    (change_row number c.args.number to) old.blocks.entries c.change.new.blocks.entries
    (changed_number number c.args.number to c.requires)
    c.self.invariant c.change.ensures.entries c.change.ensures.grouped

pub returns-clause-was : goal.returns-clause-was
returns-clause-was g c = rw (← c.self.view_is) c.change.ensures.was

pub returns-clause-rows : goal.returns-clause-rows
returns-clause-rows g c =
    rw (← c.self.view_is) (ap all_rows c.change.ensures.entries
    ∙ rows_mapped (change_row g.T.Row.number c.args.number (g.C.Change.to c.args.by.now)) c.self.inside.blocks.entries)

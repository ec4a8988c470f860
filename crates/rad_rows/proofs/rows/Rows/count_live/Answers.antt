use Rattle.rad_rows.specs.Entries.{all_rows}
use Rattle.rad_rows.proofs.RowsLemmas.{count_left}
use Rattle.rad_rows.proofs.rows.Rows.count_live.Goals as goal

pub returns : goal.returns
returns g c = rw (← c.self.view_is)
    (count_left g.T.Row.is_live c.self.inside.spans c.args.now (all_rows c.self.inside.blocks.entries) _ c.tell_dead.new.tally
    c.self.invariant.count c.tell_dead.ensures)

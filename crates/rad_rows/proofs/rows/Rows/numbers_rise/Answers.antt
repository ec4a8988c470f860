use Rattle.std.proofs.Common.{◌≤◌, length, subst}
use Rattle.rad_rows.specs.Entries.{all_rows}
use Rattle.rad_rows.proofs.OrderLemmas.{no_more}
use Rattle.rad_rows.proofs.rows.Rows.numbers_rise.Goals as goal

pub returns-clause-few : goal.returns-clause-few
returns-clause-few g c =
    subst (λ seen. length seen.rows ≤ seen.last) c.self.view_is
    (no_more g.T.Row.number c.self.inside.last (all_rows c.self.inside.blocks.entries) c.self.invariant.order)

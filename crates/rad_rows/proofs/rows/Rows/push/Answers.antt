use Rattle.std.proofs.Common.{◌≡◌, ◌∙◌, ◌+◌, ap, arith, sym}
use Rattle.rad_rows.specs.Entries.{all_rows}
use Rattle.rad_rows.proofs.OrderLemmas.{no_more}
use Rattle.rad_rows.proofs.rows.Rows.push.Goals as goal

pub overflow_add-self : goal.overflow_add-self
overflow_add-self g c =
    let next : g.T.Row.number c.args.row ≡ c.self.inside.last + 1 = c.requires.next ∙ ap (λ s. s.last + 1) (sym c.self.view_is) in
    omega (
      arith,
      no_more g.T.Row.number c.self.inside.last (all_rows c.self.inside.blocks.entries) c.self.invariant.order,
      c.self.invariant.count,
      c.number-number.ensures,
      next,
      c.number-number.type_inv,
    )

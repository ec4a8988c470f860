use Rattle.std.proofs.Common.{◌∙◌, ap, arith, sym}
use Rattle.rad_log.proofs.StepLemmas.{finds, joins}
use Rattle.rad_log.proofs.log.Keeper.find.Goals as goal

pub join_seat-requires : goal.join_seat-requires
join_seat-requires g c =
    let log = c.log.view_is ∙ c.requires in (
      c.self.invariant.0 ∙ sym log,
      c.ticket.invariant.0 ∙ sym log,
      ap (λ me. me.1) c.ticket.invariant.1,
      omega (arith, c.log.invariant),
      joins _ _ _ _,
    )

pub load-requires : goal.load-requires
load-requires g c =
    let log = c.log.view_is ∙ c.requires in (
      c.join_seat.ensures.0 ∙ (c.self.invariant.0 ∙ sym log),
      omega (arith, c.log.invariant),
      finds _ _ _ (ap (λ me. me.0.keeps) c.join_seat.ensures.2 ∙ ap (λ me. me.0.keeps) c.self.invariant.1),
    )

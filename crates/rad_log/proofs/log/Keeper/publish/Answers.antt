use Rattle.std.proofs.Common.{◌∙◌, ◌==◌, arith, sym}
use prog.Atomic.{either}
use Rattle.rad_log.proofs.StepLemmas.{publishes_as, splits}
use Rattle.rad_log.proofs.log.Keeper.publish.Goals as goal

pub compare_exchange_with-requires : goal.compare_exchange_with-requires
compare_exchange_with-requires g c =
    let log = c.log.view_is ∙ c.requires in (
      c.self.invariant.0 ∙ sym log,
      omega (arith, c.log.invariant),
      publishes_as _ _ _ (λ n. either (n == c.args.number) c.args.number n) c.args.history.now _ c.self.invariant.1,
    )

pub split_seat-claim-requires : goal.split_seat-claim-requires
split_seat-claim-requires g c =
    let log = c.log.view_is ∙ c.requires in
    (c.compare_exchange_with.ensures.0 ∙ (c.self.invariant.0 ∙ sym log), omega (arith, c.log.invariant), splits _ _)

use Rattle.std.proofs.Common.{◌≡◌, ◌+◌, ◌*◌, None, Some, get_or, refl, sym, subst, ◌∙◌, ap}
use Rattle.rad_round.specs.Works.{IsLane, entry_of, unasked}
use Rattle.rad_round.proofs.BatchLemmas.{IsCheckedBatch, lane_of, the_read, unasked_lane, verdict_in}
use Rattle.rad_round.specs.declared.outcome.Outcome.TheVariants.{Busy, Reply}
use Rattle.rad_round.proofs.batch.Batch.outcome.Goals as goal

pub returns-in_default : goal.returns-in_default
returns-in_default c receipt at =
    let batch = c.args.self.now in
    let checked = subst IsCheckedBatch c.self.view_is c.self.invariant.checked in
    let read : receipt ≡ None =
    the_read c.args.asked.now c.args.lane c.index-asked-lane.result receipt c.index-asked-lane.is at ∙ c.in_default.is in
    let verdict = verdict_in batch.configuration.clients batch.arrivals batch.number batch.verdicts c.args.lane
    c.index-verdicts-lane.result checked c.requires.lane
    (c.index-verdicts-lane.is ∙ ap (λ b. get_or b.verdicts c.args.lane c.index-verdicts-lane.result) c.self.view_is) in
    subst (λ r. IsLane batch.configuration.clients batch.arrivals (batch.number * 8 + c.args.lane) c.unasked.result (entry_of r))
    (sym read)
    (subst (λ o. IsLane batch.configuration.clients batch.arrivals (batch.number * 8 + c.args.lane) o None)
    (sym (c.unasked.ensures ∙ ap unasked (sym c.index-verdicts-lane.is)))
    (unasked_lane batch.configuration.clients batch.arrivals (batch.number * 8 + c.args.lane) c.index-verdicts-lane.result
    verdict.1))

pub returns-in-Busy : goal.returns-in-Busy
returns-in-Busy c receipt at =
    let batch = c.args.self.now in
    let checked = subst IsCheckedBatch c.self.view_is c.self.invariant.checked in
    let read : receipt ≡ Some c.in-Some.receipt =
    the_read c.args.asked.now c.args.lane c.index-asked-lane.result receipt c.index-asked-lane.is at ∙ c.in-Some.is in
    subst (λ r. IsLane batch.configuration.clients batch.arrivals (batch.number * 8 + c.args.lane) (Some Busy) (entry_of r))
    (sym read)
    (lane_of batch c.args.asked.now c.args.lane c.in-Some.receipt Busy checked c.requires.lane c.requires.asked (at ∙ ap Some read)
    (λ verdict is there. c.in-Busy.is))

pub returns-in-Send : goal.returns-in-Send
returns-in-Send c receipt at =
    let batch = c.args.self.now in
    let checked = subst IsCheckedBatch c.self.view_is c.self.invariant.checked in
    let read : receipt ≡ Some c.in-Some.receipt =
    the_read c.args.asked.now c.args.lane c.index-asked-lane.result receipt c.index-asked-lane.is at ∙ c.in-Some.is in
    subst (λ r. IsLane batch.configuration.clients batch.arrivals (batch.number * 8 + c.args.lane) (Some (Reply c.args.frame))
    (entry_of r)) (sym read)
    (lane_of batch c.args.asked.now c.args.lane c.in-Some.receipt (Reply c.args.frame) checked c.requires.lane c.requires.asked
    (at ∙ ap Some read)
    (λ verdict is there. (
      c.in-Send.field-0,
      c.in-Send.is,
      c.requires.sealed verdict (Some c.in-Some.receipt) there (at ∙ ap Some read) is.request c.in-Send.field-0 (record {
        receipt = c.in-Some.receipt;
        verdict_is = is.verdict_is;
        asked_is = refl;
        answer = c.in-Send.is;
      }),
    )))

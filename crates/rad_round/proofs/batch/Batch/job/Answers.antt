use Rattle.std.proofs.Common.{◌≡◌, get_or, sym, subst, ◌∙◌, ap}
use Rattle.rad_round.specs.Works.{IsJobOf}
use Rattle.rad_round.proofs.BatchLemmas.{IsCheckedBatch, sealable_in, the_read}
use Rattle.rad_round.proofs.batch.Batch.job.Goals as goal

pub job_of-requires-clause-sealable : goal.job_of-requires-clause-sealable
job_of-requires-clause-sealable c =
    sealable_in c.args.self.now c.args.asked.now c.args.lane c.index-asked-lane.result
    (subst IsCheckedBatch c.self.view_is c.self.invariant.checked)
    c.requires.lane c.requires.asked c.index-asked-lane.is

pub returns-clause-of_lane : goal.returns-clause-of_lane
returns-clause-of_lane c verdict receipt at there request body sends =
    let batch = c.args.self.now in
    let the_verdict : verdict ≡ c.index-verdicts-lane.result =
    the_read batch.verdicts c.args.lane c.index-verdicts-lane.result verdict
    (c.index-verdicts-lane.is ∙ ap (λ b. get_or b.verdicts c.args.lane c.index-verdicts-lane.result) c.self.view_is) at in
    let the_receipt : receipt ≡ c.index-asked-lane.result =
    the_read c.args.asked.now c.args.lane c.index-asked-lane.result receipt c.index-asked-lane.is there in
    let read = subst (λ v. IsJobOf c.clients.result.now v c.index-asked-lane.result c.job_of.result) (sym c.index-verdicts-lane.is)
    c.job_of.ensures.of_lane in
    let of = subst (λ clients. IsJobOf clients c.index-verdicts-lane.result c.index-asked-lane.result c.job_of.result)
    (c.clients.ensures.value ∙ ap (λ b. b.configuration.clients) c.self.view_is) read in
    of request body (record {
      receipt = sends.receipt;
      verdict_is = sym the_verdict ∙ sends.verdict_is;
      asked_is = sym the_receipt ∙ sends.asked_is;
      answer = sends.answer;
    })

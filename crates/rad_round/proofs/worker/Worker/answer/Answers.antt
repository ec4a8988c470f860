use Rattle.std.proofs.Common.{◌<◌, ◌∙◌, All, arith, ap, length, subst, sym, vec_capacity}
use Rattle.rad_auth.specs.Admission.{HoldsAdmitted}
use Rattle.rad_round.proofs.BatchLemmas.{all_admitted}
use Rattle.rad_round.proofs.ListLemmas.{seen_as}
use Rattle.rad_round.specs.Works.{Adds, IsAnswered, Worker}
use Rattle.rad_round.proofs.worker.Worker.answer.Goals as goal

pub prepare8-prepared-requires-clause-admitted : goal.prepare8-prepared-requires-clause-admitted
prepare8-prepared-requires-clause-admitted g c =
    subst (λ clients. All (HoldsAdmitted clients) c.check_batch-verdicts.result) c.clients.ensures.value
    (all_admitted _ _ _ c.check_batch-verdicts.result c.check_batch-verdicts.ensures)

pub push_reserved-requires : goal.push_reserved-requires
push_reserved-requires g c =
    let own = c.self.inside in
    let capacity : length own.answered.items < vec_capacity own.answered =
    subst (λ (w : Worker). length w.answered < w.capacity) (sym c.self.view_is) c.requires.capacity in
    omega (arith, capacity, own.answered.ok.0)

pub returns : goal.returns
returns g c =
    let setting = c.args.round.now.setting in
    let new = c.new-batch.ensures in
    let batch = c.answer_batch-batch.ensures in
    seen_as (Adds setting.config.now.clients setting.arrivals.now c.args.number) c.self.view_is (record {
      answered = c.answer_batch-batch.result;
      number_is = batch.number ∙ new.number;
      right = subst (λ clients. IsAnswered clients setting.arrivals.now c.answer_batch-batch.result)
          (ap (λ configuration. configuration.clients) new.configuration)
          (subst (λ arrivals. IsAnswered c.new-batch.result.configuration.clients arrivals c.answer_batch-batch.result) new.arrivals
          batch.right);
      last = c.push_reserved.ensures.items;
      amount = batch.counted;
      part = batch.part ∙ sym (ap (λ (w : Worker). w.parts) c.self.view_is ∙ c.requires.part);
      capacity = c.push_reserved.ensures.capacity;
    })

use Rattle.std.proofs.Common.{◌≡◌, IfSome, None, ap, map, refl, replicate, subst, sym}
use Rattle.rad_round.proofs.ListLemmas.{seen_as}
use Rattle.rad_round.specs.Works.{AreLanes, CheckedBatch, entry_of}
use Rattle.rad_round.proofs.worker.answer_batch.Goals as goal

pub returns-in_default-clause-right : goal.returns-in_default-clause-right
returns-in_default-clause-right g c =
    let batch = c.args.batch.now in
    let number : batch.number ≡ c.batch.inside.number = sym (ap (λ (b : CheckedBatch). b.number) c.batch.view_is) in record {
      entries = replicate 8 None;
      within = c.batch.invariant.checked.within;
      lanes = seen_as (λ n outcomes. AreLanes batch.configuration.clients batch.arrivals n outcomes (replicate 8 None)) number
          c.outcomes_unasked-outcomes.ensures;
      taken_is = refl;
      numbered = tt;
    }

pub returns-clause-right : goal.returns-clause-right
returns-clause-right g c =
    let batch = c.args.batch.now in
    let number : batch.number ≡ c.batch.inside.number = sym (ap (λ (b : CheckedBatch). b.number) c.batch.view_is) in
    let entries = map entry_of c.ask-ticket.new.asked in record {
      entries = entries;
      within = c.batch.invariant.checked.within;
      lanes = seen_as (λ n outcomes. AreLanes batch.configuration.clients batch.arrivals n outcomes entries) number
          c.outcomes-outcomes.ensures;
      taken_is = c.ask-ticket.ensures.taken;
      numbered = subst (λ n. IfSome c.ask-ticket.result (λ taking. taking.number ≡ n)) number c.ask-ticket.ensures.numbered;
    }

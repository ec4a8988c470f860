use Rattle.std.proofs.Common.{◌≡◌, [], ◌∷◌, None, ap, map, replicate, subst}
use Rattle.rad_auth.proofs.LaneLemmas.{eight_lanes}
use Rattle.rad_round.specs.Works.{AreLanes, CheckedBatch, unasked}
use Rattle.rad_round.proofs.BatchLemmas.{lanes_unasked}
use Rattle.rad_round.proofs.batch.Batch.outcomes_unasked.Goals as goal

pub returns : goal.returns
returns c =
    let own = c.self.inside in
    let batch : CheckedBatch = record {
      configuration = own.config.now;
      arrivals = own.arrivals.now;
      number = own.number;
      verdicts = own.verdicts.now;
    } in
    let outcomes =
    c.unasked.result ∷ c.unasked-2.result ∷ c.unasked-3.result ∷ c.unasked-4.result ∷ c.unasked-5.result ∷ c.unasked-6.result
    ∷ c.unasked-7.result ∷ c.unasked-8.result ∷ [] in
    let are : outcomes ≡ map unasked own.verdicts.now =
    rw (
      c.unasked.ensures,
      c.unasked-2.ensures,
      c.unasked-3.ensures,
      c.unasked-4.ensures,
      c.unasked-5.ensures,
      c.unasked-6.ensures,
      c.unasked-7.ensures,
      c.unasked-8.ensures,
    )
    (ap (map unasked) (eight_lanes own.verdicts.now _ _ _ _ _ _ _ _ c.self.invariant.checked.lanes)) in
    subst (λ (b : CheckedBatch). AreLanes b.configuration.clients b.arrivals b.number outcomes (replicate 8 None)) c.self.view_is
    (lanes_unasked batch outcomes c.self.invariant.checked are)

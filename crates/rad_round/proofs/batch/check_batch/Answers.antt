use Rattle.std.proofs.Common.{◌≡◌, ◌+◌, ◌*◌, [], ◌∷◌, slice_get, arith, subst}
use Rattle.std.specs.Option.{option_map}
use Rattle.rad_round.proofs.BatchLemmas.{verdicts_of}
use Rattle.rad_round.proofs.ListLemmas.{eight}
use Rattle.rad_round.proofs.batch.check_batch.Goals as goal

pub returns : goal.returns
returns c =
    verdicts_of c.args.clients.now c.args.arrivals.now (c.args.number * 8)
    (c.arrival_at.result ∷ c.arrival_at-2.result ∷ c.arrival_at-3.result ∷ c.arrival_at-4.result ∷ c.arrival_at-5.result
    ∷ c.arrival_at-6.result
    ∷ c.arrival_at-7.result ∷ c.arrival_at-8.result ∷ [])
    c.check8.result c.check8.ensures.verdicts
    (eight (λ lane arrival. arrival
    ≡ option_map (λ timed. timed.arrival) (slice_get c.args.arrivals.now (c.args.number * 8 + lane)))
    c.arrival_at.result c.arrival_at-2.result c.arrival_at-3.result c.arrival_at-4.result
    c.arrival_at-5.result c.arrival_at-6.result c.arrival_at-7.result c.arrival_at-8.result
    (subst (λ number. c.arrival_at.result ≡ option_map (λ timed. timed.arrival) (slice_get c.args.arrivals.now number))
    (omega arith) c.arrival_at.ensures)
    c.arrival_at-2.ensures c.arrival_at-3.ensures c.arrival_at-4.ensures
    c.arrival_at-5.ensures c.arrival_at-6.ensures c.arrival_at-7.ensures c.arrival_at-8.ensures)
    c.check8.ensures.requests

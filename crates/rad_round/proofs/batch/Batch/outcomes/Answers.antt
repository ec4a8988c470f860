use Rattle.std.proofs.Common.{◌+◌, ◌*◌, [], ◌∷◌, arith, refl, rules, slice_get}
use Rattle.std.proofs.lemmas.Option.{slice_get_read}
use Rattle.rad_round.specs.Works.{IsLaneOf}
use Rattle.rad_round.proofs.BatchLemmas.{lanes_of}
use Rattle.rad_round.proofs.ListLemmas.{eight}
use Rattle.rad_round.proofs.batch.Batch.outcomes.Goals as goal

pub outcome-requires-clause-sealed : goal.outcome-requires-clause-sealed
outcome-requires-clause-sealed c =
    c.requires.sealed 0 _ (slice_get_read c.args.frames 8 0 _ (search rules) (omega arith) (search rules))

pub outcome-requires-2-clause-sealed : goal.outcome-requires-2-clause-sealed
outcome-requires-2-clause-sealed c =
    c.requires.sealed 1 _ (slice_get_read c.args.frames 8 1 _ (search rules) (omega arith) (search rules))

pub outcome-requires-3-clause-sealed : goal.outcome-requires-3-clause-sealed
outcome-requires-3-clause-sealed c =
    c.requires.sealed 2 _ (slice_get_read c.args.frames 8 2 _ (search rules) (omega arith) (search rules))

pub outcome-requires-4-clause-sealed : goal.outcome-requires-4-clause-sealed
outcome-requires-4-clause-sealed c =
    c.requires.sealed 3 _ (slice_get_read c.args.frames 8 3 _ (search rules) (omega arith) (search rules))

pub outcome-requires-5-clause-sealed : goal.outcome-requires-5-clause-sealed
outcome-requires-5-clause-sealed c =
    c.requires.sealed 4 _ (slice_get_read c.args.frames 8 4 _ (search rules) (omega arith) (search rules))

pub outcome-requires-6-clause-sealed : goal.outcome-requires-6-clause-sealed
outcome-requires-6-clause-sealed c =
    c.requires.sealed 5 _ (slice_get_read c.args.frames 8 5 _ (search rules) (omega arith) (search rules))

pub outcome-requires-7-clause-sealed : goal.outcome-requires-7-clause-sealed
outcome-requires-7-clause-sealed c =
    c.requires.sealed 6 _ (slice_get_read c.args.frames 8 6 _ (search rules) (omega arith) (search rules))

pub outcome-requires-8-clause-sealed : goal.outcome-requires-8-clause-sealed
outcome-requires-8-clause-sealed c =
    c.requires.sealed 7 _ (slice_get_read c.args.frames 8 7 _ (search rules) (omega arith) (search rules))

pub returns : goal.returns
returns c =
    let batch = c.args.self.now in
    let asked = c.args.asked.now in
    lanes_of batch asked
    (c.outcome.result ∷ c.outcome-2.result ∷ c.outcome-3.result ∷ c.outcome-4.result ∷ c.outcome-5.result ∷ c.outcome-6.result
    ∷ c.outcome-7.result ∷ c.outcome-8.result ∷ [])
    c.requires.asked.0 refl
    (eight (λ lane outcome. IsLaneOf batch.configuration.clients batch.arrivals (batch.number * 8 + lane) outcome
    (slice_get asked lane))
    c.outcome.result c.outcome-2.result c.outcome-3.result c.outcome-4.result
    c.outcome-5.result c.outcome-6.result c.outcome-7.result c.outcome-8.result
    c.outcome.ensures c.outcome-2.ensures c.outcome-3.ensures c.outcome-4.ensures
    c.outcome-5.ensures c.outcome-6.ensures c.outcome-7.ensures c.outcome-8.ensures)

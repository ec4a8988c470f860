use Rattle.std.proofs.Common.{[], ◌∷◌}
use Rattle.rad_round.specs.Works.{IsJobIn}
use Rattle.rad_round.proofs.BatchLemmas.{sealed_of}
use Rattle.rad_round.proofs.ListLemmas.{eight}
use Rattle.rad_round.proofs.batch.Batch.seal.Goals as goal

pub returns : goal.returns
returns c =
    let clients = c.args.self.now.configuration.clients in
    let verdicts = c.args.self.now.verdicts in
    let asked = c.args.asked.now in
    sealed_of clients verdicts asked
    (c.job.result ∷ c.job-2.result ∷ c.job-3.result ∷ c.job-4.result ∷ c.job-5.result ∷ c.job-6.result ∷ c.job-7.result
    ∷ c.job-8.result ∷ [])
    c.args.frames.now c.seal8.new.frames c.seal8.ensures
    (eight (IsJobIn clients verdicts asked)
    c.job.result c.job-2.result c.job-3.result c.job-4.result c.job-5.result c.job-6.result c.job-7.result c.job-8.result
    c.job.ensures.of_lane c.job-2.ensures.of_lane c.job-3.ensures.of_lane c.job-4.ensures.of_lane
    c.job-5.ensures.of_lane c.job-6.ensures.of_lane c.job-7.ensures.of_lane c.job-8.ensures.of_lane)

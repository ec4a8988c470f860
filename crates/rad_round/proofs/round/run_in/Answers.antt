use Rattle.std.proofs.Common.{◌≡◌, All, arith, length, rules, subst, sym}
use Rattle.rad_round.specs.Works.{HasFinished, IsIdle}
use Rattle.rad_round.proofs.ListLemmas.{written_back}
use Rattle.rad_round.proofs.round.run_in.Goals as goal

pub work_all-requires-clause-idle : goal.work_all-requires-clause-idle
work_all-requires-clause-idle g c =
    let idle : All (IsIdle c.args.memory.claims) c.as_mut_slice.result.now =
    subst (All (IsIdle c.args.memory.claims)) (sym c.as_mut_slice.ensures.value) c.in-Ok.ensures.idle in
    search rules

pub gather-requires-clause-finished : goal.gather-requires-clause-finished
gather-requires-clause-finished g c =
    let workers = c.in-Ok.workers in
    let after = c.work_all.new.workers in
    let same : length workers.items ≡ length after = search rules in
    subst (All (HasFinished c.args.memory.claims c.config.result.now.clients c.args.arrivals.now))
    (sym (written_back workers.len after workers.items same (omega (arith, same, workers.ok.0)))) c.work_all.ensures

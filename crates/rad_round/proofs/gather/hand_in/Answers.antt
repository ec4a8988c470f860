use Rattle.std.proofs.Common.{◌+◌, Some, arith, refl, subst, ◌∙◌}
use Rattle.std.proofs.lemmas.List.Elements.{All-pop}
use Rattle.rad_round.specs.Works.{HasFinished, TakesIn}
use Rattle.rad_round.proofs.HandInLemmas.{none_handed, one_handed}
use Rattle.rad_round.proofs.gather.hand_in.Goals as goal

pub loop-worker-init : goal.loop-worker-init
loop-worker-init g c = record {
  unchanged = refl;
  capacity = refl;
  finished = c.requires.finished;
  count = 0;
  counted = omega arith;
  handed = none_handed c.args.handed.now c.requires.none.0 c.requires.none.1 c.requires.none.2;
}

pub take_in-frames-requires-clause-finished : goal.take_in-frames-requires-clause-finished
take_in-frames-requires-clause-finished g c =
    (All-pop (HasFinished c.args.setting.now.claims c.args.setting.now.config.now.clients c.args.setting.now.arrivals.now)
    c.loop-worker.workers.items
    c.pop.new.self.items (Some c.in-Some.worker) c.in-Some.ensures.items c.loop-worker.invariant.finished).1

pub loop-worker-preserved : goal.loop-worker-preserved
loop-worker-preserved g c =
    let claims = c.args.setting.now.claims in
    let clients = c.args.setting.now.config.now.clients in
    let arrivals = c.args.setting.now.arrivals.now in
    let takes = subst (λ log. TakesIn claims clients arrivals log c.loop-worker.handed c.take_in-frames.new.handed)
    c.loop-worker.invariant.unchanged
    c.take_in-frames.ensures.handed in
    record {
      unchanged = c.take_in-frames.ensures.unchanged ∙ c.loop-worker.invariant.unchanged;
      capacity = takes.capacity ∙ c.loop-worker.invariant.capacity;
      finished = (All-pop (HasFinished claims clients arrivals) c.loop-worker.workers.items c.pop.new.self.items
          (Some c.in-Some.worker)
          c.in-Some.ensures.items c.loop-worker.invariant.finished).0;
      count = c.loop-worker.invariant.count + 1;
      counted = omega (arith, c.loop-worker.invariant.counted, c.in-Some.ensures.len);
      handed = one_handed c.loop-worker.invariant.handed takes;
    }

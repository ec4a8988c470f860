use Rattle.std.proofs.Common.{IfSome, ◌≤◌, ◌∙◌, arith, subst, sym}
use Rattle.std.proofs.lemmas.List.Elements.{All-pop, All-push}
use Rattle.rad_claim.specs.Claims.{IsNewSeatOf}
use Rattle.rad_round.specs.Works.{IsIdle}
use Rattle.rad_round.proofs.round.begin.Goals as goal

pub loop-seat-preserved : goal.loop-seat-preserved
loop-seat-preserved g c =
    let claims = c.args.setting.now.claims in
    let i = c.loop-seat.invariant in
    let popped = All-pop (IsNewSeatOf claims) c.loop-seat.seats.items c.pop.new.self.items c.pop.result c.pop.ensures.items
    i.seats in
    let new = subst (λ some. IfSome some (IsNewSeatOf claims)) c.in-Some.is popped.1 in
    let worker = c.in_ok-worker.ensures in record {
      count = omega (arith, i.count, c.in_ok-push.ensures.len, c.in-Some.ensures.len);
      parts = omega (arith, i.parts, c.split_off-share.ensures.parts_left, c.in-Some.ensures.len);
      amount = omega (arith, i.amount, c.split_off-share.ensures.amount_left);
      seats = popped.0;
      idle = rw c.in_ok-push.ensures.items
          (All-push (IsIdle claims) c.loop-seat.workers.items c.in_ok-worker.worker i.idle (record {
            seat = c.in-Some.seat;
            seat_is = worker.seat;
            new = new;
            part = worker.share.0 ∙ c.split_off-share.ensures.parts;
            amount = worker.share.1 ∙ c.split_off-share.ensures.amount;
            none = worker.none;
            capacity = subst (λ n. n ≤ c.in_ok-worker.worker.capacity)
                (c.batch_count-batches.ensures ∙ sym c.args.setting.now.batches)
                worker.capacity;
          }));
    }

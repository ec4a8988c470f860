use Rattle.std.proofs.Common.{◌≡◌, ◌++◌, drop, length, take, arith, ap, subst, sym, ◌∙◌}
use Rattle.std.proofs.lemmas.Option.{same_Some}
use Rattle.rad_claim.specs.Claims.{ClaimSeat, IsFinishedSeatOf}
use Rattle.rad_round.specs.Works.{HasFinished, TakesIn, put_all}
use Rattle.rad_round.proofs.HandInLemmas.{length_all}
use Rattle.rad_round.proofs.ListLemmas.{seen_as, written_back}
use Rattle.rad_round.proofs.gather.take_in.Goals as goal

pub put_all-requires : goal.put_all-requires
put_all-requires g c =
    let setting = c.args.setting.now in
    (subst (HasFinished setting.claims setting.config.now.clients setting.arrivals.now) (sym c.worker.view_is)
    c.requires.finished).answered.right

pub returns-clause-handed : goal.returns-clause-handed
returns-clause-handed g c =
    let setting = c.args.setting.now in
    let finished = subst (HasFinished setting.claims setting.config.now.clients setting.arrivals.now) (sym c.worker.view_is)
    c.requires.finished in
    let list = c.worker.inside.answered.items in
    let before = c.handed.inside.outcomes in
    let after = c.put_all.new.places in
    let seat : finished.seat ≡ c.in-Some.seat = same_Some finished.seat c.in-Some.seat (sym finished.seat_is ∙ c.in-Some.is) in
    let put : after ≡ put_all list before.items = c.put_all.ensures.put ∙ ap (put_all list) c.as_mut_slice-places.ensures.value in
    let count : length before.items ≡ length after = sym (ap length put ∙ length_all list before.items) in
    let written : take before.len (after ++ drop (length after) before.items) ≡ after =
    written_back before.len after before.items count (omega (arith, before.ok.0, count)) in
    seen_as (TakesIn setting.claims setting.config.now.clients setting.arrivals.now c.args.keeper.now) c.handed.view_is (record {
      seat = c.in-Some.seat;
      list = list;
      seats = c.push_reserved.ensures.items;
      part = omega (arith, c.merge.ensures.parts, finished.answered.part);
      finished = subst (IsFinishedSeatOf setting.claims) seat finished.finished;
      claimed = ap (λ (s : ClaimSeat). s.claimed) (sym seat) ∙ sym finished.answered.numbers_are;
      right = finished.answered.right;
      counted = omega (arith, c.merge.ensures.amount, finished.answered.counted);
      logged = c.put_all.ensures.logged;
      put = written ∙ put;
      capacity = c.push_reserved.ensures.capacity;
    })

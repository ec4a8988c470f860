use Rattle.std.proofs.Common.{◌≡◌, All, List, None, length, map, true, arith, ap, subst, sym, ◌∙◌}
use Rattle.std.proofs.lemmas.List.Elements.{All-weaker}
use Rattle.std.proofs.lemmas.Option.{none-some}
use Rattle.std.specs.Vec.{vec_capacity, vec_len}
use Rattle.rad_config.specs.Configurations.{Configuration}
use Rattle.rad_auth.specs.Clients.{Client}
use Rattle.rad_claim.proofs.FinishedLemmas.{no_fault}
use Rattle.rad_claim.specs.Claims.{ClaimSeat, IsEachOnce, IsFinishedSeatOf, IsSeatOf, close_fault, has_finished}
use Rattle.rad_round.specs.Works.{HandedIn, HaveHandedIn, batch_count}
use Rattle.rad_round.proofs.HandInLemmas.{gathered}
use Rattle.rad_round.proofs.gather.gather.Goals as goal

pub close-requires : goal.close-requires
close-requires g c =
    let claims = c.args.round.setting.claims in
    let seats : c.handed.inside.seats.items ≡ c.hand_in.new.handed.seats = ap (λ (h : HandedIn). h.seats) c.handed.view_is in
    subst (All (IsSeatOf claims)) (sym seats)
    (All-weaker (IsFinishedSeatOf claims) (IsSeatOf claims) (λ seat of. of.0) c.hand_in.new.handed.seats
    c.hand_in.ensures.handed.finished)

pub unreachable-requires : goal.unreachable-requires
unreachable-requires g c =
    let claims = c.args.round.setting.claims in
    let list = c.handed.inside.seats.items in
    let seats : c.handed.inside.seats.items ≡ c.hand_in.new.handed.seats = ap (λ (h : HandedIn). h.seats) c.handed.view_is in
    let none : close_fault claims.seats list ≡ None = no_fault claims.seats list
    (omega (arith, ap length seats, c.hand_in.ensures.handed.seat_each, c.requires.count))
    (subst (All (λ (seat : ClaimSeat). has_finished seat ≡ true)) (sym seats)
    (All-weaker (IsFinishedSeatOf claims) (λ seat. has_finished seat ≡ true) (λ seat of. of.1) c.hand_in.new.handed.seats
    c.hand_in.ensures.handed.finished)) in
    none-some _ (sym none ∙ sym c.in_default.ensures.fault)

pub returns-clause-round : goal.returns-clause-round
returns-clause-round g c =
    let setting = c.args.round.setting in
    let opening = g.L.Opened.opening in
    let arrivals = setting.arrivals.now in
    let log = c.into_parts-unlocked.result.1 in
    let handed : HandedIn = record {
      seats = c.handed.inside.seats.items;
      parts = c.handed.inside.share.parts;
      amount = c.handed.inside.share.amount;
      outcomes = c.handed.inside.outcomes.items;
      capacity = vec_capacity c.handed.inside.seats;
    } in
    let view : handed ≡ c.hand_in.new.handed = c.handed.view_is in
    let have : HaveHandedIn setting.claims opening.configuration.clients arrivals log c.args.outcomes.items (vec_len c.args.workers)
    handed =
    subst (HaveHandedIn setting.claims opening.configuration.clients arrivals log c.args.outcomes.items (vec_len c.args.workers))
    (sym view)
    (subst (λ (clients : List Client). HaveHandedIn setting.claims clients arrivals log c.args.outcomes.items
    (vec_len c.args.workers)
    c.hand_in.new.handed) (ap (λ (server : Configuration). server.clients) setting.of_server) c.hand_in.ensures.handed) in
    let once : IsEachOnce (batch_count arrivals) (map (λ (seat : ClaimSeat). seat.claimed) handed.seats) =
    subst (λ n. IsEachOnce n (map (λ (seat : ClaimSeat). seat.claimed) handed.seats)) setting.batches
    (subst (IsEachOnce setting.claims.batches) c.in-Ok.ensures.dealt.of_seats c.in-Ok.ensures.dealt.once) in
    gathered c.into_parts-unlocked.result.0.history.items c.into_parts-unlocked.result.0.server c.into_parts-unlocked.ensures.run
    c.into_parts-unlocked.ensures.logged have once
    (c.audit.ensures.whole (have.part_each ∙ c.requires.parts) ∙ c.into_parts-unlocked.ensures.total) c.requires.outcomes

-- What workers hand in: the outcomes of batches are put at the places of their arrivals, one batch after another.
use Rattle.std.proofs.Common.{◌≡◌, ◌≢◌, ◌⊎◌, ℕ, zero, suc, ◌+◌, ◌*◌, ◌<◌, ◌≤◌, List, [], ◌∷◌, ◌++◌, length, map, set, Option, Some}
use Rattle.std.proofs.Common.{None, All, slice_get, arith, inl, inr, refl, sym, ap, subst, ◌∙◌, length-append, length-set}
use Rattle.std.proofs.Common.{append_assoc, append-nil}
use Rattle.std.proofs.lemmas.List.{map-append}
use Rattle.std.proofs.lemmas.List.Elements.{All-append, All-nil, All-push}
use Rattle.std.proofs.lemmas.List.Sums.{sum_by-append}
use Rattle.std.proofs.lemmas.Option.{none-some, same_Some, slice_get_within}
use Rattle.rad_auth.specs.Clients.{Client}
use Rattle.rad_claim.specs.Claims.{Claims, ClaimSeat, IsEachOnce, IsFinishedSeatOf}
use Rattle.rad_claim.specs.Draws.{once_below, times, times_in}
use Rattle.rad_log.specs.declared.rule.Taking.{Taking}
use Rattle.rad_server.specs.Runs.{IsHistory}
use Rattle.rad_server.specs.Servers.{Server}
use Rattle.rad_server.specs.declared.entry.Entry.{Entry}
use Rattle.rad_round.proofs.GatherLemmas.{HaveOwnNumbers, IsPlaced, all_at, own_numbers, round_of, times_all}
use Rattle.rad_round.proofs.ListLemmas.{get_set_other, get_set_same, there}
use Rattle.rad_round.specs.Rounds.{Round}
use Rattle.rad_round.specs.Works.{Answered, HandedIn, HaveHandedIn, IsAnswered, IsInLog, IsLogged, TakesIn, all_of, batch_count}
use Rattle.rad_round.specs.Works.{entry_count, numbers_of, put_all, put_lane, put_lanes, taken}
use Rattle.rad_round.specs.declared.outcome.Outcome.{Outcome}
use Rattle.rad_round.specs.declared.timed.Timed.{Timed}

-- ---- lanes

-- there are as many places as before
length_lane : (lane : Option Outcome) (place : ℕ) (outcomes : List Outcome)
    → length (put_lane lane place outcomes) ≡ length outcomes
length_lane None place outcomes = refl
length_lane (Some outcome) place outcomes = length-set outcomes place outcome

length_lanes : (lanes : List (Option Outcome)) (place : ℕ) (outcomes : List Outcome)
    → length (put_lanes lanes place outcomes) ≡ length outcomes
length_lanes [] place outcomes = refl
length_lanes (lane ∷ lanes) place outcomes =
    length_lanes lanes (place + 1) (put_lane lane place outcomes) ∙ length_lane lane place outcomes

pub length_all : (list : List Answered) (outcomes : List Outcome) → length (put_all list outcomes) ≡ length outcomes
length_all [] outcomes = refl
length_all (answered ∷ rest) outcomes =
    length_lanes answered.outcomes (answered.number * 8) (put_all rest outcomes) ∙ length_all rest outcomes

-- another place stays as it was
other_lane : (lane : Option Outcome) (place other : ℕ) (outcomes : List Outcome) → other ≢ place
    → slice_get (put_lane lane place outcomes) other ≡ slice_get outcomes other
other_lane None place other outcomes apart = refl
other_lane (Some outcome) place other outcomes apart = get_set_other outcomes place other outcome apart

other_lanes : (lanes : List (Option Outcome)) (place other : ℕ) (outcomes : List Outcome)
    → (other < place) ⊎ (place + length lanes ≤ other)
    → slice_get (put_lanes lanes place outcomes) other ≡ slice_get outcomes other
other_lanes [] place other outcomes outside = refl
other_lanes (lane ∷ lanes) place other outcomes (inl before) =
    other_lanes lanes (place + 1) other (put_lane lane place outcomes) (inl (omega (arith, before)))
    ∙ other_lane lane place other outcomes (λ is. absurd (omega (arith, before, is)))
other_lanes (lane ∷ lanes) place other outcomes (inr behind) =
    other_lanes lanes (place + 1) other (put_lane lane place outcomes) (inr (omega (arith, behind)))
    ∙ other_lane lane place other outcomes (λ is. absurd (omega (arith, behind, is)))

-- the outcome of a lane is at its place
lane_put : (lanes : List (Option Outcome)) (place lane at : ℕ) (outcomes : List Outcome) (outcome : Outcome) → at ≡ place + lane
    → slice_get lanes lane ≡ Some (Some outcome) → at < length outcomes
    → slice_get (put_lanes lanes place outcomes) at ≡ Some outcome
lane_put [] place lane at outcomes outcome at_is is within = absurd (none-some (Some outcome) is)
lane_put (first ∷ lanes) place zero at outcomes outcome at_is is within =
    let here : at ≡ place = omega (arith, at_is) in
    other_lanes lanes (place + 1) at (put_lane first place outcomes) (inl (omega (arith, here)))
    ∙ ap (λ lane. slice_get (put_lane lane place outcomes) at) (same_Some first (Some outcome) is)
    ∙ ap (slice_get (set outcomes place outcome)) here ∙ get_set_same outcomes place outcome (omega (arith, here, within))
lane_put (first ∷ lanes) place (suc lane) at outcomes outcome at_is is within =
    lane_put lanes (place + 1) lane at (put_lane first place outcomes) outcome (omega (arith, at_is)) is
    (omega (arith, within, length_lane first place outcomes))

-- ---- batches

-- what is put in two steps
pub put_append : (xs ys : List Answered) (outcomes : List Outcome) → put_all (xs ++ ys) outcomes ≡ put_all xs (put_all ys outcomes)
put_append [] ys outcomes = refl
put_append (answered ∷ xs) ys outcomes = ap (put_lanes answered.outcomes (answered.number * 8)) (put_append xs ys outcomes)

module _ {clients : List Client} {arrivals : List Timed} where
  -- each outcome has a place
  fits : (answered : Answered) → IsAnswered clients arrivals answered → (lane : ℕ) (outcome : Outcome)
      → slice_get answered.outcomes lane ≡ Some (Some outcome) → answered.number * 8 + lane < length arrivals
  fits answered right lane outcome at =
      let entry = there right.entries lane
      (omega (
        arith,
        slice_get_within answered.outcomes lane (Some outcome) at,
        right.lanes.outcome_each,
        right.lanes.entry_each,
      )) in
      let is = right.lanes.each lane (Some outcome) entry.0 at entry.1 in
      slice_get_within arrivals (answered.number * 8 + lane) is.0 is.1

  -- batches with numbers of their own are all placed
  placed : (list : List Answered) (before : List Outcome) → HaveOwnNumbers list
      → ((place : ℕ) (answered : Answered) → slice_get list place ≡ Some answered → IsAnswered clients arrivals answered)
      → length before ≡ length arrivals → (place : ℕ) (answered : Answered) → slice_get list place ≡ Some answered
      → IsPlaced (put_all list before) answered
  placed [] before own right count place answered at = absurd (none-some answered at)
  placed (first ∷ rest) before own right count zero answered at =
      subst (IsPlaced (put_all (first ∷ rest) before)) (same_Some first answered at) here
    where
      here : IsPlaced (put_all (first ∷ rest) before) first
      here lane outcome lane_at =
          lane_put first.outcomes (first.number * 8) lane (first.number * 8 + lane) (put_all rest before) outcome refl lane_at
          (omega (arith, fits first (right 0 first refl) lane outcome lane_at, length_all rest before, count))
  placed (first ∷ rest) before own right count (suc place) answered at = λ lane outcome lane_at.
      other_lanes first.outcomes (first.number * 8) (answered.number * 8 + lane) (put_all rest before)
      (apart lane
      (omega (
        arith,
        slice_get_within answered.outcomes lane (Some outcome) lane_at,
        (right (suc place) answered at).lanes.outcome_each,
      ))
      (less_or_more first.number answered.number))
      ∙ placed rest before (λ i j a b at_i at_j same. omega (arith, own (suc i) (suc j) a b at_i at_j same))
      (λ i each at_i. right (suc i) each at_i) count place answered at lane outcome lane_at
    where
      less_or_more : (a b : ℕ) → (a ≡ b) ⊎ ((a < b) ⊎ (b < a))
      less_or_more a b = grind arith

      apart : (lane : ℕ) → lane < 8
          → (first.number ≡ answered.number) ⊎ ((first.number < answered.number) ⊎ (answered.number < first.number))
          → (answered.number * 8 + lane < first.number * 8)
          ⊎ (first.number * 8 + length first.outcomes ≤ answered.number * 8 + lane)
      apart lane within (inl same) = absurd (omega (arith, own 0 (suc place) first answered refl at same))
      apart lane within (inr (inl less)) = inr (omega (arith, less, (right 0 first refl).lanes.outcome_each))
      apart lane within (inr (inr more)) = inl (omega (arith, more, within))

-- ---- workers

-- all batches with those of one more worker
all_more : (lists : List (List Answered)) (list : List Answered) → all_of (lists ++ list ∷ []) ≡ list ++ all_of lists
all_more [] list = sym (append-nil list)
all_more (first ∷ lists) list = ap (λ rest. rest ++ first) (all_more lists list) ∙ append_assoc list (all_of lists) first

module _ {claims : Claims} {clients : List Client} {arrivals : List Timed} {log : List (Taking Entry)} where
  pub none_handed : (handed : HandedIn) → handed.seats ≡ [] → handed.parts ≡ 0 → handed.amount ≡ 0
      → HaveHandedIn claims clients arrivals log handed.outcomes 0 handed
  none_handed handed seats parts amount = record {
    lists = [];
    seat_each = ap length seats;
    part_each = parts;
    finished = subst (All (IsFinishedSeatOf claims)) (sym seats) (All-nil (IsFinishedSeatOf claims));
    claimed = ap (map (λ (seat : ClaimSeat). seat.claimed)) seats;
    right = All-nil (IsAnswered clients arrivals);
    counted = amount;
    logged = All-nil (IsInLog log);
    put = refl;
  }

  pub one_handed : {before : List Outcome} {count : ℕ} {handed after : HandedIn}
      → HaveHandedIn claims clients arrivals log before count handed → TakesIn claims clients arrivals log handed after
      → HaveHandedIn claims clients arrivals log before (count + 1) after
  one_handed {before = before} {handed = handed} {after = after} have takes = record {
    lists = have.lists ++ takes.list ∷ [];
    seat_each = ap length takes.seats ∙ length-append handed.seats (takes.seat ∷ []) ∙ omega (arith, have.seat_each);
    part_each = omega (arith, takes.part, have.part_each);
    finished = subst (All (IsFinishedSeatOf claims)) (sym takes.seats)
        (All-push (IsFinishedSeatOf claims) handed.seats takes.seat have.finished takes.finished);
    claimed = ap (map (λ (seat : ClaimSeat). seat.claimed)) takes.seats
        ∙ map-append (λ (seat : ClaimSeat). seat.claimed) handed.seats (takes.seat ∷ [])
        ∙ ap (λ (numbers : List (List ℕ)). numbers ++ takes.seat.claimed ∷ []) have.claimed
        ∙ ap (λ (numbers : List ℕ). map numbers_of have.lists ++ numbers ∷ []) takes.claimed
        ∙ sym (map-append numbers_of have.lists (takes.list ∷ []));
    right = subst (All (IsAnswered clients arrivals)) (sym all)
        (All-append (IsAnswered clients arrivals) takes.list (all_of have.lists) takes.right have.right);
    counted = omega (
      arith,
      takes.counted,
      have.counted,
      ap entry_count all,
      sum_by-append (λ (answered : Answered). length (taken answered.ticket)) takes.list (all_of have.lists),
    );
    logged = subst (All (IsInLog log)) (sym all) (All-append (IsInLog log) takes.list (all_of have.lists) takes.logged have.logged);
    put = takes.put ∙ ap (put_all takes.list) have.put ∙ sym (put_append takes.list (all_of have.lists) before)
        ∙ ap (λ list. put_all list before) (sym all);
  }
    where
      all : all_of (have.lists ++ takes.list ∷ []) ≡ takes.list ++ all_of have.lists
      all = all_more have.lists takes.list

-- what all workers have handed in makes a round
pub gathered : {opening : Server} {claims : Claims} {arrivals : List Timed} (history : List Entry) (after : Server)
    {log : List (Taking Entry)} {before : List Outcome} {count : ℕ} {handed : HandedIn} → IsHistory opening history after
    → IsLogged history log
    → HaveHandedIn claims opening.configuration.clients arrivals log before count handed
    → IsEachOnce (batch_count arrivals) (map (λ seat. seat.claimed) handed.seats) → handed.amount ≡ length history
    → length before ≡ length arrivals → Round opening arrivals handed.outcomes history after
gathered {opening = opening} {arrivals = arrivals} history after {log = log} {before = before} run logged have dealt total
    count_is =
    subst (λ outcomes. Round opening arrivals outcomes history after) (sym have.put)
    (round_of opening arrivals (put_all list before) history after log list run logged have.right have.logged once
    (sym total ∙ have.counted)
    (placed list before (own_numbers list (batch_count arrivals) once)
    (λ place each at. all_at (IsAnswered opening.configuration.clients arrivals) list place each have.right at) count_is)
    (length_all list before ∙ count_is))
  where
    list : List Answered
    list = all_of have.lists

    once : (number : ℕ) → times number (numbers_of (all_of have.lists)) ≡ once_below (batch_count arrivals) number
    once number = times_all number have.lists ∙ ap (times_in number) (sym have.claimed) ∙ dealt number

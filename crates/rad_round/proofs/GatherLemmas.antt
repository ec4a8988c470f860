-- The end of a round: batches that were answered, whose numbers are those of all batches, each once, make a round together.
use Rattle.std.proofs.Common.{◌≡◌, ◌⊎◌, ℕ, zero, suc, ◌+◌, ◌*◌, ◌/◌, ◌%◌, ◌<◌, ◌≤◌, ◌==◌, Bool, true, false, cond, List, [], ◌∷◌}
use Rattle.std.proofs.Common.{◌++◌, length, map, Option, Some, None, IfSome, All, count_by, slice_get, arith, inl, inr, refl, sym}
use Rattle.std.proofs.Common.{ap, subst, ◌∙◌, length-append, ne_eqb, eq-eqb, eqb-true, true≢false}
use Rattle.std.proofs.lemmas.List.{map-append}
use Rattle.std.proofs.lemmas.List.Elements.{All-append, All-cons, All-nil}
use Rattle.std.proofs.lemmas.List.Sorted.{All-permutation, sum_by-IsPermutation}
use Rattle.std.proofs.lemmas.List.Sums.{sum_by-append, sum_by-cons}
use Rattle.std.proofs.lemmas.Option.{get_or_from_slice_get, none-some, same_Some, slice_get_within}
use Rattle.std.specs.List.Sorted.{IsPermutation}
use Rattle.rad_auth.specs.Clients.{Client}
use Rattle.rad_claim.specs.Draws.{once_below, times, times_in}
use Rattle.rad_log.proofs.TakenLemmas.{AreApart, are_all, entry_in}
use Rattle.rad_log.specs.Logs.{Has, entries_of}
use Rattle.rad_log.specs.declared.rule.Taking.{Taking}
use Rattle.rad_server.specs.Runs.{IsHistory}
use Rattle.rad_server.specs.Servers.{Server}
use Rattle.rad_server.specs.declared.entry.Entry.{Entry}
use Rattle.rad_round.proofs.ListLemmas.{there}
use Rattle.rad_round.specs.Rounds.{HasArrival, HasEntry, HaveOwnTags, AreOutcomes, IsEntryOf, IsOutcome, Round}
use Rattle.rad_round.specs.Works.{Answered, IsAnswered, IsInLog, IsLane, IsLogged, IsOutcomeWith, all_of, batch_count, entry_count}
use Rattle.rad_round.specs.Works.{numbers_of, somes, taken}
use Rattle.rad_round.specs.declared.outcome.Outcome.{Outcome}
use Rattle.rad_round.specs.declared.outcome.Outcome.TheVariants.{Dropped, Busy, NoMemory, Reply}
use Rattle.rad_round.specs.declared.timed.Timed.{Timed}

-- ---- lists

-- what holds of all elements holds of the one at a place
pub all_at : {A : Type 0} (P : A → Type 0) (xs : List A) (k : ℕ) (x : A) → All P xs → slice_get xs k ≡ Some x → P x
all_at P xs k x all at = subst P (get_or_from_slice_get xs k x x at) (all k x (slice_get_within xs k x at))

module _ {A : Type 0} (p : A → Bool) where
  count_cons : (x : A) (xs : List A) → count_by p (x ∷ xs) ≡ cond (p x) 1 0 + count_by p xs
  count_cons x xs = sum_by-cons (λ y. cond (p y) 1 0) x xs

  count_yes : (x : A) (xs : List A) → p x ≡ true → count_by p (x ∷ xs) ≡ 1 + count_by p xs
  count_yes x xs is = count_cons x xs ∙ ap (λ b. cond b 1 0 + count_by p xs) is

  count_no : (x : A) (xs : List A) → p x ≡ false → count_by p (x ∷ xs) ≡ count_by p xs
  count_no x xs is =
      let step : count_by p (x ∷ xs) ≡ 0 + count_by p xs = count_cons x xs ∙ ap (λ b. cond b 1 0 + count_by p xs) is in
      omega (arith, step)

  count_more : (x : A) (xs : List A) → count_by p xs ≤ count_by p (x ∷ xs)
  count_more x xs = omega (arith, count_cons x xs)

  -- an element that passes is counted
  counted : (xs : List A) (k : ℕ) (x : A) → slice_get xs k ≡ Some x → p x ≡ true → 1 ≤ count_by p xs
  counted [] k x at is = absurd (none-some x at)
  counted (a ∷ xs) zero x at is = omega (arith, count_yes a xs (ap p (same_Some a x at) ∙ is))
  counted (a ∷ xs) (suc k) x at is = omega (arith, count_more a xs, counted xs k x at is)

  -- where at most one is counted, two elements that pass are at one place
  only : (xs : List A) → count_by p xs ≤ 1 → (i j : ℕ) (x y : A) → slice_get xs i ≡ Some x → p x ≡ true → slice_get xs j ≡ Some y
      → p y ≡ true → i ≡ j
  only [] few i j x y at_i is_x at_j is_y = absurd (none-some x at_i)
  only (a ∷ xs) few zero zero x y at_i is_x at_j is_y = refl
  only (a ∷ xs) few zero (suc j) x y at_i is_x at_j is_y =
      absurd (omega (arith, few, count_yes a xs (ap p (same_Some a x at_i) ∙ is_x), counted xs j y at_j is_y))
  only (a ∷ xs) few (suc i) zero x y at_i is_x at_j is_y =
      absurd (omega (arith, few, count_yes a xs (ap p (same_Some a y at_j) ∙ is_y), counted xs i x at_i is_x))
  only (a ∷ xs) few (suc i) (suc j) x y at_i is_x at_j is_y =
      ap suc (only xs (omega (arith, few, count_more a xs)) i j x y at_i is_x at_j is_y)

  -- where one is counted, one passes
  found : (xs : List A) → 1 ≤ count_by p xs → (place : ℕ) × (x : A) × (slice_get xs place ≡ Some x) × (p x ≡ true)
  found [] some = absurd (omega (arith, some))
  found (a ∷ xs) some = pick (p a) refl (found xs)
    where
      pick : (b : Bool) → p a ≡ b → (1 ≤ count_by p xs → (place : ℕ) × (x : A) × (slice_get xs place ≡ Some x) × (p x ≡ true))
          → (place : ℕ) × (x : A) × (slice_get (a ∷ xs) place ≡ Some x) × (p x ≡ true)
      pick true is later = (0, a, refl, is)
      pick false is later = let next = later (omega (arith, some, count_no a xs is)) in (suc next.0, next.1, next.2, next.3)

-- counting after a map
count_map : {A B : Type 0} (f : A → B) (p : B → Bool) (xs : List A) → count_by p (map f xs) ≡ count_by (λ x. p (f x)) xs
count_map f p [] = refl
count_map f p (x ∷ xs) =
    count_cons p (f x) (map f xs) ∙ ap (λ n. cond (p (f x)) 1 0 + n) (count_map f p xs) ∙ sym (count_cons (λ y. p (f y)) x xs)

-- ---- elements that are there

-- an element that is there is among those that are there
in_somes : {A : Type 0} (xs : List (Option A)) (k : ℕ) (x : A) → slice_get xs k ≡ Some (Some x)
    → (j : ℕ) × (slice_get (somes xs) j ≡ Some x)
in_somes [] k x at = absurd (none-some (Some x) at)
in_somes (None ∷ xs) zero x at = absurd (none-some x (same_Some None (Some x) at))
in_somes (Some a ∷ xs) zero x at = (0, same_Some (Some a) (Some x) at)
in_somes (None ∷ xs) (suc k) x at = in_somes xs k x at
in_somes (Some a ∷ xs) (suc k) x at = let later = in_somes xs k x at in (suc later.0, later.1)

-- what holds of each element that is there
somes_all : {A : Type 0} (P : A → Type 0) (xs : List (Option A)) → ((k : ℕ) (x : A) → slice_get xs k ≡ Some (Some x) → P x)
    → All P (somes xs)
somes_all P [] each = All-nil P
somes_all P (None ∷ xs) each = somes_all P xs (λ k x at. each (suc k) x at)
somes_all P (Some a ∷ xs) each = All-cons P a (somes xs) (each 0 a refl) (somes_all P xs (λ k x at. each (suc k) x at))

-- ---- numbers of batches

below_once : (bound number : ℕ) → number < bound → once_below bound number ≡ 1
below_once bound number below = grind arith

once_at_most : (bound number : ℕ) → once_below bound number ≤ 1
once_at_most bound number = grind arith

-- how often a number is that of a batch
times_of : (number : ℕ) (list : List Answered)
    → times number (numbers_of list) ≡ count_by (λ answered. answered.number == number) list
times_of number list = count_map (λ answered. answered.number) (λ drawn. drawn == number) list

-- no two places have batches of one number
abbrev pub HaveOwnNumbers : List Answered → Type 0
HaveOwnNumbers list = (place other : ℕ) (answered another : Answered) → slice_get list place ≡ Some answered
    → slice_get list other ≡ Some another → answered.number ≡ another.number → place ≡ other

pub own_numbers : (list : List Answered) (count : ℕ) → ((number : ℕ) → times number (numbers_of list) ≡ once_below count number)
    → HaveOwnNumbers list
own_numbers list count once place other answered another at at_other same =
    only (λ each. each.number == another.number) list
    (omega (arith, times_of another.number list, once another.number, once_at_most count another.number))
    place other answered another at (eq-eqb answered.number another.number same) at_other
    (eq-eqb another.number another.number refl)

-- how often a number is in all lists together
pub times_all : (number : ℕ) (lists : List (List Answered))
    → times number (numbers_of (all_of lists)) ≡ times_in number (map numbers_of lists)
times_all number [] = refl
times_all number (list ∷ rest) =
    omega (
      arith,
      ap (times number) (map-append (λ (answered : Answered). answered.number) (all_of rest) list),
      sum_by-append (λ drawn. cond (drawn == number) 1 0) (numbers_of (all_of rest)) (numbers_of list),
      times_all number rest,
      sum_by-cons (times number) (numbers_of list) (map numbers_of rest),
    )

-- ---- takings

-- takings with one more, if there is one
abbrev with_ticket : Option (Taking Entry) → List (Taking Entry) → List (Taking Entry)
with_ticket None ts = ts
with_ticket (Some t) ts = t ∷ ts

-- the takings of batches
abbrev takings_of : List Answered → List (Taking Entry)
takings_of [] = []
takings_of (answered ∷ rest) = with_ticket answered.ticket (takings_of rest)

entries_with : (ticket : Option (Taking Entry)) (ts : List (Taking Entry))
    → entries_of (with_ticket ticket ts) ≡ taken ticket ++ entries_of ts
entries_with None ts = refl
entries_with (Some t) ts = refl

-- they have as many entries as the batches
takings_count : (list : List Answered) → length (entries_of (takings_of list)) ≡ entry_count list
takings_count [] = refl
takings_count (answered ∷ rest) =
    ap length (entries_with answered.ticket (takings_of rest))
    ∙ length-append (taken answered.ticket) (entries_of (takings_of rest))
    ∙ ap (λ n. length (taken answered.ticket) + n) (takings_count rest)
    ∙ sym (sum_by-cons (λ (each : Answered). length (taken each.ticket)) answered rest)

-- a taking is that of a batch
record IsOf (list : List Answered) (t : Taking Entry) : Type 0 where
  place : ℕ
  answered : Answered
  at : slice_get list place ≡ Some answered
  ticket : answered.ticket ≡ Some t

of_later : (first : Answered) (list : List Answered) (t : Taking Entry) → IsOf list t → IsOf (first ∷ list) t
of_later first list t of = record { place = suc of.place; answered = of.answered; at = of.at; ticket = of.ticket }

with_one : (ticket : Option (Taking Entry)) (ts : List (Taking Entry)) (place : ℕ) (t : Taking Entry)
    → slice_get (with_ticket ticket ts) place ≡ Some t → (ticket ≡ Some t) ⊎ ((k : ℕ) × (slice_get ts k ≡ Some t))
with_one None ts place t at = inr (place, at)
with_one (Some u) ts zero t at = inl at
with_one (Some u) ts (suc place) t at = inr (place, at)

is_of : (list : List Answered) (place : ℕ) (t : Taking Entry) → slice_get (takings_of list) place ≡ Some t → IsOf list t
is_of [] place t at = absurd (none-some t at)
is_of (answered ∷ rest) place t at =
    pick (with_one answered.ticket (takings_of rest) place t at) (λ k later. is_of rest k t later)
  where
    pick : (answered.ticket ≡ Some t) ⊎ ((k : ℕ) × (slice_get (takings_of rest) k ≡ Some t))
        → ((k : ℕ) → slice_get (takings_of rest) k ≡ Some t → IsOf rest t) → IsOf (answered ∷ rest) t
    pick (inl ticket) next = record { place = 0; answered = answered; at = refl; ticket = ticket }
    pick (inr later) next = of_later answered rest t (next later.0 later.1)

-- a ticket has the number of its batch
abbrev IsNumbered : Answered → Type 0
IsNumbered answered = IfSome answered.ticket (λ taking. taking.number ≡ answered.number)

number_is : (ticket : Option (Taking Entry)) (number : ℕ) (t : Taking Entry) → IfSome ticket (λ taking. taking.number ≡ number)
    → ticket ≡ Some t → t.number ≡ number
number_is None number t numbered is = absurd (none-some t is)
number_is (Some u) number t numbered is = subst (λ (v : Taking Entry). v.number ≡ number) (same_Some u t is) numbered

-- batches with numbers of their own have takings with numbers of their own
apart_with : (ticket : Option (Taking Entry)) (number : ℕ) (ts : List (Taking Entry))
    → IfSome ticket (λ taking. taking.number ≡ number)
    → ((place : ℕ) (u : Taking Entry) → slice_get ts place ≡ Some u → u.number ≡ number → ⊥) → AreApart ts
    → AreApart (with_ticket ticket ts)
apart_with None number ts numbered other apart = apart
apart_with (Some t) number ts numbered other apart = ((λ place u at same. other place u at (same ∙ numbered)), apart)

takings_apart : (list : List Answered)
    → ((place : ℕ) (answered : Answered) → slice_get list place ≡ Some answered → IsNumbered answered)
    → HaveOwnNumbers list → AreApart (takings_of list)
takings_apart [] numbered own = tt
takings_apart (answered ∷ rest) numbered own =
    apart_with answered.ticket answered.number (takings_of rest) (numbered 0 answered refl) other
    (takings_apart rest (λ place each at. numbered (suc place) each at)
    (λ i j a b at_i at_j same. omega (arith, own (suc i) (suc j) a b at_i at_j same)))
  where
    other : (place : ℕ) (u : Taking Entry) → slice_get (takings_of rest) place ≡ Some u → u.number ≡ answered.number → ⊥
    other place u at same =
        let of = is_of rest place u at in
        let number : u.number ≡ of.answered.number =
        number_is of.answered.ticket of.answered.number u (numbered (suc of.place) of.answered of.at) of.ticket in
        let zeroth : suc of.place ≡ 0 = own (suc of.place) 0 of.answered answered of.at refl (sym number ∙ same) in
        omega (arith, zeroth)

-- what holds of the entries of each batch holds of those of its taking
takings_all : (P : Entry → Type 0) (list : List Answered)
    → ((place : ℕ) (answered : Answered) → slice_get list place ≡ Some answered → All P (taken answered.ticket))
    → All P (entries_of (takings_of list))
takings_all P [] each = All-nil P
takings_all P (answered ∷ rest) each =
    subst (All P) (sym (entries_with answered.ticket (takings_of rest)))
    (All-append P (taken answered.ticket) (entries_of (takings_of rest)) (each 0 answered refl)
    (takings_all P rest (λ place other at. each (suc place) other at)))

-- ---- tags

-- how many entries have a tag
abbrev tagged : ℕ → List Entry → ℕ
tagged tag entries = count_by (λ entry. entry.tag == tag) entries

-- the entries in lanes have the tags of the lanes, from the first on
abbrev HaveTagsFrom : ℕ → List (Option Entry) → Type 0
HaveTagsFrom first entries = (lane : ℕ) (entry : Entry) → slice_get entries lane ≡ Some (Some entry) → entry.tag ≡ first + lane

later_tags : (first : ℕ) (entry : Option Entry) (entries : List (Option Entry)) → HaveTagsFrom first (entry ∷ entries)
    → HaveTagsFrom (first + 1) entries
later_tags first entry entries tags lane e at = omega (arith, tags (suc lane) e at)

-- no entry has a tag before or behind the lanes
tagged_none : (tag first : ℕ) (entries : List (Option Entry)) → HaveTagsFrom first entries
    → (tag < first) ⊎ (first + length entries ≤ tag)
    → tagged tag (somes entries) ≡ 0
tagged_none tag first [] tags outside = refl
tagged_none tag first (None ∷ entries) tags outside =
    tagged_none tag (first + 1) entries (later_tags first None entries tags) (further outside)
  where
    further : (tag < first) ⊎ (first + suc (length entries) ≤ tag) → (tag < first + 1) ⊎ (first + 1 + length entries ≤ tag)
    further (inl before) = inl (omega arith)
    further (inr behind) = inr (omega arith)
tagged_none tag first (Some entry ∷ entries) tags outside =
    count_no (λ (each : Entry). each.tag == tag) entry (somes entries)
    (ne_eqb entry.tag tag (λ same. apart outside (tags 0 entry refl) same))
    ∙ tagged_none tag (first + 1) entries (later_tags first (Some entry) entries tags) (further outside)
  where
    further : (tag < first) ⊎ (first + suc (length entries) ≤ tag) → (tag < first + 1) ⊎ (first + 1 + length entries ≤ tag)
    further (inl before) = inl (omega arith)
    further (inr behind) = inr (omega arith)

    apart : (tag < first) ⊎ (first + suc (length entries) ≤ tag) → entry.tag ≡ first + 0 → entry.tag ≡ tag → ⊥
    apart (inl before) is same = omega arith
    apart (inr behind) is same = omega arith

-- at most one has a tag
tagged_once : (tag first : ℕ) (entries : List (Option Entry)) → HaveTagsFrom first entries → tagged tag (somes entries) ≤ 1
tagged_once tag first [] tags = omega arith
tagged_once tag first (None ∷ entries) tags = tagged_once tag (first + 1) entries (later_tags first None entries tags)
tagged_once tag first (Some entry ∷ entries) tags =
    pick (entry.tag == tag) refl (tagged_once tag (first + 1) entries (later_tags first (Some entry) entries tags))
  where
    pick : (same : Bool) → (entry.tag == tag) ≡ same → tagged tag (somes entries) ≤ 1
        → tagged tag (somes (Some entry ∷ entries)) ≤ 1
    pick true same later =
        let tag_is : entry.tag ≡ tag = eqb-true entry.tag tag same in
        let none : tagged tag (somes entries) ≡ 0 =
        tagged_none tag (first + 1) entries (later_tags first (Some entry) entries tags)
        (inl (omega (arith, tag_is, tags 0 entry refl))) in
        omega (arith, none, count_yes (λ (each : Entry). each.tag == tag) entry (somes entries) same)
    pick false same later = omega (arith, later, count_no (λ (each : Entry). each.tag == tag) entry (somes entries) same)

-- the entries of a batch have the tags of its lanes
record HasTags (answered : Answered) : Type 0 where
  entries : List (Option Entry)
  eight : length entries ≡ 8
  taken_is : taken answered.ticket ≡ somes entries
  tags : HaveTagsFrom (answered.number * 8) entries

-- only the batch of a tag has an entry of it, and that one at most one
tagged_in : (tag : ℕ) (answered : Answered) → HasTags answered
    → tagged tag (taken answered.ticket) ≤ cond (answered.number == tag / 8) 1 0
tagged_in tag answered has =
    subst (λ list. tagged tag list ≤ cond (answered.number == tag / 8) 1 0) (sym has.taken_is)
    (pick (answered.number == tag / 8) refl)
  where
    pick : (same : Bool) → (answered.number == tag / 8) ≡ same → tagged tag (somes has.entries) ≤ cond same 1 0
    pick true same = tagged_once tag (answered.number * 8) has.entries has.tags
    pick false same =
        let other : (answered.number < tag / 8) ⊎ (tag / 8 < answered.number) =
        apart (λ is. true≢false (sym (eq-eqb answered.number (tag / 8) is) ∙ same)) in
        omega (arith, tagged_none tag (answered.number * 8) has.entries has.tags (outside other))
      where
        apart : (answered.number ≡ tag / 8 → ⊥) → (answered.number < tag / 8) ⊎ (tag / 8 < answered.number)
        apart not = grind (arith, not)

        outside : (answered.number < tag / 8) ⊎ (tag / 8 < answered.number)
            → (tag < answered.number * 8) ⊎ (answered.number * 8 + length has.entries ≤ tag)
        outside (inl below) = inr (omega (arith, has.eight))
        outside (inr above) = inl (omega arith)

takings_tagged : (tag : ℕ) (list : List Answered)
    → ((place : ℕ) (answered : Answered) → slice_get list place ≡ Some answered → HasTags answered)
    → tagged tag (entries_of (takings_of list)) ≤ count_by (λ answered. answered.number == tag / 8) list
takings_tagged tag [] each = omega arith
takings_tagged tag (answered ∷ rest) each =
    let sum : tagged tag (entries_of (takings_of (answered ∷ rest)))
    ≡ tagged tag (taken answered.ticket) + tagged tag (entries_of (takings_of rest)) =
    ap (tagged tag) (entries_with answered.ticket (takings_of rest))
    ∙ sum_by-append (λ (entry : Entry). cond (entry.tag == tag) 1 0) (taken answered.ticket) (entries_of (takings_of rest)) in
    omega (
      arith,
      sum,
      tagged_in tag answered (each 0 answered refl),
      count_cons (λ (each : Answered). each.number == tag / 8) answered rest,
      takings_tagged tag rest (λ place other at. each (suc place) other at),
    )

-- ---- lanes

-- the outcomes of a batch are at the places of their arrivals
abbrev pub IsPlaced : List Outcome → Answered → Type 0
IsPlaced outcomes answered = (lane : ℕ) (outcome : Outcome) → slice_get answered.outcomes lane ≡ Some (Some outcome)
    → slice_get outcomes (answered.number * 8 + lane) ≡ Some outcome

-- the entry of a lane is that of an arrival, with the lane's outcome
record IsOfLane (clients : List Client) (arrivals : List Timed) (answered : Answered) (lane : ℕ) (entry : Entry) : Type 0 where
  timed : Timed
  outcome : Outcome
  arrival : slice_get arrivals (answered.number * 8 + lane) ≡ Some timed
  outcome_at : slice_get answered.outcomes lane ≡ Some (Some outcome)
  entry_is : IsEntryOf clients (answered.number * 8 + lane) timed outcome entry

of_lane : (clients : List Client) (arrivals : List Timed) (answered : Answered) (right : IsAnswered clients arrivals answered)
    (lane : ℕ)
    (entry : Entry) → slice_get right.entries lane ≡ Some (Some entry) → IsOfLane clients arrivals answered lane entry
of_lane clients arrivals answered right lane entry at =
    let outcome = there answered.outcomes lane
    (omega (arith, slice_get_within right.entries lane (Some entry) at, right.lanes.entry_each, right.lanes.outcome_each)) in
    pick outcome.0 outcome.1 (right.lanes.each lane outcome.0 (Some entry) outcome.1 at)
  where
    pick : (outcome : Option Outcome) → slice_get answered.outcomes lane ≡ Some outcome
        → IsLane clients arrivals (answered.number * 8 + lane) outcome (Some entry) → IsOfLane clients arrivals answered lane entry
    pick None outcome_at is = absurd (none-some entry (sym is.1))
    pick (Some outcome) outcome_at is =
        record { timed = is.0; outcome = outcome; arrival = is.1; outcome_at = outcome_at; entry_is = is.2 }

has_tags : (clients : List Client) (arrivals : List Timed) (answered : Answered) → IsAnswered clients arrivals answered
    → HasTags answered
has_tags clients arrivals answered right = record {
  entries = right.entries;
  eight = right.lanes.entry_each;
  taken_is = right.taken_is;
  tags = λ lane entry at. (of_lane clients arrivals answered right lane entry at).entry_is.asked.has_tag;
}

-- each entry of a batch has its arrival
has_arrivals : (clients : List Client) (arrivals : List Timed) (outcomes : List Outcome) (answered : Answered)
    → IsAnswered clients arrivals answered → IsPlaced outcomes answered
    → All (HasArrival clients arrivals outcomes) (taken answered.ticket)
has_arrivals clients arrivals outcomes answered right placed =
    subst (All (HasArrival clients arrivals outcomes)) (sym right.taken_is)
    (somes_all (HasArrival clients arrivals outcomes) right.entries each)
  where
    each : (lane : ℕ) (entry : Entry) → slice_get right.entries lane ≡ Some (Some entry)
        → HasArrival clients arrivals outcomes entry
    each lane entry at =
        let of = of_lane clients arrivals answered right lane entry at in
        let tag : answered.number * 8 + lane ≡ entry.tag = sym of.entry_is.asked.has_tag in record {
          timed = of.timed;
          outcome = of.outcome;
          arrival = subst (λ n. slice_get arrivals n ≡ Some of.timed) tag of.arrival;
          outcome_is = subst (λ n. slice_get outcomes n ≡ Some of.outcome) tag (placed lane of.outcome of.outcome_at);
          entry_of = subst (λ n. IsEntryOf clients n of.timed of.outcome entry) tag of.entry_is;
        }

-- ---- outcomes

-- an outcome without an entry
without_entry : (clients : List Client) (Known : Entry → Type 0) (number : ℕ) (timed : Timed) (outcome : Outcome)
    → IsOutcome clients (λ entry. ⊥) number timed outcome → IsOutcome clients Known number timed outcome
without_entry clients Known number timed (Dropped discard) is = is
without_entry clients Known number timed Busy is = absurd is.1
without_entry clients Known number timed NoMemory is = is
without_entry clients Known number timed (Reply frame) is = absurd is.1

-- an outcome by an entry
by_entry : (clients : List Client) (Known : Entry → Type 0) (number : ℕ) (timed : Timed) (outcome : Outcome) (entry : Entry)
    → Known entry → IsEntryOf clients number timed outcome entry → IsOutcome clients Known number timed outcome
by_entry clients Known number timed (Dropped discard) entry has is = absurd is.sent
by_entry clients Known number timed Busy entry has is = (entry, has, is)
by_entry clients Known number timed NoMemory entry has is = absurd is.sent
by_entry clients Known number timed (Reply frame) entry has is = (entry, has, is)

-- the history has the entries of a batch
in_history : (history : List Entry) (log : List (Taking Entry)) (answered : Answered) → IsLogged history log → IsInLog log answered
    → (k : ℕ) (entry : Entry) → slice_get (taken answered.ticket) k ≡ Some entry → HasEntry history entry
in_history history log answered logged in_log k entry at = pick answered.ticket in_log at
  where
    pick : (ticket : Option (Taking Entry)) → IfSome ticket (Has log) → slice_get (taken ticket) k ≡ Some entry
        → HasEntry history entry
    pick None has at = absurd (none-some entry at)
    pick (Some t) has at =
        let is = entry_in log has.0 t has.1 k entry at in
        (is.0, subst (λ entries. slice_get entries is.0 ≡ Some entry) logged is.1)

-- what lanes say of arrivals
lane_outcome : (clients : List Client) (arrivals : List Timed) (outcomes : List Outcome) (Known : Entry → Type 0)
    (answered : Answered)
    (right : IsAnswered clients arrivals answered) → IsPlaced outcomes answered
    → ((k : ℕ) (entry : Entry) → slice_get (taken answered.ticket) k ≡ Some entry → Known entry)
    → (lane : ℕ) (timed : Timed) → lane < 8 → slice_get arrivals (answered.number * 8 + lane) ≡ Some timed
    → (outcome : Outcome) × (slice_get outcomes (answered.number * 8 + lane) ≡ Some outcome)
    × IsOutcome clients Known (answered.number * 8 + lane) timed outcome
lane_outcome clients arrivals outcomes Known answered right placed has lane timed within at =
    let outcome = there answered.outcomes lane (omega (arith, within, right.lanes.outcome_each)) in
    let entry = there right.entries lane (omega (arith, within, right.lanes.entry_each)) in
    pick outcome.0 entry.0 outcome.1 entry.1 (right.lanes.each lane outcome.0 entry.0 outcome.1 entry.1)
  where
    with_entry : (other : Timed) (outcome : Outcome) (entry : Option Entry) → slice_get right.entries lane ≡ Some entry
        → IsOutcomeWith clients (answered.number * 8 + lane) other outcome entry
        → IsOutcome clients Known (answered.number * 8 + lane) other outcome
    with_entry other outcome None at_entry is = without_entry clients Known (answered.number * 8 + lane) other outcome is
    with_entry other outcome (Some entry) at_entry is =
        let found = in_somes right.entries lane entry at_entry in
        by_entry clients Known (answered.number * 8 + lane) other outcome entry
        (has found.0 entry (subst (λ entries. slice_get entries found.0 ≡ Some entry) (sym right.taken_is) found.1)) is

    pick : (outcome : Option Outcome) (entry : Option Entry) → slice_get answered.outcomes lane ≡ Some outcome
        → slice_get right.entries lane ≡ Some entry → IsLane clients arrivals (answered.number * 8 + lane) outcome entry
        → (each : Outcome) × (slice_get outcomes (answered.number * 8 + lane) ≡ Some each)
        × IsOutcome clients Known (answered.number * 8 + lane) timed each
    pick None entry at_outcome at_entry is = absurd (none-some timed (sym is.0 ∙ at))
    pick (Some outcome) entry at_outcome at_entry is = (
      outcome,
      placed lane outcome at_outcome,
      subst (λ each. IsOutcome clients Known (answered.number * 8 + lane) each outcome) (same_Some is.0 timed (sym is.1 ∙ at))
          (with_entry is.0 outcome entry at_entry is.2),
    )

-- the batch of an arrival is one of all batches
batch_of : (list : List Answered) (count number : ℕ)
    → ((each : ℕ) → times each (numbers_of list) ≡ once_below ((count + 7) / 8) each)
    → number < count
    → (place : ℕ) × (answered : Answered) × (slice_get list place ≡ Some answered) × (answered.number ≡ number / 8)
batch_of list count number once within =
    let is = found (λ (each : Answered). each.number == number / 8) list
    (omega (arith, times_of (number / 8) list, once (number / 8), below_once ((count + 7) / 8) (number / 8) below)) in
    (is.0, is.1, is.2, eqb-true is.1.number (number / 8) is.3)
  where
    below : number / 8 < (count + 7) / 8
    below = omega arith

outcomes_of : (clients : List Client) (arrivals : List Timed) (outcomes : List Outcome) (history : List Entry)
    (log : List (Taking Entry))
    (list : List Answered) → IsLogged history log → All (IsAnswered clients arrivals) list → All (IsInLog log) list
    → ((number : ℕ) → times number (numbers_of list) ≡ once_below (batch_count arrivals) number)
    → ((place : ℕ) (answered : Answered) → slice_get list place ≡ Some answered → IsPlaced outcomes answered)
    → AreOutcomes clients arrivals outcomes history
outcomes_of clients arrivals outcomes history log list logged right are once placed number timed at =
    let is = batch_of list (length arrivals) number once (slice_get_within arrivals number timed at) in
    let same : is.1.number * 8 + number % 8 ≡ number = omega (arith, is.3) in
    let outcome = lane_outcome clients arrivals outcomes (HasEntry history) is.1
    (all_at (IsAnswered clients arrivals) list is.0 is.1 right is.2) (placed is.0 is.1 is.2)
    (in_history history log is.1 logged (all_at (IsInLog log) list is.0 is.1 are is.2)) (number % 8) timed (omega arith)
    (subst (λ n. slice_get arrivals n ≡ Some timed) (sym same) at) in (
      outcome.0,
      subst (λ n. slice_get outcomes n ≡ Some outcome.0) same outcome.1,
      subst (λ n. IsOutcome clients (HasEntry history) n timed outcome.0) same outcome.2,
    )

-- ---- the round

-- batches that were answered and logged and placed make a round, if their numbers are those of all batches, each once, and they
-- have as many entries as the history
pub round_of : (opening : Server) (arrivals : List Timed) (outcomes : List Outcome) (history : List Entry) (after : Server)
    (log : List (Taking Entry)) (list : List Answered) → IsHistory opening history after → IsLogged history log
    → All (IsAnswered opening.configuration.clients arrivals) list → All (IsInLog log) list
    → ((number : ℕ) → times number (numbers_of list) ≡ once_below (batch_count arrivals) number)
    → length history ≡ entry_count list
    → ((place : ℕ) (answered : Answered) → slice_get list place ≡ Some answered → IsPlaced outcomes answered)
    → length outcomes ≡ length arrivals → Round opening arrivals outcomes history after
round_of opening arrivals outcomes history after log list run logged right are once total placed count =
    record { run = run; count = count; answered = answered; entries = entries; tags = tags }
  where
    right_at : (place : ℕ) (each : Answered) → slice_get list place ≡ Some each
        → IsAnswered opening.configuration.clients arrivals each
    right_at place each at = all_at (IsAnswered opening.configuration.clients arrivals) list place each right at

    answered : AreOutcomes opening.configuration.clients arrivals outcomes history
    answered = outcomes_of opening.configuration.clients arrivals outcomes history log list logged right are once placed

    has : (place : ℕ) (t : Taking Entry) → slice_get (takings_of list) place ≡ Some t → Has log t
    has place t at =
        let of = is_of list place t at in
        subst (λ ticket. IfSome ticket (Has log)) of.ticket (all_at (IsInLog log) list of.place of.answered are of.at)

    same : IsPermutation (entries_of (takings_of list)) history
    same =
        subst (IsPermutation (entries_of (takings_of list))) logged
        (are_all (takings_of list) log
        (takings_apart list (λ place each at. (right_at place each at).numbered) (own_numbers list (batch_count arrivals) once)) has
        (omega (arith, total, takings_count list, ap length logged)))

    entries : All (HasArrival opening.configuration.clients arrivals outcomes) history
    entries =
        All-permutation (HasArrival opening.configuration.clients arrivals outcomes) (entries_of (takings_of list)) history same
        (takings_all (HasArrival opening.configuration.clients arrivals outcomes) list
        (λ place each at.
        has_arrivals opening.configuration.clients arrivals outcomes each (right_at place each at) (placed place each at)))

    few : (tag : ℕ) → tagged tag history ≤ 1
    few tag =
        omega (
          arith,
          sum_by-IsPermutation (λ (entry : Entry). cond (entry.tag == tag) 1 0) (entries_of (takings_of list)) history same,
          takings_tagged tag list (λ place each at. has_tags opening.configuration.clients arrivals each (right_at place each at)),
          times_of (tag / 8) list,
          once (tag / 8),
          once_at_most (batch_count arrivals) (tag / 8),
        )

    tags : HaveOwnTags history
    tags place other entry another at at_other tag =
        only (λ (each : Entry). each.tag == another.tag) history (few another.tag) place other entry another at
        (eq-eqb entry.tag another.tag tag) at_other (eq-eqb another.tag another.tag refl)

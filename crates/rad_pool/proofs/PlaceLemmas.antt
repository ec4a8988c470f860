use Rattle.std.proofs.Common.{⊎_elim, ◌≡◌, ℕ, ◌+◌, ◌-◌, ◌<◌, ◌^◌, Bool, true, false, cond, ◌&&◌, List, [], ◌∷◌, ◌++◌, Option, Some}
use Rattle.std.proofs.Common.{None, refl, ap, ◌∙◌, sym, subst, eqb, nat_le, nat_lt, filter, map, length, is_some, unwrap_or}
use Rattle.std.proofs.Common.{true≢false, arith, get_or, set, count_by, All, replicate}
use Rattle.std.specs.List.{FoldsTo}
use Rattle.std.proofs.lemmas.Bool.{and_parts, cases_lt, eqb-true, eqb-false, leb-true, ltb-true, le-leb, lt-ltb}
use Rattle.std.proofs.lemmas.List.{get_or_past, get_or-set_same, get_or-set_other, length-set, get_or-replicate, length-replicate}
use Rattle.std.proofs.lemmas.List.Elements.{All-map, All-weaker}
use Rattle.std.proofs.lemmas.List.Filters.{sum_by-filter_both}
use Rattle.std.proofs.lemmas.List.Sums.{count_by-le-length, sum_by-append, sum_by-cons, sum_by_push}
use Rattle.rad_config.specs.declared.spans.Spans.{Spans}
use Rattle.rad_rows.specs.Rows.{Tells, is_dead}
use Rattle.rad_places.specs.Places.{SeenPlaces, is_inside, place_of, without_use}
use Rattle.rad_pool.specs.declared.counts.Counts.{Counts}
use Rattle.rad_pool.specs.declared.session.Session.{Session}
use Rattle.rad_pool.specs.Counts.{HasLowUses, IsCounted, Leaves, change_at, place_in, places_come, places_left, with_holder}
use Rattle.rad_pool.specs.Grants.{has_address}
use Rattle.rad_pool.specs.Sessions.{is_live, live_sessions, session_ended}

-- ---- one address of one session

abbrev pub is_at : ℕ → Option ℕ → Bool
is_at address None = false
is_at address (Some held) = eqb held address

pub has_is : (address : ℕ) (x : Session) → has_address address x ≡ is_at address x.address
has_is address x = by x.address
  where
    by : (o : Option ℕ) → has_address address (record x { address = o }) ≡ is_at address o
    by None = refl
    by (Some held) = refl

-- one where the session has the address
abbrev pub one : ℕ → Session → ℕ
one address session = cond (has_address address session) 1 0

pub one_is : (address : ℕ) (x : Session) → cond {A = ℕ} (is_at address x.address) 1 0 ≡ one address x
one_is address x = ap (λ (b : Bool). cond {A = ℕ} b 1 0) (sym (has_is address x))

-- how many sessions have it
abbrev pub held_by : ℕ → List Session → ℕ
held_by address sessions = count_by (has_address address) sessions

pub held_cons : (address : ℕ) (x : Session) (rows : List Session) (b : Bool) → has_address address x ≡ b
    → held_by address (x ∷ rows) ≡ cond {A = ℕ} b 1 0 + held_by address rows
held_cons address x rows b e = omega (arith, sum_by-cons (one address) x rows, ap (λ (c : Bool). cond {A = ℕ} c 1 0) e)

-- ---- the place of an address

module _ (address : ℕ) (places : SeenPlaces) where
  some_at : (b : Bool) (place : ℕ) → is_inside address places ≡ b → cond b (Some (address - places.first)) None ≡ Some place
      → (place < length places.uses) × (places.first + place ≡ address)
  some_at false place e is = absurd (true≢false (ap is_some (sym is)))
  some_at true place e is =
      let parts = and_parts (nat_le places.first address) (nat_lt (address - places.first) (length places.uses)) e in
      let at : address - places.first ≡ place = ap (λ o. unwrap_or o place) is in (
        omega (arith, at, ltb-true (address - places.first) (length places.uses) parts.1),
        omega (arith, at, leb-true places.first address parts.0),
      )

  -- it is within the pool, and has the address
  pub place_is : (place : ℕ) → place_of address places ≡ Some place
      → (place < length places.uses) × (places.first + place ≡ address)
  place_is place is = some_at (is_inside address places) place refl is

  -- without a place, no address of the pool is it
  pub no_place : (a : ℕ) → place_of address places ≡ None → a < length places.uses → eqb address (places.first + a) ≡ false
  no_place a none lt = by_test (eqb address (places.first + a)) refl
    where
      by_test : (b : Bool) → eqb address (places.first + a) ≡ b → eqb address (places.first + a) ≡ false
      by_test false e = e
      by_test true e =
          let is : address ≡ places.first + a = eqb-true address (places.first + a) e in
          let inside : is_inside address places ≡ true =
          both (le-leb places.first address (omega (arith, is)))
          (lt-ltb (address - places.first) (length places.uses) (omega (arith, is, lt))) in
          absurd (true≢false (ap is_some (sym (ap (λ b. cond b (Some (address - places.first)) None) inside) ∙ none)))
        where
          both : {x y : Bool} → x ≡ true → y ≡ true → (x && y) ≡ true
          both {x} {y} p q = ap (λ b. b && y) p ∙ q

-- ---- one pool

-- a change of uses and notes alone
pub record IsOfPool (places new : SeenPlaces) : Type 0 where
  pub first : new.first ≡ places.first
  pub len : length new.uses ≡ length places.uses

pub left_at : (o : Option ℕ) (places : SeenPlaces) → IsOfPool places (change_at without_use o places)
left_at None places = record { first = refl; len = refl }
left_at (Some place) places = record { first = refl; len = length-set places.uses _ _ }

pub come_at : (number : ℕ) (o : Option ℕ) (places : SeenPlaces) → IsOfPool places (change_at (with_holder number) o places)
come_at number None places = record { first = refl; len = refl }
come_at number (Some place) places = record { first = refl; len = length-set places.uses _ _ }

module _ (address : ℕ) (places : SeenPlaces) (a : ℕ) (lt : a < length places.uses) where
  here_or_there : (p v w : ℕ) (b : Bool) → place_of address places ≡ Some p → eqb address (places.first + a) ≡ b
      → (p ≡ a → v ≡ w) → get_or (set places.uses p v) a 0 ≡ cond b w (get_or places.uses a 0)
  here_or_there p v w true is e same =
      let at : p ≡ a = omega (arith, (place_is address places p is).1, eqb-true address (places.first + a) e) in
      ap (λ k. get_or (set places.uses k v) a 0) at ∙ get_or-set_same places.uses a v 0 lt ∙ same at
  here_or_there p v w false is e same =
      get_or-set_other places.uses p a v 0
      (λ at. absurd (eqb-false address (places.first + a) e (omega (arith, at, (place_is address places p is).1))))

  less : (o : Option ℕ) → place_of address places ≡ o
      → get_or (change_at without_use o places).uses a 0 ≡ get_or places.uses a 0 - cond (eqb address (places.first + a)) 1 0
  less None is = rw (no_place address places a is lt) (omega arith)
  less (Some p) is = here_or_there p (get_or places.uses p 0 - 1) (get_or places.uses a 0 - 1) (eqb address (places.first + a)) is
      refl (λ at. ap (λ k. get_or places.uses k 0 - 1) at) ∙ over (eqb address (places.first + a))
    where
      over : (b : Bool) → cond b (get_or places.uses a 0 - 1) (get_or places.uses a 0) ≡ get_or places.uses a 0 - cond b 1 0
      over true = refl
      over false = omega arith

  more : (number : ℕ) (o : Option ℕ) → place_of address places ≡ o
      → get_or (change_at (with_holder number) o places).uses a 0
      ≡ get_or places.uses a 0 + cond (eqb address (places.first + a)) 1 0
  more number None is = rw (no_place address places a is lt) (omega arith)
  more number (Some p) is = here_or_there p (get_or places.uses p 0 + 1) (get_or places.uses a 0 + 1)
      (eqb address (places.first + a)) is refl (λ at. ap (λ k. get_or places.uses k 0 + 1) at)
      ∙ over (eqb address (places.first + a))
    where
      over : (b : Bool) → cond b (get_or places.uses a 0 + 1) (get_or places.uses a 0) ≡ get_or places.uses a 0 + cond b 1 0
      over true = refl
      over false = omega arith

left_uses : (o : Option ℕ) (places : SeenPlaces) (a : ℕ) → a < length places.uses
    → get_or (places_left o places).uses a 0 ≡ get_or places.uses a 0 - cond (is_at (places.first + a) o) 1 0
left_uses None places a lt = omega arith
left_uses (Some address) places a lt = less address places a lt (place_of address places) refl

come_uses : (number : ℕ) (o : Option ℕ) (places : SeenPlaces) (a : ℕ) → a < length places.uses
    → get_or (places_come o number places).uses a 0 ≡ get_or places.uses a 0 + cond (is_at (places.first + a) o) 1 0
come_uses number None places a lt = omega arith
come_uses number (Some address) places a lt = more address places a lt number (place_of address places) refl

-- ---- sessions that go

-- as many uses as dead and live sessions have the address
record IsOver (dead left : List Session) (places : SeenPlaces) : Type 0 where
  uses : (a : ℕ) → a < length places.uses
      → get_or places.uses a 0 ≡ held_by (places.first + a) dead + held_by (places.first + a) left

over_step : (x : Session) (dead left : List Session) (places : SeenPlaces) → IsOver (x ∷ dead) left places
    → IsOver dead left (places_left x.address places)
over_step x dead left places h =
    let same = left_at (place_in x.address places) places in
    record {
      uses = λ a lt.
          let before : a < length places.uses = omega (arith, lt, same.len) in
          omega (
            arith,
            left_uses x.address places a before,
            one_is (places.first + a) x,
            h.uses a before,
            sum_by-cons (one (places.first + a)) x dead,
          )
          ∙ sym (ap (λ f. held_by (f + a) dead + held_by (f + a) left) same.first);
    }

over_left : (dead left : List Session) (old new : Counts) → FoldsTo Leaves old dead new → All (IsOver dead left) old.pools.items
    → All (IsCounted left) new.pools.items
over_left [] left old new h over =
    subst (λ (c : Counts). All (IsCounted left) c.pools.items) h
    (All-weaker (IsOver [] left) (IsCounted left) (λ places o. record { uses = λ a lt. omega (arith, o.uses a lt) })
    old.pools.items over)
over_left (x ∷ dead) left old new h over =
    let step : Leaves old x h.0 = h.1 in
    over_left dead left h.0 new h.2
    (subst (All (IsOver dead left)) (sym step.pools) (All-map (IsOver dead left) (places_left x.address) old.pools.items
    (All-weaker (IsOver (x ∷ dead) left) (λ places. IsOver dead left (places_left x.address places)) (over_step x dead left)
    old.pools.items over)))

-- as many uses as sessions have the address, the live ones and the others
pub uses_split : (spans : Spans) (now : ℕ) (rows : List Session) (places : SeenPlaces) (a : ℕ) → IsCounted rows places
    → a < length places.uses
    → get_or places.uses a 0 ≡ held_by (places.first + a) (filter (is_dead is_live spans now) rows)
    + held_by (places.first + a) (live_sessions spans now rows)
uses_split spans now rows places a counted lt =
    omega (
      arith,
      counted.uses a lt,
      sum_by-filter_both (is_live spans now) (is_dead is_live spans now) (λ x. refl) (one (places.first + a)) rows,
    )

pub places_gone : (spans : Spans) (now : ℕ) (rows left : List Session) (old new : Counts) → All (IsCounted rows) old.pools.items
    → left ≡ live_sessions spans now rows → Tells Leaves is_live spans now rows old new → All (IsCounted left) new.pools.items
places_gone spans now rows left old new h is told =
    over_left (filter (is_dead is_live spans now) rows) left old new told
    (All-weaker (IsCounted rows) (IsOver (filter (is_dead is_live spans now) rows) left) (λ places counted. record {
      uses = λ a lt. omega (arith, uses_split spans now rows places a counted lt, ap (held_by (places.first + a)) is);
    }) old.pools.items h)

-- ---- sessions that change, and keep their addresses

-- other sessions, with the same addresses as often
places_same : (rows rows' : List Session) (old new : Counts) → All (IsCounted rows) old.pools.items
    → ((address : ℕ) → held_by address rows' ≡ held_by address rows) → new.pools.items ≡ old.pools.items
    → All (IsCounted rows') new.pools.items
places_same rows rows' old new h same kept =
    subst (All (IsCounted rows')) (sym kept) (All-weaker (IsCounted rows) (IsCounted rows') (λ places counted. record {
      uses = λ a lt. counted.uses a lt ∙ sym (same (places.first + a));
    }) old.pools.items h)

pub one_same : (address : ℕ) (x y : Session) → x.address ≡ y.address → one address x ≡ one address y
one_same address x y same = sym (one_is address x) ∙ ap (λ o. cond {A = ℕ} (is_at address o) 1 0) same ∙ one_is address y

pub held_changed : (change : Session → Session) → ((x : Session) → Session.address (change x) ≡ x.address)
    → (address : ℕ) (rows : List Session) → held_by address (map change rows) ≡ held_by address rows
held_changed change keeps address [] = refl
held_changed change keeps address (x ∷ rows) =
    omega (
      arith,
      sum_by-cons (one address) (change x) (map change rows),
      sum_by-cons (one address) x rows,
      held_changed change keeps address rows,
      one_same address (change x) x (keeps x),
    )

pub places_changed : (change : Session → Session) (rows rows' : List Session) (old new : Counts)
    → ((x : Session) → Session.address (change x) ≡ x.address) → All (IsCounted rows) old.pools.items → rows' ≡ map change rows
    → new.pools.items ≡ old.pools.items → All (IsCounted rows') new.pools.items
places_changed change rows rows' old new keeps h changed kept =
    places_same rows rows' old new h (λ address. ap (held_by address) changed ∙ held_changed change keeps address rows) kept

pub held_between : (before rest : List Session) (x : Session) (address : ℕ)
    → held_by address (before ++ session_ended x ∷ rest) ≡ held_by address (before ++ x ∷ rest)
held_between before rest x address =
    omega (
      arith,
      sum_by-append (one address) before (x ∷ rest),
      sum_by-append (one address) before (session_ended x ∷ rest),
      sum_by-cons (one address) x rest,
      sum_by-cons (one address) (session_ended x) rest,
      one_same address (session_ended x) x refl,
    )

pub places_between : (before rest : List Session) (x : Session) (old new : Counts)
    → All (IsCounted (before ++ x ∷ rest)) old.pools.items → new.pools.items ≡ old.pools.items
    → All (IsCounted (before ++ session_ended x ∷ rest)) new.pools.items
places_between before rest x old new h kept =
    places_same (before ++ x ∷ rest) (before ++ session_ended x ∷ rest) old new h (held_between before rest x) kept

-- ---- a session that comes

pub places_granted : (rows rows' : List Session) (session : Session) (old new : Counts) → All (IsCounted rows) old.pools.items
    → rows' ≡ rows ++ session ∷ [] → new.pools.items ≡ map (places_come session.address session.number) old.pools.items
    → All (IsCounted rows') new.pools.items
places_granted rows rows' session old new h is come =
    subst (All (IsCounted rows')) (sym come) (All-map (IsCounted rows') (places_come session.address session.number) old.pools.items
    (All-weaker (IsCounted rows) (λ places. IsCounted rows' (places_come session.address session.number places)) step
    old.pools.items h))
  where
    step : (places : SeenPlaces) → IsCounted rows places → IsCounted rows' (places_come session.address session.number places)
    step places counted =
        let same = come_at session.number (place_in session.address places) places in
        record {
          uses = λ a lt.
              let before : a < length places.uses = omega (arith, lt, same.len) in
              omega (
                arith,
                come_uses session.number session.address places a before,
                one_is (places.first + a) session,
                counted.uses a before,
                sum_by_push (one (places.first + a)) rows session,
              )
              ∙ sym (ap (held_by (places.first + a)) is) ∙ sym (ap (λ f. held_by (f + a) rows') same.first);
        }

-- few sessions make few uses
pub low_uses : (rows : List Session) (counts : Counts) → All (IsCounted rows) counts.pools.items → length rows + 1 < 2 ^ 64
    → All HasLowUses counts.pools.items
low_uses rows counts h few = All-weaker (IsCounted rows) HasLowUses (λ places counted. record {
  low = λ a. ⊎_elim
      (λ lt. omega (arith, counted.uses a lt, count_by-le-length (has_address (places.first + a)) rows, few))
      (λ past. omega (arith, get_or_past places.uses a 0 past))
      (cases_lt a (length places.uses));
}) counts.pools.items h

-- ---- equal sessions, and none

pub places_copied : (rows rows' : List Session) (old new : Counts) → All (IsCounted rows) old.pools.items → rows' ≡ rows
    → new.pools.items ≡ old.pools.items → All (IsCounted rows') new.pools.items
places_copied rows rows' old new h is same =
    subst (λ (xs : List Session). All (IsCounted xs) new.pools.items) (sym is) (subst (All (IsCounted rows)) (sym same) h)

pub none_counted : (places : SeenPlaces) (count : ℕ) → places.uses ≡ replicate count 0 → IsCounted [] places
none_counted places count is = record {
  uses = λ a lt. ap (λ us. get_or us a 0) is
      ∙ get_or-replicate count a 0 0 (omega (arith, lt, ap length is, length-replicate {A = ℕ} count 0));
}

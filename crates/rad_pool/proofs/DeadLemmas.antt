use Rattle.std.proofs.Common.{◌≡◌, ◌≢◌, ℕ, zero, suc, ◌+◌, ◌-◌, ◌≤◌, ◌<◌, Bool, true, false, not, ◌||◌, List, [], ◌∷◌, Some, None}
use Rattle.std.proofs.Common.{refl, ap, ◌∙◌, sym, eqb, ltb, find, length, arith, get_or}
use Rattle.std.specs.List.{FoldsTo, range_with_len}
use Rattle.std.proofs.lemmas.Bool.{eqb-true, eqb-false, lt-ltb, ltb-false, ltb-true}
use Rattle.std.proofs.lemmas.List.Filters.{sum_by-filter_both}
use Rattle.rad_config.specs.declared.pool.Pool.{Pool}
use Rattle.rad_config.specs.declared.spans.Spans.{Spans}
use Rattle.rad_places.specs.Places.{SeenPlaces}
use Rattle.rad_rows.specs.Rows.{Tells, is_dead}
use Rattle.rad_pool.specs.Counts.{IsCounted, one_of, one_open_by, user_of}
use Rattle.rad_pool.specs.Dead.{CountsUser, IsLeastFreed, TakesLesser, TakesOne, dead_sessions}
use Rattle.rad_pool.specs.Grants.{has_address, is_held, least_free, open_sessions, sessions_of}
use Rattle.rad_pool.specs.Sessions.{is_live, live_sessions}
use Rattle.rad_pool.specs.declared.free.LeastFreed.{LeastFreed}
use Rattle.rad_pool.specs.declared.session.Session.{Session}
use Rattle.rad_pool.specs.declared.users.UserCounts.{UserCounts}
use Rattle.rad_pool.proofs.CountLemmas.{count_cons, of_cons}
use Rattle.rad_pool.proofs.PlaceLemmas.{held_by, held_cons, uses_split}

-- ---- the sessions of a user

taken : (dead : List Session) (old new : UserCounts) → FoldsTo TakesOne old dead new
    → (new.open_count ≡ old.open_count - open_sessions old.user dead) × (new.total ≡ old.total - sessions_of old.user dead)
taken [] old new h = (omega (arith, ap (λ (t : UserCounts). t.open_count) h), omega (arith, ap (λ (t : UserCounts). t.total) h))
taken (x ∷ dead) old new h =
    let step : TakesOne old x h.0 = h.1 in
    let rest = taken dead h.0 new h.2 in (
      omega (arith, rest.0, step.open_count, count_cons user_of old.user x dead, ap (λ user. open_sessions user dead) step.user),
      omega (arith, rest.1, step.total, of_cons old.user x dead, ap (λ user. sessions_of user dead) step.user),
    )

pub live_left : (spans : Spans) (now : ℕ) (rows : List Session) (old new : UserCounts) → CountsUser old.user rows old
    → Tells TakesOne is_live spans now rows old new
    → CountsUser old.user (live_sessions spans now rows) new
live_left spans now rows old new is told =
    let gone = taken (dead_sessions spans now rows) old new told in
    record {
      open_count = omega (
        arith,
        gone.0,
        is.open_count,
        sum_by-filter_both (is_live spans now) (is_dead is_live spans now) (λ x. refl) (one_open_by user_of old.user) rows,
      );
      total = omega (
        arith,
        gone.1,
        is.total,
        sum_by-filter_both (is_live spans now) (is_dead is_live spans now) (λ x. refl) (one_of old.user) rows,
      );
    }

-- ---- the addresses of dead sessions

or_false : (a b : Bool) → a ≡ false → b ≡ false → (a || b) ≡ false
or_false a b p q = ap (λ c. c || b) p ∙ q

pub or_first : (a b : Bool) → a ≡ true → (a || b) ≡ true
or_first a b p = ap (λ c. c || b) p

or_second : (a b : Bool) → b ≡ true → (a || b) ≡ true
or_second true b q = refl
or_second false b q = q

-- the place after all of them
record IsLesser (dead : List Session) (old new : LeastFreed) : Type 0 where
  lesser : new.place ≤ old.place
  before : (place : ℕ) → place < new.place → is_held dead (old.first + place) ≡ false
  here : new.place ≢ old.place → is_held dead (old.first + new.place) ≡ true

freed_fold : (dead : List Session) (old new : LeastFreed) → FoldsTo TakesLesser old dead new → IsLesser dead old new
freed_fold [] old new h = record {
  lesser = omega (arith, ap (λ (t : LeastFreed). t.place) h);
  before = λ place lt. refl;
  here = λ other. absurd (other (ap (λ (t : LeastFreed). t.place) (sym h)));
}
freed_fold (x ∷ dead) old new h =
    let step : TakesLesser old x h.0 = h.1 in
    let rest = freed_fold dead h.0 new h.2 in
    record {
      lesser = omega (arith, step.lesser, rest.lesser);
      before = λ place lt. or_false _ _ (step.before place (omega (arith, lt, rest.lesser)))
          (sym (ap (λ first. is_held dead (first + place)) step.first) ∙ rest.before place lt);
      here = λ other. by_test h.0 step rest other (eqb new.place (LeastFreed.place h.0)) refl;
    }
  where
    by_test : (mid : LeastFreed) → TakesLesser old x mid → IsLesser dead mid new → new.place ≢ old.place → (b : Bool)
        → eqb new.place mid.place ≡ b → is_held (x ∷ dead) (old.first + new.place) ≡ true
    by_test mid step rest other true e =
        let same : new.place ≡ mid.place = eqb-true new.place mid.place e in
        or_first _ _ (ap (λ place. has_address (old.first + place) x) same ∙ step.here (λ is. other (same ∙ is)))
    by_test mid step rest other false e =
        or_second _ _ (sym (ap (λ first. is_held dead (first + new.place)) step.first)
        ∙ rest.here (eqb-false new.place mid.place e))

pub least_freed : (dead : List Session) (places : SeenPlaces) (old new : LeastFreed) → old.first ≡ places.first
    → (old.place < length places.uses → get_or places.uses old.place 0 ≡ 0)
    → ((place : ℕ) → place < old.place → place < length places.uses → 0 < get_or places.uses place 0)
    → FoldsTo TakesLesser old dead new → IsLeastFreed dead places new.place
least_freed dead places old new first free used told =
    let lesser = freed_fold dead old new told in
    record {
      used = λ place lt within. used place (omega (arith, lt, lesser.lesser)) within;
      before = λ place lt. sym (ap (λ f. is_held dead (f + place)) first) ∙ lesser.before place lt;
      here = λ within some. sym (ap (λ f. is_held dead (f + new.place)) first)
          ∙ lesser.here (λ same. absurd (omega
          (arith, some, ap (λ place. get_or places.uses place 0) same, free (omega (arith, within, same)))));
    }

-- ---- the least free address of a pool

pub held_is : (address : ℕ) (sessions : List Session) → is_held sessions address ≡ ltb 0 (held_by address sessions)
held_is address [] = refl
held_is address (x ∷ sessions) = by_test (has_address address x) refl (held_is address sessions)
  where
    by_test : (b : Bool) → has_address address x ≡ b → is_held sessions address ≡ ltb 0 (held_by address sessions)
        → is_held (x ∷ sessions) address ≡ ltb 0 (held_by address (x ∷ sessions))
    by_test true e rest =
        or_first _ _ e ∙ sym (lt-ltb 0 (held_by address (x ∷ sessions)) (omega (arith, held_cons address x sessions true e)))
    by_test false e rest =
        let same : held_by address (x ∷ sessions) ≡ held_by address sessions =
        omega (arith, held_cons address x sessions false e) in
        ap (λ b. b || is_held sessions address) e ∙ rest ∙ ap (ltb 0) (sym same)

held_none : (address : ℕ) (sessions : List Session) → is_held sessions address ≡ false → held_by address sessions ≡ 0
held_none address sessions e = omega (arith, ltb-false 0 (held_by address sessions) (sym (held_is address sessions) ∙ e))

held_some : (address : ℕ) (sessions : List Session) → is_held sessions address ≡ true → 0 < held_by address sessions
held_some address sessions e = ltb-true 0 (held_by address sessions) (sym (held_is address sessions) ∙ e)

module _ (fits : ℕ → Bool) where
  none_in_range : (n first : ℕ) → ((a : ℕ) → a < n → fits (first + a) ≡ false) → find fits (range_with_len first n) ≡ None
  none_in_range zero first h = refl
  none_in_range (suc n) first h =
      let here : fits first ≡ false = ap fits (omega arith) ∙ h 0 (omega arith) in
      rw (here) (none_in_range n (first + 1) (λ a lt. ap fits (omega arith) ∙ h (suc a) (omega arith)))

  first_in_range : (n first at : ℕ) → at < n → ((a : ℕ) → a < at → fits (first + a) ≡ false) → fits (first + at) ≡ true
      → find fits (range_with_len first n) ≡ Some (first + at)
  first_in_range zero first at lt h is = absurd (omega arith)
  first_in_range (suc n) first zero lt h is =
      let same : first + 0 ≡ first = omega arith in
      let here : fits first ≡ true = ap fits (sym same) ∙ is in
      rw (here) (ap Some (sym same))
  first_in_range (suc n) first (suc at) lt h is =
      let here : fits first ≡ false = ap fits (omega arith) ∙ h 0 (omega arith) in
      rw (here) (first_in_range n (first + 1) at (omega arith) (λ a lt. ap fits (omega arith) ∙ h (suc a) (omega arith))
      (ap fits (omega arith) ∙ is) ∙ ap Some (omega arith))

module _ (spans : Spans) (now : ℕ) (rows : List Session) (pool : Pool) (places : SeenPlaces) (least : ℕ)
    (counted : IsCounted rows places) (first : places.first ≡ pool.first) (len : length places.uses + pool.first ≡ pool.last + 1)
    (is : IsLeastFreed (dead_sessions spans now rows) places least) where
  asked : find (λ address. not (is_held (live_sessions spans now rows) address)) (range_with_len places.first (length places.uses))
      ≡ least_free (live_sessions spans now rows) pool
  asked =
      let same : length places.uses ≡ pool.last + 1 - pool.first = omega (arith, len) in
      ap (λ f. find (λ address. not (is_held (live_sessions spans now rows) address)) (range_with_len f (length places.uses))) first
      ∙ ap (λ n. find (λ address. not (is_held (live_sessions spans now rows) address)) (range_with_len pool.first n)) same

  -- an address before it is a live session's
  before : (a : ℕ) → a < least → a < length places.uses → not (is_held (live_sessions spans now rows) (places.first + a)) ≡ false
  before a lt within =
      ap not (held_is (places.first + a) (live_sessions spans now rows)
      ∙ lt-ltb 0 (held_by (places.first + a) (live_sessions spans now rows))
      (omega (
        arith,
        is.used a lt within,
        uses_split spans now rows places a counted within,
        held_none (places.first + a) (dead_sessions spans now rows) (is.before a lt),
      )))

  pub none_least : length places.uses ≤ least → None ≡ least_free (live_sessions spans now rows) pool
  none_least past =
      sym (none_in_range (λ address. not (is_held (live_sessions spans now rows) address)) (length places.uses) places.first
      (λ a lt. before a (omega (arith, lt, past)) lt)) ∙ asked

  here : least < length places.uses → get_or places.uses least 0 ≤ 1
      → held_by (places.first + least) (live_sessions spans now rows) ≡ 0
  here within few = by_uses (get_or places.uses least 0) refl
    where
      by_uses : (n : ℕ) → get_or places.uses least 0 ≡ n → held_by (places.first + least) (live_sessions spans now rows) ≡ 0
      by_uses zero e = omega (arith, uses_split spans now rows places least counted within, e)
      by_uses (suc n) e =
          omega (
            arith,
            uses_split spans now rows places least counted within,
            few,
            held_some (places.first + least) (dead_sessions spans now rows) (is.here within (omega (arith, e))),
          )

  pub some_least : least < length places.uses → get_or places.uses least 0 ≤ 1
      → Some (pool.first + least) ≡ least_free (live_sessions spans now rows) pool
  some_least within few =
      let free : not (is_held (live_sessions spans now rows) (places.first + least)) ≡ true =
      ap not (held_is (places.first + least) (live_sessions spans now rows) ∙ ap (ltb 0) (here within few)) in
      ap (λ f. Some (f + least)) (sym first)
      ∙ sym (first_in_range (λ address. not (is_held (live_sessions spans now rows) address)) (length places.uses) places.first
      least within
      (λ a lt. before a lt (omega (arith, lt, within))) free)
      ∙ asked

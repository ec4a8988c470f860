use Rattle.std.proofs.Common.{◌≡◌, ℕ, zero, suc, ◌+◌, ◌-◌, Bool, true, false, cond, not, List, [], ◌∷◌, Option, None, Some}
use Rattle.std.proofs.Common.{option_map, Result, Err, Ok, ok_or, filter, arith, find, refl, ap, sym, ◌∙◌}
use Rattle.std.specs.List.{range_with_len}
use Rattle.rad_config.specs.declared.spans.Spans.{Spans}
use Rattle.rad_pool.specs.declared.grant.Refusal.{Refusal}
use Rattle.rad_pool.specs.declared.grant.Refusal.TheVariants.{NoAddress}
use Rattle.rad_pool.specs.declared.session.Session.{Session}
use Rattle.rad_pool.specs.Grants.{address_from, addresses, is_held, own_pool}
use Rattle.rad_pool.specs.Sessions.{Sessions, cut, is_live, live_sessions}

-- past a number that doesn't fit, the first that fits is the same
pub first_past : (fits : ℕ → Bool) (a b n m : ℕ) (first : Option ℕ) → a + 1 ≡ b → n ≡ m + 1 → fits a ≡ false
    → find fits (range_with_len a n) ≡ first → find fits (range_with_len b m) ≡ first
first_past fits a b zero m first at more misses is = absurd (omega arith)
first_past fits a b (suc n) m first at more misses is =
    let same : n ≡ m = omega arith in
    let skipped : find fits (range_with_len a (suc n)) ≡ find fits (range_with_len b m) = rw (misses, at, same) refl in
    sym skipped ∙ is

-- of a user's own address, that one or none is given
pub own_free : (sessions : List Session) (address : ℕ) (b : Bool) → is_held sessions address ≡ b
    → address_from sessions (Some (own_pool address)) ≡ cond b (Err NoAddress) (Ok (Some address))
unfolding address_from
own_free sessions address b held =
    let one : address + 1 - address ≡ 1 = omega arith in
    let only : addresses (own_pool address) ≡ address ∷ [] = ap (range_with_len address) one in
    ap (λ list. ok_or (option_map Some (find (λ a. not (is_held sessions a)) list)) NoAddress) only
    ∙ ap (λ held. ok_or (option_map Some (cond (not held) (Some address) None)) NoAddress) held ∙ over b
  where
    over : (b : Bool) → ok_or (option_map Some (cond (not b) (Some address) None)) NoAddress
        ≡ cond {A = Result (Option ℕ) Refusal} b (Err NoAddress) (Ok (Some address))
    over true = refl
    over false = refl

-- to filter once more changes nothing
pub filter_twice : {X : Type 0} (p : X → Bool) (xs : List X) → filter p (filter p xs) ≡ filter p xs
filter_twice p [] = refl
filter_twice p (x ∷ xs) = by_test p x xs (p x) refl (filter_twice p xs)
  where
    by_test : {X : Type 0} (p : X → Bool) (x : X) (xs : List X) (b : Bool) → p x ≡ b → filter p (filter p xs) ≡ filter p xs
        → filter p (filter p (x ∷ xs)) ≡ filter p (x ∷ xs)
    by_test p x xs true is more = rw (is, is, more) refl
    by_test p x xs false is more = rw (is) more

-- a moment once more changes nothing
pub settled_is : (spans spans' : Spans) (now next : ℕ) (rows left : List Session) → left ≡ live_sessions spans now rows
    → spans' ≡ spans
    → ◌≡◌ {A = Sessions} (cut now (record { sessions = left; next = next; spans = spans' }))
    (record { sessions = left; next = next; spans = spans' })
settled_is spans spans' now next rows left is same =
    let twice : live_sessions spans' now left ≡ left =
    ap (λ s. live_sessions s now left) same ∙ ap (live_sessions spans now) is ∙ filter_twice (is_live spans now) rows ∙ sym is in
    λ j. record { sessions = twice j; next = next; spans = spans' }

-- What is found in one more attribute.
use Rattle.std.proofs.Common.{◌≡◌, ℕ, Bool, true, false, cond, eqb, nat_eq, nat_lt, ◌+◌, ◌==◌, ◌&&◌, ◌||◌, List, [], ◌∷◌, length}
use Rattle.std.proofs.Common.{Option, Some, None, refl, ap, sym, subst, ◌∙◌, arith}
use Rattle.std.specs.Prelude.{IfSome, option_map, find}
use Rattle.std.proofs.lemmas.Bool.{eqb-true, eq-eqb, lt-ltb}
use Rattle.std.specs.Cmp.Lexicographic.{same_text}
use lib.Pointwise.{pointwise}
use Rattle.std.specs.List.{list_any}
use Rattle.std.specs.Option.{option_or}
use Rattle.rad_packet.specs.Attributes.{Attribute, count, first_value, is_of, size}
use Rattle.rad_auth.proofs.AttributeLemmas.{count-cons}
use Rattle.rad_auth.specs.Summaries.{octets_after_hmac, first_after}
use Rattle.rad_auth.specs.Authenticators.{can_hold_hmac}

pub any-step : {A : Type 0} (p : A → Bool) (so_far : Bool) (x : A) (xs : List A)
    → ((so_far || p x) || list_any p xs) ≡ (so_far || list_any p (x ∷ xs))
any-step p true x xs = refl
any-step p false x xs = refl

pub octets_after_hmac-step : (so_far : Option ℕ) (a : Attribute) (list : List Attribute)
    → option_or (first_after a (size list) so_far) (octets_after_hmac list) ≡ option_or so_far (octets_after_hmac (a ∷ list))
octets_after_hmac-step (Some n) a list = refl
octets_after_hmac-step None a list =
    elim (can_hold_hmac a) as (λ b. option_or (cond b (Some (size list)) None) (octets_after_hmac list)
    ≡ cond b (Some (size list)) (octets_after_hmac list)) [ true ↦ refl | false ↦ refl ]

-- ---- the HMAC that occurs once

-- the first Message-Authenticator, where it has 16 octets, holds the HMAC
first_holds : (list : List Attribute) (value : List ℕ) → first_value 80 list ≡ Some value → length value ≡ 16
    → (n : ℕ) × (octets_after_hmac list ≡ Some n)
first_holds [] value e len = cc
first_holds (a ∷ list) value e len = at (eqb a.kind 80) e (first_holds list value)
  where
    at : (b : Bool) → option_map (λ x. x.value) (cond b (Some a) (find (λ x. x.kind == 80) list)) ≡ Some value
        → (first_value 80 list ≡ Some value → length value ≡ 16 → (n : ℕ) × (octets_after_hmac list ≡ Some n))
        → (n : ℕ) × (cond (b && (length a.value == 16)) (Some (size list)) (octets_after_hmac list) ≡ Some n)
    at false e others = others e len
    at true e others =
        let same : a.value ≡ value = cc in
        let long : (length a.value == 16) ≡ true = ap (λ (v : List ℕ). length v == 16) same ∙ ap (λ n. n == 16) len in
        rw long (size list, refl)

same_number : (n : ℕ) → (n == n) ≡ true
same_number n = eq-eqb n n refl

-- lists of other lengths are not equal
other_length : (xs ys : List ℕ) (n : ℕ) → (length xs == n) ≡ false → length ys ≡ n → pointwise nat_eq xs ys ≡ false
other_length xs ys n other long = at (pointwise nat_eq xs ys) refl
  where
    at : (b : Bool) → pointwise nat_eq xs ys ≡ b → b ≡ false
    at false e = refl
    at true e = sym (ap (λ (v : List ℕ). length v == n) (same_text xs ys (sym e)) ∙ (ap (λ m. m == n) long ∙ same_number n)) ∙ other

-- a Value that is compared with the HMAC, which is the right one if the Value holds it
pub right_hmac : (list : List Attribute) (value mac right : List ℕ) → first_value 80 list ≡ Some value
    → IfSome (octets_after_hmac list) (λ n. mac ≡ right) → length mac ≡ 16
    → pointwise nat_eq value mac ≡ ((length value == 16) && pointwise nat_eq value right)
right_hmac list value mac right first same long = at (length value == 16) refl
  where
    at : (b : Bool) → (length value == 16) ≡ b → pointwise nat_eq value mac ≡ (b && pointwise nat_eq value right)
    at false e = other_length value mac 16 e long
    at true e =
        let held = first_holds list value first (eqb-true (length value) 16 e) in
        ap (pointwise nat_eq value) (subst (λ o. IfSome o (λ n. mac ≡ right)) held.1 same)

-- an attribute of a Type is there where they are not none
pub has-count : (kind : ℕ) (list : List Attribute) → list_any (is_of kind) list ≡ nat_lt 0 (count kind list)
has-count kind [] = refl
has-count kind (a ∷ list) = at (eqb a.kind kind) (count-cons kind a list) (has-count kind list)
  where
    at : (b : Bool) → count kind (a ∷ list) ≡ cond b 1 0 + count kind list → list_any (is_of kind) list ≡ nat_lt 0 (count kind list)
        → (b || list_any (is_of kind) list) ≡ nat_lt 0 (count kind (a ∷ list))
    at true e others = sym (lt-ltb 0 (count kind (a ∷ list)) (omega (arith, e)))
    at false e others =
        let same : count kind list ≡ count kind (a ∷ list) = omega (arith, e) in
        others ∙ ap (nat_lt 0) same

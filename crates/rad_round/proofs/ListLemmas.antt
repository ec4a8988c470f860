-- Lists: elements at their places.
use Rattle.std.proofs.Common.{◌≡◌, ◌≢◌, ◌⊎◌, ◌<◌, ℕ, zero, suc, List, [], ◌∷◌, ◌++◌, length, set, drop, take, Some, unwrap_or}
use Rattle.std.proofs.Common.{slice_get, arith, inl, inr, refl, sym, ap, subst}
use Rattle.std.proofs.lemmas.Option.{none-some}
use lib.Lanes.{zip2}

pub some_is : {A : Type 0} (x y : A) → Some x ≡ Some y → x ≡ y
some_is x y is = ap (λ o. unwrap_or o x) is

-- what relates one to another relates an equal one to it
pub seen_as : {A B : Type 0} (P : A → B → Type 0) {a b : A} {c : B} → a ≡ b → P a c → P b c
seen_as P {c = c} same is = subst (λ x. P x c) same is

-- there is an element at each place within a list
pub there : {A : Type 0} (xs : List A) (k : ℕ) → k < length xs → (x : A) × (slice_get xs k ≡ Some x)
there [] k within = absurd (omega (arith, within))
there (x ∷ xs) zero within = (x, refl)
there (x ∷ xs) (suc k) within = there xs k (omega (arith, within))

-- what holds of eight elements, each at its place, holds at each place of the list of them
pub eight : {A : Type 0} (P : ℕ → A → Type 0) (a b c d e f g h : A) → P 0 a → P 1 b → P 2 c → P 3 d → P 4 e → P 5 f → P 6 g → P 7 h
    → (k : ℕ) (x : A) → slice_get (a ∷ b ∷ c ∷ d ∷ e ∷ f ∷ g ∷ h ∷ []) k ≡ Some x → P k x
eight P a b c d e f g h pa pb pc pd pe pf pg ph zero x is = subst (P 0) (some_is a x is) pa
eight P a b c d e f g h pa pb pc pd pe pf pg ph (suc zero) x is = subst (P 1) (some_is b x is) pb
eight P a b c d e f g h pa pb pc pd pe pf pg ph (suc (suc zero)) x is = subst (P 2) (some_is c x is) pc
eight P a b c d e f g h pa pb pc pd pe pf pg ph (suc (suc (suc zero))) x is = subst (P 3) (some_is d x is) pd
eight P a b c d e f g h pa pb pc pd pe pf pg ph (suc (suc (suc (suc zero)))) x is = subst (P 4) (some_is e x is) pe
eight P a b c d e f g h pa pb pc pd pe pf pg ph (suc (suc (suc (suc (suc zero))))) x is = subst (P 5) (some_is f x is) pf
eight P a b c d e f g h pa pb pc pd pe pf pg ph (suc (suc (suc (suc (suc (suc zero)))))) x is = subst (P 6) (some_is g x is) pg
eight P a b c d e f g h pa pb pc pd pe pf pg ph (suc (suc (suc (suc (suc (suc (suc zero))))))) x is =
    subst (P 7) (some_is h x is) ph
eight P a b c d e f g h pa pb pc pd pe pf pg ph (suc (suc (suc (suc (suc (suc (suc (suc k)))))))) x is = absurd (none-some x is)

-- an element of a list in which one was replaced
pub get_set : {A : Type 0} (xs : List A) (i k : ℕ) (x y : A) → slice_get (set xs i x) k ≡ Some y
    → ((k ≡ i) × (x ≡ y)) ⊎ ((k ≢ i) × (slice_get xs k ≡ Some y))
get_set [] i k x y is = absurd (none-some y is)
get_set (a ∷ xs) zero zero x y is = inl (refl, some_is x y is)
get_set (a ∷ xs) zero (suc k) x y is = inr ((λ same. absurd (omega (arith, same))), is)
get_set (a ∷ xs) (suc i) zero x y is = inr ((λ same. absurd (omega (arith, same))), is)
get_set (a ∷ xs) (suc i) (suc k) x y is = next (get_set xs i k x y is)
  where
    next : ((k ≡ i) × (x ≡ y)) ⊎ ((k ≢ i) × (slice_get xs k ≡ Some y))
        → ((suc k ≡ suc i) × (x ≡ y)) ⊎ ((suc k ≢ suc i) × (slice_get xs k ≡ Some y))
    next (inl same) = inl (ap suc same.0, same.1)
    next (inr other) = inr ((λ same. other.0 (omega (arith, same))), other.1)

-- the others are as they were
pub get_set_other : {A : Type 0} (xs : List A) (i k : ℕ) (x : A) → k ≢ i → slice_get (set xs i x) k ≡ slice_get xs k
get_set_other [] i k x other = refl
get_set_other (a ∷ xs) zero zero x other = absurd (other refl)
get_set_other (a ∷ xs) zero (suc k) x other = refl
get_set_other (a ∷ xs) (suc i) zero x other = refl
get_set_other (a ∷ xs) (suc i) (suc k) x other = get_set_other xs i k x (λ same. other (ap suc same))

-- the one that was replaced
pub get_set_same : {A : Type 0} (xs : List A) (i : ℕ) (x : A) → i < length xs → slice_get (set xs i x) i ≡ Some x
get_set_same [] i x within = absurd (omega (arith, within))
get_set_same (a ∷ xs) zero x within = refl
get_set_same (a ∷ xs) (suc i) x within = get_set_same xs i x (omega (arith, within))

-- an element of two lists that are joined element by element
pub zip2_get : {A B C : Type 0} (f : A → B → C) (xs : List A) (ys : List B) (k : ℕ) (z : C) → slice_get (zip2 f xs ys) k ≡ Some z
    → (x : A) × (y : B) × (slice_get xs k ≡ Some x) × (f x y ≡ z)
zip2_get f [] ys k z is = absurd (none-some z is)
zip2_get f (x ∷ xs) [] k z is = absurd (none-some z is)
zip2_get f (x ∷ xs) (y ∷ ys) zero z is = (x, y, refl, some_is (f x y) z is)
zip2_get f (x ∷ xs) (y ∷ ys) (suc k) z is = zip2_get f xs ys k z is

-- what a slice was left at is what the vector has
pub written_back : {A : Type 0} (n : ℕ) (after before : List A) → length before ≡ length after → n ≡ length after
    → take n (after ++ drop (length after) before) ≡ after
written_back n after before same is =
    subst (λ m. take m (after ++ drop (length after) before) ≡ after) (sym is) (all after (drop (length after) before))
  where
    all : {B : Type 0} (xs ys : List B) → take (length xs) (xs ++ ys) ≡ xs
    all [] ys = refl
    all (x ∷ xs) ys = ap (λ l. x ∷ l) (all xs ys)

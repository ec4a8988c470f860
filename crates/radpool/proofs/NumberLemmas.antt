-- A list of numbers without one of them.
use Rattle.std.proofs.Common.{◌≡◌, ◌≢◌, ◌==◌, ℕ, Bool, true, false, not, List, [], ◌∷◌, refl, cond, sym, arith, subst}
use Rattle.std.specs.List.{All, Contains, filter}
use Rattle.std.proofs.lemmas.List.Elements.{All-cons, All-contains, All-contains_itself, All-filter, All-nil, All-weaker}
use Rattle.std.proofs.lemmas.List.Elements.{Contains-append_left, Contains-append_right, Contains-push, filter_passes}

abbrev pub is_other : ℕ → ℕ → Bool
is_other n x = not (x == n)

abbrev pub without : ℕ → List ℕ → List ℕ
without n xs = filter (is_other n) xs

-- a number is in the list whose head was kept or left out, unless it is n
abbrev Stays : ℕ → ℕ → List ℕ → Bool → ℕ → Type 0
Stays n x xs kept y = y ≢ n → Contains (cond kept (x ∷ without n xs) (without n xs)) y

stays_behind : (n x : ℕ) (xs : List ℕ) (kept : Bool) → All (λ y. y ≢ n → Contains (without n xs) y) xs → All (Stays n x xs kept) xs
stays_behind n x xs true stay =
    All-weaker (λ y. y ≢ n → Contains (without n xs) y) (Stays n x xs true)
    (λ y was other. Contains-append_right (x ∷ []) (without n xs) y (was other)) xs stay
stays_behind n x xs false stay = stay

head_stays : (n x : ℕ) (xs : List ℕ) (kept : Bool) → is_other n x ≡ kept → Stays n x xs kept x
head_stays n x xs true is other = Contains-append_left (x ∷ []) (without n xs) x (Contains-push [] x)
head_stays n x xs false is other = absurd (other (grind (arith, is)))

stay : (n : ℕ) (xs : List ℕ) → All (λ y. y ≢ n → Contains (without n xs) y) xs
stay n [] = All-nil _
stay n (x ∷ xs) =
    All-cons (Stays n x xs (is_other n x)) x xs (head_stays n x xs (is_other n x) refl)
    (stays_behind n x xs (is_other n x) (stay n xs))

-- n is gone, and nothing else
pub record IsWithout (n : ℕ) (xs ys : List ℕ) : Type 0 where
  pub gone : ¬ Contains ys n
  pub others : (x : ℕ) → x ≢ n → Contains xs x → Contains ys x
  pub only : (x : ℕ) → Contains ys x → Contains xs x

n_is_gone : (n : ℕ) (xs : List ℕ) → ¬ Contains (without n xs) n
n_is_gone n xs has =
    let passes : is_other n n ≡ true =
    All-contains (λ y. is_other n y ≡ true) (without n xs) n (filter_passes (is_other n) xs) has in
    grind (arith, passes)

pub without_is : (n : ℕ) (xs ys : List ℕ) → ys ≡ without n xs → IsWithout n xs ys
without_is n xs ys is = subst (IsWithout n xs) (sym is) (record {
  gone = n_is_gone n xs;
  others = λ x other is. All-contains (λ y. y ≢ n → Contains (without n xs) y) xs x (stay n xs) is other;
  only = λ x is. All-contains (Contains xs) (without n xs) x (All-filter (is_other n) (Contains xs) xs (All-contains_itself xs)) is;
})

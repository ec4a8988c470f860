-- Digests at their places.
use Rattle.std.proofs.Common.{◌≡◌, ℕ, ◌+◌, ◌<◌, ◌≤◌, List, [], ◌++◌, length, take, drop, map, slice_index, slice_index_or}
use Rattle.std.proofs.Common.{slice_set, sym, ap, ap₂, ◌∙◌, arith, length-drop, length-take, length-take-le, take-add, take_all}
use Rattle.std.proofs.Common.{inl, inr}
use Rattle.std.specs.List.{Contains}
use Rattle.std.specs.List.Sorted.{IsPermutation}
use Rattle.std.proofs.lemmas.Grind.{get_or_default_zero}
use Rattle.std.proofs.lemmas.List.Sorted.{Contains-permutation, IsPermutation-sym}
use Rattle.std.proofs.lemmas.Bool.{cases_eq}
use Rattle.std.proofs.lemmas.List.{get_or-drop, get_or-set_other, get_or-set_same, get_or-take, length-map, map-append}
use Rattle.std.proofs.lemmas.List.{take-append-le}
use Rattle.std.proofs.lemmas.Slice.{take-put_mid}
use borrow.Rule.Slice.PartMut.{put_mid}
use Rattle.rad_md5.specs.Pieces.{digest}

-- a right digest is written at its place
pub set_placed : (wanted : ℕ → List ℕ) (digests : List (List ℕ)) (place : ℕ) (made : List ℕ) → place < length digests
    → made ≡ wanted place
    → slice_index_or (slice_set digests place made) place [] ≡ wanted place
set_placed right digests place made inside is = get_or-set_same digests place made [] inside ∙ is

-- and what is right elsewhere stays
pub set_kept : (wanted : ℕ → List ℕ) (digests : List (List ℕ)) (place : ℕ) (made : List ℕ) → place < length digests
    → made ≡ wanted place
    → (i : ℕ) → slice_index_or digests i [] ≡ wanted i → slice_index_or (slice_set digests place made) i [] ≡ wanted i
set_kept right digests place made inside is i held =
    elim (cases_eq i place) [
      | inl same ↦ rw same (set_placed right digests place made inside is)
      | inr other ↦ get_or-set_other digests place i made [] other ∙ held
    ]

-- digests that are written one after the other
pub digests_grow : (messages : List (List (List ℕ))) (digests new : List (List ℕ)) (from n : ℕ)
    → length digests ≡ length messages → from + n ≤ length messages
    → take from digests ≡ map digest (take from messages) → new ≡ map digest (take n (drop from messages))
    → take (from + n) (put_mid from n digests new) ≡ map digest (take (from + n) messages)
digests_grow messages digests new from n same inside before is =
    let size : length new ≡ n =
    ap length is ∙ length-map _ digest ∙ length-take-le n (drop from messages) (omega (arith, length-drop from messages)) in
    take-put_mid from n digests new (from + n) (omega (arith, size)) (omega arith)
    ∙ ap₂ (λ xs ys. xs ++ ys) before is
    ∙ sym (ap (map digest) (take-add from n messages) ∙ map-append digest (take from messages) (take n (drop from messages)))

-- n places from the k-th on
pub mid_place : (places : List ℕ) (k n j : ℕ) → j < n → slice_index (take n (drop k places)) j ≡ slice_index places (k + j)
mid_place places k n j below = get_or-take n (drop k places) j 0 below ∙ get_or-drop k places j 0

-- the numbers below n, in whatever order, are each below n and all there
abbrev pub IsCount : List ℕ → ℕ → Type 0
IsCount places n = (n ≤ length places) × ((k : ℕ) → k < n → slice_index places k ≡ k)

front_of : (sorted rest : List ℕ) (n : ℕ) → length sorted ≡ n → take n (sorted ++ rest) ≡ sorted
front_of sorted rest n size = take-append-le n sorted rest (omega arith) ∙ take_all n sorted (omega arith)

pub each_is_there : (places sorted rest : List ℕ) (n : ℕ) → IsCount places n → IsPermutation (take n places) sorted
    → length sorted ≡ n
    → (i : ℕ) → i < n → Contains (take n (sorted ++ rest)) i
each_is_there places sorted rest n count permutation size i below =
    let enough : i < length (take n places) = omega (arith, count.0, length-take n places) in
    let inside : i < length places = omega (arith, count.0) in
    let there : Contains (take n places) i =
    (i, enough, get_or-take n places i i below ∙ get_or_default_zero places i i inside ∙ count.1 i below) in
    rw (front_of sorted rest n size) (Contains-permutation (take n places) sorted i permutation there)

pub each_is_below : (places sorted rest : List ℕ) (n : ℕ) → IsCount places n → IsPermutation (take n places) sorted
    → length sorted ≡ n
    → (k : ℕ) → k < n → slice_index (sorted ++ rest) k < n
each_is_below places sorted rest n count permutation size k below =
    let place = slice_index sorted k in
    let inside : k < length sorted = omega arith in
    let itself : Contains sorted place = (k, inside, get_or_default_zero sorted k place inside) in
    let before : Contains (take n places) place =
    Contains-permutation sorted (take n places) place (IsPermutation-sym (take n places) sorted permutation) itself in
    let m = before.0 in
    let few : m < n = omega (arith, before.1, length-take n places) in
    let same : m ≡ place =
    sym (count.1 m few) ∙ sym (get_or_default_zero places m place (omega (arith, count.0))) ∙ sym (get_or-take n places m place few)
    ∙ before.2 in
    let found : slice_index (sorted ++ rest) k ≡ place =
    sym (get_or-take n (sorted ++ rest) k 0 below) ∙ ap (λ some. slice_index some k) (front_of sorted rest n size) in
    omega (arith, few, same, found)

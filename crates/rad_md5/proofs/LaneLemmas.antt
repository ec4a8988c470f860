-- What holds lane by lane.
use Rattle.std.proofs.Common.{◌≡◌, ℕ, zero, suc, ◌<◌, ◌+◌, ◌-◌, ◌*◌, ◌/◌, ◌%◌, ◌^◌, List, [], ◌∷◌, length, slice_index, replicate}
use Rattle.std.proofs.Common.{bit_or, arith, refl, subst}
use Rattle.std.specs.Simd.Lanes.{zip2}
use Rattle.std.specs.Int.{w32, rotate_left}
use Rattle.rad_md5.specs.Lanes.{EachLane, lane_at, words_of}

-- what holds of each of the eight lanes
pub below_eight : (P : ℕ → Type 0) → P 0 → P 1 → P 2 → P 3 → P 4 → P 5 → P 6 → P 7 → EachLane P
below_eight P p0 p1 p2 p3 p4 p5 p6 p7 zero h = p0
below_eight P p0 p1 p2 p3 p4 p5 p6 p7 (suc zero) h = p1
below_eight P p0 p1 p2 p3 p4 p5 p6 p7 (suc (suc zero)) h = p2
below_eight P p0 p1 p2 p3 p4 p5 p6 p7 (suc (suc (suc zero))) h = p3
below_eight P p0 p1 p2 p3 p4 p5 p6 p7 (suc (suc (suc (suc zero)))) h = p4
below_eight P p0 p1 p2 p3 p4 p5 p6 p7 (suc (suc (suc (suc (suc zero))))) h = p5
below_eight P p0 p1 p2 p3 p4 p5 p6 p7 (suc (suc (suc (suc (suc (suc zero)))))) h = p6
below_eight P p0 p1 p2 p3 p4 p5 p6 p7 (suc (suc (suc (suc (suc (suc (suc zero))))))) h = p7
below_eight P p0 p1 p2 p3 p4 p5 p6 p7 (suc (suc (suc (suc (suc (suc (suc (suc n)))))))) h = absurd (omega arith)

-- what holds of each list of eight
pub eight_lanes : {A : Type 0} (P : List A → Type 0) → ((a b c d e f g h : A) → P (a ∷ b ∷ c ∷ d ∷ e ∷ f ∷ g ∷ h ∷ []))
    → (xs : List A) → length xs ≡ 8 → P xs
eight_lanes P p (a ∷ b ∷ c ∷ d ∷ e ∷ f ∷ g ∷ h ∷ []) n = p a b c d e f g h
eight_lanes P p [] n = absurd (omega arith)
eight_lanes P p (a ∷ []) n = absurd (omega arith)
eight_lanes P p (a ∷ b ∷ []) n = absurd (omega arith)
eight_lanes P p (a ∷ b ∷ c ∷ []) n = absurd (omega arith)
eight_lanes P p (a ∷ b ∷ c ∷ d ∷ []) n = absurd (omega arith)
eight_lanes P p (a ∷ b ∷ c ∷ d ∷ e ∷ []) n = absurd (omega arith)
eight_lanes P p (a ∷ b ∷ c ∷ d ∷ e ∷ f ∷ []) n = absurd (omega arith)
eight_lanes P p (a ∷ b ∷ c ∷ d ∷ e ∷ f ∷ g ∷ []) n = absurd (omega arith)
eight_lanes P p (a ∷ b ∷ c ∷ d ∷ e ∷ f ∷ g ∷ h ∷ i ∷ xs) n = absurd (omega arith)

-- two shifts of each lane and an or are a rotation
abbrev Rotates : ℕ → List ℕ → Type 0
Rotates s a = EachLane (λ j.
    slice_index (zip2 bit_or
    (zip2 (λ x n. x * 2 ^ n % 2 ^ 32) a (replicate 8 s))
    (zip2 (λ x n. x / 2 ^ n) a (replicate 8 (32 - s)))) j
    ≡ rotate_left w32 (slice_index a j) s)

pub shifts_rotate : (s : ℕ) → 0 < s → s < 32 → (a : List ℕ) → length a ≡ 8 → Rotates s a
shifts_rotate s low high =
    let left : s % 32 ≡ s = omega arith in
    let right : (32 - s) % 32 ≡ 32 - s = omega arith in
    eight_lanes (Rotates s) (λ a0 a1 a2 a3 a4 a5 a6 a7. below_eight _
    (rw (left, right) refl) (rw (left, right) refl) (rw (left, right) refl) (rw (left, right) refl)
    (rw (left, right) refl) (rw (left, right) refl) (rw (left, right) refl) (rw (left, right) refl))

-- what holds of each of the sixteen words
below_sixteen : (P : ℕ → Type 0) → P 0 → P 1 → P 2 → P 3 → P 4 → P 5 → P 6 → P 7
    → P 8 → P 9 → P 10 → P 11 → P 12 → P 13 → P 14 → P 15 → (k : ℕ) → k < 16 → P k
below_sixteen P a0 a1 a2 a3 a4 a5 a6 a7 b0 b1 b2 b3 b4 b5 b6 b7 k h =
    let place : 8 * (k / 8) + k % 8 ≡ k = omega arith in
    subst P place (below_two (λ row. (col : ℕ) → col < 8 → P (8 * row + col))
    (below_eight _ a0 a1 a2 a3 a4 a5 a6 a7) (below_eight _ b0 b1 b2 b3 b4 b5 b6 b7)
    (k / 8) (omega arith) (k % 8) (omega arith))
  where
    below_two : (Q : ℕ → Type 0) → Q 0 → Q 1 → (j : ℕ) → j < 2 → Q j
    below_two Q q0 q1 zero h = q0
    below_two Q q0 q1 (suc zero) h = q1
    below_two Q q0 q1 (suc (suc n)) h = absurd (omega arith)

-- word k of message j
pub slice_index-words_of : (x : List (List ℕ)) (j k : ℕ) → k < 16 → slice_index (words_of j x) k ≡ lane_at x k j
slice_index-words_of x j = below_sixteen _ refl refl refl refl refl refl refl refl refl refl refl refl refl refl refl refl

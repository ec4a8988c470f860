use Rattle.std.proofs.Common.{◌≡◌, ◌≢◌, ℕ, ◌+◌, ◌*◌, ◌/◌, ◌%◌, ◌^◌, ◌<◌, List, length, get_or, set, arith, ap, ◌∙◌, sym, w64, inl}
use Rattle.std.proofs.Common.{inr, ◌⊎◌}
use Rattle.std.proofs.lemmas.Bool.{cases_lt}
use Rattle.std.proofs.lemmas.Grind.{get_or-set_at}
use Rattle.std.proofs.lemmas.List.{get_or-set_same, get_or-set_other, get_or_default}
use Rattle.std.proofs.lemmas.Nat.Bits.{bit_at-zero, bit_at-trailing_zeros}
use Rattle.std.specs.Int.{bit_at, trailing_zeros}
use Rattle.rad_places.specs.Marks.{marked}

pub equal_or_not : (a b : ℕ) → (a ≡ b) ⊎ (a ≢ b)
equal_or_not a b = elim (cases_lt a b) [
  | inl lt ↦ inr (λ e. omega arith)
  | inr ge ↦ elim (cases_lt b a) [ inl gt ↦ inr (λ e. omega arith) | inr le ↦ inl (omega arith) ]
]

pub write_here : (words : List ℕ) (at n v : ℕ) → at / 64 < length words → bit_at n (at % 64) ≡ v
    → marked (set words (at / 64) n) at ≡ v
write_here words at n v lt e = ap (λ w. bit_at w (at % 64)) (get_or-set_same words (at / 64) n 0 lt) ∙ e

pub write_other : (words : List ℕ) (at n : ℕ) → at / 64 < length words
    → ((j : ℕ) → j < 64 → j ≢ at % 64 → bit_at n j ≡ bit_at (get_or words (at / 64) 0) j) → (i : ℕ) → i ≢ at
    → marked (set words (at / 64) n) i ≡ marked words i
write_other words at n lt keep i other = elim (equal_or_not (i / 64) (at / 64)) [
  | inl e ↦ ap (λ w. bit_at w (i % 64)) (get_or-set_at words (at / 64) (i / 64) n 0 e lt)
      ∙ keep (i % 64) (omega arith) (λ same. other (omega arith)) ∙ ap (λ k. bit_at (get_or words k 0) (i % 64)) (sym e)
  | inr ne ↦ ap (λ w. bit_at w (i % 64)) (get_or-set_other words (at / 64) (i / 64) n 0 ne)
]

pub at_place : (words : List ℕ) (w t : ℕ) → t < 64 → marked words (w * 64 + t) ≡ bit_at (get_or words w 0) t
at_place words w t lt =
    let word : (w * 64 + t) / 64 ≡ w = omega arith in
    let bit : (w * 64 + t) % 64 ≡ t = omega arith in
    ap (λ k. bit_at (get_or words k 0) ((w * 64 + t) % 64)) word ∙ ap (λ k. bit_at (get_or words w 0) k) bit

-- the lowest bit of a word that is not 0
pub lowest_here : (words : List ℕ) (w : ℕ) → w < length words → 0 < get_or words w 0 → get_or words w 0 < 2 ^ 64 →
    (w * 64 + trailing_zeros w64 (get_or words w 0) < 64 * length words)
    × (marked words (w * 64 + trailing_zeros w64 (get_or words w 0)) ≡ 1)
lowest_here words w lt pos fits =
    let k = bit_at-trailing_zeros w64 (get_or words w 0) pos fits in
    let t : trailing_zeros w64 (get_or words w 0) < 64 = k.0 in
    (omega arith, at_place words w (trailing_zeros w64 (get_or words w 0)) t ∙ k.1)

pub none_before : (words : List ℕ) (w : ℕ) → 0 < get_or words w 0 → get_or words w 0 < 2 ^ 64
    → ((v : ℕ) → v < w → get_or words v 0 ≡ 0) →
    (i : ℕ) → i < w * 64 + trailing_zeros w64 (get_or words w 0) → marked words i ≡ 0
none_before words w pos fits zero i lt =
    let k = bit_at-trailing_zeros w64 (get_or words w 0) pos fits in
    let t : trailing_zeros w64 (get_or words w 0) < 64 = k.0 in
    elim (cases_lt (i / 64) w) [
      | inl before ↦ ap (λ n. bit_at n (i % 64)) (zero (i / 64) before) ∙ bit_at-zero (i % 64)
      | inr after ↦
          let same : i / 64 ≡ w = omega arith in
          ap (λ v. bit_at (get_or words v 0) (i % 64)) same ∙ k.2 (i % 64) (omega arith)
    ]

-- a word with a mark is not 0
pub word_of_mark : (words : List ℕ) (i : ℕ) → marked words i ≡ 1 → 0 < get_or words (i / 64) 0
word_of_mark words i one = elim (cases_lt 0 (get_or words (i / 64) 0)) [
  | inl pos ↦ pos
  | inr none ↦
      let zero : get_or words (i / 64) 0 ≡ 0 = omega arith in
      let clear : marked words i ≡ 0 = ap (λ n. bit_at n (i % 64)) zero ∙ bit_at-zero (i % 64) in
      omega arith
]

pub read_word : (words : List ℕ) (w x : ℕ) → w < length words → x ≡ get_or words w x → x ≡ get_or words w 0
read_word words w x lt e = e ∙ sym (get_or_default words w 0 x lt)

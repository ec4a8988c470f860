-- Comparison of octets bit by bit.
use Rattle.std.proofs.Common.{◌≡◌, ℕ, suc, ◌+◌, ◌<◌, Bool, true, false, ◌==◌, ◌&&◌, List, ◌∷◌, length, get_or, drop, refl, sym, ap}
use Rattle.std.proofs.Common.{◌∙◌, arith}
use Rattle.std.specs.Int.Bits.{bit_or, bit_xor, xor_assoc, xor_self, xor_zero_r}
use lib.Pointwise.{pointwise}
use Rattle.std.proofs.lemmas.Bool.Decides.{same_from_decides, Decides-eqb, Decides-like, Decides-and}
use Rattle.std.proofs.lemmas.Nat.{le_or_l, le_or_r}
use Rattle.std.proofs.Math.Seq.{drop-cons}

-- no bit is set where nothing was and two numbers are the same
no_bit : (d x y : ℕ) → (bit_or d (bit_xor x y) == 0) ≡ ((d == 0) && (x == y))
no_bit d x y =
    same_from_decides (bit_or d (bit_xor x y) == 0) ((d == 0) && (x == y))
    (Decides-like (bit_or d (bit_xor x y) == 0) both none (Decides-eqb (bit_or d (bit_xor x y)) 0))
    (Decides-and (d == 0) (x == y) (Decides-eqb d 0) (Decides-eqb x y))
  where
    both : bit_or d (bit_xor x y) ≡ 0 → (d ≡ 0) × (x ≡ y)
    both e =
        let zero_bits : bit_xor x y ≡ 0 = omega (arith, e, le_or_r d (bit_xor x y)) in (
          omega (arith, e, le_or_l d (bit_xor x y)),
          sym (xor_zero_r x) ∙ ap (bit_xor x) (sym (xor_self y)) ∙ sym (xor_assoc x y y)
              ∙ ap (λ z. bit_xor z y) zero_bits,
        )

    none : (d ≡ 0) × (x ≡ y) → bit_or d (bit_xor x y) ≡ 0
    none h = ap (λ z. bit_or z (bit_xor x y)) h.0 ∙ ap (λ z. bit_xor z y) h.1 ∙ xor_self y

-- one octet more in which two lists may differ
pub no_difference : (d : ℕ) (xs ys : List ℕ) (i : ℕ) → i < length xs → length xs ≡ length ys
    → ((bit_or d (bit_xor (get_or xs i 0) (get_or ys i 0)) == 0) && pointwise ◌==◌ (drop (i + 1) xs) (drop (i + 1) ys))
    ≡ ((d == 0) && pointwise ◌==◌ (drop i xs) (drop i ys))
no_difference d xs ys i lt e =
    let next : i + 1 ≡ suc i = omega arith in
    let rest : Bool = pointwise ◌==◌ (drop (suc i) xs) (drop (suc i) ys) in
    ap (λ k. (bit_or d (bit_xor (get_or xs i 0) (get_or ys i 0)) == 0) && pointwise ◌==◌ (drop k xs) (drop k ys)) next
    ∙ ap (λ b. b && rest) (no_bit d (get_or xs i 0) (get_or ys i 0))
    ∙ assoc (d == 0) (get_or xs i 0 == get_or ys i 0) rest
    ∙ ap (λ (l : List ℕ). (d == 0) && pointwise ◌==◌ l (get_or ys i 0 ∷ drop (suc i) ys)) (sym (drop-cons xs i 0 lt))
    ∙ ap (λ (l : List ℕ). (d == 0) && pointwise ◌==◌ (drop i xs) l) (sym (drop-cons ys i 0 (omega (arith, lt, e))))
  where
    assoc : (a b c : Bool) → ((a && b) && c) ≡ (a && (b && c))
    assoc true b c = refl
    assoc false b c = refl

-- Texts in parts.
use Rattle.std.proofs.Common.{◌≡◌, ℕ, suc, ◌+◌, Bool, true, false, cond, ltb, List, [], ◌∷◌, length, take, drop, Some, None, refl}
use Rattle.std.proofs.Common.{arith, add-one, one-add, inl, inr}
use Rattle.std.specs.Prelude.{◌==◌, not, position, option_map}
use Rattle.std.specs.List.{prefix_len}
use Rattle.std.proofs.lemmas.Bool.{lt-ltb, le-ltb, cases_lt}
use Rattle.rad_text.specs.Splits.{split_once}

-- the texts before and after the octet at a place
abbrev pub around : List ℕ → ℕ → List ℕ × List ℕ
around text place = (take place text, drop (place + 1) text)

-- an octet before the first part
abbrev with_front : ℕ → List ℕ × List ℕ → List ℕ × List ℕ
with_front octet parts = (octet ∷ parts.0, parts.1)

place_step : (b : Bool) (octet : ℕ) (text : List ℕ) (k : ℕ)
    → cond b (Some ([], text)) (option_map (with_front octet) (option_map (around text) (cond (ltb k (length text)) (Some k) None)))
    ≡ option_map (around (octet ∷ text))
    (cond (ltb (cond (not b) (1 + k) 0) (suc (length text))) (Some (cond (not b) (1 + k) 0)) None)
place_step true octet text k = rw (lt-ltb 0 (suc (length text)) (omega arith)) refl
place_step false octet text k =
    elim (cases_lt k (length text)) [
      | inl lt ↦ rw (lt-ltb k (length text) lt, lt-ltb (1 + k) (suc (length text)) (omega arith), one-add, add-one (suc k))
          (rw (add-one k) refl)
      | inr le ↦ rw (le-ltb k (length text) le, le-ltb (1 + k) (suc (length text)) (omega arith)) refl
    ]

-- `split_once` goes by the place of the separator
pub split_once-position : (separator : ℕ) (text : List ℕ)
    → split_once separator text ≡ option_map (around text) (position (λ octet. octet == separator) text)
split_once-position separator [] = refl
split_once-position separator (octet ∷ text) =
    rw (split_once-position separator text)
    (place_step (octet == separator) octet text (prefix_len (λ x. not (x == separator)) text))

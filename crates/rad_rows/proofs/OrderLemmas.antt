use Rattle.std.proofs.Common.{◌≡◌, ℕ, suc, ◌+◌, ◌≤◌, ◌<◌, List, [], ◌∷◌, ◌++◌, arith, refl, ap, ◌∙◌, sym, subst, length}
use Rattle.std.specs.List.{All, AllPairs}
use Rattle.std.proofs.lemmas.List.{append_assoc}
use Rattle.std.proofs.lemmas.List.Elements.{All-weaker, All-head, All-tail}
use Rattle.rad_rows.specs.Rows.{IsBefore, IsGiven, IsRising}

-- a row's number is greater than this
pub record IsAfter {T : Type 0} (number : T → ℕ) (last : ℕ) (row : T) : Type 0 where
  pub lt : last < number row

module _ {T : Type 0} (number : T → ℕ) where
  -- numbers count from 1
  pub all_after : (last : ℕ) (rows : List T) → All (IsGiven number last) rows → All (IsAfter number 0) rows
  all_after last rows h = All-weaker (IsGiven number last) (IsAfter number 0) (λ row k. record { lt = omega (arith, k.one) }) rows h

  pub first_after : (last : ℕ) (x : T) (xs ys : List T) → ys ≡ x ∷ xs → All (IsAfter number last) ys → last < number x
  first_after last x xs ys is h = (All-head (IsAfter number last) x xs (subst (All (IsAfter number last)) is h)).lt

  pub given_rest : (last : ℕ) (x : T) (xs ys : List T) → ys ≡ x ∷ xs → All (IsGiven number last) ys → All (IsGiven number last) xs
  given_rest last x xs ys is h = All-tail (IsGiven number last) x xs (subst (All (IsGiven number last)) is h)

  pub first_given : (last : ℕ) (x : T) (xs ys : List T) → ys ≡ x ∷ xs → All (IsGiven number last) ys → number x ≤ last
  first_given last x xs ys is h = (All-head (IsGiven number last) x xs (subst (All (IsGiven number last)) is h)).le

  pub rising_rest : (x : T) (xs ys : List T) → ys ≡ x ∷ xs → AllPairs (IsBefore number) ys → AllPairs (IsBefore number) xs
  rising_rest x xs ys is h =
      λ i j d lt within. (subst (AllPairs (IsBefore number)) is h) (suc i) (suc j) d (omega arith) (omega arith)

  pub rest_after : (x : T) (xs ys : List T) → ys ≡ x ∷ xs → AllPairs (IsBefore number) ys → All (IsAfter number (number x)) xs
  rest_after x xs ys is h =
      λ k d within. record { lt = ((subst (AllPairs (IsBefore number)) is h) 0 (suc k) d (omega arith) (omega arith)).lt }

  -- numbers that rise up to the last are no more than it
  pub no_more : (last : ℕ) (rows : List T) → IsRising number last rows → length rows ≤ last
  no_more last rows h = omega (arith, above 0 rows (omega arith) (all_after last rows h.given) h.given h.rising)
    where
      above : (low : ℕ) (rows : List T) → low ≤ last → All (IsAfter number low) rows → All (IsGiven number last) rows
          → AllPairs (IsBefore number) rows → low + length rows ≤ last
      above low [] le after given rising = omega arith
      above low (x ∷ xs) le after given rising =
          omega (
            arith,
            (All-head (IsAfter number low) x xs after).lt,
            above (number x) xs (All-head (IsGiven number last) x xs given).le (rest_after x xs (x ∷ xs) refl rising)
                (All-tail (IsGiven number last) x xs given) (rising_rest x xs (x ∷ xs) refl rising),
          )

-- one row more was copied
pub moved : {T : Type 0} (x : T) (rows more xs ys all : List T) → ys ≡ x ∷ xs → rows ++ ys ≡ all → more ≡ rows ++ x ∷ []
    → more ++ xs ≡ all
moved x rows more xs ys all is whole new =
    ap (λ l. l ++ xs) new ∙ append_assoc rows (x ∷ []) xs ∙ ap (λ l. rows ++ l) (sym is) ∙ whole

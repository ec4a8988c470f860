use Rattle.std.proofs.Common.{◌≡◌, ℕ, Bool, true, false, cond, List, [], ◌∷◌, Some, None, refl, ap, ◌∙◌, sym, eqb, find, is_some}
use Rattle.std.proofs.Common.{unwrap_or, true≢false, arith}
use Rattle.std.specs.List.{All, AllPairs}
use Rattle.std.proofs.lemmas.Bool.{eqb-true, eqb-false}
use Rattle.std.proofs.lemmas.List.Elements.{All-head, All-tail}
use Rattle.rad_rows.specs.Rows.{IsBefore, has_number}
use Rattle.rad_rows.proofs.OrderLemmas.{IsAfter, rest_after, rising_rest}

-- ---- finding a row

pub none_passes : {T : Type 0} (p : T → Bool) (rows : List T) → All (λ row. p row ≡ false) rows → find p rows ≡ None
none_passes p [] h = refl
none_passes p (row ∷ rows) h =
    rw (All-head (λ row. p row ≡ false) row rows h) (none_passes p rows (All-tail (λ row. p row ≡ false) row rows h))

pub record Means {T : Type 0} (number : T → ℕ) (p : T → Bool) (n : ℕ) (row : T) : Type 0 where
  pub means : p row ≡ true → number row ≡ n

-- a row of another number doesn't pass
other_fails : {T : Type 0} (number : T → ℕ) (p : T → Bool) (n : ℕ) (row : T) → Means number p n row → (number row ≡ n → ⊥)
    → p row ≡ false
other_fails number p n row m other = by_test (p row) refl
  where
    by_test : (b : Bool) → p row ≡ b → p row ≡ false
    by_test true e = absurd (other (m.means e))
    by_test false e = e

module _ {T : Type 0} (number : T → ℕ) (p : T → Bool) (n : ℕ) where
  pub find_none : (rows : List T) → All (Means number p n) rows → find (has_number number n) rows ≡ None → find p rows ≡ None
  find_none [] h at = refl
  find_none (row ∷ rows) h at = by_test (eqb (number row) n) refl (find_none rows (All-tail (Means number p n) row rows h))
    where
      by_test : (b : Bool) → eqb (number row) n ≡ b → (find (has_number number n) rows ≡ None → find p rows ≡ None)
          → find p (row ∷ rows) ≡ None
      by_test true e more =
          absurd (true≢false (ap is_some (sym (ap (λ b. cond b (Some row) (find (has_number number n) rows)) e) ∙ at)))
      by_test false e more = rw (other_fails number p n row (All-head (Means number p n) row rows h) (eqb-false (number row) n e))
          (more (sym (ap (λ b. cond b (Some row) (find (has_number number n) rows)) e) ∙ at))

  pub find_true : (rows : List T) (x : T) → All (Means number p n) rows → find (has_number number n) rows ≡ Some x → p x ≡ true
      → find p rows ≡ Some x
  find_true [] x h at passes = absurd (true≢false (ap is_some (sym at)))
  find_true (row ∷ rows) x h at passes =
      by_test (eqb (number row) n) refl (λ at. find_true rows x (All-tail (Means number p n) row rows h) at passes)
    where
      by_test : (b : Bool) → eqb (number row) n ≡ b → (find (has_number number n) rows ≡ Some x → find p rows ≡ Some x)
          → find p (row ∷ rows) ≡ Some x
      by_test true e more =
          let is : row ≡ x =
          ap (λ o. unwrap_or o row) (sym (ap (λ b. cond b (Some row) (find (has_number number n) rows)) e) ∙ at) in
          rw (ap p is ∙ passes) (ap Some is)
      by_test false e more = rw (other_fails number p n row (All-head (Means number p n) row rows h) (eqb-false (number row) n e))
          (more (sym (ap (λ b. cond b (Some row) (find (has_number number n) rows)) e) ∙ at))

  pub find_false : (rows : List T) (x : T) → AllPairs (IsBefore number) rows → All (Means number p n) rows
      → find (has_number number n) rows ≡ Some x → p x ≡ false → find p rows ≡ None
  find_false [] x rising h at fails = refl
  find_false (row ∷ rows) x rising h at fails =
      by_test (eqb (number row) n) refl
      (λ at. find_false rows x (rising_rest number row rows (row ∷ rows) refl rising) (All-tail (Means number p n) row rows h)
      at fails)
    where
      by_test : (b : Bool) → eqb (number row) n ≡ b → (find (has_number number n) rows ≡ Some x → find p rows ≡ None)
          → find p (row ∷ rows) ≡ None
      by_test true e more =
          let is : row ≡ x =
          ap (λ o. unwrap_or o row) (sym (ap (λ b. cond b (Some row) (find (has_number number n) rows)) e) ∙ at) in
          let here : number row ≡ n = eqb-true (number row) n e in
          let after : All (IsAfter number (number row)) rows = rest_after number row rows (row ∷ rows) refl rising in
          rw (ap p is ∙ fails) (none_passes p rows
          (λ k d lt. other_fails number p n _ (All-tail (Means number p n) row rows h k d lt)
          (λ same. absurd (omega (arith, (after k d lt).lt, same, here)))))
      by_test false e more = rw (other_fails number p n row (All-head (Means number p n) row rows h) (eqb-false (number row) n e))
          (more (sym (ap (λ b. cond b (Some row) (find (has_number number n) rows)) e) ∙ at))

use Rattle.std.proofs.Common.{◌≡◌, ℕ, suc, ◌+◌, ◌≤◌, Bool, true, false, cond, ◌&&◌, List, [], ◌∷◌, Some, None, refl, ap, ◌∙◌, sym}
use Rattle.std.proofs.Common.{subst, eqb, filter, find, get_or, length, is_some, unwrap_or, true≢false, arith}
use Rattle.std.specs.List.{All, AllPairs}
use Rattle.std.proofs.lemmas.Bool.{eqb-true, ne_eqb, eqb-false}
use Rattle.std.proofs.lemmas.List.Elements.{All-head, All-tail}
use Rattle.rad_rows.specs.Rows.{has_number, has_other}
use Rattle.rad_rows.specs.Rows.{IsBefore}
use Rattle.rad_rows.proofs.OrderLemmas.{IsAfter, rest_after, rising_rest}

-- both conditions hold
pub both : (a b : Bool) → (a && b) ≡ true → (a ≡ true) × (b ≡ true)
both true true h = (refl, refl)
both true false h = absurd (true≢false (sym h))
both false b h = absurd (true≢false (sym h))

-- ---- finding a row

-- where none passes, none is found
pub none_passes : {T : Type 0} (p : T → Bool) (rows : List T) → All (λ row. p row ≡ false) rows → find p rows ≡ None
none_passes p [] h = refl
none_passes p (row ∷ rows) h =
    rw (All-head (λ row. p row ≡ false) row rows h) (none_passes p rows (All-tail (λ row. p row ≡ false) row rows h))

-- what passes has this number
pub record Means {T : Type 0} (number : T → ℕ) (p : T → Bool) (n : ℕ) (row : T) : Type 0 where
  -- what is live and has the number has it
  pub means : p row ≡ true → number row ≡ n

-- a row of another number doesn't pass
other_fails : {T : Type 0} (number : T → ℕ) (p : T → Bool) (n : ℕ) (row : T) → Means number p n row → (number row ≡ n → ⊥)
    → p row ≡ false
other_fails number p n row m other = by_test (p row) refl
  where
    by_test : (b : Bool) → p row ≡ b → p row ≡ false
    by_test true e = absurd (other (m.means e))
    by_test false e = e

module _ {T : Type 0} (number : T → ℕ) (p : T → Bool) (n : ℕ) where
  -- where the only number that may pass is of no row, none is found
  pub find_none : (rows : List T) → All (Means number p n) rows → find (has_number number n) rows ≡ None → find p rows ≡ None
  find_none [] h at = refl
  find_none (row ∷ rows) h at = by_test (eqb (number row) n) refl (find_none rows (All-tail (Means number p n) row rows h))
    where
      by_test : (b : Bool) → eqb (number row) n ≡ b → (find (has_number number n) rows ≡ None → find p rows ≡ None)
          → find p (row ∷ rows) ≡ None
      by_test true e more =
          absurd (true≢false (ap is_some (sym (ap (λ b. cond b (Some row) (find (has_number number n) rows)) e) ∙ at)))
      by_test false e more = rw (other_fails number p n row (All-head (Means number p n) row rows h) (eqb-false (number row) n e))
          (more (sym (ap (λ b. cond b (Some row) (find (has_number number n) rows)) e) ∙ at))

  -- where it is of a row that passes, that is found
  pub find_true : (rows : List T) (x : T) → All (Means number p n) rows → find (has_number number n) rows ≡ Some x → p x ≡ true
      → find p rows ≡ Some x
  find_true [] x h at passes = absurd (true≢false (ap is_some (sym at)))
  find_true (row ∷ rows) x h at passes =
      by_test (eqb (number row) n) refl (λ at. find_true rows x (All-tail (Means number p n) row rows h) at passes)
    where
      by_test : (b : Bool) → eqb (number row) n ≡ b → (find (has_number number n) rows ≡ Some x → find p rows ≡ Some x)
          → find p (row ∷ rows) ≡ Some x
      by_test true e more =
          let is : row ≡ x =
          ap (λ o. unwrap_or o row) (sym (ap (λ b. cond b (Some row) (find (has_number number n) rows)) e) ∙ at) in
          rw (ap p is ∙ passes) (ap Some is)
      by_test false e more = rw (other_fails number p n row (All-head (Means number p n) row rows h) (eqb-false (number row) n e))
          (more (sym (ap (λ b. cond b (Some row) (find (has_number number n) rows)) e) ∙ at))

  -- where it is of a row that fails, none is found
  pub find_false : (rows : List T) (x : T) → AllPairs (IsBefore number) rows → All (Means number p n) rows
      → find (has_number number n) rows ≡ Some x → p x ≡ false → find p rows ≡ None
  find_false [] x rising h at fails = refl
  find_false (row ∷ rows) x rising h at fails =
      by_test (eqb (number row) n) refl
      (λ at. find_false rows x (rising_rest number row rows (row ∷ rows) refl rising) (All-tail (Means number p n) row rows h)
      at fails)
    where
      by_test : (b : Bool) → eqb (number row) n ≡ b → (find (has_number number n) rows ≡ Some x → find p rows ≡ None)
          → find p (row ∷ rows) ≡ None
      by_test true e more =
          let is : row ≡ x =
          ap (λ o. unwrap_or o row) (sym (ap (λ b. cond b (Some row) (find (has_number number n) rows)) e) ∙ at) in
          let here : number row ≡ n = eqb-true (number row) n e in
          let after : All (IsAfter number (number row)) rows = rest_after number row rows (row ∷ rows) refl rising in
          rw (ap p is ∙ fails) (none_passes p rows
          (λ k d lt. other_fails number p n _ (All-tail (Means number p n) row rows h k d lt)
          (λ same. absurd (omega (arith, (after k d lt).lt, same, here)))))
      by_test false e more = rw (other_fails number p n row (All-head (Means number p n) row rows h) (eqb-false (number row) n e))
          (more (sym (ap (λ b. cond b (Some row) (find (has_number number n) rows)) e) ∙ at))

-- ---- without a row

module _ {T : Type 0} (number : T → ℕ) (n : ℕ) where
  -- without a number that is of no row there are as many
  pub others_none : (rows : List T) → find (has_number number n) rows ≡ None
      → length (filter (has_other number n) rows) ≡ length rows
  others_none [] at = refl
  others_none (row ∷ rows) at = by_test (eqb (number row) n) refl (others_none rows)
    where
      by_test : (b : Bool) → eqb (number row) n ≡ b
          → (find (has_number number n) rows ≡ None → length (filter (has_other number n) rows) ≡ length rows)
          → length (filter (has_other number n) (row ∷ rows)) ≡ length (row ∷ rows)
      by_test true e more =
          absurd (true≢false (ap is_some (sym (ap (λ b. cond b (Some row) (find (has_number number n) rows)) e) ∙ at)))
      by_test false e more = rw (e) (ap suc (more (sym (ap (λ b. cond b (Some row) (find (has_number number n) rows)) e) ∙ at)))

  -- a number below all of them is of no row
  all_others : (rows : List T) (low : ℕ) → n ≤ low → All (IsAfter number low) rows → filter (has_other number n) rows ≡ rows
  all_others [] low le h = refl
  all_others (row ∷ rows) low le h =
      rw (ne_eqb (number row) n (λ e. absurd (omega (arith, (All-head (IsAfter number low) row rows h).lt, e, le))))
      (ap (λ l. row ∷ l) (all_others rows low le (All-tail (IsAfter number low) row rows h)))

  -- without the number of a row there is one less
  pub others_some : (rows : List T) (x : T) → AllPairs (IsBefore number) rows → find (has_number number n) rows ≡ Some x
      → length (filter (has_other number n) rows) + 1 ≡ length rows
  others_some [] x rising at = absurd (true≢false (ap is_some (sym at)))
  others_some (row ∷ rows) x rising at =
      by_test (eqb (number row) n) refl (others_some rows x (rising_rest number row rows (row ∷ rows) refl rising))
    where
      by_test : (b : Bool) → eqb (number row) n ≡ b
          → (find (has_number number n) rows ≡ Some x → length (filter (has_other number n) rows) + 1 ≡ length rows)
          → length (filter (has_other number n) (row ∷ rows)) + 1 ≡ length (row ∷ rows)
      by_test true e more =
          let rest : filter (has_other number n) rows ≡ rows =
          all_others rows (number row) (omega (arith, eqb-true (number row) n e))
          (rest_after number row rows (row ∷ rows) refl rising) in
          rw (e) (omega (arith, ap length rest))
      by_test false e more =
          rw (e) (omega (arith, more (sym (ap (λ b. cond b (Some row) (find (has_number number n) rows)) e) ∙ at)))

-- ---- finding a row among those that pass

-- to find among those that pass is to find what passes both
pub find_filter : {T : Type 0} (p q : T → Bool) (xs : List T) → find q (filter p xs) ≡ find (λ x. p x && q x) xs
find_filter p q [] = refl
find_filter {T} p q (x ∷ xs) = by_test (p x) refl (find_filter p q xs)
  where
    by_test : (b : Bool) → p x ≡ b → find q (filter p xs) ≡ find (λ x. p x && q x) xs
        → find q (filter p (x ∷ xs)) ≡ find (λ x. p x && q x) (x ∷ xs)
    by_test true e more = rw (e) (ap (λ o. cond (q x) (Some x) o) more)
    by_test false e more = rw (e) more

-- what is found passes
pub found_holds : {T : Type 0} (P : T → Type 0) (q : T → Bool) (rows : List T) (x : T) → All P rows → find q rows ≡ Some x
    → P x × (q x ≡ true)
found_holds P q [] x h at = absurd (true≢false (ap is_some (sym at)))
found_holds {T} P q (y ∷ ys) x h at = by_test (q y) refl (found_holds P q ys x (All-tail P y ys h))
  where
    by_test : (b : Bool) → q y ≡ b → (find q ys ≡ Some x → P x × (q x ≡ true)) → P x × (q x ≡ true)
    by_test true e more =
        let is : y ≡ x = ap (λ o. unwrap_or o y) (sym (ap (λ b. cond b (Some y) (find q ys)) e) ∙ at) in
        (subst P is (All-head P y ys h), subst (λ z. q z ≡ true) is e)
    by_test false e more = more (sym (ap (λ b. cond b (Some y) (find q ys)) e) ∙ at)

module _ {T : Type 0} (number : T → ℕ) (n : ℕ) (live : T → Bool) (rows : List T) where
  means : All (Means number (λ row. live row && has_number number n row) n) rows
  means = λ k d lt. record {
    means =
        λ h. eqb-true (number (get_or rows k d)) n (both (live (get_or rows k d)) (eqb (number (get_or rows k d)) n) h).1;
  }

  -- a number of no row is of no live row
  pub live_none : find (has_number number n) rows ≡ None → find (has_number number n) (filter live rows) ≡ None
  live_none none =
      find_filter live (has_number number n) rows ∙ find_none number (λ row. live row && has_number number n row) n rows means none

  module _ (x : T) where
    -- that of a live row is of that row among the live ones
    pub live_true : find (has_number number n) rows ≡ Some x → live x ≡ true
        → find (has_number number n) (filter live rows) ≡ Some x
    live_true there lives =
        let here : (live x && has_number number n x) ≡ true =
        ap (λ b. b && has_number number n x) lives
        ∙ (found_holds (λ row. Unit {0}) (has_number number n) rows x (λ k d lt. cc) there).1 in
        find_filter live (has_number number n) rows
        ∙ find_true number (λ row. live row && has_number number n row) n rows x means there here

    -- that of another row is of no live row
    pub live_false : AllPairs (IsBefore number) rows → find (has_number number n) rows ≡ Some x → live x ≡ false
        → find (has_number number n) (filter live rows) ≡ None
    live_false rising there dead =
        find_filter live (has_number number n) rows
        ∙ find_false number (λ row. live row && has_number number n row) n rows x rising means there
        (ap (λ b. b && has_number number n x) dead)

use Rattle.std.proofs.Common.{◌≡◌, ℕ, zero, suc, ◌+◌, ◌≤◌, ◌<◌, List, [], ◌∷◌, Bool, true, false, arith, refl, ap, ◌∙◌, sym, filter}
use Rattle.std.proofs.Common.{map, subst, get_or, eqb, find, cond, Option, Some, None, slice_get, position}
use Rattle.std.specs.List.{All}
use Rattle.std.specs.Option.{option_or}
use Rattle.std.specs.Map.{keys_of, values_of, lookup}
use Rattle.std.proofs.lemmas.Bool.{eqb-true, ne_eqb, eqb-false}
use Rattle.std.proofs.lemmas.List.Elements.{All-head, All-tail}
use Rattle.std.proofs.lemmas.List.Folds.{find-append}
use Rattle.std.proofs.lemmas.List.Quantifiers.{position-Some}
use Rattle.indexmap.specs.IndexMap.{set_value_at}
use Rattle.rad_rows.specs.Blocks.{SeenBlock, block_changed, block_without, with_rows}
use Rattle.rad_rows.specs.Entries.{Ascends, BelongsTo, Entry, IsPlaced, all_rows, key_of, on_blocks}
use Rattle.rad_rows.specs.Rows.{change_row, has_number, has_other}
use Rattle.rad_rows.proofs.EntryLemmas.{not_none, some_is}

module _ {T : Type 0} (number : T → ℕ) (n : ℕ) where
  -- ---- rows that belong to another block

  other_row : (key : ℕ) (row : T) → BelongsTo number key row → (key_of n ≡ key → ⊥) → eqb (number row) n ≡ false
  other_row key row is other = ne_eqb (number row) n (λ e. other (ap key_of (sym e) ∙ is.belongs))

  pub filter_others : (key : ℕ) (rows : List T) → All (BelongsTo number key) rows → (key_of n ≡ key → ⊥)
      → filter (has_other number n) rows ≡ rows
  filter_others key [] h other = refl
  filter_others key (row ∷ rows) h other =
      rw (other_row key row (All-head (BelongsTo number key) row rows h) other)
      (ap (λ l. row ∷ l) (filter_others key rows (All-tail (BelongsTo number key) row rows h) other))

  pub map_others : (to : T → T) (key : ℕ) (rows : List T) → All (BelongsTo number key) rows → (key_of n ≡ key → ⊥)
      → map (change_row number n to) rows ≡ rows
  map_others to key [] h other = refl
  map_others to key (row ∷ rows) h other =
      rw (other_row key row (All-head (BelongsTo number key) row rows h) other)
      (ap (λ l. row ∷ l) (map_others to key rows (All-tail (BelongsTo number key) row rows h) other))

  pub find_others : (key : ℕ) (rows : List T) → All (BelongsTo number key) rows → (key_of n ≡ key → ⊥)
      → find (has_number number n) rows ≡ None
  find_others key [] h other = refl
  find_others key (row ∷ rows) h other =
      rw (other_row key row (All-head (BelongsTo number key) row rows h) other)
      (find_others key rows (All-tail (BelongsTo number key) row rows h) other)

  module _ {S : Type 0} where
    -- ---- the place of a key

    pub ascends_at : (low : ℕ) (es : List (Entry T S)) (i k : ℕ) (v : SeenBlock T S) → Ascends low (keys_of es)
        → slice_get es i ≡ Some (k, v) → low ≤ k
    ascends_at low [] zero k v a h = not_none (k, v) h
    ascends_at low [] (suc i) k v a h = not_none (k, v) h
    ascends_at low (e ∷ es) zero k v a h = let is : e.0 ≡ k = ap (λ (p : Entry T S). p.0) (some_is e (k, v) h) in
        omega (arith, a.0, is)
    ascends_at low (e ∷ es) (suc i) k v a h = omega (arith, ascends_at (e.0 + 1) es i k v a.1 h, a.0)

    pub entry_from : (es : List (Entry T S)) (i k d : ℕ) (v : SeenBlock T S) → slice_get (values_of es) i ≡ Some v
        → get_or (keys_of es) i d ≡ k → slice_get es i ≡ Some (k, v)
    entry_from [] zero k d v h e = not_none v h
    entry_from [] (suc i) k d v h e = not_none v h
    entry_from (x ∷ es) zero k d v h e = λ j. Some (e j, some_is x.1 v h j)
    entry_from (x ∷ es) (suc i) k d v h e = entry_from es i k d v h e

    pub entry_at_key : (es : List (Entry T S)) (i k : ℕ) (v : SeenBlock T S) → position (eqb k) (keys_of es) ≡ Some i
        → slice_get (values_of es) i ≡ Some v → slice_get es i ≡ Some (k, v)
    entry_at_key es i k v at h =
        entry_from es i k 0 v h (sym (eqb-true k (get_or (keys_of es) i 0) (position-Some (eqb k) (keys_of es) i 0 at).1))

    -- ---- finding

    pub find_none : (es : List (Entry T S)) → All (IsPlaced number) es → lookup (eqb (key_of n)) es ≡ None
        → find (has_number number n) (all_rows es) ≡ None
    find_none [] h none = refl
    find_none (e ∷ es) h none = by_test (find_none es (All-tail (IsPlaced number) e es h)) (eqb (key_of n) e.0) refl
      where
        by_test : (lookup (eqb (key_of n)) es ≡ None → find (has_number number n) (all_rows es) ≡ None) → (b : Bool)
            → eqb (key_of n) e.0 ≡ b → find (has_number number n) (all_rows (e ∷ es)) ≡ None
        by_test rest true is = not_none e.1 (sym none ∙ ap (λ b. cond b (Some e.1) (lookup (eqb (key_of n)) es)) is)
        by_test rest false is =
            find-append (has_number number n) e.1.rows (all_rows es)
            ∙ ap (λ o. option_or o (find (has_number number n) (all_rows es)))
            (find_others e.0 e.1.rows (All-head (IsPlaced number) e es h).rows (eqb-false (key_of n) e.0 is))
            ∙ rest (sym (ap (λ b. cond b (Some e.1) (lookup (eqb (key_of n)) es)) is) ∙ none)

    pub find_above : (es : List (Entry T S)) → All (IsPlaced number) es → Ascends (key_of n + 1) (keys_of es)
        → find (has_number number n) (all_rows es) ≡ None
    find_above = above (key_of n + 1) (omega arith)
      where
        above : (low : ℕ) → key_of n < low → (es : List (Entry T S)) → All (IsPlaced number) es → Ascends low (keys_of es)
            → find (has_number number n) (all_rows es) ≡ None
        above low lt [] h a = refl
        above low lt (e ∷ es) h a =
            find-append (has_number number n) e.1.rows (all_rows es)
            ∙ ap (λ o. option_or o (find (has_number number n) (all_rows es)))
            (find_others e.0 e.1.rows (All-head (IsPlaced number) e es h).rows (λ e. absurd (omega arith)))
            ∙ above (e.0 + 1) (omega arith) es (All-tail (IsPlaced number) e es h) a.1

    pub find_at : (low : ℕ) (es : List (Entry T S)) (i : ℕ) (v : SeenBlock T S) → Ascends low (keys_of es)
        → All (IsPlaced number) es
        → slice_get es i ≡ Some (key_of n, v)
        → find (has_number number n) (all_rows es) ≡ find (has_number number n) v.rows
    find_at low [] zero v a h at = not_none (key_of n, v) at
    find_at low [] (suc i) v a h at = not_none (key_of n, v) at
    find_at low (e ∷ es) zero v a h at =
        let is = some_is e (key_of n, v) at in
        let key : e.0 ≡ key_of n = ap (λ (p : Entry T S). p.0) is in
        let rest : find (has_number number n) (all_rows es) ≡ None =
        find_above es (All-tail (IsPlaced number) e es h) (subst (λ k. Ascends (k + 1) (keys_of es)) key a.1) in
        find-append (has_number number n) e.1.rows (all_rows es)
        ∙ ap (λ o. option_or (find (has_number number n) e.1.rows) o) rest
        ∙ or_none (find (has_number number n) e.1.rows)
        ∙ ap (λ (p : Entry T S). find (has_number number n) p.1.rows) is
      where
        or_none : (o : Option T) → option_or o None ≡ o
        or_none None = refl
        or_none (Some x) = refl
    find_at low (e ∷ es) (suc i) v a h at =
        let above : e.0 + 1 ≤ key_of n = ascends_at (e.0 + 1) es i (key_of n) v a.1 at in
        find-append (has_number number n) e.1.rows (all_rows es)
        ∙ ap (λ o. option_or o (find (has_number number n) (all_rows es)))
        (find_others e.0 e.1.rows (All-head (IsPlaced number) e es h).rows (λ e. absurd (omega arith)))
        ∙ find_at (e.0 + 1) es i v a.1 (All-tail (IsPlaced number) e es h) at

    -- ---- a change of one block, which changes no other

    module _ (f : SeenBlock T S → SeenBlock T S)
        (skip : (key : ℕ) (b : SeenBlock T S) → All (BelongsTo number key) b.rows → (key_of n ≡ key → ⊥) → f b ≡ b) where
      pub none_touched : (es : List (Entry T S)) → All (IsPlaced number) es → lookup (eqb (key_of n)) es ≡ None
          → on_blocks f es ≡ es
      none_touched [] h none = refl
      none_touched (e ∷ es) h none = by_test (none_touched es (All-tail (IsPlaced number) e es h)) (eqb (key_of n) e.0) refl
        where
          by_test : (lookup (eqb (key_of n)) es ≡ None → on_blocks f es ≡ es) → (b : Bool) → eqb (key_of n) e.0 ≡ b
              → on_blocks f (e ∷ es) ≡ e ∷ es
          by_test more true is = not_none e.1 (sym none ∙ ap (λ b. cond b (Some e.1) (lookup (eqb (key_of n)) es)) is)
          by_test more false is =
              let here : f e.1 ≡ e.1 = skip e.0 e.1 (All-head (IsPlaced number) e es h).rows (eqb-false (key_of n) e.0 is) in
              let rest : on_blocks f es ≡ es = more (sym (ap (λ b. cond b (Some e.1) (lookup (eqb (key_of n)) es)) is) ∙ none) in
              λ j. (e.0, here j) ∷ rest j

      above_touched : (low : ℕ) → key_of n < low → (es : List (Entry T S)) → All (IsPlaced number) es → Ascends low (keys_of es)
          → on_blocks f es ≡ es
      above_touched low lt [] h a = refl
      above_touched low lt (e ∷ es) h a =
          let here : f e.1 ≡ e.1 = skip e.0 e.1 (All-head (IsPlaced number) e es h).rows (λ e. absurd (omega arith)) in
          let rest : on_blocks f es ≡ es = above_touched (e.0 + 1) (omega arith) es (All-tail (IsPlaced number) e es h) a.1 in
          λ j. (e.0, here j) ∷ rest j

      pub one_touched : (low : ℕ) (es : List (Entry T S)) (i : ℕ) (v w : SeenBlock T S) → Ascends low (keys_of es)
          → All (IsPlaced number) es → slice_get es i ≡ Some (key_of n, v) → w ≡ f v
          → set_value_at es i w ≡ on_blocks f es
      one_touched low [] zero v w a h at is = not_none (key_of n, v) at
      one_touched low [] (suc i) v w a h at is = not_none (key_of n, v) at
      one_touched low (e ∷ es) zero v w a h at is =
          let same = some_is e (key_of n, v) at in
          let key : e.0 ≡ key_of n = ap (λ (p : Entry T S). p.0) same in
          let rest : on_blocks f es ≡ es = above_touched (e.0 + 1) (omega arith) es (All-tail (IsPlaced number) e es h) a.1 in
          let here : w ≡ f e.1 = is ∙ sym (ap (λ (p : Entry T S). f p.1) same) in
          λ j. (e.0, here j) ∷ sym rest j
      one_touched low (e ∷ es) (suc i) v w a h at is =
          let above : e.0 + 1 ≤ key_of n = ascends_at (e.0 + 1) es i (key_of n) v a.1 at in
          let here : f e.1 ≡ e.1 = skip e.0 e.1 (All-head (IsPlaced number) e es h).rows (λ e. absurd (omega arith)) in
          let rest = one_touched (e.0 + 1) es i v w a.1 (All-tail (IsPlaced number) e es h) at is in
          λ j. (e.0, sym here j) ∷ rest j

    pub skip_without : (key : ℕ) (b : SeenBlock T S) → All (BelongsTo number key) b.rows → (key_of n ≡ key → ⊥)
        → block_without number n b ≡ b
    skip_without key b h other = ap (with_rows b) (filter_others key b.rows h other)

    pub skip_changed : (to : T → T) (key : ℕ) (b : SeenBlock T S) → All (BelongsTo number key) b.rows → (key_of n ≡ key → ⊥)
        → block_changed number n to b ≡ b
    skip_changed to key b h other = ap (with_rows b) (map_others to key b.rows h other)

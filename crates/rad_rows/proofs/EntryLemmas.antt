use Rattle.std.proofs.Common.{◌≡◌, ℕ, zero, suc, ◌+◌, ◌-◌, ◌≤◌, List, [], ◌∷◌, ◌++◌, Bool, false, arith, refl, ap, ◌∙◌, sym, filter}
use Rattle.std.proofs.Common.{subst, take, drop, length, Option, Some, None, slice_get, unwrap_or, is_some, true≢false, add-one}
use Rattle.std.specs.List.{All, FoldsTo}
use Rattle.std.specs.Map.{values_of}
use Rattle.std.proofs.lemmas.List.{length-append}
use Rattle.std.proofs.lemmas.List.Elements.{All-head, All-tail, filter-append}
use Rattle.indexmap.specs.IndexMap.{set_value_at}
use Rattle.rad_rows.specs.Blocks.{SeenBlock, block_without, cut_block}
use Rattle.rad_rows.specs.Entries.{Entry, EntryLives, all_rows, on_block, on_blocks}
use Rattle.rad_rows.specs.Rows.{Tells, has_other, is_dead}
use Rattle.rad_rows.proofs.BlockLemmas.{all_lives_less, filter_less, folds_join}

-- what stands at a place
pub some_is : {X : Type 0} (x y : X) → Some x ≡ Some y → x ≡ y
some_is x y e = ap (λ o. unwrap_or o x) e

pub not_none : {X Y : Type 0} (y : Y) → None ≡ Some y → X
not_none y e = absurd (true≢false (sym (ap is_some e)))

module _ {T S : Type 0} where
  -- ---- one block after the other

  -- one more block is changed
  pub blocks_more : (f : SeenBlock T S → SeenBlock T S) (es : List (Entry T S)) (i : ℕ) (v : SeenBlock T S)
      → slice_get (values_of (on_blocks f (take i es) ++ drop i es)) i ≡ Some v
      → set_value_at (on_blocks f (take i es) ++ drop i es) i (f v) ≡ on_blocks f (take (suc i) es) ++ drop (suc i) es
  blocks_more f [] zero v h = not_none v h
  blocks_more f [] (suc i) v h = not_none v h
  blocks_more f (e ∷ es) zero v h = rw (some_is e.1 v h) refl
  blocks_more f (e ∷ es) (suc i) v h = ap (λ l. on_block f e ∷ l) (blocks_more f es i v h)

  -- the block that is next was not changed
  pub next_block : (f : SeenBlock T S → SeenBlock T S) (es : List (Entry T S)) (i : ℕ)
      → slice_get (values_of (on_blocks f (take i es) ++ drop i es)) i ≡ slice_get (values_of es) i
  next_block f [] zero = refl
  next_block f [] (suc i) = refl
  next_block f (e ∷ es) zero = refl
  next_block f (e ∷ es) (suc i) = next_block f es i

  -- the rows from the i-th block on
  pub rows_from : (es : List (Entry T S)) (i : ℕ) (v : SeenBlock T S) → slice_get (values_of es) i ≡ Some v
      → all_rows (drop i es) ≡ v.rows ++ all_rows (drop (suc i) es)
  rows_from [] zero v h = not_none v h
  rows_from [] (suc i) v h = not_none v h
  rows_from (e ∷ es) zero v h = ap (λ (b : SeenBlock T S). b.rows ++ all_rows es) (some_is e.1 v h)
  rows_from (e ∷ es) (suc i) v h = rows_from es i v h

  -- how many rows there are with another block
  pub length_set : (es : List (Entry T S)) (i : ℕ) (v w : SeenBlock T S) → slice_get (values_of es) i ≡ Some v
      → length (all_rows (set_value_at es i w)) + length v.rows ≡ length (all_rows es) + length w.rows
  length_set [] zero v w h = not_none v h
  length_set [] (suc i) v w h = not_none v h
  length_set (e ∷ es) zero v w h =
      rw (← some_is e.1 v h) (omega (arith, length-append e.1.rows (all_rows es), length-append w.rows (all_rows es)))
  length_set (e ∷ es) (suc i) v w h =
      omega (
        arith,
        length_set es i v w h,
        length-append e.1.rows (all_rows (set_value_at es i w)),
        length-append e.1.rows (all_rows es),
      )

  -- the i-th block has no more rows than all
  pub length_part : (es : List (Entry T S)) (i : ℕ) (v : SeenBlock T S) → slice_get (values_of es) i ≡ Some v
      → length v.rows ≤ length (all_rows es)
  length_part [] zero v h = not_none v h
  length_part [] (suc i) v h = not_none v h
  length_part (e ∷ es) zero v h = rw (← some_is e.1 v h) (omega (arith, length-append e.1.rows (all_rows es)))
  length_part (e ∷ es) (suc i) v h = omega (arith, length_part es i v h, length-append e.1.rows (all_rows es))

  -- what holds of each block holds of the i-th
  pub block_holds : (P : Entry T S → Type 0) (es : List (Entry T S)) (i : ℕ) (v : SeenBlock T S)
      → slice_get (values_of es) i ≡ Some v
      → All P es → (key : ℕ) × P (key, v)
  block_holds P [] zero v h k = not_none v h
  block_holds P [] (suc i) v h k = not_none v h
  block_holds P (e ∷ es) zero v h k = (e.0, subst (λ b. P (e.0, b)) (some_is e.1 v h) (All-head P e es k))
  block_holds P (e ∷ es) (suc i) v h k = block_holds P es i v h (All-tail P e es k)

  -- ---- a moment

  module _ (live : S → ℕ → T → Bool) where
    pub entry_lives_less : (late early : ℕ) (e : Entry T S) → early ≤ late → EntryLives live late e → EntryLives live early e
    entry_lives_less late early e le h =
        record { block = record { rows = all_lives_less live e.1.spans late early e.1.rows le h.block.rows } }

    -- told of the i-th block, and then of those after it
    pub told_step : {G : Type 0} (step : G → T → G → Type 0) (spans : S) (now : ℕ) (es : List (Entry T S)) (i : ℕ)
        (v : SeenBlock T S)
        (whole : List T) (first tally next : G) → slice_get (values_of es) i ≡ Some v → v.spans ≡ spans
        → Tells step live v.spans now v.rows tally next
        → ((last : G) → Tells step live spans now (all_rows (drop i es)) tally last → Tells step live spans now whole first last)
        → (last : G) → Tells step live spans now (all_rows (drop (i + 1) es)) next last → Tells step live spans now whole first last
    told_step {G} step spans now es i v whole first tally next h same is before last more =
        before last (subst (λ rows. Tells step live spans now rows tally last) (sym (rows_from es i v h))
        (subst (λ rows. FoldsTo step tally rows last)
        (sym (filter-append (is_dead live spans now) v.rows (all_rows (drop (suc i) es))))
        (folds_join step (filter (is_dead live spans now) v.rows) (filter (is_dead live spans now) (all_rows (drop (suc i) es)))
        tally next last (subst (λ s. Tells step live s now v.rows tally next) same is)
        (subst (λ n. Tells step live spans now (all_rows (drop n es)) next last) (add-one i) more))))

    -- the rows of a block that was cut
    pub cut_length : (now : ℕ) (v w : SeenBlock T S) → w ≡ cut_block live now v → length w.rows ≤ length v.rows
    cut_length now v w is =
        let e : length w.rows ≡ length (filter (live v.spans now) v.rows) = ap (λ (b : SeenBlock T S). length b.rows) is in
        omega (arith, e, filter_less (live v.spans now) v.rows)

  -- one more block is changed, where those before are
  pub entries_more : (f : SeenBlock T S → SeenBlock T S) (es ys : List (Entry T S)) (i : ℕ) (v w : SeenBlock T S)
      → ys ≡ on_blocks f (take i es) ++ drop i es → slice_get (values_of ys) i ≡ Some v → w ≡ f v
      → set_value_at ys i w ≡ on_blocks f (take (i + 1) es) ++ drop (i + 1) es
  entries_more f es ys i v w is here new =
      ap (λ l. set_value_at l i w) is ∙ ap (λ b. set_value_at (on_blocks f (take i es) ++ drop i es) i b) new
      ∙ rw add-one (blocks_more f es i v (sym (ap (λ l. slice_get (values_of l) i) is) ∙ here))

  pub old_block : (f : SeenBlock T S → SeenBlock T S) (es ys : List (Entry T S)) (i : ℕ) (v : SeenBlock T S)
      → ys ≡ on_blocks f (take i es) ++ drop i es → slice_get (values_of ys) i ≡ Some v → slice_get (values_of es) i ≡ Some v
  old_block f es ys i v is here = sym (next_block f es i) ∙ sym (ap (λ l. slice_get (values_of l) i) is) ∙ here

  -- how many rows there are after one block lost some
  pub count_more : (es : List (Entry T S)) (i : ℕ) (v w : SeenBlock T S) (count before after : ℕ)
      → slice_get (values_of es) i ≡ Some v
      → before ≡ length v.rows → after ≡ length w.rows → after ≤ before → count ≡ length (all_rows es)
      → count - (before - after) ≡ length (all_rows (set_value_at es i w))
  count_more es i v w count before after here b a le is =
      omega (arith, length_set es i v w here, length_part es i v here)

  -- there are as many blocks as before
  pub as_many : (f : SeenBlock T S → SeenBlock T S) (es ys : List (Entry T S)) (i : ℕ) → ys ≡ on_blocks f (take i es) ++ drop i es
      → length ys ≡ length es
  as_many f es ys i is = ap length is ∙ many f es i
    where
      many : (f : SeenBlock T S → SeenBlock T S) (es : List (Entry T S)) (i : ℕ)
          → length (on_blocks f (take i es) ++ drop i es) ≡ length es
      many f [] zero = refl
      many f [] (suc i) = refl
      many f (e ∷ es) zero = refl
      many f (e ∷ es) (suc i) = ap suc (many f es i)

  pub without_length : (number : T → ℕ) (n : ℕ) (v w : SeenBlock T S) → w ≡ block_without number n v → length w.rows ≤ length v.rows
  without_length number n v w is =
      let e : length w.rows ≡ length (filter (has_other number n) v.rows) = ap (λ (b : SeenBlock T S). length b.rows) is in
      omega (arith, e, filter_less (has_other number n) v.rows)

-- nothing is there
pub no_some : {X : Type 0} (o : Option X) → false ≡ is_some o → o ≡ None
no_some None e = refl
no_some (Some x) e = absurd (true≢false (sym e))

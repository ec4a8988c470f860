-- One block after the other: those whose rows all live longer are passed over.
use Rattle.std.proofs.Common.{◌≡◌, ◌≢◌, ℕ, zero, suc, ◌/◌, ◌%◌, ◌≤◌, ◌<◌, List, [], ◌∷◌, ◌++◌, Bool, arith, refl, ap, ◌∙◌, sym}
use Rattle.std.proofs.Common.{filter, subst, take, drop, length, get_or, inl, inr}
use Rattle.std.specs.List.{All, FoldsTo}
use Rattle.std.proofs.lemmas.Bool.{cases_eq}
use Rattle.std.proofs.lemmas.List.Elements.{All-head, All-tail, filter-append}
use Rattle.rad_rows.specs.Blocks.{LivesUntil, cut_block, with_rows}
use Rattle.rad_rows.specs.Entries.{Entry, EntryLives, HasSpans, IsGrouped, all_rows, on_block, on_blocks}
use Rattle.rad_rows.specs.Rows.{Tells, is_dead, moment_max}
use Rattle.rad_rows.proofs.BlockLemmas.{filter_live, none_dead}
use Rattle.rad_rows.proofs.EntryLemmas.{as_many}

module _ {T S : Type 0} (live : S → ℕ → T → Bool) (now : ℕ) (small : now ≤ moment_max) where
  -- each row of the block lives longer
  pub record IsSpared (entry : Entry T S) : Type 0 where
    pub bound : ℕ
    pub later : now < bound
    pub lives : EntryLives live bound entry

  -- each block from a place up to another
  abbrev pub AreSpared : List (Entry T S) → (from to : ℕ) → Type 0
  AreSpared es from to = (place : ℕ) (d : Entry T S) → from ≤ place → place < to → place < length es → IsSpared (get_or es place d)

  rest_spared : (e : Entry T S) (es : List (Entry T S)) (from to : ℕ) → AreSpared (e ∷ es) from (suc to) → (below : ℕ)
      → from ≤ suc below
      → AreSpared es below to
  rest_spared e es from to h below le =
      λ place d a b c. h (suc place) d (omega (arith, a, le)) (omega (arith, b)) (omega (arith, c))

  spared_same : (e : Entry T S) → IsSpared e → on_block (cut_block live now) e ≡ e
  spared_same e h =
      ap (λ rows. (e.0, with_rows e.1 rows)) (filter_live live e.1.spans h.bound now e.1.rows h.later small h.lives.block.rows)

  pub spared_entries : (es : List (Entry T S)) (from to : ℕ) → from ≤ to → AreSpared es from to
      → on_blocks (cut_block live now) (take from es) ++ drop from es ≡ on_blocks (cut_block live now) (take to es) ++ drop to es
  spared_entries es zero zero le h = refl
  spared_entries [] zero (suc to) le h = refl
  spared_entries (e ∷ es) zero (suc to) le h =
      λ j. sym (spared_same e (h 0 e (omega arith) (omega arith) (omega arith))) j ∷ spared_entries es zero to (omega arith)
      (rest_spared e es zero to h zero (omega arith)) j
  spared_entries es (suc from) zero le h = absurd (omega (arith, le))
  spared_entries [] (suc from) (suc to) le h = refl
  spared_entries (e ∷ es) (suc from) (suc to) le h =
      ap (λ l. on_block (cut_block live now) e ∷ l)
      (spared_entries es from to (omega (arith, le)) (rest_spared e es (suc from) to h from (omega arith)))

  -- they have nothing to tell
  spared_dead : (spans : S) (es : List (Entry T S)) (from to : ℕ) → from ≤ to → All (HasSpans spans) es → AreSpared es from to
      → filter (is_dead live spans now) (all_rows (drop from es)) ≡ filter (is_dead live spans now) (all_rows (drop to es))
  spared_dead spans es zero zero le same h = refl
  spared_dead spans [] zero (suc to) le same h = refl
  spared_dead spans (e ∷ es) zero (suc to) le same h =
      let first = h 0 e (omega arith) (omega arith) (omega arith) in
      let none : filter (is_dead live spans now) e.1.rows ≡ [] =
      none_dead live spans first.bound now e.1.rows first.later small
      (subst (λ s. All (LivesUntil live s first.bound) e.1.rows) (All-head (HasSpans spans) e es same).same
      first.lives.block.rows) in
      filter-append (is_dead live spans now) e.1.rows (all_rows es)
      ∙ ap (λ l. l ++ filter (is_dead live spans now) (all_rows es)) none
      ∙ spared_dead spans es zero to (omega arith) (All-tail (HasSpans spans) e es same)
      (rest_spared e es zero to h zero (omega arith))
  spared_dead spans es (suc from) zero le same h = absurd (omega (arith, le))
  spared_dead spans [] (suc from) (suc to) le same h = refl
  spared_dead spans (e ∷ es) (suc from) (suc to) le same h =
      spared_dead spans es from to (omega (arith, le)) (All-tail (HasSpans spans) e es same)
      (rest_spared e es (suc from) to h from (omega arith))

  pub spared_told : {G : Type 0} (told : G → T → G → Type 0) (spans : S) (es : List (Entry T S)) (from to : ℕ) (tally : G)
      (Before : G → Type 0) → from ≤ to → All (HasSpans spans) es → AreSpared es from to
      → ((last : G) → Tells told live spans now (all_rows (drop from es)) tally last → Before last)
      → (last : G) → Tells told live spans now (all_rows (drop to es)) tally last → Before last
  spared_told told spans es from to tally Before le same h before last more =
      before last (subst (λ rows. FoldsTo told tally rows last) (sym (spared_dead spans es from to le same h)) more)

  -- by the bounds of the groups
  pub spared_bounds : (bounds : List ℕ) (es : List (Entry T S)) (from to : ℕ) → IsGrouped live from bounds es
      → (from % 64 ≢ 0 → to ≡ from)
      → ((place : ℕ) → from ≤ place → place < to → now < get_or bounds (place / 64) 0) → AreSpared es from to
  spared_bounds bounds es from to h begun later = λ place d low high lt. record {
    bound = get_or bounds (place / 64) 0;
    later = later place low high;
    lives = h.lives place d lt (λ le. elim (cases_eq (from % 64) 0) [
      | inl first ↦ omega (arith, first, low)
      | inr other ↦ absurd (omega (arith, begun other, low, high))
    ]);
  }

  -- blocks before a place were cut, and those after it stay the same
  pub still_spared : (es : List (Entry T S)) (from to : ℕ)
      → AreSpared (on_blocks (cut_block live now) (take from es) ++ drop from es) from to → AreSpared es from to
  still_spared es from to h = λ place d low high lt.
      subst IsSpared (rest_at es from place d low) (h place d low high (omega (arith, lt, as_long es from)))
    where
      rest_at : (es : List (Entry T S)) (from place : ℕ) (d : Entry T S) → from ≤ place
          → get_or (on_blocks (cut_block live now) (take from es) ++ drop from es) place d ≡ get_or es place d
      rest_at es zero place d le = refl
      rest_at [] (suc from) place d le = refl
      rest_at (e ∷ es) (suc from) zero d le = absurd (omega (arith, le))
      rest_at (e ∷ es) (suc from) (suc place) d le = rest_at es from place d (omega (arith, le))

      as_long : (es : List (Entry T S)) (from : ℕ)
          → length (on_blocks (cut_block live now) (take from es) ++ drop from es) ≡ length es
      as_long es from = as_many (cut_block live now) es _ from refl

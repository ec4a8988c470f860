use Rattle.std.proofs.Common.{◌≡◌, ℕ, zero, suc, ◌+◌, ◌-◌, ◌≤◌, ◌<◌, List, [], ◌∷◌, ◌++◌, Bool, true, false, arith, refl, ap, ◌∙◌}
use Rattle.std.proofs.Common.{sym, subst, length, eqb, ltb, cond, ◌&&◌, Some, None, slice_get, true≢false, ◌≢◌}
use Rattle.std.specs.List.{All}
use Rattle.std.specs.Map.{keys_of, values_of, lookup}
use Rattle.std.proofs.lemmas.Bool.{eqb-true, ne_eqb, eqb-false, eq-eqb, lt-ltb}
use Rattle.std.proofs.lemmas.List.{append-nil, append_assoc, length_push}
use Rattle.std.proofs.lemmas.List.Concat.{flat_map-append}
use Rattle.std.proofs.lemmas.List.Elements.{All-head, All-tail, All-cons, All-nil, All-push}
use Rattle.indexmap.specs.IndexMap.{set_value_at}
use Rattle.indexmap.specs.Layout.{length-set_value_at}
use Rattle.rad_rows.specs.Blocks.{SeenBlock}
use Rattle.rad_rows.specs.Entries.{Ascends, BelongsTo, Entry, HasSpans, IsPlaced, IsSound, IsUpTo, all_rows, entry_rows}
use Rattle.rad_rows.specs.Entries.{has_room_at, is_at_key, is_roomy}
use Rattle.rad_rows.proofs.EntryLemmas.{some_is}

module _ {T S : Type 0} where
  -- ---- another block at a place

  -- what holds of each entry holds still
  all_set : (P : Entry T S → Type 0) (es : List (Entry T S)) (i : ℕ) (v w : SeenBlock T S) → slice_get (values_of es) i ≡ Some v
      → ((key : ℕ) → slice_get es i ≡ Some (key, v) → P (key, v) → P (key, w)) → All P es → All P (set_value_at es i w)
  all_set P [] i v w at new h = h
  all_set P (e ∷ es) zero v w at new h =
      let same = some_is e.1 v at in
      All-cons P (e.0, w) es (new e.0 (λ j. Some (e.0, same j)) (subst (λ b. P (e.0, b)) same (All-head P e es h)))
      (All-tail P e es h)
  all_set P (e ∷ es) (suc i) v w at new h =
      All-cons P e (set_value_at es i w) (All-head P e es h) (all_set P es i v w at new (All-tail P e es h))

  keys_set : (es : List (Entry T S)) (i : ℕ) (w : SeenBlock T S) → keys_of (set_value_at es i w) ≡ keys_of es
  keys_set [] i w = refl
  keys_set (e ∷ es) zero w = refl
  keys_set (e ∷ es) (suc i) w = ap (λ l. e.0 ∷ l) (keys_set es i w)

  pub sound_set : (number : T → ℕ) (spans : S) (top : ℕ) (es : List (Entry T S)) (i : ℕ) (v w : SeenBlock T S)
      → slice_get (values_of es) i ≡ Some v → w.spans ≡ v.spans
      → ((key : ℕ) → slice_get es i ≡ Some (key, v) → All (BelongsTo number key) v.rows → All (BelongsTo number key) w.rows)
      → IsSound number spans top es → IsSound number spans top (set_value_at es i w)
  sound_set number spans top es i v w at same own s = record {
    spanned = all_set (HasSpans spans) es i v w at (λ key here h. record { same = same ∙ h.same }) s.spanned;
    placed = all_set (IsPlaced number) es i v w at (λ key here h. record { rows = own key here h.rows }) s.placed;
    ascends = subst (Ascends 0) (sym (keys_set es i w)) s.ascends;
    limited = all_set (IsUpTo top) es i v w at (λ key here h. record { le = h.le }) s.limited;
  }

  -- ---- the last block

  -- with some rows more
  pub rows_last : (es : List (Entry T S)) (i : ℕ) (v w : SeenBlock T S) (more : List T) → length es ≡ i + 1
      → slice_get (values_of es) i ≡ Some v → w.rows ≡ v.rows ++ more → all_rows (set_value_at es i w) ≡ all_rows es ++ more
  rows_last [] i v w more long at is = absurd (omega (arith, long))
  rows_last (e ∷ []) zero v w more long at is =
      append-nil w.rows ∙ is ∙ ap (λ (b : SeenBlock T S). b.rows ++ more) (sym (some_is e.1 v at))
      ∙ ap (λ l. l ++ more) (sym (append-nil e.1.rows))
  rows_last (e ∷ f ∷ es) zero v w more long at is = absurd (omega (arith, long))
  rows_last (e ∷ es) (suc i) v w more long at is =
      ap (λ l. e.1.rows ++ l) (rows_last es i v w more (omega (arith, long)) at is) ∙ sym (append_assoc e.1.rows (all_rows es) more)

  -- with memory for one more
  pub room_last : (key : ℕ) (es : List (Entry T S)) (i : ℕ) (w : SeenBlock T S) → i ≡ length es - 1
      → is_at_key key (slice_get es (length es - 1)) ≡ true → length w.rows < w.capacity
      → has_room_at key (set_value_at es i w) ≡ true
  room_last key es i w is last lt =
      ap (λ n. is_roomy key (slice_get (set_value_at es i w) n)) (omega (arith, is, length-set_value_at es i w))
      ∙ at es i (ap (λ n. is_at_key key (slice_get es n)) is ∙ last)
    where
      at : (es : List (Entry T S)) (i : ℕ) → is_at_key key (slice_get es i) ≡ true
          → is_roomy key (slice_get (set_value_at es i w) i) ≡ true
      at [] zero h = absurd (true≢false (sym h))
      at [] (suc i) h = absurd (true≢false (sym h))
      at (e ∷ es) zero h = λ j. h j && lt-ltb (length w.rows) w.capacity lt j
      at (e ∷ es) (suc i) h = at es i h

  -- where it has memory for one more, it is that of this key
  pub room_key : (key : ℕ) (es : List (Entry T S)) (i k : ℕ) (v : SeenBlock T S) → i ≡ length es - 1
      → has_room_at key es ≡ true → slice_get es i ≡ Some (k, v) → k ≡ key
  room_key key es i k v is h at =
      eqb-true k key (first (eqb k key) (ltb (length v.rows) v.capacity)
      (sym (ap (is_roomy key) at) ∙ ap (λ n. is_roomy key (slice_get es n)) is ∙ h))
    where
      first : (a b : Bool) → (a && b) ≡ true → a ≡ true
      first true b h = refl
      first false b h = h

  -- ---- a new block, which is the last then

  -- no block has the key
  pub key_is_new : (low key : ℕ) (es : List (Entry T S)) → Ascends low (keys_of es) → All (IsUpTo key) es → low ≤ key
      → is_at_key key (slice_get es (length es - 1)) ≡ false
      → (lookup (eqb key) es ≡ None) × ((b : SeenBlock T S) → Ascends low (keys_of (es ++ (key, b) ∷ [])))
  key_is_new low key [] a h le other = (refl, λ b. (le, tt))
  key_is_new low key (e ∷ []) a h le other =
      let lt : e.0 ≢ key = eqb-false e.0 key other in
      let up : e.0 ≤ key = (All-head (IsUpTo key) e [] h).le in
      (ap (λ b. cond b (Some e.1) None) (ne_eqb key e.0 (λ q. lt (sym q))), λ b. (a.0, (above e.0 up lt, tt)))
    where
      above : (k : ℕ) → k ≤ key → (k ≡ key → ⊥) → k + 1 ≤ key
      above k le ne = omega arith
  key_is_new low key (e ∷ f ∷ es) a h le other =
      let next : f.0 ≤ key = (All-head (IsUpTo key) f es (All-tail (IsUpTo key) e (f ∷ es) h)).le in
      let more = key_is_new (e.0 + 1) key (f ∷ es) a.1 (All-tail (IsUpTo key) e (f ∷ es) h) (omega arith)
      (ap (λ n. is_at_key key (slice_get (f ∷ es) n)) (omega arith)
      ∙ sym (ap (λ n. is_at_key key (slice_get (e ∷ f ∷ es) n)) (two_less (length es))) ∙ other) in (
        ap (λ b. cond b (Some e.1) (lookup (eqb key) (f ∷ es))) (ne_eqb key e.0 (λ q. absurd (omega arith))) ∙ more.0,
        λ b. (a.0, more.1 b),
      )
    where
      two_less : (n : ℕ) → suc (suc n) - 1 ≡ suc n
      two_less n = omega arith

  pub sound_add : (number : T → ℕ) (spans : S) (key : ℕ) (es : List (Entry T S)) (b : SeenBlock T S) → IsSound number spans key es
      → Ascends 0 (keys_of (es ++ (key, b) ∷ [])) → b.rows ≡ [] → b.spans ≡ spans → IsSound number spans key (es ++ (key, b) ∷ [])
  sound_add number spans key es b s ascends none same = record {
    spanned = All-push (HasSpans spans) es (key, b) s.spanned (record { same = same });
    placed = All-push (IsPlaced number) es (key, b) s.placed
        (record { rows = subst (All (BelongsTo number key)) (sym none) (All-nil (BelongsTo number key)) });
    ascends = ascends;
    limited = All-push (IsUpTo key) es (key, b) s.limited (record { le = omega arith });
  }

  pub rows_add : (key : ℕ) (es : List (Entry T S)) (b : SeenBlock T S) → b.rows ≡ [] → all_rows (es ++ (key, b) ∷ []) ≡ all_rows es
  rows_add key es b none =
      flat_map-append entry_rows es ((key, b) ∷ []) ∙ ap (λ l. all_rows es ++ l) (append-nil b.rows ∙ none)
      ∙ append-nil (all_rows es)

  pub room_add : (key : ℕ) (es : List (Entry T S)) (b : SeenBlock T S) → b.rows ≡ [] → 0 < b.capacity
      → has_room_at key (es ++ (key, b) ∷ []) ≡ true
  room_add key es b none room =
      ap (λ n. is_roomy key (slice_get (es ++ (key, b) ∷ []) n)) (omega (arith, length_push es (key, b))) ∙ at es
    where
      at : (es : List (Entry T S)) → is_roomy key (slice_get (es ++ (key, b) ∷ []) (length es)) ≡ true
      at [] = λ j. eq-eqb key key refl j && lt-ltb (length b.rows) b.capacity (omega (arith, ap length none)) j
      at (e ∷ es) = at es

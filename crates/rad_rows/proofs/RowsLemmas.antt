use Rattle.std.proofs.Common.{◌≡◌, ℕ, ◌+◌, ◌-◌, ◌≤◌, ◌<◌, List, [], ◌∷◌, ◌++◌, Bool, true, false, arith, refl, ap, ◌∙◌, sym, filter}
use Rattle.std.proofs.Common.{map, subst, length, eqb, ltb, cond, ◌&&◌, Option, Some, None, slice_get, get_or}
use Rattle.std.specs.List.{All, FoldsTo}
use Rattle.std.specs.Map.{keys_of}
use Rattle.std.specs.Option.{option_map}
use Rattle.std.proofs.lemmas.Bool.{eqb-true, ltb-true, lt-ltb}
use Rattle.std.proofs.lemmas.List.{get_or-map, map-append, length-map}
use Rattle.std.proofs.lemmas.List.Elements.{All-weaker, All-head, All-tail, All-push, All-filter, All-map, filter-append}
use Rattle.std.proofs.lemmas.List.Quantifiers.{all_pairs_push}
use Rattle.std.proofs.lemmas.List.Filters.{length-filter_both}
use Rattle.std.proofs.lemmas.List.Kept.{AllPairs-filter}
use Rattle.std.proofs.lemmas.Option.{slice_get-map}
use Rattle.rad_rows.specs.Blocks.{SeenBlock, block_mapped, block_without, cut_block, with_rows}
use Rattle.rad_rows.specs.Entries.{Ascends, BelongsTo, Entry, HasSpans, IsConsistent, IsGrouped, IsPlaced, IsSound, IsUpTo}
use Rattle.rad_rows.specs.Entries.{all_rows, has_room_at, has_rows, is_roomy, key_of, on_block, on_blocks}
use Rattle.rad_rows.specs.declared.live.Live.{Live}
use Rattle.rad_rows.specs.Rows.{IsBefore, IsGiven, IsRising, Tells, change_row, has_other, is_dead}
use Rattle.rad_rows.proofs.BlockLemmas.{filter_less}
use Rattle.rad_rows.proofs.GroupLemmas.{grouped_without}

-- the row of one number is changed, and each row keeps its number
pub changed_number : {T : Type 0} (number : T → ℕ) (n : ℕ) (to : T → T) → ((row : T) → number (to row) ≡ number row) → (row : T)
    → number (change_row number n to row) ≡ number row
changed_number number n to keeps row =
    elim (eqb (number row) n) as (λ b. number (cond b (to row) row) ≡ number row) [ true ↦ keeps row | false ↦ refl ]

pub placed_mapped : {T : Type 0} (number : T → ℕ) (to : T → T) → ((row : T) → number (to row) ≡ number row)
    → (key : ℕ) (rows : List T)
    → All (BelongsTo number key) rows → All (BelongsTo number key) (map to rows)
placed_mapped number to keeps key rows h =
    All-map (BelongsTo number key) to rows (All-weaker (BelongsTo number key) (λ row. BelongsTo number key (to row))
    (λ row k. record { belongs = ap key_of (keeps row) ∙ k.belongs }) rows h)

-- ---- the order of the rows

pub rising_filter : {T : Type 0} (number : T → ℕ) (last : ℕ) (p : T → Bool) (rows : List T) → IsRising number last rows
    → IsRising number last (filter p rows)
rising_filter number last p rows h =
    record { given = All-filter p (IsGiven number last) rows h.given; rising = AllPairs-filter (IsBefore number) p rows h.rising }

pub rising_later : {T : Type 0} (number : T → ℕ) (last late : ℕ) (rows : List T) → last ≤ late → IsRising number last rows
    → IsRising number late rows
rising_later number last late rows le h =
    record {
      given = All-weaker (IsGiven number last) (IsGiven number late) (λ row k. record { one = k.one; le = omega (arith, k.le, le) })
          rows h.given;
      rising = h.rising;
    }

pub rising_mapped : {T : Type 0} (number : T → ℕ) (last : ℕ) (to : T → T) → ((row : T) → number (to row) ≡ number row)
    → (rows : List T)
    → IsRising number last rows → IsRising number last (map to rows)
rising_mapped number last to keeps rows h = record {
  given = All-map (IsGiven number last) to rows
      (All-weaker (IsGiven number last) (λ row. IsGiven number last (to row))
      (λ row k. record { one = omega (arith, k.one, keeps row); le = omega (arith, k.le, keeps row) }) rows h.given);
  rising = λ i j d lt within.
      let short : j < length rows = omega (arith, length-map rows to) in
      let row = get_or rows i d in
      let other = get_or rows j d in
      let one : get_or (map to rows) i d ≡ to row = get_or-map to rows i d d (omega arith) in
      let two : get_or (map to rows) j d ≡ to other = get_or-map to rows j d d short in
      record { lt = omega (arith, (h.rising i j d lt short).lt, ap number one, ap number two, keeps row, keeps other) };
}

pub rising_push : {T : Type 0} (number : T → ℕ) (last : ℕ) (rows : List T) (row : T) → number row ≡ last + 1
    → IsRising number last rows
    → IsRising number (last + 1) (rows ++ row ∷ [])
rising_push number last rows row is h = record {
  given = All-push (IsGiven number (last + 1)) rows row (rising_later number last (last + 1) rows (omega arith) h).given
      (record { one = omega arith; le = omega arith });
  rising = all_pairs_push (IsBefore number) rows row h.rising (λ k d lt. record { lt = omega (arith, (h.given k d lt).le, is) });
}

pub ascends_less : (low lower : ℕ) (keys : List ℕ) → lower ≤ low → Ascends low keys → Ascends lower keys
ascends_less low lower [] le a = a
ascends_less low lower (k ∷ ks) le a = (omega (arith, a.0, le), a.1)

module _ {T S : Type 0} where
  -- ---- the rows after a change of each block

  pub keys_on : (f : SeenBlock T S → SeenBlock T S) (es : List (Entry T S)) → keys_of (on_blocks f es) ≡ keys_of es
  keys_on f [] = refl
  keys_on f (e ∷ es) = ap (λ l. e.0 ∷ l) (keys_on f es)

  pub rows_cut : (live : S → ℕ → T → Bool) (spans : S) (now : ℕ) (es : List (Entry T S)) → All (HasSpans spans) es
      → all_rows (on_blocks (cut_block live now) es) ≡ filter (live spans now) (all_rows es)
  rows_cut live spans now [] h = refl
  rows_cut live spans now (e ∷ es) h =
      let same : e.1.spans ≡ spans = (All-head (HasSpans spans) e es h).same in
      ap (λ s. filter (live s now) e.1.rows ++ all_rows (on_blocks (cut_block live now) es)) same
      ∙ ap (λ l. filter (live spans now) e.1.rows ++ l) (rows_cut live spans now es (All-tail (HasSpans spans) e es h))
      ∙ sym (filter-append (live spans now) e.1.rows (all_rows es))

  pub rows_without : (number : T → ℕ) (n : ℕ) (es : List (Entry T S))
      → all_rows (on_blocks (block_without number n) es) ≡ filter (has_other number n) (all_rows es)
  rows_without number n [] = refl
  rows_without number n (e ∷ es) =
      ap (λ l. filter (has_other number n) e.1.rows ++ l) (rows_without number n es)
      ∙ sym (filter-append (has_other number n) e.1.rows (all_rows es))

  pub rows_mapped : (to : T → T) (es : List (Entry T S)) → all_rows (on_blocks (block_mapped to) es) ≡ map to (all_rows es)
  rows_mapped to [] = refl
  rows_mapped to (e ∷ es) = ap (λ l. map to e.1.rows ++ l) (rows_mapped to es) ∙ sym (map-append to e.1.rows (all_rows es))

  -- ---- what stays sound

  pub sound_on : (number : T → ℕ) (spans : S) (top : ℕ) (f : SeenBlock T S → List T) (es : List (Entry T S))
      → IsSound number spans top es
      → ((key : ℕ) (b : SeenBlock T S) → All (BelongsTo number key) b.rows → All (BelongsTo number key) (f b))
      → IsSound number spans top (on_blocks (λ b. with_rows b (f b)) es)
  sound_on number spans top f es s placed = record {
    spanned = each (HasSpans spans) (λ e h. record { same = h.same }) s.spanned;
    placed = each (IsPlaced number) (λ e h. record { rows = placed e.0 e.1 h.rows }) s.placed;
    ascends = subst (Ascends 0) (sym (keys_on (λ b. with_rows b (f b)) es)) s.ascends;
    limited = each (IsUpTo top) (λ e h. record { le = h.le }) s.limited;
  }
    where
      to : Entry T S → Entry T S
      to e = on_block (λ b. with_rows b (f b)) e

      each : (P : Entry T S → Type 0) → ((e : Entry T S) → P e → P (to e)) → All P es → All P (map to es)
      each P keeps h = All-map P to es (All-weaker P (λ e. P (to e)) keeps es h)

  -- a table may give more numbers
  pub sound_later : (number : T → ℕ) (spans : S) (top late : ℕ) (es : List (Entry T S)) → top ≤ late → IsSound number spans top es
      → IsSound number spans late es
  sound_later number spans top late es le s = record {
    spanned = s.spanned;
    placed = s.placed;
    ascends = s.ascends;
    limited = All-weaker (IsUpTo top) (IsUpTo late) (λ e h. record { le = omega (arith, h.le, le) }) es s.limited;
  }

  -- ---- room

  pub room_on : (f : SeenBlock T S → List T) (key : ℕ) (es : List (Entry T S))
      → ((b : SeenBlock T S) → length (f b) ≤ length b.rows)
      → has_room_at key es ≡ true → has_room_at key (on_blocks (λ b. with_rows b (f b)) es) ≡ true
  room_on f key es fewer h =
      ap (λ n. is_roomy key (slice_get (map to es) (n - 1))) (length-map es to)
      ∙ ap (is_roomy key) (slice_get-map to es (length es - 1)) ∙ still (slice_get es (length es - 1)) h
    where
      to : Entry T S → Entry T S
      to e = on_block (λ b. with_rows b (f b)) e

      still : (o : Option (Entry T S)) → is_roomy key o ≡ true → is_roomy key (option_map to o) ≡ true
      still None h = h
      still (Some e) h = both (eqb e.0 key) (ltb (length e.1.rows) e.1.capacity) (ltb (length (f e.1)) e.1.capacity) h
          (λ k. lt-ltb (length (f e.1)) e.1.capacity (omega (arith, ltb-true (length e.1.rows) e.1.capacity k, fewer e.1)))
        where
          both : (a b c : Bool) → (a && b) ≡ true → (b ≡ true → c ≡ true) → (a && c) ≡ true
          both true b c h k = k h
          both false b c h k = h

  -- ---- without blocks that have no row

  pub ascends_filter : (p : Entry T S → Bool) (low : ℕ) (es : List (Entry T S)) → Ascends low (keys_of es)
      → Ascends low (keys_of (filter p es))
  ascends_filter p low [] a = a
  ascends_filter p low (e ∷ es) a = by_test (p e) refl (ascends_filter p (e.0 + 1) es a.1)
    where
      by_test : (b : Bool) → p e ≡ b → Ascends (e.0 + 1) (keys_of (filter p es)) → Ascends low (keys_of (filter p (e ∷ es)))
      by_test true is more = rw (is) (a.0, more)
      by_test false is more = rw (is) (ascends_less (e.0 + 1) low (keys_of (filter p es)) (omega (arith, a.0)) more)

  pub sound_filter : (number : T → ℕ) (spans : S) (top : ℕ) (p : Entry T S → Bool) (es : List (Entry T S))
      → IsSound number spans top es
      → IsSound number spans top (filter p es)
  sound_filter number spans top p es s = record {
    spanned = All-filter p (HasSpans spans) es s.spanned;
    placed = All-filter p (IsPlaced number) es s.placed;
    ascends = ascends_filter p 0 es s.ascends;
    limited = All-filter p (IsUpTo top) es s.limited;
  }

  pub rows_with_rows : (es : List (Entry T S)) → all_rows (filter has_rows es) ≡ all_rows es
  rows_with_rows [] = refl
  rows_with_rows (e ∷ es) = by_test (eqb (length e.1.rows) 0) refl (rows_with_rows es)
    where
      nothing : (rows : List T) → eqb (length rows) 0 ≡ true → rows ≡ []
      nothing [] h = refl
      nothing (row ∷ rows) h = absurd (omega (arith, eqb-true (length (row ∷ rows)) 0 h))

      by_test : (b : Bool) → eqb (length e.1.rows) 0 ≡ b → all_rows (filter has_rows es) ≡ all_rows es
          → all_rows (filter has_rows (e ∷ es)) ≡ all_rows (e ∷ es)
      by_test true is more = rw (is) (more ∙ ap (λ l. l ++ all_rows es) (sym (nothing e.1.rows is)))
      by_test false is more = rw (is) (ap (λ l. e.1.rows ++ l) more)

  -- ---- what is kept after each call

  module _ (number : T → ℕ) (live : S → ℕ → T → Bool) (spans : S) where
    consistent_on : (last len left : ℕ) (bounds renewed : List ℕ) (ready : Bool) (f : SeenBlock T S → List T)
        (es new : List (Entry T S))
        → IsConsistent number live es bounds spans last len ready → new ≡ on_blocks (λ b. with_rows b (f b)) es
        → ((key : ℕ) (b : SeenBlock T S) → All (BelongsTo number key) b.rows → All (BelongsTo number key) (f b))
        → ((b : SeenBlock T S) → length (f b) ≤ length b.rows)
        → left ≡ length (all_rows new) → IsRising number last (all_rows new) → IsGrouped live 0 renewed new
        → IsConsistent number live new renewed spans last left ready
    consistent_on last len left bounds renewed ready f es new k is placed fewer count order grouped = record {
      sound = subst (IsSound number spans (key_of (last + 1))) (sym is)
          (sound_on number spans (key_of (last + 1)) f es k.sound placed);
      grouped = grouped;
      count = count;
      order = order;
      room = λ is_ready. ap (has_room_at (key_of (last + 1))) is ∙ room_on f (key_of (last + 1)) es fewer (k.room is_ready);
    }

    pub consistent_without : (n last len left : ℕ) (bounds : List ℕ) (ready : Bool) (es new : List (Entry T S))
        → IsConsistent number live es bounds spans last len ready → new ≡ on_blocks (block_without number n) es
        → left ≡ length (all_rows new) → IsConsistent number live new bounds spans last left ready
    consistent_without n last len left bounds ready es new k is count =
        let p : T → Bool = has_other number n in
        consistent_on last len left bounds bounds ready (λ b. filter p b.rows) es new k is
        (λ key b h. All-filter p (BelongsTo number key) b.rows h) (λ b. filter_less p b.rows) count
        (subst (IsRising number last) (sym (ap all_rows is ∙ rows_without number n es))
        (rising_filter number last p (all_rows es) k.order))
        (subst (IsGrouped live 0 bounds) (sym is) (grouped_without live number n bounds es k.grouped))

    pub consistent_mapped : (last len : ℕ) (bounds lower : List ℕ) (ready : Bool) (to : T → T) (es new : List (Entry T S))
        → ((row : T) → number (to row) ≡ number row) → IsConsistent number live es bounds spans last len ready
        → new ≡ on_blocks (block_mapped to) es → IsGrouped live 0 lower new
        → IsConsistent number live new lower spans last len ready
    consistent_mapped last len bounds lower ready to es new keeps k is grouped =
        let rows : all_rows new ≡ map to (all_rows es) = ap all_rows is ∙ rows_mapped to es in
        consistent_on last len len bounds lower ready (λ b. map to b.rows) es new k is
        (λ key b h. placed_mapped number to keeps key b.rows h) (λ b. omega (arith, length-map b.rows to))
        (k.count ∙ sym (ap length rows ∙ length-map (all_rows es) to))
        (subst (IsRising number last) (sym rows) (rising_mapped number last to keeps (all_rows es) k.order)) grouped

    pub consistent_cut : (now last len left : ℕ) (bounds renewed : List ℕ) (ready : Bool) (es new : List (Entry T S))
        → IsConsistent number live es bounds spans last len ready → new ≡ on_blocks (cut_block live now) es
        → left ≡ length (all_rows new)
        → IsGrouped live 0 renewed new → IsConsistent number live new renewed spans last left ready
    consistent_cut now last len left bounds renewed ready es new k is count grouped =
        consistent_on last len left bounds renewed ready (λ b. filter (live b.spans now) b.rows) es new k is
        (λ key b h. All-filter (live b.spans now) (BelongsTo number key) b.rows h)
        (λ b. filter_less (live b.spans now) b.rows) count
        (subst (IsRising number last) (sym (ap all_rows is ∙ rows_cut live spans now es k.sound.spanned))
        (rising_filter number last (live spans now) (all_rows es) k.order)) grouped

-- ---- how many rows are live

-- what a count is after one row was told
abbrev Takes : {T : Type 0} → Live → T → Live → Type 0
Takes old row new = new.count ≡ old.count - 1

left_told : {T : Type 0} (dead : List T) (old new : Live) → FoldsTo Takes old dead new → new.count ≡ old.count - length dead
left_told [] old new h = omega (arith, ap (λ (live : Live). live.count) (sym h))
left_told (row ∷ dead) old new h = omega (arith, left_told dead h.0 new h.2, h.1)

pub count_left : {T S : Type 0} (live : S → ℕ → T → Bool) (spans : S) (now : ℕ) (rows : List T) (old new : Live)
    → old.count ≡ length rows
    → Tells (λ (before : Live) (row : T) (after : Live). after.count ≡ before.count - 1) live spans now rows old new
    → new.count ≡ length (filter (live spans now) rows)
count_left live spans now rows old new is told =
    omega (
      arith,
      is,
      left_told (filter (is_dead live spans now) rows) old new told,
      length-filter_both (live spans now) (is_dead live spans now) (λ x. refl) rows,
    )

use Rattle.std.proofs.Common.{◌≡◌, ◌≢◌, ℕ, zero, suc, ◌+◌, ◌*◌, ◌/◌, ◌%◌, ◌≤◌, ◌<◌, List, [], ◌∷◌, ◌++◌, Bool, arith, refl, ap, sym}
use Rattle.std.proofs.Common.{subst, length, get_or, replicate, Some, slice_get, inl, inr}
use Rattle.std.specs.List.{All}
use Rattle.std.specs.Map.{values_of}
use Rattle.std.proofs.lemmas.Bool.{cases_eq}
use Rattle.std.proofs.lemmas.List.{length-replicate, get_or-map, length-map, length_push}
use Rattle.std.proofs.lemmas.List.Elements.{All-filter}
use Rattle.indexmap.specs.IndexMap.{set_value_at}
use Rattle.indexmap.specs.Layout.{length-set_value_at}
use Rattle.rad_rows.specs.Blocks.{BlockLives, LivesUntil, SeenBlock, block_without}
use Rattle.rad_rows.specs.Entries.{Entry, EntryLives, IsGrouped, on_block, on_blocks}
use Rattle.rad_rows.specs.Rows.{has_other}
use Rattle.rad_rows.proofs.EntryLemmas.{entry_lives_less, not_none, some_is}

module _ {T S : Type 0} where
  -- ---- what stands at a place

  pub get_set : (P : Entry T S → Type 0) (es : List (Entry T S)) (i place : ℕ) (w : SeenBlock T S) (d : Entry T S)
      → place < length es
      → (place ≡ i → (key : ℕ) → P (key, w)) → ((place ≡ i → ⊥) → P (get_or es place d)) → P (get_or (set_value_at es i w) place d)
  get_set P [] i place w d lt new old = absurd (omega (arith, lt))
  get_set P (e ∷ es) zero zero w d lt new old = new refl e.0
  get_set P (e ∷ es) zero (suc place) w d lt new old = old (λ is. absurd (omega (arith, is)))
  get_set P (e ∷ es) (suc i) zero w d lt new old = old (λ is. absurd (omega (arith, is)))
  get_set P (e ∷ es) (suc i) (suc place) w d lt new old =
      get_set P es i place w d (omega (arith, lt)) (λ is. new (ap suc is)) (λ other. old (λ is. other (omega (arith, is))))

  pub get_push : (P : Entry T S → Type 0) (es : List (Entry T S)) (e : Entry T S) (place : ℕ) (d : Entry T S)
      → (place < length es → P (get_or es place d)) → P e → place < length (es ++ e ∷ []) → P (get_or (es ++ e ∷ []) place d)
  get_push P [] e zero d h new lt = new
  get_push P [] e (suc place) d h new lt = absurd (omega (arith, lt))
  get_push P (x ∷ es) e zero d h new lt = h (omega arith)
  get_push P (x ∷ es) e (suc place) d h new lt = get_push P es e place d (λ k. h (omega (arith, k))) new (omega (arith, lt))

  pub get_value : (es : List (Entry T S)) (i : ℕ) (v : SeenBlock T S) (d : Entry T S) → slice_get (values_of es) i ≡ Some v
      → (i < length es) × ((get_or es i d).1 ≡ v)
  get_value [] i v d h = not_none v h
  get_value (e ∷ es) zero v d h = (omega arith, some_is e.1 v h)
  get_value (e ∷ es) (suc i) v d h = let r = get_value es i v d h in (omega (arith, r.0), r.1)

  -- ---- bounds of groups

  module _ (live : S → ℕ → T → Bool) where
    -- another block
    pub grouped_set : (at after i : ℕ) (bounds new : List ℕ) (last : ℕ) (es : List (Entry T S)) (w : SeenBlock T S)
        → IsGrouped live at bounds es
        → length new ≡ length bounds → get_or new (i / 64) 0 ≤ last → BlockLives live last w
        → ((place : ℕ) → (place ≡ i → ⊥) → (after ≤ place → after ≤ 64 * (place / 64))
        → (at ≤ place → at ≤ 64 * (place / 64)) × (get_or new (place / 64) 0 ≤ get_or bounds (place / 64) 0))
        → IsGrouped live after new (set_value_at es i w)
    grouped_set at after i bounds new last es w h long here lives step = record {
      enough = omega (arith, h.enough, long, length-set_value_at es i w);
      lives = λ place d lt on.
          let within : place < length es = omega (arith, lt, length-set_value_at es i w) in
          get_set (EntryLives live (get_or new (place / 64) 0)) es i place w d within
          (λ is key. entry_lives_less live last (get_or new (place / 64) 0) (key, w)
          (subst (λ p. get_or new (p / 64) 0 ≤ last) (sym is) here) (record { block = lives }))
          (λ other. entry_lives_less live (get_or bounds (place / 64) 0) (get_or new (place / 64) 0) (get_or es place d)
          (step place other on).1 (h.lives place d within (step place other on).0));
    }

    -- its group's bound comes no later
    pub grouped_lower : (i : ℕ) (bounds new : List ℕ) (last : ℕ) (es : List (Entry T S)) (w : SeenBlock T S)
        → IsGrouped live 0 bounds es
        → length new ≡ length bounds → ((group : ℕ) → get_or new group 0 ≤ get_or bounds group 0) → get_or new (i / 64) 0 ≤ last
        → BlockLives live last w → IsGrouped live 0 new (set_value_at es i w)
    grouped_lower i bounds new last es w h long earlier here lives =
        grouped_set 0 0 i bounds new last es w h long here lives (λ place other on. (on, earlier (place / 64)))

    -- the bounds up to it are found anew
    pub grouped_renew : (i : ℕ) (bounds new : List ℕ) (last : ℕ) (es : List (Entry T S)) (w : SeenBlock T S)
        → IsGrouped live i bounds es
        → length new ≡ length bounds → ((group : ℕ) → (group ≡ i / 64 → i % 64 ≢ 0) → get_or new group 0 ≤ get_or bounds group 0)
        → get_or new (i / 64) 0 ≤ last → BlockLives live last w → IsGrouped live (i + 1) new (set_value_at es i w)
    grouped_renew i bounds new last es w h long earlier here lives =
        grouped_set i (i + 1) i bounds new last es w h long here lives
        (λ place other on. (
          λ le. omega (arith, on (omega (arith, le, other))),
          earlier (place / 64) (λ same first.
              absurd (omega (arith, other, same, first, on (omega (arith, other, same, first))))),
        ))

    -- blocks of which each lives longer are passed over
    pub grouped_pass : (at to : ℕ) (bounds : List ℕ) (es : List (Entry T S)) → at ≤ to → (at % 64 ≢ 0 → to ≡ at)
        → IsGrouped live at bounds es → IsGrouped live to bounds es
    grouped_pass at to bounds es le same h = record {
      enough = h.enough;
      lives = λ place d lt on. h.lives place d lt (before place on);
    }
      where
        before : (place : ℕ) → (to ≤ place → to ≤ 64 * (place / 64)) → at ≤ place → at ≤ 64 * (place / 64)
        before place on low = elim (cases_eq (at % 64) 0) [
          | inl first ↦ omega (arith, first, low)
          | inr other ↦ omega (arith, same other, on (omega (arith, same other, low)))
        ]

    -- none or all are found
    pub grouped_any : (at : ℕ) (bounds : List ℕ) (es : List (Entry T S)) → IsGrouped live 0 bounds es → IsGrouped live at bounds es
    grouped_any at bounds es h = record { enough = h.enough; lives = λ place d lt on. h.lives place d lt (λ low. omega arith) }

    pub grouped_all : (at : ℕ) (bounds : List ℕ) (es : List (Entry T S)) → length es ≤ at → IsGrouped live at bounds es
        → IsGrouped live 0 bounds es
    grouped_all at bounds es le h =
        record { enough = h.enough; lives = λ place d lt on. h.lives place d lt (λ low. absurd (omega (arith, low, lt, le))) }

    pub grouped_without : (number : T → ℕ) (n : ℕ) (bounds : List ℕ) (es : List (Entry T S)) → IsGrouped live 0 bounds es
        → IsGrouped live 0 bounds (on_blocks (block_without number n) es)
    grouped_without number n bounds es h = record {
      enough = omega (arith, h.enough, length-map es (on_block (block_without number n)));
      lives = λ place d lt on.
          let within : place < length es = omega (arith, lt, length-map es (on_block (block_without number n))) in
          subst (EntryLives live (get_or bounds (place / 64) 0))
          (sym (get_or-map (on_block (block_without number n)) es place d d within))
          (keeps (get_or bounds (place / 64) 0) (get_or es place d) (h.lives place d within on));
    }
      where
        keeps : (bound : ℕ) (e : Entry T S) → EntryLives live bound e → EntryLives live bound (on_block (block_without number n) e)
        keeps bound e h =
            record {
              block = record {
                rows =
                    All-filter (has_other number n) (LivesUntil live e.1.spans bound) e.1.rows h.block.rows;
              };
            }

    -- a block with the same rows
    pub grouped_same : (bounds : List ℕ) (es : List (Entry T S)) (i : ℕ) (v w : SeenBlock T S) → slice_get (values_of es) i ≡ Some v
        → w.rows ≡ v.rows → w.spans ≡ v.spans → IsGrouped live 0 bounds es → IsGrouped live 0 bounds (set_value_at es i w)
    grouped_same bounds es i v w at rows spans h =
        let bound : ℕ = get_or bounds (i / 64) 0 in
        let old : BlockLives live bound v =
        subst (BlockLives live bound) (get_value es i v (0, v) at).1
        (h.lives i (0, v) (get_value es i v (0, v) at).0 (λ low. omega arith)).block in
        grouped_lower i bounds bounds bound es w h refl (λ group. omega arith) (omega arith)
        (record {
          rows = subst (λ s. All (LivesUntil live s bound) w.rows) (sym spans)
              (subst (All (LivesUntil live v.spans bound)) (sym rows) old.rows);
        })

    -- one block more, without rows
    pub grouped_add : (bounds : List ℕ) (es : List (Entry T S)) (key : ℕ) (b : SeenBlock T S) → length es < 64 * length bounds
        → b.rows ≡ []
        → IsGrouped live 0 bounds es → IsGrouped live 0 bounds (es ++ (key, b) ∷ [])
    grouped_add bounds es key b room none h = record {
      enough = omega (arith, room, length_push es (key, b));
      lives = λ place d lt on. get_push (EntryLives live (get_or bounds (place / 64) 0)) es (key, b) place d
          (λ within. h.lives place d within on) (no_rows (get_or bounds (place / 64) 0)) lt;
    }
      where
        no_rows : (bound : ℕ) → EntryLives live bound (key, b)
        no_rows bound =
            record {
              block = record {
                rows = subst (All (LivesUntil live b.spans bound)) (sym none)
                    (λ k x lt. absurd (omega (arith, lt)));
              };
            }

    -- more bounds
    pub grouped_more : (bounds more : List ℕ) (es : List (Entry T S)) → length bounds ≤ length more
        → ((group : ℕ) → group < length bounds → get_or more group 0 ≡ get_or bounds group 0) → IsGrouped live 0 bounds es
        → IsGrouped live 0 more es
    grouped_more bounds more es long same h = record {
      enough = omega (arith, h.enough, long);
      lives = λ place d lt on. subst (λ b. EntryLives live b (get_or es place d))
          (sym (same (place / 64) (omega (arith, lt, h.enough))))
          (h.lives place d lt on);
    }

    -- bounds by which nothing is known
    pub grouped_zero : (n : ℕ) (es : List (Entry T S)) → length es ≤ 64 * n → IsGrouped live 0 (replicate {A = ℕ} n 0) es
    grouped_zero n es enough = record {
      enough = omega (arith, enough, length-replicate {A = ℕ} n 0);
      lives = λ place d lt on. unknown (place / 64) (get_or es place d);
    }
      where
        zeros : (n i : ℕ) → ◌≡◌ {A = ℕ} (get_or (replicate {A = ℕ} n 0) i 0) 0
        zeros zero i = refl
        zeros (suc n) zero = refl
        zeros (suc n) (suc i) = zeros n i

        unknown : (group : ℕ) (e : Entry T S) → EntryLives live (get_or (replicate {A = ℕ} n 0) group 0) e
        unknown group e = record {
          block = record { rows = λ k row lt. record { lives = λ now early small. absurd (omega (arith, early, zeros n group)) } };
        }

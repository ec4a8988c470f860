use Rattle.std.proofs.Common.{zero, suc, false, cond, remove, subst, sym, Result, Ok, Err, OnOk, ◌≡◌, ℕ, ◌≤◌, ◌<◌, List, [], ◌∷◌}
use Rattle.std.proofs.Common.{◌++◌, Bool, arith, refl, ap, ◌∙◌, filter, get_or, length, set, ltb}
use Rattle.std.specs.List.{All, FoldsTo}
use Rattle.std.proofs.lemmas.List.Elements.{All-weaker, All-head, All-tail, All-push, All-set}
use Rattle.std.proofs.lemmas.List.Sums.{length-filter, count_by-le-length}
use Rattle.std.proofs.lemmas.Bool.{lt-ltb}
use Rattle.rad_rows.specs.Blocks.{LivesUntil, SeenBlock, with_rows}
use Rattle.rad_rows.specs.Rows.{is_dead, moment_max}

module _ {T S : Type 0} (live : S → ℕ → T → Bool) (spans : S) where
  -- what lives to a moment lives to an earlier one
  pub lives_less : (late early : ℕ) (row : T) → early ≤ late → LivesUntil live spans late row → LivesUntil live spans early row
  lives_less late early row le h = record { lives = λ now lt small. h.lives now (omega arith) small }

  pub all_lives_less : (late early : ℕ) (rows : List T) → early ≤ late → All (LivesUntil live spans late) rows
      → All (LivesUntil live spans early) rows
  all_lives_less late early rows le h =
      All-weaker (LivesUntil live spans late) (LivesUntil live spans early) (λ row k. lives_less late early row le k) rows h

  -- nothing goes where all rows are live
  pub filter_live : (bound now : ℕ) (rows : List T) → now < bound → now ≤ moment_max → All (LivesUntil live spans bound) rows
      → filter (live spans now) rows ≡ rows
  filter_live bound now [] lt small h = refl
  filter_live bound now (row ∷ rows) lt small h =
      rw ((All-head (LivesUntil live spans bound) row rows h).lives now lt small)
      (ap (λ xs. row ∷ xs) (filter_live bound now rows lt small (All-tail (LivesUntil live spans bound) row rows h)))

  -- and nothing is told
  pub none_dead : (bound now : ℕ) (rows : List T) → now < bound → now ≤ moment_max → All (LivesUntil live spans bound) rows
      → filter (is_dead live spans now) rows ≡ []
  none_dead bound now [] lt small h = refl
  none_dead bound now (row ∷ rows) lt small h =
      rw ((All-head (LivesUntil live spans bound) row rows h).lives now lt small)
      (none_dead bound now rows lt small (All-tail (LivesUntil live spans bound) row rows h))

  -- one more row, and an earlier moment
  pub lives_more : (bound last early : ℕ) (rows : List T) (row : T) → early ≤ bound → early ≤ last
      → All (LivesUntil live spans bound) rows
      → LivesUntil live spans last row → All (LivesUntil live spans early) (rows ++ row ∷ [])
  lives_more bound last early rows row le le' h k =
      All-push (LivesUntil live spans early) rows row (all_lives_less bound early rows le h) (lives_less last early row le' k)

  -- a row in the place of another, and an earlier moment
  pub lives_set : (bound early : ℕ) (xs : List T) (i : ℕ) (row : T) → early ≤ bound → All (LivesUntil live spans bound) xs
      → LivesUntil live spans early row → All (LivesUntil live spans early) (set xs i row)
  lives_set bound early xs i row le h k = All-set (LivesUntil live spans early) xs i row k (all_lives_less bound early xs le h)

pub same_rows : {T S : Type 0} (block : SeenBlock T S) (xs : List T) → xs ≡ block.rows → block ≡ with_rows block xs
same_rows block xs e = rw e refl

-- a row lives until its end
pub lives_to_end : {T S : Type 0} (live : S → ℕ → T → Bool) (spans : S) (bound : ℕ) (row : T)
    → ((now : ℕ) → now ≤ moment_max → live spans now row ≡ ltb now bound) → LivesUntil live spans bound row
lives_to_end live spans bound row h = record { lives = λ now lt small. h now small ∙ lt-ltb now bound lt }

-- what an `Ok` says more
pub on_ok : {X E : Type 0} {P Q : Type 0} (r : Result X E) → (P → Q) → OnOk r P → OnOk r Q
on_ok (Ok x) f h = f h
on_ok (Err e) f h = tt

-- told of some, and then of others
pub folds_join : {G T : Type 0} (step : G → T → G → Type 0) (xs ys : List T) (p q r : G) → FoldsTo step p xs q → FoldsTo step q ys r
    → FoldsTo step p (xs ++ ys) r
folds_join step [] ys p q r h k = subst (λ g. FoldsTo step g ys r) (sym h) k
folds_join step (x ∷ xs) ys p q r h k = (h.0, h.1, folds_join step xs ys h.0 q r h.2 k)

-- a row goes that doesn't pass
pub filter_removed : {T : Type 0} (q : T → Bool) (xs : List T) (i : ℕ) (x : T) → i < length xs → x ≡ get_or xs i x → q x ≡ false
    → filter q (remove xs i) ≡ filter q xs
filter_removed q [] i x lt is fails = absurd (omega arith)
filter_removed q (y ∷ ys) zero x lt is fails = sym (ap (λ b. cond b (y ∷ filter q ys) (filter q ys)) (ap q (sym is) ∙ fails))
filter_removed q (y ∷ ys) (suc i) x lt is fails =
    λ j. cond (q y) (y ∷ filter_removed q ys i x (omega arith) is fails j) (filter_removed q ys i x (omega arith) is fails j)

-- no more pass than there are
pub filter_less : {T : Type 0} (p : T → Bool) (rows : List T) → length (filter p rows) ≤ length rows
filter_less p rows = omega (arith, length-filter p rows, count_by-le-length p rows)

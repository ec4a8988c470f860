-- What reads by a cursor show of a store.
use Rattle.std.proofs.Common.{◌≡◌, ℕ, true, false, List, [], ◌∷◌, reverse, Some, refl, sym, ap, ◌∙◌}
use Rattle.sqlite_trees.specs.Tree.{from_key, order_of, sought, up_to_key}
use Rattle.sqlite_trees.specs.declared.store.Direction.TheVariants.{Backward, Forward}
use Rattle.sqlite_trees.specs.View.{Advances, View, with_cursor}
use Rattle.sqlite_value.specs.declared.keys.Order.{Order}
use Rattle.sqlite_value.specs.Order.{Row}
use Rattle.rad_journal.specs.Stores.{OnlyReads}

pub from_no_key : (o : Order) (rows : List Row) → from_key o [] rows ≡ rows
from_no_key o [] = refl
from_no_key o (row ∷ rows) = refl

up_to_no_key : (o : Order) (rows : List Row) → up_to_key o [] rows ≡ rows
up_to_no_key o [] = refl
up_to_no_key o (row ∷ rows) = ap (λ (l : List Row). row ∷ l) (up_to_no_key o rows)

-- ---- cursors

pub reads_on : (first second third : View) → OnlyReads first second → OnlyReads second third → OnlyReads first third
reads_on first second third here there = there ∙ ap (λ (v : View). record v { cursors = third.cursors }) here

pub with_reads : (old new : View) (rows : List Row) → new ≡ with_cursor old 0 rows → OnlyReads old new
with_reads old new rows is = is ∙ ap (λ cs. record old { cursors = cs }) (sym (ap (λ (v : View). v.cursors) is))

-- a cursor at the first row, and all that follow
pub seeks_first : (old new : View) (tree : ℕ) (key : Row) → key ≡ []
    → new ≡ with_cursor old 0 (sought (order_of (old.shape tree)) Forward key (old.trees tree))
    → (new.cursors 0 ≡ Some (old.trees tree)) × OnlyReads old new
seeks_first old new tree key none is =
    let all : from_key (order_of (old.shape tree)) key (old.trees tree) ≡ old.trees tree =
    ap (λ (k : Row). from_key (order_of (old.shape tree)) k (old.trees tree)) none
    ∙ from_no_key (order_of (old.shape tree)) (old.trees tree) in
    (ap (λ (v : View). v.cursors 0) is ∙ ap (λ (l : List Row). Some l) all, with_reads old new _ is)

-- a cursor at the last row, and all before
pub seeks_last : (old new : View) (tree : ℕ) (key : Row) → key ≡ []
    → new ≡ with_cursor old 0 (sought (order_of (old.shape tree)) Backward key (old.trees tree))
    → (new.cursors 0 ≡ Some (reverse (old.trees tree))) × OnlyReads old new
seeks_last old new tree key none is =
    let all : up_to_key (order_of (old.shape tree)) key (old.trees tree) ≡ old.trees tree =
    ap (λ (k : Row). up_to_key (order_of (old.shape tree)) k (old.trees tree)) none
    ∙ up_to_no_key (order_of (old.shape tree)) (old.trees tree) in
    (ap (λ (v : View). v.cursors 0) is ∙ ap (λ (l : List Row). Some (reverse l)) all, with_reads old new _ is)

pub some_rows : (a b : List Row) → Some a ≡ Some b → a ≡ b
some_rows a b is = cc is

-- the cursor gave the first of these rows
pub gives : (old new : View) (rows : List Row) (row : Row) → Advances old new 0 row true → old.cursors 0 ≡ Some rows
    → (left : List Row) × (rows ≡ row ∷ left) × (new.cursors 0 ≡ Some left) × OnlyReads old new
gives old new rows row step at = (
  step.0,
  some_rows rows (row ∷ step.0) (sym at ∙ step.1),
  ap (λ (v : View). v.cursors 0) step.2,
  with_reads old new step.0 step.2,
)

-- there was no row
pub ends : (old new : View) (rows : List Row) (row : Row) → Advances old new 0 row false → old.cursors 0 ≡ Some rows
    → (rows ≡ []) × OnlyReads old new
ends old new rows row step at = (
  some_rows rows [] (sym at ∙ step.0),
  step.1
      ∙ ap (λ cs. record old { cursors = cs }) (sym (ap (λ (v : View). v.cursors) step.1)),
)

-- Rows that are read, one after the other.
use Rattle.std.proofs.Common.{◌≡◌, ℕ, ◌+◌, ◌≤◌, true, false, List, [], ◌∷◌, ◌++◌, length, Some, Ok, refl, sym, ap, subst, ◌∙◌}
use Rattle.std.proofs.Common.{arith}
use Rattle.std.specs.List.{AllByRecursion}
use Rattle.std.proofs.lemmas.List.{append-nil, append_assoc, length-append}
use Rattle.sqlite_disk.specs.Disk.{MoreFaults}
use Rattle.sqlite_trees.specs.Tree.{from_key, order_of, sought}
use Rattle.sqlite_trees.specs.View.{Advances, HasCause, View, with_cursor}
use Rattle.sqlite_trees.specs.declared.error.StoreError.{StoreError}
use Rattle.sqlite_trees.specs.declared.error.StoreError.TheVariants as store
use Rattle.sqlite_trees.specs.declared.store.Direction.TheVariants.{Forward}
use Rattle.sqlite_value.specs.Order.{Row}
use Rattle.sqlite_value.specs.declared.keys.Order.{Order}
use Rattle.rad_config.specs.Configurations.{Configuration}
use Rattle.rad_journal.specs.Faults.{fault_of}
use Rattle.rad_journal.specs.declared.journal.JournalFault.{JournalFault}
use Rattle.rad_journal.specs.declared.journal.JournalFault.TheVariants as journal
use Rattle.rad_journal.specs.Stores.{OnlyReads}
use Rattle.rad_server.specs.Restored.{restored}
use Rattle.rad_server.specs.States.{State}
use Rattle.rad_server.specs.declared.state_row.StateRow.{StateRow}
use Rattle.rad_snapshot.specs.Faults.{IsOfRows, reported}
use Rattle.rad_snapshot.specs.Restoring.{ArePutBack, CannotPutBack, IsOf, IsRowAt}
use Rattle.rad_snapshot.specs.Rows.{row_of, rows_from}
use Rattle.rad_snapshot.specs.Snapshots.{tree_of}
use Rattle.rad_snapshot.specs.declared.snapshot_table.SnapshotTable.{SnapshotTable}
use Rattle.rad_snapshot.proofs.RestoreLemmas.{join, no_row, refused, stray}
use Rattle.rad_snapshot.proofs.RowLemmas.{one_more, rows_push}

-- a store whose error is told as a fault of the rows had a cause for it
pub store_has_cause : (view : View) (failed unstorable : Type 0) (e : StoreError) → IsOfRows (reported (fault_of e))
    → HasCause view failed unstorable e → failed
store_has_cause view failed unstorable store.OutOfMemory is cause = absurd is
store_has_cause view failed unstorable store.Io is cause = absurd is
store_has_cause view failed unstorable store.Corrupt is cause = cause
store_has_cause view failed unstorable store.Full is cause = absurd is
store_has_cause view failed unstorable store.Broken is cause = absurd is
store_has_cause view failed unstorable store.Unstorable is cause = absurd is

from_no_key : (o : Order) (rows : List Row) → from_key o [] rows ≡ rows
from_no_key o [] = refl
from_no_key o (row ∷ rows) = refl

-- where the cursor is after a seek
pub sought_all : (old new : View) (tree : ℕ) (key : Row) → key ≡ []
    → new ≡ with_cursor old 0 (sought (order_of (old.shape tree)) Forward key (old.trees tree))
    → (new.cursors 0 ≡ Some (old.trees tree)) × OnlyReads old new
sought_all old new tree key none is =
    let all : from_key (order_of (old.shape tree)) key (old.trees tree) ≡ old.trees tree =
    ap (λ (k : Row). from_key (order_of (old.shape tree)) k (old.trees tree)) none
    ∙ from_no_key (order_of (old.shape tree)) (old.trees tree) in (
      ap (λ (v : View). v.cursors 0) is ∙ ap (λ (l : List Row). Some l) all,
      is ∙ ap (λ cs. record old { cursors = cs }) (sym (ap (λ (v : View). v.cursors) is)),
    )

some_rows : (a b : List Row) → Some a ≡ Some b → a ≡ b
some_rows a b is = cc is

-- after one row more
pub advanced : (first old new : View) (left : List Row) (row : Row) → Advances old new 0 row true → old.cursors 0 ≡ Some left
    → OnlyReads first old
    → (after : List Row) × (left ≡ row ∷ after) × (new.cursors 0 ≡ Some after) × OnlyReads first new
advanced first old new left row step cursor reads = (
  step.0,
  some_rows left (row ∷ step.0) (sym cursor ∙ step.1),
  ap (λ (v : View). v.cursors 0) step.2,
  step.2 ∙ ap (λ (v : View). with_cursor v 0 step.0) reads
      ∙ ap (λ cs. record first { cursors = cs })
      (sym (ap (λ (v : View). v.cursors) (step.2 ∙ ap (λ (v : View). with_cursor v 0 step.0) reads))),
)

pub ended : (old new : View) (left : List Row) (row : Row) → Advances old new 0 row false → old.cursors 0 ≡ Some left
    → (left ≡ []) × (new ≡ old)
ended old new left row step cursor = (some_rows left [] (sym cursor ∙ step.0), step.1)

pub reads_on : (first second third : View) → OnlyReads first second → OnlyReads second third → OnlyReads first third
reads_on first second third here there = there ∙ ap (λ (v : View). record v { cursors = third.cursors }) here

-- ---- the rows of a table

-- so many rows were read and put back, and those are left
pub record ReadSoFar (configuration : Configuration) (table : SnapshotTable) (stored : List Row) (view : View) (place : ℕ)
    (before now : State) : Type 0 where
  pub done : List StateRow
  pub left : List Row
  pub split : stored ≡ rows_from 1 done ++ left
  pub cursor : view.cursors 0 ≡ Some left
  pub kind : AllByRecursion (IsOf table) done
  pub count : place ≡ 1 + length done
  pub restored : restored configuration done before ≡ Ok now

module _ (configuration : Configuration) (table : SnapshotTable) (before : State) where
  pub read_none : (first view : View) → view.cursors 0 ≡ Some (first.trees (tree_of table))
      → ReadSoFar configuration table (first.trees (tree_of table)) view 1 before before
  read_none first view cursor = record {
    done = [];
    left = first.trees (tree_of table);
    split = refl;
    cursor = cursor;
    kind = tt;
    count = refl;
    restored = no_row configuration before;
  }

  pub read_one : (stored : List Row) (old new : View) (place : ℕ) (now after : State) (item : StateRow) (row : Row)
      (rest : List Row) (was : ReadSoFar configuration table stored old place before now)
      → was.left ≡ row ∷ rest → new.cursors 0 ≡ Some rest → IsOf table item → row ≡ row_of place item
      → restored configuration (item ∷ []) now ≡ Ok after
      → ReadSoFar configuration table stored new (place + 1) before after
  read_one stored old new place now after item row rest was next cursor kind is led =
      let at : row ≡ row_of (1 + length was.done) item = is ∙ ap (λ (k : ℕ). row_of k item) was.count in
      record {
        done = was.done ++ item ∷ [];
        left = rest;
        split = was.split ∙ ap (λ (l : List Row). rows_from 1 was.done ++ l) (next ∙ ap (λ (r : Row). r ∷ rest) at)
            ∙ sym (append_assoc (rows_from 1 was.done) (row_of (1 + length was.done) item ∷ []) rest)
            ∙ ap (λ (l : List Row). l ++ rest) (sym (rows_push 1 was.done item));
        cursor = cursor;
        kind = one_more (IsOf table) was.done item was.kind kind;
        count = ap (λ (k : ℕ). k + 1) was.count ∙ longer was.done item;
        restored = join configuration was.done (item ∷ []) before now was.restored ∙ led;
      }
    where
      longer : (done : List StateRow) (item : StateRow) → 1 + length done + 1 ≡ 1 + length (done ++ item ∷ [])
      longer done item = omega (arith, length-append done (item ∷ []))

  pub read_all : (stored : List Row) (view : View) (place : ℕ) (now : State)
      (was : ReadSoFar configuration table stored view place before now) → was.left ≡ []
      → ArePutBack configuration table stored before now
  read_all stored view place now was none = record {
    items = was.done;
    are = was.split ∙ ap (λ (l : List Row). rows_from 1 was.done ++ l) none ∙ append-nil (rows_from 1 was.done);
    kind = was.kind;
    restored = was.restored;
  }

-- ---- one row more

module _ (configuration : Configuration) (table : SnapshotTable) (before : State) (stored : List Row) (old new : View) (place : ℕ)
    (now : State) (row : Row)
    (was : ReadSoFar configuration table stored old place before now) (step : Advances old new 0 row true) where
  next_is : was.left ≡ row ∷ step.0
  next_is = some_rows was.left (row ∷ step.0) (sym was.cursor ∙ step.1)

  stored_is : stored ≡ rows_from 1 was.done ++ row ∷ step.0
  stored_is = was.split ∙ ap (λ (l : List Row). rows_from 1 was.done ++ l) next_is

  pub strays : (IsRowAt table place row → ⊥) → CannotPutBack configuration table stored before
  strays none = stray configuration table stored before was.done row step.0 now stored_is was.kind was.restored place was.count none

  pub refuses : (item : StateRow) → IsOf table item → row ≡ row_of place item
      → ((after : State) → restored configuration (item ∷ []) now ≡ Ok after → ⊥)
      → CannotPutBack configuration table stored before
  refuses item kind is never = refused configuration table stored before was.done row step.0 now stored_is was.kind was.restored
      place item was.count kind is never

  pub goes_on : (item : StateRow) (after : State) → IsOf table item → row ≡ row_of place item
      → restored configuration (item ∷ []) now ≡ Ok after
      → ReadSoFar configuration table stored new (place + 1) before after
  goes_on item after kind is led =
      read_one configuration table before stored old new place now after item row step.0 was next_is
      (ap (λ (v : View). v.cursors 0) step.2) kind is led

-- ---- what is said of an equal configuration and of an equal table

pub cannot_there : (configuration other : Configuration) (table : SnapshotTable) (stored there : List Row) (state : State)
    → other ≡ configuration → there ≡ stored
    → CannotPutBack other table there state → CannotPutBack configuration table stored state
cannot_there configuration other table stored there state same is cannot =
    subst (λ (c : Configuration). CannotPutBack c table stored state) same
    (subst (λ (l : List Row). CannotPutBack other table l state) is cannot)

pub put_there : (configuration other : Configuration) (table : SnapshotTable) (stored there : List Row) (before after : State)
    → other ≡ configuration → there ≡ stored
    → ArePutBack other table there before after → ArePutBack configuration table stored before after
put_there configuration other table stored there before after same is put =
    subst (λ (c : Configuration). ArePutBack c table stored before after) same
    (subst (λ (l : List Row). ArePutBack other table l before after) is put)

-- damage is the only fault of the rows that is reported of a row
pub damage_is : (fault : JournalFault) → IsOfRows (reported fault) → fault ≡ journal.Damaged
damage_is journal.NoMemory of = absurd of
damage_is journal.Disk of = absurd of
damage_is journal.Damaged of = refl
damage_is journal.NoRoom of = absurd of
damage_is journal.Full of = absurd of

-- a fault before or after counts as one in between
pub more_later : (a b c : ℕ) → a ≤ b → MoreFaults b c → MoreFaults a c
more_later a b c le more = grind (arith, le, more)

-- ---- one row alone

pub only_row : (old mid new : View) (tree : ℕ) (row other : Row) → mid.cursors 0 ≡ Some (old.trees tree)
    → (step : Advances mid new 0 row true) → new.cursors 0 ≡ Some []
    → old.trees tree ≡ row ∷ []
only_row old mid new tree row other cursor step none =
    let first : old.trees tree ≡ row ∷ step.0 = some_rows (old.trees tree) (row ∷ step.0) (sym cursor ∙ step.1) in
    let last : step.0 ≡ [] = some_rows step.0 [] (sym (ap (λ (v : View). v.cursors 0) step.2) ∙ none) in
    first ∙ ap (λ (l : List Row). row ∷ l) last

pub other_rows : (old mid new : View) (tree : ℕ) (row wanted : Row) → mid.cursors 0 ≡ Some (old.trees tree)
    → (step : Advances mid new 0 row true)
    → old.trees tree ≡ wanted ∷ [] → row ∷ [] ≡ wanted ∷ []
other_rows old mid new tree row wanted cursor step is =
    let first : old.trees tree ≡ row ∷ step.0 = some_rows (old.trees tree) (row ∷ step.0) (sym cursor ∙ step.1) in
    let both : row ∷ step.0 ≡ wanted ∷ [] = sym first ∙ is in
    ap (λ (r : Row). r ∷ []) (same_head row wanted step.0 [] both)
  where
    same_head : (x y : Row) (xs ys : List Row) → x ∷ xs ≡ y ∷ ys → x ≡ y
    same_head x y xs ys same = cc same

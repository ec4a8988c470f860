-- What a store with the tables of a journal shows.
use Rattle.std.specs.Prelude.{◌≡◌, ◌≢◌, ◌⊎◌, ℕ, suc, List, ◌++◌, length, Bool, Option, Some, option_to_list, IsTrue, IsSome}
use Rattle.sqlite_trees.specs.Tree.{Trees}
use Rattle.sqlite_trees.specs.View.{View}
use Rattle.sqlite_trees.specs.declared.store.Shape.TheVariants.{Table}
use Rattle.sqlite_value.specs.Order.{Row}
use Rattle.rad_journal.specs.Records.{IsJournal, register_tree, with_record}
use Rattle.rad_journal.specs.Rows.{table, entries_of}
use Rattle.rad_journal.specs.declared.kept.Kept.{Kept}
use Rattle.rad_journal.specs.declared.register.Register.{Register}

-- the entries of the last commit
abbrev pub kept_in : View → List Kept
kept_in view = entries_of (view.committed table)

-- a crash may leave these entries
abbrev pub MayLeave : (Trees → Type 0) → List Kept → Type 0
MayLeave recovers left = (db : Trees) × recovers db × (left ≡ entries_of (db table))

-- a crash may leave these entries, and these records in the registers
abbrev pub MayRecord : (Trees → Type 0) → List Kept → (Register → List Row) → Type 0
MayRecord recovers left rows =
    (db : Trees) × recovers db × (left ≡ entries_of (db table)) × (rows ≡ (λ register. db (register_tree register)))

-- what a database has beside the journal's tables: its other tables
abbrev pub Beside : Type 0
Beside = Trees

abbrev pub others : Trees → Beside
others db tree = db (suc (suc (suc tree)))

-- each outcome of a crash has these other trees
abbrev pub LeavesOthers : (Trees → Type 0) → Beside → Type 0
LeavesOthers recovers beside = (db : Trees) → recovers db → others db ≡ beside

-- whatever each outcome of a crash has beside the journal's tables, each has it later
abbrev pub KeepsOthers : (old new : Trees → Type 0) → Type 0
KeepsOthers old new = (beside : Beside) → LeavesOthers old beside → LeavesOthers new beside

-- a store has the tables
pub record HasTables (view : View) : Type 0 where
  pub entries : view.shape table ≡ Table
  pub records : (register : Register) → view.shape (register_tree register) ≡ Table

-- Each outcome of a crash has entries and their records. A store that is usable may be opened again. Where the count is known,
-- nothing is pending, and it counts the entries.
pub record IsSound (view : View) (recovers : Trees → Type 0) (usable : Bool) (count : Option ℕ) : Type 0 where
  pub outcomes : (db : Trees) → recovers db → IsJournal db
  pub shapes : IsTrue usable → HasTables view
  pub committed_shape : IsTrue usable → view.shape ≡ view.committed_shape
  pub known : IsSome count → IsTrue usable
  pub settled : IsSome count → view.trees ≡ view.committed
  pub journal : IsSome count → IsJournal view.committed
  pub counted : (n : ℕ) → count ≡ Some n → length (kept_in view) ≡ n

-- each tree but one is as it was
abbrev pub LeavesRest : View → View → ℕ → Type 0
LeavesRest old new tree = (other : ℕ) → other ≢ tree → new.trees other ≡ old.trees other

-- a record was put into a register, if there is one, and nothing else
pub record IsRecorded (old new : View) (register : Register) (put : Option Row) : Type 0 where
  pub records : new.trees (register_tree register) ≡ with_record put (old.trees (register_tree register))
  pub rest : LeavesRest old new (register_tree register)

-- entries were added and committed
pub record IsAdded (old new : View) (entries : List Kept) : Type 0 where
  pub was_open : IsTrue old.is_open
  pub is_open : IsTrue new.is_open
  pub added : kept_in new ≡ kept_in old ++ entries

-- what a crash leaves was left before, or has the entries added
abbrev pub LeavesAdded : View → (Trees → Type 0) → (Trees → Type 0) → List Kept → Type 0
LeavesAdded view old new entries = (db : Trees) → new db
    → old db ⊎ (entries_of (db table) ≡ kept_in view ++ entries)

-- only cursors may differ
abbrev pub OnlyReads : View → View → Type 0
OnlyReads old new = new ≡ record old { cursors = new.cursors }

-- the record that is expected next was read, if one is
pub record TakesRecord (old new : View) (next : Option Row) : Type 0 where
  pub reads : OnlyReads old new
  pub takes : (left : List Row) → old.cursors 0 ≡ Some left
      → (rest : List Row) × (left ≡ option_to_list next ++ rest) × (new.cursors 0 ≡ Some rest)

-- a store that was just opened, with the tables
pub record IsFresh (view : View) : Type 0 where
  pub is_open : IsTrue view.is_open
  pub shapes : HasTables view
  pub committed_shape : view.shape ≡ view.committed_shape
  pub settled : view.trees ≡ view.committed

-- What a store with the tables of a generation shows.
use Rattle.std.specs.Prelude.{◌≡◌, ◌<◌, ◌⊎◌, ℕ, [], Some}
use Rattle.rad_server.specs.States.{State}
use Rattle.sqlite_trees.specs.Tree.{Trees}
use Rattle.sqlite_trees.specs.View.{View}
use Rattle.sqlite_trees.specs.declared.store.Shape.TheVariants.{Table}
use Rattle.rad_journal.specs.Records.{register_tree}
use Rattle.rad_journal.specs.Rows.{table}
use Rattle.rad_journal.specs.Stores.{IsFresh}
use Rattle.rad_journal.specs.declared.register.Register.{Register}
use Rattle.rad_snapshot.specs.Snapshots.{HasTables, IsSnapshotOf}
use Rattle.rad_state.specs.Metas.{meta_rows, meta_table}
use Rattle.rad_state.specs.declared.meta.Meta.{Meta}

-- how many tables there are: the three of the journal, the meta's, and the four of the snapshot
abbrev pub tables : ℕ
tables = 8

abbrev pub AreTables : View → Type 0
AreTables view = (tree : ℕ) → tree < tables → view.shape tree ≡ Table

-- a store that was just opened, with its tables
pub record IsOpened (view : View) : Type 0 where
  pub fresh : IsFresh view
  pub meta_shape : view.shape meta_table ≡ Table
  pub snapshot_shapes : HasTables view

-- the tables have no row
abbrev pub AreBlank : Trees → Type 0
AreBlank trees = (tree : ℕ) → tree < tables → trees tree ≡ []

-- a store that was just made, with its tables
pub record IsBlank (view : View) : Type 0 where
  pub opened : IsOpened view
  pub none : AreBlank view.committed

-- a generation begins here, with this meta, at this state: no entry is kept yet
pub record Begins (db : Trees) (meta : Meta) (state : State) : Type 0 where
  pub held : db meta_table ≡ meta_rows (Some meta)
  pub snapshot : IsSnapshotOf db state
  pub none : db table ≡ []
  pub none_recorded : (register : Register) → db (register_tree register) ≡ []

-- a crash leaves no meta, or a generation that begins so
abbrev pub LeavesBeginning : (Trees → Type 0) → Meta → State → Type 0
LeavesBeginning recovers meta state = (db : Trees) → recovers db → (db meta_table ≡ []) ⊎ Begins db meta state

-- Snapshots: a server's state as the rows of four tables.
use Rattle.std.specs.Prelude.{◌≡◌, ℕ, ◌-◌, [], ◌∷◌, map}
use Rattle.std.specs.List.{AllByRecursion}
use Rattle.rad_config.specs.Configurations.{Configuration}
use Rattle.rad_server.specs.Lawful.{IsLawful}
use Rattle.rad_server.specs.States.{State}
use Rattle.rad_server.specs.declared.state_row.StateRow.TheVariants as rows
use Rattle.sqlite_trees.specs.Tree.{Trees}
use Rattle.sqlite_trees.specs.View.{View}
use Rattle.sqlite_trees.specs.declared.store.Shape.TheVariants.{Table}
use Rattle.rad_snapshot.specs.Rows.{IsWithin, numbers_row, rows_from}
use Rattle.rad_snapshot.specs.declared.snapshot_table.SnapshotTable.{SnapshotTable}
use Rattle.rad_snapshot.specs.declared.snapshot_table.SnapshotTable.TheVariants.{Sessions, Replies, Challenges, Numbers}

-- the tree of a table
abbrev pub tree_of : SnapshotTable → ℕ
tree_of Sessions = 4
tree_of Replies = 5
tree_of Challenges = 6
tree_of Numbers = 7

-- each of the four trees is exactly the rows of the state, in its order and numbered from 1
pub record IsSnapshotOf (trees : Trees) (state : State) : Type 0 where
  pub sessions : trees (tree_of Sessions) ≡ rows_from 1 (map rows.Session state.sessions.sessions)
  pub replies : trees (tree_of Replies) ≡ rows_from 1 (map rows.Reply state.replies.kept)
  pub challenges : trees (tree_of Challenges) ≡ rows_from 1 (map rows.Challenge state.challenges.challenges)
  pub numbers : trees (tree_of Numbers) ≡ numbers_row state.clock (state.sessions.next - 1) (state.challenges.next - 1) ∷ []

-- the numbers of the state's rows are such as rows in memory have
pub record AreWithin (state : State) : Type 0 where
  pub sessions : AllByRecursion IsWithin (map rows.Session state.sessions.sessions)
  pub replies : AllByRecursion IsWithin (map rows.Reply state.replies.kept)
  pub challenges : AllByRecursion IsWithin (map rows.Challenge state.challenges.challenges)

-- the trees are the snapshot of no lawful state that a server with this configuration can have in memory
abbrev pub IsNoSnapshot : Configuration → Trees → Type 0
IsNoSnapshot configuration trees = (state : State) → IsLawful configuration state → AreWithin state → ¬ IsSnapshotOf trees state

-- ---- a store

-- the four trees are tables
abbrev pub HasTables : View → Type 0
HasTables view = (table : SnapshotTable) → view.shape (tree_of table) ≡ Table

-- the four tables have no row
abbrev pub AreEmpty : Trees → Type 0
AreEmpty trees = (table : SnapshotTable) → trees (tree_of table) ≡ []

-- each tree that is none of the four is as it was
abbrev pub KeepsOthers : Trees → Trees → Type 0
KeepsOthers old new = (tree : ℕ) → ((table : SnapshotTable) → ¬ (tree ≡ tree_of table)) → new tree ≡ old tree

-- ---- the law

-- of one configuration, lawful states with one snapshot are equal
abbrev pub OneSnapshotOneState : Type 0
OneSnapshotOneState = (configuration : Configuration) (trees : Trees) (one other : State)
    → IsLawful configuration one → IsLawful configuration other → IsSnapshotOf trees one → IsSnapshotOf trees other → one ≡ other

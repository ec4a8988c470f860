-- The rows of one table, put back into a server; and those of all four.
use Rattle.std.specs.Prelude.{◌≡◌, ℕ, List, [], ◌∷◌, map, Ok, pos}
use Rattle.std.specs.List.{AllByRecursion}
use Rattle.rad_config.specs.Configurations.{Configuration}
use Rattle.rad_pool.specs.declared.session.Session.{Session}
use Rattle.rad_recent.specs.declared.challenge.Challenge.{Challenge}
use Rattle.rad_recent.specs.declared.kept.Kept.{Kept}
use Rattle.rad_server.specs.Restored.{restored}
use Rattle.rad_server.specs.States.{State}
use Rattle.rad_server.specs.declared.state_row.StateRow.{StateRow}
use Rattle.rad_server.specs.declared.state_row.StateRow.TheVariants as rows
use Rattle.sqlite_trees.specs.Tree.{Trees}
use Rattle.sqlite_value.specs.Order.{Row, column}
use Rattle.sqlite_value.specs.declared.value.Value.TheVariants.{Int}
use Rattle.rad_snapshot.specs.Rows.{IsChallenge, IsReply, IsSession, IsWithin, challenge_of, challenge_row, numbers_row, reply_of}
use Rattle.rad_snapshot.specs.Rows.{reply_row, row_of, rows_from, session_of, session_row}
use Rattle.rad_snapshot.specs.Snapshots.{tree_of}
use Rattle.rad_snapshot.specs.declared.numbers.Numbers.{Numbers}
use Rattle.rad_snapshot.specs.declared.rest.Rest.{Rest}
use Rattle.rad_snapshot.specs.declared.rest.Rest.TheVariants as rest
use Rattle.rad_snapshot.specs.declared.snapshot_table.SnapshotTable.{SnapshotTable}
use Rattle.rad_snapshot.specs.declared.snapshot_table.SnapshotTable.TheVariants as tables

-- ---- rows that are read

-- a row is of the kind that a table has
abbrev pub IsOf : SnapshotTable → StateRow → Type 0
IsOf tables.Sessions (rows.Session session) = Unit {0}
IsOf tables.Replies (rows.Reply reply) = Unit {0}
IsOf tables.Challenges (rows.Challenge challenge) = Unit {0}
IsOf table row = ⊥

-- the row is that of a session in its ranges
abbrev pub IsSessionRow : Row → Type 0
IsSessionRow row = (place : ℕ) × (session : Session) × IsSession session × (row ≡ session_row place session)

-- the row is that of a kept reply in its ranges
abbrev pub IsReplyRow : Row → Type 0
IsReplyRow row = (place : ℕ) × (reply : Kept) × IsReply reply × (row ≡ reply_row place reply)

-- the row is that of a challenge in its ranges
abbrev pub IsChallengeRow : Row → Type 0
IsChallengeRow row = (place : ℕ) × (challenge : Challenge) × IsChallenge challenge × (row ≡ challenge_row place challenge)

-- the row of a table is that of such a row of a server, at this place
pub record IsRowAt (table : SnapshotTable) (place : ℕ) (row : Row) : Type 0 where
  pub item : StateRow
  pub kind : IsOf table item
  pub within : IsWithin item
  pub is : row ≡ row_of place item

-- what a row of a table stands for, if it is one
abbrev pub item_of : SnapshotTable → Row → StateRow
item_of tables.Sessions row = rows.Session (session_of row)
item_of tables.Replies row = rows.Reply (reply_of row)
item_of tables.Challenges row = rows.Challenge (challenge_of row)
item_of tables.Numbers row = rows.LastSession 0

-- the one row with these numbers
abbrev pub numbers_rows : Numbers → List Row
numbers_rows numbers = numbers_row numbers.clock numbers.last_session numbers.last_challenge ∷ []

-- ---- rows that are written

-- what is left to be written of a table
abbrev pub left : Rest → List StateRow
left (rest.Sessions sessions) = map rows.Session sessions
left (rest.Replies replies) = map rows.Reply replies
left (rest.Challenges challenges) = map rows.Challenge challenges

-- it has a row at each place, with the place as its rowid
abbrev pub HasRow : StateRow → Type 0
HasRow item = (place : ℕ) → column (row_of place item) 0 ≡ Int (pos place)

-- the row is that of the next one at this place
pub record IsNext (before after : List StateRow) (place : ℕ) (row : Row) : Type 0 where
  pub item : StateRow
  pub split : before ≡ item ∷ after
  pub is : row ≡ row_of place item
  pub has : HasRow item
  pub within : IsWithin item

-- a tree has these rows, and each other is as it was
pub record IsPut (old new : Trees) (table : SnapshotTable) (stored : List Row) : Type 0 where
  pub here : new (tree_of table) ≡ stored
  pub others : (tree : ℕ) → ¬ (tree ≡ tree_of table) → new tree ≡ old tree

-- ---- rows that are put back

-- these are rows of a table, and put back in their order they lead from one state to another
pub record ArePutBack (configuration : Configuration) (table : SnapshotTable) (stored : List Row) (before after : State) : Type
    0 where
  pub items : List StateRow
  pub are : stored ≡ rows_from 1 items
  pub kind : AllByRecursion (IsOf table) items
  pub restored : restored configuration items before ≡ Ok after

-- no rows of a table within their ranges are these and can be put back
abbrev pub CannotPutBack : Configuration → SnapshotTable → List Row → State → Type 0
CannotPutBack configuration table stored before =
    (after : State) (put : ArePutBack configuration table stored before after) → AllByRecursion IsWithin put.items → ⊥

-- the rows of all tables lead from one state to another
pub record AreAllPutBack (configuration : Configuration) (trees : Trees) (numbers : Numbers) (before after : State) : Type 0 where
  pub granted : State
  pub numbered : State
  pub replied : State
  pub challenged : State
  pub sessions : ArePutBack configuration tables.Sessions (trees (tree_of tables.Sessions)) before granted
  pub last_session : restored configuration (rows.LastSession numbers.last_session ∷ []) granted ≡ Ok numbered
  pub replies : ArePutBack configuration tables.Replies (trees (tree_of tables.Replies)) numbered replied
  pub challenges : ArePutBack configuration tables.Challenges (trees (tree_of tables.Challenges)) replied challenged
  pub last_challenge : restored configuration (rows.LastChallenge numbers.last_challenge ∷ []) challenged ≡ Ok after

-- those that are put back are within their ranges
pub record AreAllWithin (configuration : Configuration) (trees : Trees) (numbers : Numbers) (before after : State)
    (put : AreAllPutBack configuration trees numbers before after) : Type 0 where
  pub sessions : AllByRecursion IsWithin put.sessions.items
  pub replies : AllByRecursion IsWithin put.replies.items
  pub challenges : AllByRecursion IsWithin put.challenges.items

-- no rows of all tables within their ranges are these and can be put back
abbrev pub CannotAllPutBack : Configuration → Trees → Numbers → State → Type 0
CannotAllPutBack configuration trees numbers before =
    (after : State) (put : AreAllPutBack configuration trees numbers before after)
    → AreAllWithin configuration trees numbers before after put → ⊥

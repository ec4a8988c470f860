-- What is noted beside the rows of kept replies: which row each key has, and how many rows each client has.
use Rattle.std.specs.Prelude.{◌≡◌, ℕ, ◌+◌, ◌-◌, ◌<◌, ◌^◌, ◌&&◌, Bool, List, Option, length, slice_index, cond, count_by}
use Rattle.rad_rows.specs.Rows.{SeenRows}
use Rattle.rad_recent.specs.Index.{Forgets, HoldsIndex, is_row_live, replies_of}
use Rattle.rad_recent.specs.Recent.{is_client, is_of}
use Rattle.rad_recent.specs.declared.clients.LiveReplies.{LiveReplies}
use Rattle.rad_recent.specs.declared.notes.Notes.{Notes}
use Rattle.rad_recent.specs.declared.numbered.Numbered.{Numbered}

-- whether a row's reply is live and takes a client's share
abbrev pub is_live_of : ℕ → ℕ → ℕ → Numbered → Bool
is_live_of window now client row = is_row_live window now row && is_of client row.kept

-- how many it is of a client: one or none
abbrev pub one_of : ℕ → Option ℕ → ℕ
one_of client own = cond (is_client client own) 1 0

-- as many for each client that there is a count for as rows take its share
pub record CountsClients (rows : List Numbered) (counts : List ℕ) : Type 0 where
  pub is : (n : ℕ) → n < length counts → slice_index counts n ≡ count_by (is_of n) (replies_of rows)

-- what rows and what is noted of them keep
pub record HoldsNotes (rows : SeenRows Numbered ℕ) (notes : Notes) : Type 0 where
  pub index : HoldsIndex rows notes.index
  pub clients : CountsClients rows.rows notes.clients.items

-- one more of a client, if there is one, where one more can be counted
pub record GainsClient (client : Option ℕ) (old new : List ℕ) : Type 0 where
  pub len : length new ≡ length old
  pub is : (n : ℕ) → n < length old → slice_index old n + 1 < 2 ^ 64 → slice_index new n ≡ slice_index old n + one_of n client

-- one less of a client, if there is one
pub record LosesClient (client : Option ℕ) (old new : List ℕ) : Type 0 where
  pub len : length new ≡ length old
  pub is : (n : ℕ) → n < length old → slice_index new n ≡ slice_index old n - one_of n client

-- what is left of notes that are told of a row that goes
pub record Leaves (old : Notes) (row : Numbered) (new : Notes) : Type 0 where
  pub index : Forgets old.index row.kept.key new.index
  pub clients : LosesClient row.kept.client old.clients.items new.clients.items

-- one reply less, if it takes the client's share
pub record TakesOne (old : LiveReplies) (row : Numbered) (new : LiveReplies) : Type 0 where
  pub client : new.client ≡ old.client
  pub count : new.count ≡ old.count - one_of old.client row.kept.client

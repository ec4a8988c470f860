-- Which row a key has: the rows have numbers, and an index has the number of each key's row.
use Rattle.std.specs.Prelude.{◌≡◌, ℕ, ◌+◌, ◌≤◌, ◌<◌, ◌^◌, Bool, true, List, All, None, Some, cond, is_some, map}
use Rattle.indexmap.specs.IndexMap.{spare}
use Rattle.rad_rows.specs.Rows.{SeenRows}
use Rattle.rad_recent.specs.declared.index.Index.{Index}
use Rattle.rad_recent.specs.declared.kept.Kept.{Kept}
use Rattle.rad_recent.specs.declared.key.Key.{Key}
use Rattle.rad_recent.specs.declared.numbered.Numbered.{Numbered}
use Rattle.rad_recent.specs.Numbers.{number_at}
use Rattle.rad_recent.specs.Recent.{is_reply_live, same_key}

-- the replies of rows
abbrev pub replies_of : List Numbered → List Kept
replies_of rows = map (λ row. row.kept) rows

-- whether a row's reply is live
abbrev pub is_row_live : ℕ → ℕ → Numbered → Bool
is_row_live window now row = is_reply_live window now row.kept

-- the index has the row's number for its key, and for no other key
pub record IsIndexed (entries : List (Key × ℕ)) (row : Numbered) : Type 0 where
  pub own : (key : Key) → same_key key row.kept.key ≡ true → number_at entries key ≡ Some row.number
  pub only : (key : Key) → number_at entries key ≡ Some row.number → same_key key row.kept.key ≡ true

-- what an index is left with from which a key is taken out
pub record Forgets (old : Index) (key : Key) (new : Index) : Type 0 where
  pub numbers : (other : Key) → number_at new.map.entries other ≡ cond (same_key key other) None (number_at old.map.entries other)
  pub room : spare old.map ≤ spare new.map
  pub ready : new.ready ≡ old.ready

-- what rows and an index keep
pub record HoldsIndex (rows : SeenRows Numbered ℕ) (index : Index) : Type 0 where
  pub indexed : All (IsIndexed index.map.entries) rows.rows
  pub given : (key : Key) (number : ℕ) → number_at index.map.entries key ≡ Some number → number ≤ rows.last
  pub room : is_some index.ready ≡ true → rows.has_room ≡ true
  pub next : is_some index.ready ≡ true → rows.last + 1 < 2 ^ 64
  pub spare : is_some index.ready ≡ true → 0 < spare index.map

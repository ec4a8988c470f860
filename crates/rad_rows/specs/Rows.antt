-- Rows as callers see them: a list, oldest first, of which each row has a number and lives for a time. Numbers count from 1.
-- Moments are in milliseconds.
use Rattle.std.specs.Prelude.{◌≡◌, ℕ, ◌<◌, ◌≤◌, ◌^◌, ◌==◌, Bool, not, List, All, AllPairs, filter, if◌then◌else◌}
use Rattle.std.specs.List.{FoldsTo}

-- the last moment: it and a span add up within 64 bits
abbrev pub moment_max : ℕ
moment_max = 2 ^ 62

-- the rows, the last number that was given, how long rows live, and whether memory is ready for one more
pub record SeenRows (T S : Type 0) : Type 0 where
  pub rows : List T
  pub last : ℕ
  pub spans : S
  pub has_room : Bool

-- the same rows and the same last number
pub record AreSame {T S : Type 0} (table other : SeenRows T S) : Type 0 where
  pub rows : table.rows ≡ other.rows
  pub last : table.last ≡ other.last

-- ---- numbers

-- a row's number was given: it is 1 or more, and no greater than the last
pub record IsGiven {T : Type 0} (number : T → ℕ) (last : ℕ) (row : T) : Type 0 where
  pub one : 1 ≤ number row
  pub le : number row ≤ last

-- a row's number is less than another's
pub record IsBefore {T : Type 0} (number : T → ℕ) (row other : T) : Type 0 where
  pub lt : number row < number other

-- each number was given, and numbers rise from row to row
pub record IsRising {T : Type 0} (number : T → ℕ) (last : ℕ) (rows : List T) : Type 0 where
  pub given : All (IsGiven number last) rows
  pub rising : AllPairs (IsBefore number) rows

-- whether a row has this number
abbrev pub has_number : {T : Type 0} → (T → ℕ) → ℕ → T → Bool
has_number number n row = number row == n

-- whether it has another
abbrev pub has_other : {T : Type 0} → (T → ℕ) → ℕ → T → Bool
has_other number n row = not (number row == n)

-- a row, changed if it has this number
abbrev pub change_row : {T : Type 0} → (T → ℕ) → ℕ → (T → T) → T → T
change_row number n to row = if number row == n then to row else row

-- ---- life

-- whether a row isn't live at a moment
abbrev pub is_dead : {T S : Type 0} → (S → ℕ → T → Bool) → S → ℕ → T → Bool
is_dead live spans now row = not (live spans now row)

-- what a tally is after it was told of each row that isn't live at a moment, one after the other in their order
abbrev pub Tells : {G T S : Type 0} → (G → T → G → Type 0) → (S → ℕ → T → Bool) → S → ℕ → List T → G → G → Type 0
Tells told live spans now rows old new = FoldsTo told old (filter (is_dead live spans now) rows) new

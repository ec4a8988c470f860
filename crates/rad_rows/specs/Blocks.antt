-- One block: rows in order, until when they live, and what a change of rows makes of it.
use Rattle.std.specs.Prelude.{◌≡◌, ℕ, ◌<◌, ◌≤◌, Bool, true, List, All, filter, map}
use Rattle.rad_rows.specs.Rows.{change_row, has_other, moment_max}

-- the rows, how long they live, and for how many there is memory
pub record SeenBlock (T S : Type 0) : Type 0 where
  pub rows : List T
  pub spans : S
  pub capacity : ℕ

-- a row is live before this moment
pub record LivesUntil {T S : Type 0} (live : S → ℕ → T → Bool) (spans : S) (bound : ℕ) (row : T) : Type 0 where
  pub lives : (now : ℕ) → now < bound → now ≤ moment_max → live spans now row ≡ true

-- each row of the block is
pub record BlockLives {T S : Type 0} (live : S → ℕ → T → Bool) (bound : ℕ) (block : SeenBlock T S) : Type 0 where
  pub rows : All (LivesUntil live block.spans bound) block.rows

-- a block with other rows
abbrev pub with_rows : {T S : Type 0} → SeenBlock T S → List T → SeenBlock T S
with_rows block rows = record { rows = rows; spans = block.spans; capacity = block.capacity }

-- a block with only the rows that are live at a moment
abbrev pub cut_block : {T S : Type 0} → (S → ℕ → T → Bool) → ℕ → SeenBlock T S → SeenBlock T S
cut_block live now block = with_rows block (filter (live block.spans now) block.rows)

-- a block without the row of this number
abbrev pub block_without : {T S : Type 0} → (T → ℕ) → ℕ → SeenBlock T S → SeenBlock T S
block_without number n block = with_rows block (filter (has_other number n) block.rows)

-- a block with each row changed
abbrev pub block_mapped : {T S : Type 0} → (T → T) → SeenBlock T S → SeenBlock T S
block_mapped to block = with_rows block (map to block.rows)

-- a block with the row of this number changed
abbrev pub block_changed : {T S : Type 0} → (T → ℕ) → ℕ → (T → T) → SeenBlock T S → SeenBlock T S
block_changed number n to block = block_mapped (change_row number n to) block

-- The blocks of a table, each under its key, the lowest key first.
use Rattle.std.specs.Prelude.{◌≡◌, ℕ, ◌+◌, ◌-◌, ◌*◌, ◌<◌, ◌≤◌, ◌/◌, ◌==◌, ◌&&◌, nat_lt, Bool, true, false, not, List, [], ◌∷◌, All}
use Rattle.std.specs.Prelude.{map, length, slice_get, slice_index, slice_index_or, Option, None, Some}
use Rattle.std.specs.List.{flat_map}
use Rattle.std.specs.Map.{keys_of}
use Rattle.rad_rows.specs.Blocks.{BlockLives, SeenBlock}
use Rattle.rad_rows.specs.Rows.{IsRising}

-- the key of the block that a number belongs to
abbrev pub key_of : ℕ → ℕ
key_of n = n / 64

-- a block under its key
abbrev pub Entry : Type 0 → Type 0 → Type 0
Entry T S = ℕ × SeenBlock T S

module _ {T S : Type 0} where
  abbrev pub entry_rows : Entry T S → List T
  entry_rows entry = entry.1.rows

  -- the rows of all blocks
  abbrev pub all_rows : List (Entry T S) → List T
  all_rows entries = flat_map entry_rows entries

  -- an entry with its block changed
  abbrev pub on_block : (SeenBlock T S → SeenBlock T S) → Entry T S → Entry T S
  on_block f entry = (entry.0, f entry.1)

  -- the entries with each block changed
  abbrev pub on_blocks : (SeenBlock T S → SeenBlock T S) → List (Entry T S) → List (Entry T S)
  on_blocks f entries = map (on_block f) entries

  -- whether an entry's block has rows
  abbrev pub has_rows : Entry T S → Bool
  has_rows entry = not (length entry.1.rows == 0)

  -- whether an entry is that of this key
  abbrev pub is_at_key : ℕ → Option (Entry T S) → Bool
  is_at_key key None = false
  is_at_key key (Some entry) = entry.0 == key

  -- whether an entry is that of this key, and its block has memory for one more row
  abbrev pub is_roomy : ℕ → Option (Entry T S) → Bool
  is_roomy key None = false
  is_roomy key (Some entry) = (entry.0 == key) && nat_lt (length entry.1.rows) entry.1.capacity

  -- whether the last entry is
  abbrev pub has_room_at : ℕ → List (Entry T S) → Bool
  has_room_at key entries = is_roomy key (slice_get entries (length entries - 1))

-- keys rise, from this one on
abbrev pub Ascends : ℕ → List ℕ → Type 0
Ascends low [] = Unit {0}
Ascends low (key ∷ keys) = (low ≤ key) × Ascends (key + 1) keys

-- a row's number belongs to the block of this key
pub record BelongsTo {T : Type 0} (number : T → ℕ) (key : ℕ) (row : T) : Type 0 where
  pub belongs : key_of (number row) ≡ key

module _ {T S : Type 0} where
  -- the rows of a block belong to it
  pub record IsPlaced (number : T → ℕ) (entry : Entry T S) : Type 0 where
    pub rows : All (BelongsTo number entry.0) entry.1.rows

  -- a block's key is no greater than this one
  pub record IsUpTo (top : ℕ) (entry : Entry T S) : Type 0 where
    pub le : entry.0 ≤ top

  -- a block's rows live as these spans tell
  pub record HasSpans (spans : S) (entry : Entry T S) : Type 0 where
    pub same : entry.1.spans ≡ spans

  -- each row of a block is live before this moment
  pub record EntryLives (live : S → ℕ → T → Bool) (bound : ℕ) (entry : Entry T S) : Type 0 where
    pub block : BlockLives live bound entry.1

  -- each block has the table's spans and the rows that belong to it, and keys rise up to `top`
  pub record IsSound (number : T → ℕ) (spans : S) (top : ℕ) (entries : List (Entry T S)) : Type 0 where
    pub spanned : All (HasSpans spans) entries
    pub placed : All (IsPlaced number) entries
    pub ascends : Ascends 0 (keys_of entries)
    pub limited : All (IsUpTo top) entries

  -- there is a bound of each 64 neighbouring blocks, before which each of their rows is live. Where the bounds are found anew, up
  -- to the place `at`, this isn't known of the blocks from there on of a group that was begun
  pub record IsGrouped (live : S → ℕ → T → Bool) (at : ℕ) (bounds : List ℕ) (entries : List (Entry T S)) : Type 0 where
    pub enough : length entries ≤ 64 * length bounds
    pub lives : (place : ℕ) (d : Entry T S) → place < length entries → (at ≤ place → at ≤ 64 * (place / 64))
        → EntryLives live (slice_index bounds (place / 64)) (slice_index_or entries place d)

  -- what the fields of a table keep; where memory is ready, it is in the block of the next number
  pub record IsConsistent (number : T → ℕ) (live : S → ℕ → T → Bool) (entries : List (Entry T S)) (bounds : List ℕ) (spans : S)
      (last len : ℕ) (ready : Bool) : Type 0 where
    pub sound : IsSound number spans (key_of (last + 1)) entries
    pub grouped : IsGrouped live 0 bounds entries
    pub count : len ≡ length (all_rows entries)
    pub order : IsRising number last (all_rows entries)
    pub room : ready ≡ true → has_room_at (key_of (last + 1)) entries ≡ true

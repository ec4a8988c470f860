-- How often each address of a pool is in use. Places are counted from 0: the address at a place is the first one plus the place.
use Rattle.std.specs.Prelude.{◌≡◌, ℕ, ◌+◌, ◌-◌, ◌*◌, ◌<◌, ◌≤◌, ◌&&◌, nat_le, nat_lt, Bool, List, length, replicate, slice_index}
use Rattle.std.specs.Prelude.{slice_set, Option, None, Some, if◌then◌else◌}
use Rattle.rad_places.specs.Marks.{marked}

-- the first address, how often each address is in use, and the number that was noted last for each
pub record SeenPlaces : Type 0 where
  pub first : ℕ
  pub uses : List ℕ
  pub notes : List ℕ

-- so many addresses that aren't in use
abbrev pub unused : ℕ → ℕ → SeenPlaces
unused first count = record { first = first; uses = replicate count 0; notes = replicate count 0 }

-- whether an address is one of the pool
abbrev pub is_inside : ℕ → SeenPlaces → Bool
is_inside address places = nat_le places.first address && nat_lt (address - places.first) (length places.uses)

-- its place, if it is
abbrev pub place_of : ℕ → SeenPlaces → Option ℕ
place_of address places = if is_inside address places then Some (address - places.first) else None

-- how often the address at a place is in use
abbrev pub uses_at : ℕ → SeenPlaces → ℕ
uses_at place places = slice_index places.uses place

-- one use more of the address at a place
abbrev pub with_use : ℕ → SeenPlaces → SeenPlaces
with_use place places = record places { uses = slice_set places.uses place (uses_at place places + 1) }

-- one use less; without any it stays so
abbrev pub without_use : ℕ → SeenPlaces → SeenPlaces
without_use place places = record places { uses = slice_set places.uses place (uses_at place places - 1) }

-- this number noted for the address at a place
abbrev pub with_note : ℕ → ℕ → SeenPlaces → SeenPlaces
with_note place number places = record places { notes = slice_set places.notes place number }

-- exactly the places whose address isn't in use are marked
pub record MarksFree (uses marks : List ℕ) : Type 0 where
  pub enough : length uses ≤ 64 * length marks
  pub free : (place : ℕ) → place < length uses → marked marks place ≡ 1 → slice_index uses place ≡ 0
  pub used : (place : ℕ) → place < length uses → marked marks place ≡ 0 → 0 < slice_index uses place
  pub within : (place : ℕ) → marked marks place ≡ 1 → place < length uses

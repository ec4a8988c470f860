-- How many open sessions each source has, as a map: a source that has none is not in it.
use Rattle.std.specs.Prelude.{◌≡◌, ℕ, List, None, nat_eq, unwrap_or}
use Rattle.std.specs.Map.{lookup}

-- the count of a source: 0 where it has none
abbrev pub count_at : List (ℕ × ℕ) → ℕ → ℕ
count_at counts source = unwrap_or (lookup (nat_eq source) counts) 0

-- a source whose count is 0 is not in the map
pub record HasNoZero (counts : List (ℕ × ℕ)) : Type 0 where
  pub only : (source : ℕ) → count_at counts source ≡ 0 → lookup (nat_eq source) counts ≡ None

-- The number that an index has for a key.
use Rattle.std.specs.Prelude.{ℕ, List, Option}
use Rattle.std.specs.Map.{lookup}
use Rattle.rad_recent.specs.declared.key.Key.{Key}
use Rattle.rad_recent.specs.Recent.{same_key}

-- the number of a key
abbrev pub number_at : List (Key × ℕ) → Key → Option ℕ
number_at entries key = lookup (same_key key) entries

-- How many sessions have each address of no pool, as a map.
use Rattle.std.specs.Prelude.{ℕ, List, nat_eq, option_map, unwrap_or}
use Rattle.std.specs.Map.{lookup}
use Rattle.rad_pool.specs.declared.others.Uses.{Uses}

-- how many have an address: 0 where it isn't there
abbrev pub uses_of : List (ℕ × Uses) → ℕ → ℕ
uses_of others address = unwrap_or (option_map (λ uses. uses.count) (lookup (nat_eq address) others)) 0

-- What more a fault of a configuration says: where a text is no document, and which entries are the same or have the same
-- address.
use Rattle.std.specs.Prelude.{ℕ, ◌+◌, ◌==◌, ◌&&◌, nat_le, nat_lt, Bool, true, false, count_by, List}
use Rattle.rad_config_fault.specs.declared.config_fault.Key.{Key}
use Rattle.rad_config_fault.specs.declared.config_fault.Key.TheVariants as keys
use Rattle.rad_config_fault.specs.declared.config_fault.Part.TheVariants as parts
use Rattle.rad_config_fault.specs.declared.config_fault.Part.{Part}
use Rattle.rad_config_fault.specs.declared.config_fault.Spot.{Spot}
use Rattle.rad_config_fault.specs.declared.config_fault.ConfigFault.{ConfigFault}
use Rattle.rad_config_fault.specs.declared.config_fault.ConfigFault.TheVariants as faults
use Rattle.rad_check.specs.declared.detail.Detail.{Detail}
use Rattle.rad_check.specs.declared.detail.Detail.TheVariants as details
use Rattle.rad_check.specs.declared.shared.Range.{Range}

-- the line, from 1, of what comes after these octets: 10 is the line feed
abbrev pub line_after : List ℕ → ℕ
line_after before = count_by (λ octet. octet == 10) before + 1

-- whether no two entries of a list may have the same value at a key
abbrev pub is_distinct : Key → Bool
is_distinct keys.Address = true
is_distinct keys.Name = true
is_distinct key = false

abbrev pub is_own_key : Part → Key → Bool
is_own_key parts.User keys.Address = true
is_own_key part key = false

-- whether a spot is that of an address of a user's own
abbrev pub is_own_address : Spot → Bool
is_own_address at = is_own_key at.part at.key

-- whether an address is in both ranges
abbrev pub share : Range → Range → Bool
share one other = nat_le one.first other.last && nat_le other.first one.last

-- whether a fault may have such a detail
abbrev pub fits : ConfigFault → Detail → Bool
fits fault details.Nothing = true
fits faults.Syntax (details.Syntax line column error) = true
fits (faults.BadValue at) (details.SameAs part index) = nat_lt index at.index
fits (faults.BadValue at) (details.InPool index) = is_own_address at
fits faults.PoolsOverlap (details.Pools one other) = nat_lt one other
fits fault detail = false

-- Warnings: what may be wrong with a configuration that has no fault, and with its file.
use Rattle.std.specs.Prelude.{ℕ, ◌==◌, ◌&&◌, ◌||◌, bit_and, nat_lt, not, Bool, false, length, Option, Some, None, is_some}
use Rattle.std.specs.List.{list_any}
use Rattle.rad_config.specs.Configurations.{Configuration}
use Rattle.rad_config.specs.declared.user.User.{User}
use Rattle.rad_check.specs.declared.warning.Warning.{Warning}
use Rattle.rad_check.specs.declared.warning.Warning.TheVariants.{NoClient, NoUser, ShortHold, NoShare, IdlePool}

-- a `hold` below this, in seconds, is short
abbrev pub short_hold : ℕ
short_hold = 120

-- whether a user has an address of their own
abbrev pub has_address : User → Bool
has_address user = is_some user.address

-- whether sessions may have addresses
abbrev pub gives_addresses : Configuration → Bool
gives_addresses configuration = not (length configuration.pools == 0) || list_any has_address configuration.users

-- whether there are addresses, which are held for less
abbrev pub is_held_briefly : Configuration → Bool
is_held_briefly configuration = gives_addresses configuration && nat_lt configuration.hold short_hold

-- whether there are several clients, of which none has a share
abbrev pub are_unshared : Configuration → Bool
are_unshared configuration = nat_lt 1 (length configuration.clients) && not (list_any is_some configuration.shares)

-- whether there is a place, and it is this one
abbrev pub is_place : ℕ → Option ℕ → Bool
is_place place None = false
is_place place (Some own) = own == place

-- whether a user has the pool at a place
abbrev pub has_pool : ℕ → User → Bool
has_pool place user = is_place place user.pool

-- whether a warning applies
abbrev pub applies : Configuration → Warning → Bool
applies configuration NoClient = length configuration.clients == 0
applies configuration NoUser = length configuration.users == 0
applies configuration ShortHold = is_held_briefly configuration
applies configuration NoShare = are_unshared configuration
applies configuration (IdlePool place) = not (list_any (has_pool place) configuration.users)

-- whether a file of this mode can be read by others
abbrev pub is_open : ℕ → Bool
is_open mode = not (bit_and mode 4 == 0)

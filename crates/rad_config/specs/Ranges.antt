-- What holds of each configuration that was read, and of its pools and users: lengths, ranges of numbers, and what the checks of
-- a whole list leave. Texts are lists of octets, times are in seconds. Clients keep their own ranges.
use Rattle.std.specs.Prelude.{◌≡◌, ℕ, ◌+◌, ◌≤◌, List, Option, length, slice_get, All, Some, IfSome, is_some}
use Rattle.std.specs.Int.{IsInRange}
use Rattle.rad_packet.specs.Codes.{code_access_accept}
use Rattle.rad_packet.specs.Attributes.{value_max}
use Rattle.rad_auth.specs.Passwords.{password_max}
use Rattle.rad_dictionary.specs.Meant.{IsGrantable}
use Rattle.rad_config.specs.Configurations.{Configuration, accept_max, accept_size, pools_max, user_place, users_max}
use Rattle.rad_config.specs.Profiles.{Group, IsProfile, profile_of_user}
use Rattle.rad_config.specs.Keys.{above_first_max, address_max}
use Rattle.rad_config.specs.declared.pool.Pool.{Pool}
use Rattle.rad_config.specs.declared.user.User.{User}

-- so many octets
abbrev pub HasLength : ℕ → ℕ → List ℕ → Type 0
HasLength least most octets = (least ≤ length octets) × (length octets ≤ most)

pub record IsPool (pool : Pool) : Type 0 where
  pub name : HasLength 1 64 pool.name
  pub first : 1 ≤ pool.first
  pub last : IsInRange pool.first address_max pool.last
  pub size : pool.last ≤ pool.first + above_first_max

-- an address of the pool
abbrev pub HasAddress : Pool → ℕ → Type 0
HasAddress pool address = IsInRange pool.first pool.last address

-- no address is in two pools, which have the places i and j
abbrev pub AreApart : List Pool → Type 0
AreApart pools = (i j : ℕ) (p q : Pool) (address : ℕ) → slice_get pools i ≡ Some p → slice_get pools j ≡ Some q
    → HasAddress p address → HasAddress q address → i ≡ j

-- a group beside so many pools
pub record IsGroup (pools : ℕ) (group : Group) : Type 0 where
  pub profile : IsProfile pools group.profile
  pub code : group.reply.code ≡ code_access_accept
  pub reply : All IsGrantable group.reply.attributes

-- a user beside so many pools
pub record IsUser (pools : ℕ) (user : User) : Type 0 where
  pub name : HasLength 1 value_max user.name
  pub password : HasLength 1 password_max user.password
  pub said : IsProfile pools (profile_of_user user)
  pub paired : is_some user.challenge ≡ is_some user.answer
  pub code : user.reply.code ≡ code_access_accept
  pub reply : All IsGrantable user.reply.attributes
  -- an Access-Accept fits a packet with as many Proxy-States as there may be
  pub fits : accept_size (profile_of_user user) user.reply.attributes ≤ accept_max

-- a share is in percent
abbrev pub HasShare : Option ℕ → Type 0
HasShare share = IfSome share (IsInRange 1 100)

-- a name leads to its user, so no two users have the same
abbrev pub AreNamedApart : List User → Type 0
AreNamedApart users = (place : ℕ) (user : User) → slice_get users place ≡ Some user → user_place users user.name ≡ Some place

pub record IsConfiguration (configuration : Configuration) : Type 0 where
  pub window : IsInRange 1 3600 configuration.window
  pub hold : IsInRange configuration.window 86400 configuration.hold
  pub stale : IfSome configuration.stale (IsInRange configuration.window 604800)
  pub shares : All HasShare configuration.shares
  pub share_each : length configuration.shares ≡ length configuration.clients
  pub pool_count : length configuration.pools ≤ pools_max
  pub pools : All IsPool configuration.pools
  pub apart : AreApart configuration.pools
  pub names : AreNamedApart configuration.users
  pub user_count : length configuration.users ≤ users_max
  pub users : All (IsUser (length configuration.pools)) configuration.users

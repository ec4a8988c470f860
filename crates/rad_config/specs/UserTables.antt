-- The users of the code: what is kept of them and their names. Only the invariant of a private type uses this word.
use Rattle.std.specs.Prelude.{◌≡◌, ℕ, ◌≤◌, nat_eq, List, length, map, Vec}
use Rattle.std.specs.Global.{Global}
use Rattle.std.specs.List.{list_any}
use Rattle.rad_config.specs.Configurations.{has_own, users_max}
use Rattle.rad_config.specs.Ranges.{AreNamedApart}
use Rattle.rad_config.specs.declared.user.User.{User}

-- the names in an index, each at the place of its user, the addresses of users' own in another, and the users
pub record KeepsUsers (names : List (Vec ℕ Global)) (addresses : List ℕ) (users : List User) : Type 0 where
  pub index : map (λ name. name.items) names ≡ map (λ user. user.name) users
  pub own : (address : ℕ) → list_any (nat_eq address) addresses ≡ list_any (has_own address) users
  pub few : length users ≤ users_max
  pub apart : AreNamedApart users

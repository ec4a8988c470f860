use Rattle.std.proofs.Common.{◌≡◌, map, take}
use Rattle.rad_config.specs.Configurations.{user_place}
use Rattle.rad_carry.proofs.places.user_places.Given as goal

-- the places of the users so far
abbrev pub invariant-loop-user : goal.invariant-loop-user
invariant-loop-user l = l.places.items ≡ map (λ user. user_place l.new.users user.name) (take l.user-index l.users)

-- Where the clients and the users of one configuration are in another: clients by their networks, users by their names. Places
-- count from 0.
use Rattle.std.specs.Prelude.{ℕ, ◌+◌, ◌==◌, ◌&&◌, Bool, false, if◌then◌else◌, List, [], ◌∷◌, map, position, slice_get, Option, Some}
use Rattle.std.specs.Prelude.{None, option_and_then}
use Rattle.rad_auth.specs.Clients.{Client, network_of}
use Rattle.rad_auth.specs.declared.network.Network.{Network}
use Rattle.rad_config.specs.Configurations.{Configuration, user_place}
use Rattle.rad_config.specs.declared.user.User.{User}

-- for each client and each user of the old configuration its place in the new one; None where it is gone
pub record Places : Type 0 where
  pub clients : List (Option ℕ)
  pub users : List (Option ℕ)

-- the new place of what had this one, if it is still there
abbrev pub moved_place : List (Option ℕ) → ℕ → Option ℕ
moved_place places place = option_and_then (λ new. new) (slice_get places place)

-- ---- users

-- the new place of each user: that of the user with the same name
abbrev pub user_places : List User → List User → List (Option ℕ)
user_places old new = map (λ user. user_place new user.name) old

-- ---- clients

abbrev pub same_network : Network → Network → Bool
same_network network other = (network.address == other.address) && (network.prefix == other.prefix)

-- whether there is a network, and it is this one
abbrev pub is_network : Network → Option Network → Bool
is_network network None = false
is_network network (Some other) = same_network network other

-- the place of a network, which had this one: the same where the network still has it, otherwise the first that the network has
abbrev pub network_place : List Network → ℕ → Network → Option ℕ
network_place new place network =
    if is_network network (slice_get new place) then Some place else position (same_network network) new

-- the new place of each network, from this old place on
abbrev pub network_places_from : ℕ → List Network → List Network → List (Option ℕ)
network_places_from place [] new = []
network_places_from place (network ∷ rest) new = network_place new place network ∷ network_places_from (place + 1) rest new

abbrev pub network_places : List Network → List Network → List (Option ℕ)
network_places old new = network_places_from 0 old new

-- the new place of each client: that of the client with the same network
abbrev pub client_places : List Client → List Client → List (Option ℕ)
client_places old new = network_places (map network_of old) (map network_of new)

-- ---- both

-- the places of the users by their names, and of the clients as a list says
abbrev pub places_by : List (Option ℕ) → Configuration → Configuration → Places
places_by clients old new = record { clients = clients; users = user_places old.users new.users }

-- the places of the users by their names, and of the clients by their networks
abbrev pub places : Configuration → Configuration → Places
places old new = places_by (client_places old.clients new.clients) old new

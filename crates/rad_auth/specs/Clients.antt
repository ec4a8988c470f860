-- The clients: the network access servers and proxies that share a secret with the server (RFC 2865, sections 2 and 3).
-- An address is a number below 2 ^ 32, most significant octet first. A prefix says how many leading bits of it a network's
-- addresses have in common (RFC 4632, section 3.1). A secret is a list of octets, which are numbers below 256.
use Rattle.std.specs.Prelude.{ℕ, ◌-◌, ◌/◌, ◌%◌, ◌^◌, ◌≤◌, ◌==◌, ◌&&◌, ◌||◌, nat_le, not, Bool, false, List, [], ◌∷◌, ◌++◌, length}
use Rattle.std.specs.Prelude.{position, slice_index_or, Option}
use Rattle.std.specs.List.{list_all, list_any}
use Rattle.rad_auth.specs.declared.network.Network.{Network}

-- ---- clients

-- one or more servers and proxies with one secret: those whose addresses are in the network that an address and a prefix say
pub record Client : Type 0 where
  pub address : ℕ
  pub prefix : ℕ
  pub secret : List ℕ
  pub require_message_authenticator : Bool

-- the clients and one more, after the others
abbrev pub with_client : List Client → ℕ → ℕ → List ℕ → Bool → List Client
with_client clients address prefix secret require_message_authenticator = clients ++ record {
  address = address;
  prefix = prefix;
  secret = secret;
  require_message_authenticator = require_message_authenticator;
} ∷ []

-- how many clients there may be
abbrev pub clients_max : ℕ
clients_max = 256

-- how many octets a secret may have
abbrev pub secret_max : ℕ
secret_max = 128

-- a secret has 1 to `secret_max` octets
abbrev pub IsSecret : List ℕ → Type 0
IsSecret secret = (1 ≤ length secret) × (length secret ≤ secret_max)

-- ---- networks

-- how many bits an address has
abbrev pub address_bits : ℕ
address_bits = 32

-- the number that an address's leading bits make, as many as the prefix says
abbrev pub leading_bits : ℕ → ℕ → ℕ
leading_bits address prefix = address / 2 ^ (address_bits - prefix)

-- the network of a client
abbrev pub network_of : Client → Network
network_of client = record { address = client.address; prefix = client.prefix }

-- whether an address and a prefix say a network: the prefix is at most 32, and no bit of the address past it is set
abbrev pub network_fits : ℕ → ℕ → Bool
network_fits address prefix = nat_le prefix address_bits && (address % 2 ^ (address_bits - prefix) == 0)

-- whether a client's network holds an address: both addresses have the same leading bits, as many as the prefix says
abbrev pub holds : Client → ℕ → Bool
holds client source = leading_bits source client.prefix == leading_bits client.address client.prefix

-- whether a client has this address with this prefix
abbrev pub has_network : List Client → ℕ → ℕ → Bool
has_network clients address prefix = list_any (λ client. (client.address == address) && (client.prefix == prefix)) clients

-- ---- the client of a source

-- whether no client whose network holds this source has a greater prefix
abbrev pub is_greatest : List Client → ℕ → ℕ → Bool
is_greatest clients source prefix = list_all (λ client. not (holds client source) || nat_le client.prefix prefix) clients

-- the place, counted from 0, of the client with the greatest prefix whose network holds this source, if one does
abbrev pub client_place : List Client → ℕ → Option ℕ
client_place clients source = position (λ client. holds client source && is_greatest clients source client.prefix) clients

-- the client at this place; where there is none, one of whom nothing is used
abbrev pub client_at : List Client → ℕ → Client
client_at clients place = slice_index_or clients place (record {
  address = 0;
  prefix = 0;
  secret = [];
  require_message_authenticator = false;
})

abbrev pub secret_at : List Client → ℕ → List ℕ
secret_at clients place = (client_at clients place).secret

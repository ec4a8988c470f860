-- What the rows of the code, and the index by which a source's client is found, say of the clients.
use Rattle.std.specs.Prelude.{◌≡◌, ℕ, ◌+◌, ◌*◌, ◌-◌, ◌^◌, ◌<◌, ◌≤◌, All, Contains, IsTrue, List, length, map}
use Rattle.std.specs.List.Sorted.{IsNonDecreasingBy}
use Rattle.rad_auth.specs.Clients.{Client, address_bits, clients_max, leading_bits, network_fits}
use Rattle.rad_auth.specs.declared.client.ClientRow.{ClientRow}

-- the client that a row stands for
abbrev pub row_client : ClientRow → Client
row_client row = record {
  address = row.address;
  prefix = row.prefix;
  secret = row.secret;
  require_message_authenticator = row.require_message_authenticator;
}

abbrev pub row_clients : List ClientRow → List Client
row_clients rows = map row_client rows

-- what a network is found by: its prefix, and below it the leading bits of its addresses
abbrev pub network_key : ℕ → ℕ → ℕ
network_key address prefix = prefix * 2 ^ address_bits + leading_bits address prefix

abbrev pub client_key : Client → ℕ
client_key client = network_key client.address client.prefix

-- an address and a prefix that say a network
pub record HasNetwork (client : Client) : Type 0 where
  pub below : client.address < 2 ^ address_bits
  pub fits : IsTrue (network_fits client.address client.prefix)

-- prefixes, the greatest first
pub record IsGreatestFirst (prefixes : List ℕ) : Type 0 where
  pub in_order : IsNonDecreasingBy (λ prefix. address_bits - prefix) prefixes
  pub below : All (λ prefix. prefix ≤ address_bits) prefixes

-- the index has the clients' networks, in their order; the prefixes of all are among those that are tried, the greatest
-- first; and there are at most `clients_max`
pub record KeepsClients (networks prefixes : List ℕ) (clients : List Client) : Type 0 where
  pub in_order : networks ≡ map client_key clients
  pub fits : All HasNetwork clients
  pub tried : All (λ client. Contains prefixes client.prefix) clients
  pub greatest_first : IsGreatestFirst prefixes
  pub few : length clients ≤ clients_max

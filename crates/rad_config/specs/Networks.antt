-- Networks of clients, as texts spell them: an address, or an address, `/` and a prefix (RFC 4632, section 3.1). A text is a list
-- of octets, which are numbers below 256.
use Rattle.std.specs.Prelude.{ℕ, IsTrue, if◌then◌else◌, List, Option, Some, None}
use Rattle.rad_auth.specs.Clients.{address_bits, network_fits}
use Rattle.rad_text.specs.Decimals.{◌>>=◌, address_of, has_leading_zero, number_of}
use Rattle.rad_text.specs.Splits.{split_once}
use Rattle.rad_config.specs.declared.network.Network.{Network}

-- a network is said: no bit of the address past the prefix is set
abbrev pub IsNetwork : Network → Type 0
IsNetwork network = IsTrue (network_fits network.address network.prefix)

-- one or two digits
unfoldable pub prefix_of : List ℕ → Option ℕ
prefix_of text = if has_leading_zero text then None else number_of 2 address_bits text

-- an address and a prefix, if they say a network
unfoldable pub network_with : List ℕ → Option ℕ → Option Network
network_with text prefix = do
  address ← address_of text
  bits ← prefix
  if network_fits address bits then Some (record { address = address; prefix = bits }) else None

-- a text in one part is an address alone
abbrev pub network_in : List ℕ → Option (List ℕ × List ℕ) → Option Network
network_in text None = network_with text (Some address_bits)
network_in text (Some parts) = network_with parts.0 (prefix_of parts.1)

abbrev pub network_of : List ℕ → Option Network
network_of text = network_in text (split_once 47 text)

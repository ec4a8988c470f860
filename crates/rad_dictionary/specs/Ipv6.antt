-- IPv6 addresses and prefixes as texts spell them (RFC 4291, sections 2.2 and 2.3), and as Values have them. A text is a list of
-- octets, which are numbers below 256.
use Rattle.std.specs.Prelude.{ℕ, ◌-◌, ◌%◌, ◌^◌, ◌==◌, Bool, if◌then◌else◌, List, ◌∷◌, Option, Some, None, option_map}
use Rattle.std.specs.Int.{w128, from_be_bytes}
use Rattle.std.specs.Net.Addr.{octets_of}
use Rattle.std.specs.Net.Reader.{read_ipv6, whole_value}
use Rattle.rad_text.specs.Decimals.{◌>>=◌, has_leading_zero, number_of}
use Rattle.rad_text.specs.Splits.{split_once}

-- how many bits an address has
abbrev pub ipv6_bits_max : ℕ
ipv6_bits_max = 128

-- the sixteen octets of the address that a text spells
abbrev pub ipv6_of : List ℕ → Option (List ℕ)
ipv6_of text = option_map octets_of (whole_value (read_ipv6 text))

-- how many bits a prefix has: one to three digits
unfoldable pub length_of : List ℕ → Option ℕ
length_of text = if has_leading_zero text then None else number_of 3 ipv6_bits_max text

-- whether no bit of an address is set past the first ones
abbrev pub has_no_bit_past : ℕ → ℕ → Bool
has_no_bit_past bits length = bits % 2 ^ (ipv6_bits_max - length) == 0

-- a reserved octet, which is zero, the length, and the whole address, if no bit is set past the prefix (RFC 3162, section 2.3)
abbrev pub prefix_with : List ℕ → ℕ → Option (List ℕ)
prefix_with address length = if has_no_bit_past (from_be_bytes w128 address) length then Some (0 ∷ length ∷ address) else None

-- an address, `/` and how many bits
unfoldable pub ipv6_prefix_of : List ℕ → Option (List ℕ)
ipv6_prefix_of text = do
  parts ← split_once 47 text
  address ← ipv6_of parts.0
  length ← length_of parts.1
  prefix_with address length

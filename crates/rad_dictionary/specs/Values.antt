-- Values of attributes as a configuration gives them. A text is a list of octets, which are numbers below 256, and
-- integers have their most significant octet first.
use Rattle.std.specs.Prelude.{ℕ, ◌+◌, ◌*◌, ◌^◌, ◌==◌, ◌&&◌, nat_le, nat_lt, Bool, true, false, if◌then◌else◌, List, [], ◌∷◌, ◌++◌}
use Rattle.std.specs.Prelude.{codes, drop, take, length, Option, Some, None, option_map, unwrap_or}
use Rattle.std.specs.Result.{result_ok}
use Rattle.std.specs.Int.{w32, to_be_bytes}
use Rattle.hex.specs.Hex.{decode_of}
use Rattle.rad_packet.specs.Attributes.{value_max}
use Rattle.rad_text.specs.Decimals.{◌>>=◌, address_of}
use Rattle.rad_dictionary.specs.Dictionary.{choices, has_name, number_named}
use Rattle.rad_dictionary.specs.Ipv6.{ipv6_of, ipv6_prefix_of}
use Rattle.rad_dictionary.specs.declared.enumeration.Enumeration.{Enumeration}
use Rattle.rad_dictionary.specs.declared.kind.Kind.{Kind}
use Rattle.rad_dictionary.specs.declared.kind.Kind.TheVariants.{Text, Integer, Enumerated, Address, InterfaceId, Ipv6Address}
use Rattle.rad_dictionary.specs.declared.kind.Kind.TheVariants.{Ipv6Prefix, TaggedText, TaggedInteger, TaggedEnumerated}
use Rattle.rad_dictionary.specs.declared.kind.Kind.TheVariants.{VendorSpecific, OfVendor, Unknown}
use Rattle.rad_dictionary.specs.Parts.{Giving}
use Rattle.rad_dictionary.specs.Parts as given

-- ---- parts of Values

-- 1 to `most` octets
abbrev pub sized : ℕ → List ℕ → Option (List ℕ)
sized most octets = if nat_le 1 (length octets) && nat_le (length octets) most then Some octets else None

-- a number within bounds
abbrev pub bounded : ℕ → ℕ → ℕ → Option ℕ
bounded least most number = if nat_le least number && nat_le number most then Some number else None

-- a number that has a name
abbrev pub named_in : Enumeration → ℕ → Option ℕ
named_in numbers number = if has_name (choices numbers) number then Some number else None

abbrev pub exactly : ℕ → List ℕ → Option (List ℕ)
exactly size octets = if length octets == size then Some octets else None

abbrev pub four_octets : ℕ → List ℕ
four_octets number = to_be_bytes w32 number

-- the greatest tag
abbrev pub tag_max : ℕ
tag_max = 31

-- a tag, which is 0 where there is none, and three octets of a number, as the number of these four octets (RFC 2868, section 3.1)
abbrev pub tagged : Option ℕ → ℕ → Option ℕ
tagged tag number = if nat_lt number (2 ^ 24) then Some (unwrap_or tag 0 * 2 ^ 24 + number) else None

-- a text that doesn't begin as one under a tag would
abbrev pub untagged : List ℕ → Option (List ℕ)
untagged [] = None
untagged (octet ∷ text) = if nat_lt tag_max octet then Some (octet ∷ text) else None

-- a text under a tag, if there is one (RFC 2868, section 3.3)
abbrev pub tagged_text : Option ℕ → List ℕ → Option (List ℕ)
tagged_text None text = sized value_max text >>= untagged
tagged_text (Some tag) text = option_map (λ text. tag ∷ text) (sized 252 text)

-- the most octets of a vendor's attribute
abbrev pub own_max : ℕ
own_max = 247

-- the vendor's number, that of its attribute, a Length, and what that holds (RFC 2865, section 5.26)
abbrev pub of_vendor : ℕ → ℕ → List ℕ → List ℕ
of_vendor vendor number own = four_octets vendor ++ number ∷ (length own + 2) ∷ own

-- what a text means in a vendor's attribute: an address, if it spells one, or itself
abbrev pub own_text : Option ℕ → List ℕ → Option (List ℕ)
own_text (Some address) text = Some (four_octets address)
own_text None text = sized own_max text

-- the last eight octets of an address, of which a text spells the last four groups (RFC 3162, section 2.2)
abbrev pub last_eight : List ℕ → List ℕ
last_eight octets = take 8 (drop 8 octets)

abbrev pub interface_id : List ℕ → Option (List ℕ)
interface_id text = option_map last_eight (ipv6_of (codes "0:0:0:0:" ++ text))

-- ---- Values, by how they are given

abbrev pub of_number : Kind → Option ℕ → ℕ → Option (List ℕ)
of_number (Integer least most) tag number = option_map four_octets (bounded least most number)
of_number (Enumerated numbers) tag number = option_map four_octets (named_in numbers number)
of_number TaggedInteger tag number = option_map four_octets (tagged tag number)
of_number (TaggedEnumerated numbers) tag number = option_map four_octets (named_in numbers number >>= tagged tag)
of_number (OfVendor vendor own) tag number = Some (of_vendor vendor own (four_octets number))
of_number other tag number = None

abbrev pub of_text : Kind → Option ℕ → List ℕ → Option (List ℕ)
of_text Text tag text = sized value_max text
of_text (Enumerated numbers) tag text = option_map four_octets (number_named (choices numbers) text)
of_text Address tag text = option_map four_octets (address_of text)
of_text InterfaceId tag text = interface_id text
of_text Ipv6Address tag text = ipv6_of text
of_text Ipv6Prefix tag text = ipv6_prefix_of text
of_text TaggedText tag text = tagged_text tag text
of_text (TaggedEnumerated numbers) tag text = option_map four_octets (number_named (choices numbers) text >>= tagged tag)
of_text (OfVendor vendor own) tag text = option_map (of_vendor vendor own) (own_text (address_of text) text)
of_text other tag text = None

-- octets as they are: not of a number, nor of a prefix
abbrev pub of_octets : Kind → List ℕ → Option (List ℕ)
of_octets Text octets = sized value_max octets
of_octets Address octets = exactly 4 octets
of_octets InterfaceId octets = exactly 8 octets
of_octets Ipv6Address octets = exactly 16 octets
of_octets TaggedText octets = sized value_max octets
of_octets VendorSpecific octets = if nat_lt 4 (length octets) then sized value_max octets else None
of_octets (OfVendor vendor own) octets = option_map (of_vendor vendor own) (sized own_max octets)
of_octets Unknown octets = sized value_max octets
of_octets other octets = None

-- hex digits, two for an octet
abbrev pub of_hex : Kind → List ℕ → Option (List ℕ)
of_hex kind text = result_ok (decode_of text) >>= of_octets kind

abbrev pub written : Kind → Option ℕ → Giving → Option (List ℕ)
written kind tag (given.number number) = of_number kind tag number
written kind tag (given.text text) = of_text kind tag text
written kind tag (given.hex text) = of_hex kind text

-- whether a Value of this kind has a tag where it is given so: hex digits spell one themselves
abbrev pub is_tagged : Kind → Bool
is_tagged TaggedText = true
is_tagged TaggedInteger = true
is_tagged (TaggedEnumerated numbers) = true
is_tagged other = false

abbrev pub takes_tag : Kind → Giving → Bool
takes_tag kind (given.number number) = is_tagged kind
takes_tag kind (given.text text) = is_tagged kind
takes_tag kind (given.hex text) = false

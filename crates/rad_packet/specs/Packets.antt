-- Packets (RFC 2865, section 3). An octet is a number below 256, and numbers of two octets have the most significant
-- octet first.
use Rattle.std.specs.Prelude.{◌≡◌, ℕ, ◌+◌, ◌<◌, ◌≤◌, ◌⊎◌, ◌||◌, nat_lt, if◌then◌else◌, List, ◌∷◌, ◌++◌, length, take, drop}
use Rattle.std.specs.Prelude.{slice_index, Option, Some, None, Result, Ok, Err}
use Rattle.std.specs.Int.{w16, to_be_bytes, from_be_bytes}
use Rattle.rad_packet.specs.declared.packet.ReadFault.{ReadFault}
use Rattle.rad_packet.specs.declared.packet.ReadFault.TheVariants.{Short, BadLength, Truncated, BadAttributes}
use Rattle.std.specs.List.{AllByRecursion}
use Rattle.rad_packet.specs.Attributes.{Attribute, IsAttribute, AreAttributes, attributes_octets, attributes_of, attributes_in}
use Rattle.rad_packet.specs.Attributes.{size}

pub record Packet : Type 0 where
  pub code : ℕ
  pub identifier : ℕ
  pub authenticator : List ℕ
  pub attributes : List Attribute

-- Code, Identifier, Length and Authenticator
abbrev pub header_size : ℕ
header_size = 20

abbrev pub length_max : ℕ
length_max = 4096

-- the Length of a packet
abbrev pub packet_length : Packet → ℕ
packet_length p = header_size + size p.attributes

-- Code, Identifier, Length, Authenticator, Attributes
abbrev pub packet_octets : Packet → List ℕ
packet_octets p =
    p.code ∷ p.identifier ∷ to_be_bytes w16 (packet_length p) ++ p.authenticator ++ attributes_octets p.attributes

-- The datagram holds this packet: it begins with the packet's octets. Those past them are padding.
pub record IsPacket (datagram : List ℕ) (p : Packet) : Type 0 where
  pub fits : packet_length p ≤ length_max
  pub authenticator : length p.authenticator ≡ 16
  pub each : AllByRecursion IsAttribute p.attributes
  pub spelled : (padding : List ℕ) × (datagram ≡ packet_octets p ++ padding)

-- the Length field
abbrev pub length_field : List ℕ → ℕ
length_field datagram = from_be_bytes w16 (take 2 (drop 2 datagram))

-- the attributes' octets, up to Length
abbrev pub attributes_field : List ℕ → List ℕ
attributes_field datagram = drop header_size (take (length_field datagram) datagram)

-- a header with a Length that a packet may have
pub record HasLength (datagram : List ℕ) : Type 0 where
  pub header : header_size ≤ length datagram
  pub low : header_size ≤ length_field datagram
  pub high : length_field datagram ≤ length_max

abbrev pub packet_with : List ℕ → Option (List Attribute) → Result Packet ReadFault
packet_with datagram None = Err BadAttributes
packet_with datagram (Some list) = Ok (record {
  code = slice_index datagram 0;
  identifier = slice_index datagram 1;
  authenticator = take 16 (drop 4 datagram);
  attributes = list;
})

-- the packet that a datagram holds, or the first fault
unfoldable pub packet_of : List ℕ → Result Packet ReadFault
packet_of datagram =
    if nat_lt (length datagram) header_size then Err Short
    else if nat_lt (length_field datagram) header_size || nat_lt length_max (length_field datagram) then Err BadLength
    else if nat_lt (length datagram) (length_field datagram) then Err Truncated
    else packet_with datagram (attributes_of (attributes_field datagram))

-- The parts of octets that are a packet; of other octets it says nothing of use.
abbrev pub packet_in : List ℕ → Packet
packet_in octets = record {
  code = slice_index octets 0;
  identifier = slice_index octets 1;
  authenticator = take 16 (drop 4 octets);
  attributes = attributes_in (drop header_size octets);
}

-- The octets are a packet, up to the last of them.
pub record IsWhole (octets : List ℕ) : Type 0 where
  pub header : header_size ≤ length octets
  pub fits : length octets ≤ length_max
  pub field : take 2 (drop 2 octets) ≡ to_be_bytes w16 (length octets)
  pub attributes : AreAttributes (drop header_size octets) (attributes_in (drop header_size octets))

abbrev pub read_fault_number : ReadFault → ℕ
read_fault_number Short = 1
read_fault_number BadLength = 2
read_fault_number Truncated = 3
read_fault_number BadAttributes = 4

-- What each fault says, where none before it applies.
abbrev pub IsFault : List ℕ → ReadFault → Type 0
IsFault datagram Short = length datagram < header_size
IsFault datagram BadLength =
    (header_size ≤ length datagram) × ((length_field datagram < header_size) ⊎ (length_max < length_field datagram))
IsFault datagram Truncated = HasLength datagram × (length datagram < length_field datagram)
IsFault datagram BadAttributes =
    HasLength datagram × (length_field datagram ≤ length datagram)
    × ((list : List Attribute) → AreAttributes (attributes_field datagram) list → ⊥)

-- Bodies: what a reply or a request says before it is given an Identifier and an Authenticator (RFC 2865, section 3).
use Rattle.std.specs.Prelude.{◌≡◌, ℕ, ◌+◌, ◌≤◌, List, [], ◌∷◌, ◌++◌, Ok}
use Rattle.rad_packet.specs.Attributes.{Attribute, size}
use Rattle.rad_packet.specs.Packets.{Packet, header_size, length_max, packet_octets, packet_of}

pub record Body : Type 0 where
  pub code : ℕ
  pub attributes : List Attribute

-- the body with one more attribute, after the others
abbrev pub with_attribute : ℕ → List ℕ → Body → Body
with_attribute kind value body = record body { attributes = body.attributes ++ record { kind = kind; value = value } ∷ [] }

-- the body with more attributes, after its own
abbrev pub with_attributes : List Attribute → Body → Body
with_attributes list body = record body { attributes = body.attributes ++ list }

-- the packet that says this body
abbrev pub packet_of_body : Body → ℕ → List ℕ → Packet
packet_of_body body identifier authenticator = record {
  code = body.code;
  identifier = identifier;
  authenticator = authenticator;
  attributes = body.attributes;
}

-- the packet of a body has at most `length_max` octets
abbrev pub FitsPacket : Body → Type 0
FitsPacket body = header_size + size body.attributes ≤ length_max

-- the octets of a body's packet
abbrev pub packet_octets_of : Body → ℕ → List ℕ → List ℕ
packet_octets_of body identifier authenticator = packet_octets (packet_of_body body identifier authenticator)

-- octets that are read as the packet of a body, whatever follows them
abbrev pub AreReadAs : List ℕ → Body → ℕ → List ℕ → Type 0
AreReadAs octets body identifier authenticator =
    (rest : List ℕ) → packet_of (octets ++ rest) ≡ Ok (packet_of_body body identifier authenticator)

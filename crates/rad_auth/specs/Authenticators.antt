-- Over which octets each digest and HMAC is computed. A digest is MD5 (RFC 1321), whose meaning is the crate md5's, and an
-- HMAC is HMAC-MD5 (RFC 2104), as rad_hmac defines it. A secret is a list of octets, which are numbers below 256.
use Rattle.std.specs.Prelude.{ℕ, Bool, if◌then◌else◌, List, [], ◌∷◌, ◌++◌, replicate}
use Rattle.md5.specs.Md5.{md5}
use Rattle.rad_hmac.specs.Hmac.{hmac}
use Rattle.rad_packet.specs.Attributes.{Attribute, is_of_len}
use Rattle.rad_packet.specs.Bodies.{Body, packet_of_body}
use Rattle.rad_packet.specs.Packets.{Packet, packet_octets}
use Rattle.rad_packet.specs.Types.{type_message_authenticator}

-- sixteen zero octets
abbrev pub sixteen_zeros : List ℕ
sixteen_zeros = replicate 16 0

-- The Request Authenticator of an Accounting-Request (RFC 2866, section 3): over the packet with zeros in its
-- Authenticator, and then the secret.
abbrev pub accounting_authenticator : Packet → List ℕ → List ℕ
accounting_authenticator p secret = md5 (packet_octets (record p { authenticator = sixteen_zeros }) ++ secret)

-- an attribute that can hold an HMAC: a Message-Authenticator with a Value of 16 octets
abbrev pub can_hold_hmac : Attribute → Bool
can_hold_hmac a = is_of_len type_message_authenticator 16 a

-- the attributes with this Value in the first of them that can hold an HMAC, if there is one
abbrev pub with_message_authenticator : List ℕ → List Attribute → List Attribute
with_message_authenticator value [] = []
with_message_authenticator value (a ∷ list) =
    if can_hold_hmac a then record a { value = value } ∷ list else a ∷ with_message_authenticator value list

-- The Message-Authenticator of a packet (RFC 3579, section 3.2): under the secret, over the packet with zeros in its
-- Message-Authenticator. A reply has the Request Authenticator in its Authenticator field then (`signed_body`).
abbrev pub message_authenticator : Packet → List ℕ → List ℕ
message_authenticator p secret =
    hmac secret (packet_octets (record p { attributes = with_message_authenticator sixteen_zeros p.attributes }))

-- the body with its Message-Authenticator, if an attribute can hold one, over the packet with this Identifier and Authenticator
abbrev pub signed_body : Body → ℕ → List ℕ → List ℕ → Body
signed_body body identifier authenticator secret = record body {
  attributes = with_message_authenticator (message_authenticator (packet_of_body body identifier authenticator) secret)
      body.attributes;
}

-- The Response Authenticator (RFC 2865, section 3): over the reply with the Request Authenticator as its Authenticator,
-- and then the secret.
abbrev pub response_authenticator : Body → ℕ → List ℕ → List ℕ → List ℕ
response_authenticator body identifier request_authenticator secret =
    md5 (packet_octets (packet_of_body body identifier request_authenticator) ++ secret)

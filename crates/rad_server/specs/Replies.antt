-- What replies say: their Code and their attributes (RFC 2865, sections 4.2 to 4.4; RFC 2866, section 4.2). The Proxy-States of
-- the request are copied in their order (RFC 2865, section 5.33). The order of the Types is our choice: a reply to an
-- Access-Request, and to a Status-Server on the authentication port, begins with a Message-Authenticator, whose octets sealing
-- puts in (RFC 3579, section 3.2), and Proxy-States come last. Octets are numbers below 256, and integers have their most
-- significant octet first.
use Rattle.std.specs.Prelude.{ℕ, List, [], ◌∷◌, ◌++◌, codes, Option, Some, None, option_map}
use Rattle.std.specs.Int.{w32, w64, to_be_bytes}
use Rattle.rad_packet.specs.Attributes.{Attribute, of_kind}
use Rattle.rad_packet.specs.Bodies.{Body}
use Rattle.rad_packet.specs.Codes.{code_access_accept, code_access_challenge, code_access_reject, code_accounting_response}
use Rattle.rad_packet.specs.Packets.{Packet}
use Rattle.rad_packet.specs.Types.{type_class, type_framed_ip_address, type_framed_protocol, type_message_authenticator}
use Rattle.rad_packet.specs.Types.{type_proxy_state, type_reply_message, type_service_type, type_session_timeout, type_state}
use Rattle.rad_auth.specs.Authenticators.{sixteen_zeros}
use Rattle.rad_auth.specs.declared.arrival.Door.{Door}
use Rattle.rad_auth.specs.declared.arrival.Door.TheVariants.{Auth, Acct}
use Rattle.rad_config.specs.declared.user.User.{User}
use Rattle.rad_pool.specs.declared.grant.Grant.{Grant}
use Rattle.rad_recent.specs.Challenges.{state_value}
use Rattle.rad_server.specs.Denials.{denial_text}
use Rattle.rad_server.specs.declared.denial.Denial.{Denial}

-- ---- attributes

-- one attribute
abbrev pub attribute : ℕ → List ℕ → List Attribute
attribute kind value = record { kind = kind; value = value } ∷ []

-- one attribute if there is a Value, else none
abbrev pub attribute_if_any : ℕ → Option (List ℕ) → List Attribute
attribute_if_any kind None = []
attribute_if_any kind (Some value) = attribute kind value

-- an integer or an address as a Value
abbrev pub four_octets : ℕ → List ℕ
four_octets number = to_be_bytes w32 number

-- what a Class begins with
abbrev pub class_prefix : List ℕ
class_prefix = codes "RAP1"

-- the Class of a session (RFC 2865, section 5.25)
abbrev pub class_value : ℕ → List ℕ
class_value number = class_prefix ++ to_be_bytes w64 number

-- ---- replies

-- a reply of this Code to a packet, which begins with a Message-Authenticator and has these attributes
abbrev pub access_reply : ℕ → List Attribute → Packet → Body
access_reply code own p = record {
  code = code;
  attributes = attribute type_message_authenticator sixteen_zeros ++ own ++ of_kind type_proxy_state p.attributes;
}

-- what an Access-Accept gives a user: the configured reply stands after the Class
abbrev pub accept_attributes : User → Grant → List Attribute
accept_attributes user grant =
    attribute_if_any type_service_type (option_map four_octets user.service)
    ++ attribute_if_any type_framed_protocol (option_map four_octets user.protocol)
    ++ attribute_if_any type_framed_ip_address (option_map four_octets grant.address)
    ++ attribute_if_any type_session_timeout (option_map four_octets user.timeout)
    ++ attribute_if_any type_reply_message user.message
    ++ attribute type_class (class_value grant.number)
    ++ user.reply.attributes

abbrev pub access_accept : User → Grant → Packet → Body
access_accept user grant p = access_reply code_access_accept (accept_attributes user grant) p

abbrev pub access_reject : Denial → Packet → Body
access_reject denial p = access_reply code_access_reject (attribute type_reply_message (denial_text denial)) p

-- the Access-Challenge of a user, for the challenge with this number and draw
abbrev pub access_challenge : User → ℕ → List ℕ → Packet → Body
access_challenge user number draw p =
    access_reply code_access_challenge
    (attribute_if_any type_reply_message user.challenge ++ attribute type_state (state_value number draw)) p

abbrev pub accounting_response : Packet → Body
accounting_response p = record { code = code_accounting_response; attributes = of_kind type_proxy_state p.attributes }

-- the reply to a Status-Server, by the server's port (RFC 5997, section 2)
abbrev pub status_reply : Door → Packet → Body
status_reply Auth p = access_reply code_access_accept [] p
status_reply Acct p = accounting_response p

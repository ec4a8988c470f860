-- Which datagrams are admitted (RFC 2865, section 3; RFC 2866, section 3; RFC 3579, section 3; RFC 5997, section 3): the
-- checks in the order of the discards' numbers, each made only where none before it failed.
use Rattle.std.specs.Prelude.{◌≡◌, ℕ, ◌==◌, ◌&&◌, ◌||◌, nat_lt, Bool, false, not, IsTrue, List, Option, Some, None, Result, Ok, Err}
use Rattle.std.specs.Prelude.{ok_or, option_map, ◌<◌, ◌≤◌, length, IfOk, IfSome}
use lib.Pointwise.{pointwise}
use Rattle.rad_packet.specs.declared.packet.ReadFault.{ReadFault}
use Rattle.rad_packet.specs.Attributes.{count, first_value, has, has_len, integer_size, of_kind, size}
use Rattle.rad_packet.specs.Codes.{code_access_request, code_accounting_request, code_status_server}
use Rattle.rad_packet.specs.Ladders.{◌>>=◌, refuse_if}
use Rattle.rad_packet.specs.Packets.{Packet, packet_octets, packet_of}
use Rattle.rad_packet.specs.Types.{type_acct_status_type, type_eap_message, type_message_authenticator, type_proxy_state}
use Rattle.rad_auth.specs.declared.arrival.Arrival.{Arrival}
use Rattle.rad_auth.specs.declared.arrival.Door.{Door}
use Rattle.rad_auth.specs.declared.arrival.Door.TheVariants.{Auth, Acct}
use Rattle.rad_auth.specs.declared.arrival.Request.{Request}
use Rattle.rad_auth.specs.declared.discard.Discard.{Discard}
use Rattle.rad_auth.specs.declared.discard.Discard.TheVariants.{UnknownClient, WrongCode, BadAuthenticator, BadMessageAuthenticator}
use Rattle.rad_auth.specs.declared.discard.Discard.TheVariants.{NoMessageAuthenticator, NoStatusType, ProxyStateTooLong}
use Rattle.rad_auth.specs.Clients.{Client, client_place, client_at}
use Rattle.rad_auth.specs.Datagrams.{Datagram, datagram_of}
use Rattle.rad_auth.specs.Discards.{discard_of_fault}
use Rattle.rad_auth.specs.Authenticators.{accounting_authenticator, message_authenticator}

-- ---- what the checks ask

-- whether a port accepts a Code: Access-Request and Status-Server, or Accounting-Request and Status-Server (RFC 5997,
-- section 3)
abbrev pub is_code_accepted : Door → ℕ → Bool
is_code_accepted Auth code = (code == code_access_request) || (code == code_status_server)
is_code_accepted Acct code = (code == code_accounting_request) || (code == code_status_server)

-- whether a Code is one whose Message-Authenticator is looked at: Access-Request and Status-Server
abbrev pub is_message_authenticator_checked : ℕ → Bool
is_message_authenticator_checked code = (code == code_access_request) || (code == code_status_server)

-- whether the Request Authenticator is the digest that an Accounting-Request must have
abbrev pub has_accounting_authenticator : Client → Packet → Bool
has_accounting_authenticator client p = pointwise ◌==◌ p.authenticator (accounting_authenticator p client.secret)

-- whether an Accounting-Request has another Request Authenticator
abbrev pub has_bad_authenticator : Client → Packet → Bool
has_bad_authenticator client p = (p.code == code_accounting_request) && not (has_accounting_authenticator client p)

-- whether the Message-Authenticator occurs once, with 16 octets, and they are the HMAC (RFC 3579, section 3.2)
abbrev pub has_right_message_authenticator : Client → Packet → Bool
has_right_message_authenticator client p =
    (count type_message_authenticator p.attributes == 1) && is_hmac (first_value type_message_authenticator p.attributes)
  where
    is_hmac : Option (List ℕ) → Bool
    is_hmac None = false
    is_hmac (Some value) = (length value == 16) && pointwise ◌==◌ value (message_authenticator p client.secret)

-- Whether there is a Message-Authenticator, but not one that is right. That of an Accounting-Request is not looked at.
abbrev pub has_bad_message_authenticator : Client → Packet → Bool
has_bad_message_authenticator client p =
    is_message_authenticator_checked p.code
    && (has type_message_authenticator p.attributes && not (has_right_message_authenticator client p))

-- whether a packet must have a Message-Authenticator: each Status-Server (RFC 5997, section 3), and an Access-Request with
-- an EAP-Message (RFC 3579, section 3.1), or from a client of which it is required
abbrev pub needs_message_authenticator : Client → Packet → Bool
needs_message_authenticator client p =
    (p.code == code_status_server)
    || ((p.code == code_access_request) && (has type_eap_message p.attributes || client.require_message_authenticator))

-- whether a packet must have a Message-Authenticator, and has none
abbrev pub lacks_message_authenticator : Client → Packet → Bool
lacks_message_authenticator client p =
    not (has type_message_authenticator p.attributes) && needs_message_authenticator client p

-- whether an Accounting-Request has no Acct-Status-Type of 4 octets (RFC 2866, section 5.1)
abbrev pub lacks_status_type : Packet → Bool
lacks_status_type p = (p.code == code_accounting_request) && not (has_len type_acct_status_type integer_size p.attributes)

-- the most octets of Proxy-State attributes in total
abbrev pub proxy_states_max : ℕ
proxy_states_max = 3584

-- the octets of a packet's Proxy-State attributes, Type and Length counted
abbrev pub proxy_states_size : Packet → ℕ
proxy_states_size p = size (of_kind type_proxy_state p.attributes)

-- ---- the verdict

-- the packet that was read, or the discard for its fault
abbrev pub packet_or_discard : Result Packet ReadFault → Result Packet Discard
packet_or_discard (Ok p) = Ok p
packet_or_discard (Err fault) = Err (discard_of_fault fault)

-- the request that a datagram holds: a packet of the client at this place
abbrev pub request_of : Datagram → ℕ → Packet → Request
request_of datagram place p = record {
  client = place;
  source = datagram.source;
  port = datagram.port;
  door = datagram.door;
  packet = p;
  proxy_states = proxy_states_size p;
}

-- the request that a datagram holds, whose content is still to be checked: from a client, and of a Code that the server's port
-- accepts
unfoldable pub request_in : List Client → Datagram → Result Request Discard
request_in clients datagram = do
  place ← ok_or (client_place clients datagram.source) UnknownClient
  p ← packet_or_discard (packet_of datagram.octets)
  taken ← refuse_if (not (is_code_accepted datagram.door p.code)) WrongCode
  Ok (request_of datagram place p)

-- the checks of the content of a packet from a client
unfoldable pub content_checks : Client → Packet → Result (Unit {0}) Discard
content_checks client p = do
  authentic ← refuse_if (has_bad_authenticator client p) BadAuthenticator
  unaltered ← refuse_if (has_bad_message_authenticator client p) BadMessageAuthenticator
  signed ← refuse_if (lacks_message_authenticator client p) NoMessageAuthenticator
  status ← refuse_if (lacks_status_type p) NoStatusType
  refuse_if (nat_lt proxy_states_max (proxy_states_size p)) ProxyStateTooLong

-- the request that a datagram is, or the first discard
unfoldable pub admission : List Client → Datagram → Result Request Discard
admission clients datagram = do
  request ← request_in clients datagram
  checked ← content_checks (client_at clients request.client) request.packet
  Ok request

-- the verdict on what came in a lane
abbrev pub lane_admission : List Client → Option Arrival → Option (Result Request Discard)
lane_admission clients lane = option_map (λ arrival. admission clients (datagram_of arrival)) lane

-- ---- admitted requests

-- the datagram that a request is by itself: its octets up to Length, with no padding
abbrev pub own_datagram : Request → Datagram
own_datagram request = record {
  source = request.source;
  port = request.port;
  door = request.door;
  octets = packet_octets request.packet;
}

-- a request that its own octets hold
abbrev pub IsInOwnDatagram : List Client → Request → Type 0
IsInOwnDatagram clients request = request_in clients (own_datagram request) ≡ Ok request

-- a request that the admission of its own octets gives
abbrev pub IsAdmitted : List Client → Request → Type 0
IsAdmitted clients request = admission clients (own_datagram request) ≡ Ok request

-- the same of what a lane holds
abbrev pub HoldsAdmitted : List Client → Option (Result Request Discard) → Type 0
HoldsAdmitted clients lane = IfSome lane (λ verdict. IfOk verdict (IsAdmitted clients))

-- a request knows how many octets its Proxy-State attributes have, and they are few enough
abbrev pub KnowsProxyStates : Request → Type 0
KnowsProxyStates request =
    (request.proxy_states ≡ proxy_states_size request.packet) × (proxy_states_size request.packet ≤ proxy_states_max)

-- what those who answer a request use of it: its client is one of the list, that of its source, the server's port accepts its Code,
-- an Accounting-Request says its status, and it knows its Proxy-State attributes
pub record IsAnswerable (clients : List Client) (request : Request) : Type 0 where
  pub client : request.client < length clients
  pub place : client_place clients request.source ≡ Some request.client
  pub taken : IsTrue (is_code_accepted request.door request.packet.code)
  pub status : request.packet.code ≡ code_accounting_request
      → IsTrue (has_len type_acct_status_type integer_size request.packet.attributes)
  pub proxy_states : KnowsProxyStates request

-- every admitted request may be answered
abbrev pub AdmittedAreAnswerable : Type 0
AdmittedAreAnswerable = (clients : List Client) (request : Request) → IsAdmitted clients request → IsAnswerable clients request

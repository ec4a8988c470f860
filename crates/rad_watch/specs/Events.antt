-- Events: what is told of datagrams, and of what else happens.
--
-- A request is read by `parts_of` alone. So nothing else that stands in it can be told: no password, no answer to a challenge, no
-- State and no authenticator.
use Rattle.std.specs.Prelude.{ℕ, ◌==◌, ◌&&◌, not, if◌then◌else◌, Bool, true, false, List, Option, Some, None, codes, find, is_none}
use Rattle.std.specs.Prelude.{option_and_then, option_copied, option_map, slice_get, Result, Ok, Err}
use Rattle.std.specs.Str.{bytes_eq}
use Rattle.rad_packet.specs.Attributes.{first_value, first_integer}
use Rattle.rad_packet.specs.Codes.{code_access_accept, code_access_challenge, code_access_reject, code_status_server}
use Rattle.rad_packet.specs.Packets.{Packet, packet_of}
use Rattle.rad_packet.specs.Types.{type_acct_status_type, type_framed_ip_address, type_reply_message, type_user_name}
use Rattle.rad_packet.specs.declared.packet.ReadFault.{ReadFault}
use Rattle.rad_auth.specs.Clients.{Client, client_place}
use Rattle.rad_auth.specs.Datagrams.{Datagram}
use Rattle.rad_auth.specs.Discards.{discard_name}
use Rattle.rad_auth.specs.declared.discard.Discard.{Discard}
use Rattle.rad_config.specs.declared.user.User.{User}
use Rattle.rad_pool.specs.declared.session.Session.{Session}
use Rattle.rad_round.specs.declared.outcome.Outcome.{Outcome}
use Rattle.rad_round.specs.declared.outcome.Outcome.TheVariants.{Dropped, Busy, NoMemory, Reply}
use Rattle.rad_server.specs.declared.answer.Answer.{Answer}
use Rattle.rad_server.specs.declared.answer.Answer.TheVariants as answers
use Rattle.rad_server.specs.declared.entry.Entry.{Entry}
use Rattle.rad_server.specs.Accounting.{class_number, status_start, status_stop, status_interim_update, status_accounting_on}
use Rattle.rad_server.specs.Accounting.{status_accounting_off}
use Rattle.rad_watch.specs.Kinds.{kind_name}
use Rattle.rad_watch.specs.declared.event.Event.{Event as EventOfCode}
use Rattle.rad_watch.specs.declared.exchange.Exchange.{Exchange as ExchangeOfCode}
use Rattle.rad_watch.specs.declared.event.Origin.{Origin}
use Rattle.rad_watch.specs.declared.kind.Kind.{Kind}
use Rattle.rad_watch.specs.declared.kind.Kind.TheVariants as kinds

-- An event, of which not all need be known. The client is a place counted from 0.
pub record Event : Type 0 where
  pub kind : Kind
  pub client : Option ℕ
  pub origin : Option Origin
  pub user : Option (List ℕ)
  pub address : Option ℕ
  pub session : Option ℕ
  pub owner : Option (List ℕ)
  pub reason : Option (List ℕ)
  pub is_repeat : Bool
  pub count : Option ℕ

-- an event of the code, without where its octets are in memory
abbrev pub seen : EventOfCode → Event
seen event = record {
  kind = event.kind;
  client = event.client;
  origin = event.origin;
  user = option_copied event.user;
  address = event.address;
  session = event.session;
  owner = option_copied event.owner;
  reason = option_copied event.reason;
  is_repeat = event.is_repeat;
  count = event.count;
}

-- an event of which no more is known
abbrev pub bare : Kind → Event
bare kind = record {
  kind = kind;
  client = None;
  origin = None;
  user = None;
  address = None;
  session = None;
  owner = None;
  reason = None;
  is_repeat = false;
  count = None;
}

-- ---- packets

-- The parts of a packet that may be told: its Code, the first User-Name, the first Acct-Status-Type and Framed-IP-Address of four
-- octets, and the number in the first Class of a session.
pub record Parts : Type 0 where
  pub code : ℕ
  pub user : Option (List ℕ)
  pub status : Option ℕ
  pub address : Option ℕ
  pub session : Option ℕ

abbrev pub parts_of : Packet → Parts
parts_of packet = record {
  code = packet.code;
  user = first_value type_user_name packet.attributes;
  status = first_integer type_acct_status_type packet.attributes;
  address = first_integer type_framed_ip_address packet.attributes;
  session = class_number packet.attributes;
}

-- the parts of the packet that a datagram holds, if it holds one
abbrev pub parts_in : Result Packet ReadFault → Option Parts
parts_in (Ok packet) = Some (parts_of packet)
parts_in (Err fault) = None

-- ---- requests and replies

-- what an Acct-Status-Type reports
abbrev pub kind_of_status : ℕ → Kind
kind_of_status status =
    if status == status_start then kinds.Start
    else if status == status_stop then kinds.Stop
    else if status == status_interim_update then kinds.Interim
    else if status == status_accounting_on then kinds.On
    else if status == status_accounting_off then kinds.Off
    else kinds.Accounting

-- what an Accounting-Request reports
abbrev pub reported : Option ℕ → Kind
reported (Some status) = kind_of_status status
reported None = kinds.Accounting

-- an event of the session that a packet names
abbrev pub of_session : Kind → Parts → Event
of_session kind packet = record (bare kind) { address = packet.address; session = packet.session }

-- a rejection, by its first Reply-Message
abbrev pub of_reject : Packet → Event
of_reject reply = record (bare kinds.Reject) { reason = first_value type_reply_message reply.attributes }

-- what a reply to a request says; one that is none of these answers an Accounting-Request
abbrev pub of_reply : Parts → Packet → Event
of_reply request reply =
    if reply.code == code_access_accept then of_session kinds.Accept (parts_of reply)
    else if reply.code == code_access_challenge then bare kinds.Challenge
    else if reply.code == code_access_reject then of_reject reply
    else of_session (reported request.status) request

-- a request and its reply
abbrev pub of_answer : Parts → Packet → Event
of_answer request reply =
    if request.code == code_status_server then bare kinds.Status
    else record (of_reply request reply) { user = request.user }

-- the same, where both are packets
abbrev pub of_answered : Option Parts → Result Packet ReadFault → Option Event
of_answered (Some request) (Ok reply) = Some (of_answer request reply)
of_answered (Some request) (Err fault) = None
of_answered None reply = None

-- an admitted request without a reply
abbrev pub of_unanswered : Kind → Option Parts → Event
of_unanswered kind (Some request) = record (bare kind) { user = request.user }
of_unanswered kind None = bare kind

-- ---- exchanges

-- What is known of the exchange of a request: whether its reply was kept, the number of the session that it means, and the name of
-- that session's user.
pub record Exchange : Type 0 where
  pub is_repeat : Bool
  pub session : Option ℕ
  pub owner : Option (List ℕ)

-- an exchange of the code, without where its octets are in memory
abbrev pub known : ExchangeOfCode → Exchange
known exchange =
    record { is_repeat = exchange.is_repeat; session = exchange.session; owner = option_copied exchange.owner }

-- whether a reply is sent
abbrev pub is_sent : Answer → Bool
is_sent (answers.Send body) = true
is_sent answers.Busy = false

-- whether the first octet of a request is the Code of a Status-Server
abbrev pub is_status_server : Option ℕ → Bool
is_status_server None = false
is_status_server (Some code) = code == code_status_server

-- The reply of an entry was kept: it isn't fresh, it is sent, and its request is no Status-Server, whose replies aren't kept.
abbrev pub is_kept_reply : Entry → Bool → Bool
is_kept_reply entry is_fresh = not is_fresh && is_sent entry.answer && not (is_status_server (slice_get entry.octets 0))

-- the name of the user at a place
abbrev pub user_name : List User → ℕ → Option (List ℕ)
user_name users place = option_map (λ user. user.name) (slice_get users place)

-- the name of the user of a session, by its number
abbrev pub owner_of : List User → List Session → ℕ → Option (List ℕ)
owner_of users sessions number =
    option_and_then (λ session. user_name users session.user) (find (λ session. session.number == number) sessions)

-- the exchange of an entry, among the sessions after it
abbrev pub exchange_of : List User → List Session → Entry → Bool → Exchange
exchange_of users sessions entry is_fresh = record {
  is_repeat = is_kept_reply entry is_fresh;
  session = entry.session;
  owner = option_and_then (owner_of users sessions) entry.session;
}

-- whether an event reports of one session
abbrev pub is_report : Kind → Bool
is_report kinds.Start = true
is_report kinds.Interim = true
is_report kinds.Stop = true
is_report kind = false

-- why a report is of note: it means no session. A repeat says nothing new.
abbrev pub reason_of_report : Kind → Exchange → Option (List ℕ)
reason_of_report kind exchange =
    if is_report kind && not exchange.is_repeat && is_none exchange.session then Some (codes "no session") else None

-- the first of these that there is
abbrev pub either : Option (List ℕ) → Option (List ℕ) → Option (List ℕ)
either None other = other
either (Some value) other = Some value

-- the name of a session's user, where a report has another one
abbrev pub other_owner : Option (List ℕ) → Option (List ℕ) → Option (List ℕ)
other_owner None owner = None
other_owner (Some name) None = None
other_owner (Some name) (Some owner) = if bytes_eq name owner then None else Some owner

-- an event, with what is known of its exchange
abbrev pub exchanged : Option Exchange → Event → Event
exchanged None event = event
exchanged (Some exchange) event = record event {
  owner = other_owner event.user exchange.owner;
  reason = either event.reason (reason_of_report event.kind exchange);
  is_repeat = exchange.is_repeat;
}

-- ---- outcomes

-- a datagram that isn't admitted
abbrev pub of_discard : Discard → Event
of_discard discard = record (bare kinds.Discard) { reason = Some (discard_name discard) }

-- what became of octets
abbrev pub of_outcome : List ℕ → Outcome → Option Event
of_outcome octets (Dropped discard) = Some (of_discard discard)
of_outcome octets Busy = Some (of_unanswered kinds.Busy (parts_in (packet_of octets)))
of_outcome octets NoMemory = Some (of_unanswered kinds.NoMemory (parts_in (packet_of octets)))
of_outcome octets (Reply reply) = of_answered (parts_in (packet_of octets)) (packet_of reply)

-- where a datagram came from, and to
abbrev pub origin_of : Datagram → Origin
origin_of datagram = record { source = datagram.source; port = datagram.port; door = datagram.door }

-- an event of a datagram, with whose it is and where it came from
abbrev pub from_datagram : List Client → Datagram → Event → Event
from_datagram clients datagram event =
    record event { client = client_place clients datagram.source; origin = Some (origin_of datagram) }

-- what became of a datagram, whose exchange is known if it was made
abbrev pub told : List Client → Datagram → Outcome → Option Exchange → Option Event
told clients datagram outcome exchange =
    option_map (λ event. from_datagram clients datagram (exchanged exchange event)) (of_outcome datagram.octets outcome)

-- ---- other events

-- so many of what a kind says
abbrev pub counted : Kind → Option ℕ → ℕ → Event
counted kind client count = record (bare kind) { client = client; count = Some count }

-- so many lines of a kind and client were left out
abbrev pub left_out : Kind → Option ℕ → ℕ → Event
left_out kind client count = record (counted kinds.LeftOut client count) { reason = Some (kind_name kind) }

-- a session that expired
abbrev pub expired : List User → Session → Event
expired users session = record (bare kinds.Expire) {
  client = Some session.client;
  user = user_name users session.user;
  address = session.address;
  session = Some session.number;
}

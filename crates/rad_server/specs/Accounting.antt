-- What an Accounting-Request reports (RFC 2866, sections 4.1 and 5.1). A Start, an Interim-Update or a Stop is recorded of the
-- session that is meant, an Accounting-On or an Accounting-Off of all sessions of its source. An Accounting-Response is made even
-- if no session is meant (section 4.2).
use Rattle.std.specs.Prelude.{ℕ, ◌==◌, ◌&&◌, ◌||◌, Bool, if◌then◌else◌, List, length, drop, find, take, Option, Some, None}
use Rattle.std.specs.Prelude.{option_map}
use Rattle.std.specs.Int.{w64, from_be_bytes}
use lib.Pointwise.{pointwise}
use Rattle.rad_packet.specs.Attributes.{Attribute, first_integer, first_value, is_of_len}
use Rattle.rad_packet.specs.Bodies.{Body}
use Rattle.rad_packet.specs.Types.{type_acct_status_type, type_class, type_framed_ip_address, type_user_name}
use Rattle.rad_auth.specs.declared.arrival.Request.{Request}
use Rattle.rad_config.specs.Configurations.{Configuration, user_place}
use Rattle.rad_pool.specs.Meant.{SentName, meant}
use Rattle.rad_pool.specs.Sessions.{Sessions, renewed, source_reset, stopped}
use Rattle.rad_server.specs.Replies.{accounting_response, class_prefix}
use Rattle.rad_server.specs.States.{State}

-- values of Acct-Status-Type (RFC 2866, section 5.1)
abbrev pub status_start : ℕ
status_start = 1

abbrev pub status_stop : ℕ
status_stop = 2

abbrev pub status_interim_update : ℕ
status_interim_update = 3

abbrev pub status_accounting_on : ℕ
status_accounting_on = 7

abbrev pub status_accounting_off : ℕ
status_accounting_off = 8

-- Whether a status shows that the session runs. An Interim-Update does what a Start does: its Start may have been lost.
abbrev pub shows_session : ℕ → Bool
shows_session status = (status == status_start) || (status == status_interim_update)

-- Whether a status shows that the source has no sessions any more: it has come up, or goes down.
abbrev pub shows_reset : ℕ → Bool
shows_reset status = (status == status_accounting_on) || (status == status_accounting_off)

-- the octets of a session's Class: those that it begins with, and the number
abbrev pub class_size : ℕ
class_size = 12

-- whether an attribute is the Class of a session
abbrev pub is_class : Attribute → Bool
is_class a = is_of_len type_class class_size a && pointwise ◌==◌ (take (length class_prefix) a.value) class_prefix

-- the number in the first Class of a session
abbrev pub class_number : List Attribute → Option ℕ
class_number list = option_map (λ a. from_be_bytes w64 (drop (length class_prefix) a.value)) (find is_class list)

-- the User-Name that was sent, if one was
abbrev pub named_user : Configuration → List Attribute → SentName
named_user configuration list = option_map (user_place configuration.users) (first_value type_user_name list)

-- the number of the session that a request means, if it means one
abbrev pub session_meant : Configuration → Request → Sessions → Option ℕ
session_meant configuration request table =
    let list = request.packet.attributes in
    meant request.client (class_number list) (first_integer type_framed_ip_address list) (named_user configuration list)
    table.sessions

-- the number of the session meant, where a status is that of a Start, an Interim-Update or a Stop
abbrev pub number_for : Option ℕ → Option ℕ → Option ℕ
number_for None number = None
number_for (Some status) number = if shows_session status || (status == status_stop) then number else None

-- the number of the session that an Accounting-Request names, if it is a Start, an Interim-Update or a Stop and means one
abbrev pub session_reported : Configuration → Request → Sessions → Option ℕ
session_reported configuration request table =
    number_for (first_integer type_acct_status_type request.packet.attributes) (session_meant configuration request table)

-- the table after a change of the session of this number, if there is one
abbrev pub changed : (ℕ → Sessions → Sessions) → Option ℕ → Sessions → Sessions
changed change None table = table
changed change (Some number) table = change number table

-- The table after a status was reported from a source at a moment; `number` is that of the session meant, if one is. Every other
-- status changes nothing.
abbrev pub reported : ℕ → ℕ → Option ℕ → Option ℕ → Sessions → Sessions
reported source now None number table = table
reported source now (Some status) number table =
    if shows_session status then changed (λ n. renewed n now) number table
    else if status == status_stop then changed stopped number table
    else if shows_reset status then source_reset source table
    else table

-- the reply to an Accounting-Request, and the state after it
abbrev pub account : Configuration → State → Request → Body × State
account configuration state request = (
  accounting_response request.packet,
  record state {
    sessions = reported request.source state.clock (first_integer type_acct_status_type request.packet.attributes)
        (session_meant configuration request state.sessions) state.sessions;
  },
)

-- What is recorded of an Accounting-Request, and of an Access-Request that is granted a session: a row of a table, with the
-- request's attributes in columns (RFC 2865, section 5; RFC 2866, section 5; RFC 2869, section 5). Where several attributes have
-- one Type, the first counts, and of numbers the first of four octets; where none has, the column is NULL.
use Rattle.std.specs.Prelude.{ℕ, ◌+◌, ◌*◌, ◌^◌, nat_lt, ℤ, pos, if◌then◌else◌, List, [], ◌∷◌, Option, Some, None, unwrap_or}
use Rattle.std.specs.Str.{is_utf8}
use Rattle.sqlite_value.specs.Order.{Row}
use Rattle.sqlite_value.specs.declared.value.Value.{Value}
use Rattle.sqlite_value.specs.declared.value.Value.TheVariants.{Null, Int, Text, Blob}
use Rattle.rad_packet.specs.Attributes.{Attribute, first_integer, first_value}
use Rattle.rad_packet.specs.Types.{type_acct_status_type, type_framed_ip_address, type_user_name}
use Rattle.rad_accounting.specs.declared.occasion.Occasion.{Occasion}
use Rattle.rad_accounting.specs.Types.{type_nas_ip_address, type_nas_port, type_called_station_id, type_calling_station_id}
use Rattle.rad_accounting.specs.Types.{type_nas_identifier, type_acct_delay_time, type_acct_input_octets, type_acct_output_octets}
use Rattle.rad_accounting.specs.Types.{type_acct_session_id, type_acct_session_time, type_acct_input_packets}
use Rattle.rad_accounting.specs.Types.{type_acct_output_packets, type_acct_terminate_cause, type_acct_multi_session_id}
use Rattle.rad_accounting.specs.Types.{type_acct_input_gigawords, type_acct_output_gigawords, type_nas_port_id}

-- ---- values

-- a text; octets that are no UTF-8 stay as they are, in a blob
abbrev pub text_value : Option (List ℕ) → Value
text_value None = Null
text_value (Some octets) = if is_utf8 octets then Text octets else Blob octets

-- a number
abbrev pub number_value : Option ℕ → Value
number_value None = Null
number_value (Some number) = Int (pos number)

-- A count of octets that has wrapped around so many times: Gigawords that aren't there are 0. From 2 ^ 63 on, which no connection
-- reaches and no column holds, it is NULL.
abbrev pub octets_value : Option ℕ → Option ℕ → Value
octets_value None gigawords = Null
octets_value (Some octets) gigawords =
    let all = unwrap_or gigawords 0 * 2 ^ 32 + octets in
    if nat_lt all (2 ^ 63) then Int (pos all) else Null

-- ---- columns

-- the text of the first attribute of a Type
abbrev pub text_of : ℕ → List Attribute → Value
text_of kind list = text_value (first_value kind list)

-- the number in the first attribute of a Type that has four octets; an address is one too
abbrev pub number_of : ℕ → List Attribute → Value
number_of kind list = number_value (first_integer kind list)

-- the octets counted by attributes of two Types
abbrev pub octets_of : ℕ → ℕ → List Attribute → Value
octets_of low gigawords list = octets_value (first_integer low list) (first_integer gigawords list)

-- ---- rows

-- the number of a session, if there is one
abbrev pub session_value : Option ℤ → Value
session_value None = Null
session_value (Some number) = Int number

-- The row of a request's record: the number of its entry, as the rowid, for which the column that names it has NULL; then when it
-- came, who sent it, and what it says.
abbrev pub report_row : Occasion → List Attribute → Row
report_row occasion list =
    Int (pos occasion.entry)
    ∷ Null
    ∷ Int occasion.time
    ∷ Int (pos occasion.client)
    ∷ Int (pos occasion.source)
    ∷ text_of type_user_name list
    ∷ session_value occasion.session
    ∷ number_of type_acct_status_type list
    ∷ text_of type_acct_session_id list
    ∷ text_of type_acct_multi_session_id list
    ∷ number_of type_framed_ip_address list
    ∷ number_of type_nas_ip_address list
    ∷ text_of type_nas_identifier list
    ∷ number_of type_nas_port list
    ∷ text_of type_nas_port_id list
    ∷ text_of type_calling_station_id list
    ∷ text_of type_called_station_id list
    ∷ number_of type_acct_session_time list
    ∷ octets_of type_acct_input_octets type_acct_input_gigawords list
    ∷ octets_of type_acct_output_octets type_acct_output_gigawords list
    ∷ number_of type_acct_input_packets list
    ∷ number_of type_acct_output_packets list
    ∷ number_of type_acct_terminate_cause list
    ∷ number_of type_acct_delay_time list
    ∷ []

-- The row of a session that is granted: when the Access-Request came, who sent it, the session, the address that it was granted, if
-- any, and from where it called.
abbrev pub grant_row : Occasion → Option ℕ → List Attribute → Row
grant_row occasion address list =
    Int (pos occasion.entry)
    ∷ Null
    ∷ Int occasion.time
    ∷ Int (pos occasion.client)
    ∷ Int (pos occasion.source)
    ∷ text_of type_user_name list
    ∷ session_value occasion.session
    ∷ number_value address
    ∷ text_of type_calling_station_id list
    ∷ []

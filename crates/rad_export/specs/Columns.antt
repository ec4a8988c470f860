-- What lines show of a row, column by column. A text is a list of octets. An address has its most significant octet first.
use Rattle.std.specs.Prelude.{ℕ, ℤ, pos, negsuc, ◌^◌, nat_lt, if◌then◌else◌, List, [], ◌∷◌, codes, Option, Some, None}
use Rattle.std.specs.Fmt.{signed_decimal}
use Rattle.std.specs.Int.{w32, to_be_bytes}
use Rattle.std.specs.Net.Text.{ipv4_text}
use Rattle.std.specs.Str.{is_utf8}
use Rattle.sqlite_value.specs.declared.value.Value.{Value}
use Rattle.sqlite_value.specs.declared.value.Value.TheVariants.{Null, Int, Text, Blob}
use Rattle.rad_export.specs.Names.{cause_name, status_name}
use Rattle.rad_export.specs.declared.columns.Kind.{Kind}
use Rattle.rad_export.specs.declared.columns.Kind.TheVariants as kind

-- A column: where a row has it, its name, and what its values are.
pub record Column : Type 0 where
  pub at : ℕ
  pub name : List ℕ
  pub holds : Kind

abbrev pub column_of : ℕ → List ℕ → Kind → Column
column_of at name holds = record { at = at; name = name; holds = holds }

-- where a row has its time, in milliseconds since 1970
abbrev pub at_time : ℕ
at_time = 2

-- where it has the User-Name (RFC 2865, section 5.1)
abbrev pub at_user : ℕ
at_user = 5

-- where it has the Framed-IP-Address, most significant octet first (RFC 2865, section 5.8)
abbrev pub at_address : ℕ
at_address = 10

-- the columns in their order, with their attributes' names (RFC 2865, RFC 2866 and RFC 2869, sections 5)
abbrev pub columns : List Column
columns =
    column_of 0 (codes "entry") kind.Number
    ∷ column_of at_time (codes "time") kind.Time
    ∷ column_of 3 (codes "client") kind.Number
    ∷ column_of 4 (codes "source") kind.Address
    ∷ column_of 6 (codes "session") kind.Number
    ∷ column_of at_user (codes "User-Name") kind.Text
    ∷ column_of 7 (codes "Acct-Status-Type") kind.Status
    ∷ column_of 8 (codes "Acct-Session-Id") kind.Text
    ∷ column_of 9 (codes "Acct-Multi-Session-Id") kind.Text
    ∷ column_of at_address (codes "Framed-IP-Address") kind.Address
    ∷ column_of 11 (codes "NAS-IP-Address") kind.Address
    ∷ column_of 12 (codes "NAS-Identifier") kind.Text
    ∷ column_of 13 (codes "NAS-Port") kind.Number
    ∷ column_of 14 (codes "NAS-Port-Id") kind.Text
    ∷ column_of 15 (codes "Calling-Station-Id") kind.Text
    ∷ column_of 16 (codes "Called-Station-Id") kind.Text
    ∷ column_of 17 (codes "Acct-Session-Time") kind.Number
    ∷ column_of 18 (codes "Acct-Input-Octets") kind.Number
    ∷ column_of 19 (codes "Acct-Output-Octets") kind.Number
    ∷ column_of 20 (codes "Acct-Input-Packets") kind.Number
    ∷ column_of 21 (codes "Acct-Output-Packets") kind.Number
    ∷ column_of 22 (codes "Acct-Terminate-Cause") kind.Cause
    ∷ column_of 23 (codes "Acct-Delay-Time") kind.Number
    ∷ []

-- ---- what is shown of a value: NULL for nothing, a number, a text, or octets that are no text, in a blob

-- the text of a time, if it has one
abbrev pub shown_time : Option (List ℕ) → Value
shown_time None = Null
shown_time (Some time) = Text time

-- four numbers joined by points
abbrev pub shown_address : ℤ → Value
shown_address (pos address) = if nat_lt address (2 ^ 32) then Text (ipv4_text (to_be_bytes w32 address)) else Null
shown_address (negsuc n) = Null

-- the name of a number, or its digits
abbrev pub shown_code : Option (List ℕ) → ℤ → Value
shown_code None number = Text (signed_decimal number)
shown_code (Some name) number = Text name

-- a text; octets that are no UTF-8 stay as they are
abbrev pub shown_text : Value → Value
shown_text (Text octets) = if is_utf8 octets then Text octets else Blob octets
shown_text (Blob octets) = Blob octets
shown_text other = Null

-- what a column of this kind shows of a number
abbrev pub shown_number : Kind → ℤ → Value
shown_number kind.Number number = Int number
shown_number kind.Address number = shown_address number
shown_number kind.Status number = shown_code (status_name number) number
shown_number kind.Cause number = shown_code (cause_name number) number
shown_number kind.Time number = Null
shown_number kind.Text number = Null

abbrev pub shown_numeric : Kind → Value → Value
shown_numeric kind (Int number) = shown_number kind number
shown_numeric kind other = Null

-- What a column of this kind shows of its value, in a row whose time has this text; nothing of a value that is none of the kind.
abbrev pub shown : Option (List ℕ) → Kind → Value → Value
shown time kind.Time value = shown_time time
shown time kind.Text value = shown_text value
shown time kind.Number value = shown_numeric kind.Number value
shown time kind.Address value = shown_numeric kind.Address value
shown time kind.Status value = shown_numeric kind.Status value
shown time kind.Cause value = shown_numeric kind.Cause value

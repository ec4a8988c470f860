-- The table of keys of a configuration: what may be at each, and what is meant where it is absent. The text is TOML, whose
-- values are toml's `Data`. A text is a list of octets, which are numbers below 256; an address is a number below 2 ^ 32, most
-- significant octet first.
use Rattle.std.specs.Prelude.{ℕ, ◌+◌, ℤ, pos, negsuc, min, nat_le, nat_eq, ◌&&◌, Bool, false, if◌then◌else◌, List, length, position}
use Rattle.std.specs.Prelude.{Option, Some, None, option_map, option_and_then}
use Rattle.std.specs.List.{list_any}
use Rattle.std.specs.Str.{bytes_eq}
use Rattle.toml.specs.Data.{Data, as_str, as_integer, as_bool}
use Rattle.rad_packet.specs.Attributes.{value_max}
use Rattle.rad_auth.specs.Clients.{secret_max}
use Rattle.rad_auth.specs.Passwords.{password_max}
use Rattle.rad_dictionary.specs.Parts.{Giving, Naming}
use Rattle.rad_dictionary.specs.Parts as parts
use Rattle.rad_dictionary.specs.Values.{tag_max}
use Rattle.rad_text.specs.Decimals.{address_of}
use Rattle.rad_config_fault.specs.declared.config_fault.Key.{Key}
use Rattle.rad_config_fault.specs.declared.config_fault.Key.TheVariants as keys
use Rattle.rad_config.specs.Networks.{network_of}
use Rattle.rad_config.specs.declared.network.Network.{Network}
use Rattle.rad_config.specs.declared.pool.Pool.{Pool}

-- ---- rows

-- A row of the table: a key, the value of the data at it where that fits, and the value that is meant where the key is absent, if
-- it may be.
pub record Row (A : Type 0) : Type 0 where
  pub key : Key
  pub fit : Data → Option A
  pub absent : Option A

-- a key that has to be present
abbrev pub required : {A : Type 0} → Key → (Data → Option A) → Row A
required key fit = record { key = key; fit = fit; absent = None }

-- a key with a default
abbrev pub with_default : {A : Type 0} → A → Key → (Data → Option A) → Row A
with_default value key fit = record { key = key; fit = fit; absent = Some value }

-- a key that may be absent
abbrev pub optional : {A : Type 0} → Key → (Data → Option A) → Row (Option A)
optional key fit = record { key = key; fit = λ d. option_map Some (fit d); absent = Some None }

-- a key that may be absent unless it is needed
abbrev pub optional_unless : {A : Type 0} → Bool → Key → (Data → Option A) → Row (Option A)
optional_unless needed key fit =
    record { key = key; fit = λ d. option_map Some (fit d); absent = if needed then None else Some None }

-- ---- bounds

-- The addresses of pools and users. Framed-IP-Address gives the two highest ones a meaning of their own (RFC 2865, section 5.8).
abbrev pub address_max : ℕ
address_max = 4294967293

-- how far the last address of a pool may be above its first
abbrev pub above_first_max : ℕ
above_first_max = 65535

-- the greatest number of four octets, which is the greatest address too
abbrev pub number_max : ℕ
number_max = 4294967295

-- ---- kinds of values

-- a number within bounds
abbrev pub bounded : ℕ → ℕ → ℕ → Option ℕ
bounded least most n = if nat_le least n && nat_le n most then Some n else None

abbrev pub natural : ℤ → Option ℕ
natural (pos n) = Some n
natural (negsuc n) = None

abbrev pub number : ℕ → ℕ → Data → Option ℕ
number least most d = option_and_then (bounded least most) (option_and_then natural (as_integer d))

abbrev pub address : ℕ → ℕ → Data → Option ℕ
address least most d = option_and_then (bounded least most) (option_and_then address_of (as_str d))

abbrev pub network : Data → Option Network
network d = option_and_then network_of (as_str d)

-- a text of so many octets
abbrev pub sized : ℕ → ℕ → List ℕ → Option (List ℕ)
sized least most octets = if nat_le least (length octets) && nat_le (length octets) most then Some octets else None

abbrev pub text : ℕ → ℕ → Data → Option (List ℕ)
text least most d = option_and_then (sized least most) (as_str d)

-- the same without a zero octet
abbrev pub without_zero : List ℕ → Option (List ℕ)
without_zero octets = if list_any (nat_eq 0) octets then None else Some octets

abbrev pub text_without_zero : ℕ → ℕ → Data → Option (List ℕ)
text_without_zero least most d = option_and_then without_zero (text least most d)

-- the place of the pool with this name
abbrev pub pool_place : List Pool → List ℕ → Option ℕ
pool_place pools name = position (λ pool. bytes_eq name pool.name) pools

abbrev pub named_pool : List Pool → Data → Option ℕ
named_pool pools d = option_and_then (pool_place pools) (as_str d)

-- a text as a name, or a number as a Type
abbrev pub name_or_type : Option (List ℕ) → Data → Option Naming
name_or_type (Some name) d = Some (parts.name name)
name_or_type None d = option_map parts.kind (number 1 255 d)

-- what names an attribute: under a vendor a number; else a name or a Type
abbrev pub named_attribute : Option ℕ → Data → Option Naming
named_attribute (Some vendor) d = option_map (parts.of_vendor vendor) (number 1 255 d)
named_attribute None d = name_or_type (as_str d) d

-- what is given as an attribute's Value: a text, or a number
abbrev pub text_or_number : Option (List ℕ) → Data → Option Giving
text_or_number (Some text) d = Some (parts.text text)
text_or_number None d = option_map parts.number (number 0 number_max d)

abbrev pub given_value : Data → Option Giving
given_value d = text_or_number (as_str d) d

abbrev pub given_hex : Data → Option Giving
given_hex d = option_map parts.hex (as_str d)

-- ---- the table, part by part, in the order in which keys are checked

-- seconds
abbrev pub window : Row ℕ
window = with_default 30 keys.Window (number 1 3600)

-- seconds
abbrev pub hold : Row ℕ
hold = with_default 60 keys.Hold (number 1 86400)

-- seconds
abbrev pub stale : Row (Option ℕ)
stale = optional keys.Stale (number 1 604800)

abbrev pub client_address : Row Network
client_address = required keys.Address network

abbrev pub client_secret : Row (List ℕ)
client_secret = required keys.Secret (text 1 secret_max)

abbrev pub require_message_authenticator : Row Bool
require_message_authenticator = with_default false keys.RequireMessageAuthenticator as_bool

-- a percentage of the replies that can be kept, and of the challenges that can wait
abbrev pub client_share : Row (Option ℕ)
client_share = optional keys.Share (number 1 100)

abbrev pub pool_name : Row (List ℕ)
pool_name = required keys.Name (text 1 64)

abbrev pub pool_first : Row ℕ
pool_first = required keys.First (address 1 address_max)

-- not below the first, and not too far above it
abbrev pub pool_last : ℕ → Row ℕ
pool_last first = required keys.Last (address first (min address_max (first + above_first_max)))

abbrev pub user_name : Row (List ℕ)
user_name = required keys.Name (text 1 value_max)

abbrev pub password : Row (List ℕ)
password = required keys.Password (text_without_zero 1 password_max)

abbrev pub user_pool : List Pool → Row (Option ℕ)
user_pool pools = optional keys.Pool (named_pool pools)

abbrev pub sessions : Row (Option ℕ)
sessions = optional keys.Sessions (number 1 4096)

abbrev pub service : Row (Option ℕ)
service = optional keys.Service (number 0 number_max)

abbrev pub protocol : Row (Option ℕ)
protocol = optional keys.Protocol (number 0 number_max)

-- seconds
abbrev pub timeout : Row (Option ℕ)
timeout = optional keys.Timeout (number 1 number_max)

abbrev pub message : Row (Option (List ℕ))
message = optional keys.Message (text 1 value_max)

-- challenge and answer are both present, or neither
abbrev pub challenge : Bool → Row (Option (List ℕ))
challenge has_answer = optional_unless has_answer keys.Challenge (text 1 value_max)

abbrev pub answer : Bool → Row (Option (List ℕ))
answer has_challenge = optional_unless has_challenge keys.Answer (text_without_zero 1 password_max)

abbrev pub user_challenges : Row (Option ℕ)
user_challenges = optional keys.Challenges (number 1 1024)

abbrev pub grants : Row (Option ℕ)
grants = optional keys.Grants (number 1 65536)

-- an address of the user's own
abbrev pub user_address : Row (Option ℕ)
user_address = optional keys.Address (address 1 address_max)

abbrev pub group_name : Row (List ℕ)
group_name = required keys.Name (text 1 64)

-- ---- an attribute of a reply

-- the number of a vendor, whose high octet is zero (RFC 2865, section 5.26)
abbrev pub vendor : Row (Option ℕ)
vendor = optional keys.Vendor (number 1 16777215)

-- an attribute by its name or its Type, or by a vendor's number and its own
abbrev pub attribute : Option ℕ → Row Naming
attribute vendor = required keys.Attribute (named_attribute vendor)

abbrev pub tag : Row (Option ℕ)
tag = optional keys.Tag (number 1 tag_max)

-- a number or a text
abbrev pub attribute_value : Row Giving
attribute_value = required keys.Value given_value

-- hex digits
abbrev pub attribute_hex : Row Giving
attribute_hex = required keys.Hex given_hex

-- The number in a Class, and what one walk over the attributes of an Accounting-Request found.
use Rattle.std.specs.Prelude.{◌≡◌, ℕ, ◌==◌, ◌&&◌, if◌then◌else◌, List, length, drop, take, Option, Some, None, option_copied}
use Rattle.std.specs.Int.{w64, from_be_bytes}
use Rattle.std.specs.Option.{option_or}
use lib.Pointwise.{pointwise}
use Rattle.rad_packet.specs.Attributes.{Attribute, first_integer, first_value, integer_of, is_of}
use Rattle.rad_packet.specs.Types.{type_acct_status_type, type_class, type_framed_ip_address, type_user_name}
use Rattle.rad_server.specs.Accounting.{class_number, class_size}
use Rattle.rad_server.specs.Replies.{class_prefix}
use Rattle.rad_server.specs.declared.accounting.Report.{Report}

-- the number that the Class of a session has
abbrev pub class_number_of : List ℕ → Option ℕ
class_number_of value =
    if (length value == class_size) && pointwise ◌==◌ (take (length class_prefix) value) class_prefix
    then Some (from_be_bytes w64 (drop (length class_prefix) value)) else None

-- what one walk found is what the attributes say
pub record AreReportAttributes (list : List Attribute) (report : Report) : Type 0 where
  pub status : report.status ≡ first_integer type_acct_status_type list
  pub number : report.number ≡ class_number list
  pub address : report.address ≡ first_integer type_framed_ip_address list
  pub user_name : option_copied report.user_name ≡ first_value type_user_name list

-- the first of two, if the attribute after the first is of a Type and has something to say
abbrev pub or_of : {A : Type 0} → ℕ → Attribute → Option A → Option A → Option A
or_of kind a so_far said = if is_of kind a then option_or so_far said else so_far

-- the new says what the old does and one more attribute
pub record IsOneMoreReported (a : Attribute) (old new : Report) : Type 0 where
  pub status : new.status ≡ or_of type_acct_status_type a old.status (integer_of a.value)
  pub number : new.number ≡ or_of type_class a old.number (class_number_of a.value)
  pub address : new.address ≡ or_of type_framed_ip_address a old.address (integer_of a.value)
  pub user_name : option_copied new.user_name ≡ or_of type_user_name a (option_copied old.user_name) (Some a.value)

-- Which rows are taken, by their time, User-Name and Framed-IP-Address. A part that is absent takes every row.
use Rattle.std.specs.Prelude.{ℕ, ℤ, pos, int_lt, int_le, Bool, true, false, ◌&&◌, List, bytes_eq, Option, Some, None, option_copied}
use Rattle.std.specs.Ordering.{int_eq}
use Rattle.sqlite_value.specs.Order.{Row, column}
use Rattle.sqlite_value.specs.declared.value.Value.{Value}
use Rattle.sqlite_value.specs.declared.value.Value.TheVariants.{Int, Text, Blob}
use Rattle.rad_export.specs.Columns.{at_address, at_time, at_user}
use Rattle.rad_export.specs.declared.wanted.Wanted.{Wanted}

-- a time is not before the first that is taken
abbrev pub is_since : Option ℤ → Value → Bool
is_since None time = true
is_since (Some since) (Int time) = int_le since time
is_since (Some since) other = false

-- a time is before the first that is taken no more
abbrev pub is_until : Option ℤ → Value → Bool
is_until None time = true
is_until (Some until) (Int time) = int_lt time until
is_until (Some until) other = false

-- a time is between those two
abbrev pub is_between : Option ℤ → Option ℤ → Value → Bool
is_between since until time = is_since since time && is_until until time

-- a User-Name has these octets
abbrev pub has_user : Option (List ℕ) → Value → Bool
has_user None name = true
has_user (Some wanted) (Text name) = bytes_eq name wanted
has_user (Some wanted) (Blob name) = bytes_eq name wanted
has_user (Some wanted) other = false

-- an address is this one
abbrev pub has_address : Option ℕ → Value → Bool
has_address None address = true
has_address (Some wanted) (Int address) = int_eq address (pos wanted)
has_address (Some wanted) other = false

-- a row is wanted
abbrev pub takes : Wanted → Row → Bool
takes wanted row =
    is_between wanted.since wanted.until (column row at_time)
    && has_user (option_copied wanted.user) (column row at_user)
    && has_address wanted.address (column row at_address)

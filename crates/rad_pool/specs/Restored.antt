-- Rows that a table once held, put back one after the other; or which rule of the law a row breaks.
use Rattle.std.specs.Prelude.{ℕ, ◌+◌, ◌-◌, ◌&&◌, ◌||◌, not, nat_le, nat_lt, Bool, false, List, [], ◌∷◌, ◌++◌, length, Option, Some}
use Rattle.std.specs.Prelude.{None, Result, Ok}
use Rattle.rad_packet.specs.Ladders.{◌>>=◌, refuse_if}
use Rattle.rad_config.specs.Configurations.{Configuration, is_reached}
use Rattle.rad_config.specs.declared.pool.Pool.{Pool}
use Rattle.rad_pool.specs.Grants.{grant_limit, is_held, open_sessions, pool_of, session_limit, sessions_of}
use Rattle.rad_pool.specs.Sessions.{Sessions, is_open, opening, sessions_max}
use Rattle.rad_pool.specs.declared.session.Session.{Session}
use Rattle.rad_row_fault.specs.declared.row_fault.RowFault.{RowFault}
use Rattle.rad_row_fault.specs.declared.row_fault.RowFault.TheVariants.{AddressHeld, AddressOutside, Client, Full, Moments, Number}
use Rattle.rad_row_fault.specs.declared.row_fault.RowFault.TheVariants.{SessionLimit, User}

-- ---- one row

-- the table with a row after the others; the next number is the one after the row's
abbrev pub with_row : Session → Sessions → Sessions
with_row row table = record table { sessions = table.sessions ++ row ∷ []; next = row.number + 1 }

-- whether a pool, if there is one, has an address
abbrev pub has_address_of : Option Pool → ℕ → Bool
has_address_of None address = false
has_address_of (Some pool) address = nat_le pool.first address && nat_le address pool.last

-- whether an address, if there is one, isn't of the pool
abbrev pub is_astray : Option Pool → Option ℕ → Bool
is_astray pool None = false
is_astray pool (Some address) = not (has_address_of pool address)

-- whether an address, if there is one, is some session's
abbrev pub is_taken : List Session → Option ℕ → Bool
is_taken sessions None = false
is_taken sessions (Some address) = is_held sessions address

-- whether the session's user has as many sessions, of any phase or open ones like it, as there may be
abbrev pub exceeds_limits : Configuration → Session → List Session → Bool
exceeds_limits configuration row sessions =
    (is_open row.phase && nat_le (session_limit configuration row.user) (open_sessions row.user sessions))
    || is_reached (grant_limit configuration row.user) (sessions_of row.user sessions)

-- Whether a row can be put back when the clock shows a moment, or the first rule that it breaks.
unfoldable pub restorable : Configuration → ℕ → Session → Sessions → Result (Unit {0}) RowFault
restorable configuration clock row table = do
  rises ← refuse_if (nat_lt row.number table.next) Number
  client ← refuse_if (nat_le (length configuration.clients) row.client) Client
  user ← refuse_if (nat_le (length configuration.users) row.user) User
  heard ← refuse_if (nat_lt row.seen row.made || nat_lt clock row.seen) Moments
  inside ← refuse_if (is_astray (pool_of configuration row.user) row.address) AddressOutside
  free ← refuse_if (is_taken table.sessions row.address) AddressHeld
  below ← refuse_if (exceeds_limits configuration row table.sessions) SessionLimit
  refuse_if (nat_le sessions_max (length table.sessions)) Full

-- ---- the last number: rows don't tell it, since sessions with greater numbers may have come and gone

-- the table after which this is the last number that was given
abbrev pub with_last : ℕ → Sessions → Sessions
with_last last table = record table { next = last + 1 }

-- whether it can be put back: no greater number was given
abbrev pub last_restorable : ℕ → Sessions → Result (Unit {0}) RowFault
last_restorable last table = refuse_if (nat_lt (last + 1) table.next) Number

-- ---- a table

-- the table after rows that are put back in their order, or the first refusal
unfoldable pub restored : Configuration → ℕ → List Session → Sessions → Result Sessions RowFault
restored configuration clock [] table = Ok table
restored configuration clock (row ∷ rows) table = do
  fits ← restorable configuration clock row table
  restored configuration clock rows (with_row row table)

-- a table of which the rows and then the last number are put back into one that has none
unfoldable pub rebuilt : Configuration → ℕ → Sessions → Result Sessions RowFault
rebuilt configuration clock table = do
  rows ← restored configuration clock table.sessions (opening table.spans)
  fits ← last_restorable (table.next - 1) rows
  Ok (with_last (table.next - 1) rows)

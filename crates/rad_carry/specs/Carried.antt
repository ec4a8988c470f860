-- What a server of a new configuration takes over of what one of an old configuration remembers: each row that still has its client
-- and its user, and that the new configuration allows beside the rows before it.
use Rattle.std.specs.Prelude.{ℕ, ◌==◌, ◌&&◌, not, Bool, false, is_some, if◌then◌else◌, List, [], ◌∷◌, filter, find, Option, Some}
use Rattle.std.specs.Prelude.{None, option_and_then, option_map}
use Rattle.std.specs.Result.{is_ok}
use Rattle.rad_packet.specs.Attributes.{first_value}
use Rattle.rad_packet.specs.Codes.{code_access_accept}
use Rattle.rad_packet.specs.Types.{type_class}
use Rattle.rad_config.specs.Configurations.{Configuration}
use Rattle.rad_pool.specs.Sessions.{Sessions}
use Rattle.rad_pool.specs.declared.session.Session.{Session}
use Rattle.rad_recent.specs.declared.challenge.Challenge.{Challenge}
use Rattle.rad_recent.specs.declared.kept.Kept.{Kept}
use Rattle.rad_server.specs.Reports.{class_number_of}
use Rattle.rad_server.specs.Restored.{restorable, rows_of, with_row}
use Rattle.rad_server.specs.States.{State, at_moment, opening}
use Rattle.rad_server.specs.declared.state_row.StateRow.{StateRow}
use Rattle.rad_server.specs.declared.state_row.StateRow.TheVariants as rows
use Rattle.rad_carry.specs.Places.{Places, moved_place, places, places_by}

-- ---- a row at its new places

-- a session with the new places of its client and its user, if both are still there
abbrev pub moved_session : Places → Session → Option Session
moved_session places session =
    option_and_then (λ client. option_map (λ user. record session { client = client; user = user })
    (moved_place places.users session.user))
    (moved_place places.clients session.client)

-- the same of a challenge
abbrev pub moved_challenge : Places → Challenge → Option Challenge
moved_challenge places row =
    option_and_then (λ client. option_map (λ user. record row { client = client; user = user }) (moved_place places.users row.user))
    (moved_place places.clients row.client)

-- the new place of the client whose share a reply takes, if it is still there; nobody stays nobody
abbrev pub moved_client : List (Option ℕ) → Option ℕ → Option (Option ℕ)
moved_client places None = Some None
moved_client places (Some client) = option_map Some (moved_place places client)

-- a reply with that place
abbrev pub moved_reply : Places → Kept → Option Kept
moved_reply places reply = option_map (λ client. record reply { client = client }) (moved_client places.clients reply.client)

-- a row with its new places; a last number has none
abbrev pub moved : Places → StateRow → Option StateRow
moved places (rows.Session row) = option_map rows.Session (moved_session places row)
moved places (rows.LastSession last) = Some (rows.LastSession last)
moved places (rows.Reply reply) = option_map rows.Reply (moved_reply places reply)
moved places (rows.Challenge row) = option_map rows.Challenge (moved_challenge places row)
moved places (rows.LastChallenge last) = Some (rows.LastChallenge last)

-- ---- replies whose session is left out

-- whether a table has a session of this number
abbrev pub has_number : ℕ → Sessions → Bool
has_number number table = is_some (find (λ session. session.number == number) table.sessions)

-- the number in the Class of an Access-Accept, if it has the Class of a session
abbrev pub session_given : Kept → Option ℕ
session_given reply =
    if reply.body.code == code_access_accept then option_and_then class_number_of (first_value type_class reply.body.attributes)
    else None

-- whether there is a number, and it is of a session that the old table has and the new one hasn't
abbrev pub is_lost : Sessions → Sessions → Option ℕ → Bool
is_lost old new None = false
is_lost old new (Some number) = has_number number old && not (has_number number new)

-- whether a row is an Access-Accept that gives a session which was left out; sessions come before replies
abbrev pub gives_lost : Sessions → Sessions → StateRow → Bool
gives_lost old new (rows.Session row) = false
gives_lost old new (rows.LastSession last) = false
gives_lost old new (rows.Reply reply) = is_lost old new (session_given reply)
gives_lost old new (rows.Challenge row) = false
gives_lost old new (rows.LastChallenge last) = false

-- ---- row by row

-- whether a row at its new places is taken over: the new configuration allows it, and its session isn't left out
abbrev pub is_taken_over : Configuration → Sessions → StateRow → State → Bool
is_taken_over new old row state = is_ok (restorable new row state) && not (gives_lost old state.sessions row)

-- the state with the row if it is taken over, otherwise as it was
abbrev pub and_row : Configuration → Sessions → StateRow → State → State
and_row new old row state = if is_taken_over new old row state then with_row row state else state

-- the same of a row that perhaps has no new places
abbrev pub and_moved : Configuration → Sessions → Option StateRow → State → State
and_moved new old None state = state
and_moved new old (Some row) state = and_row new old row state

-- the state after rows in their order
abbrev pub and_rows : Places → Configuration → Sessions → List StateRow → State → State
and_rows places new old [] state = state
and_rows places new old (row ∷ rest) state = and_rows places new old rest (and_moved new old (moved places row) state)

-- ---- the whole

-- What a server of the new configuration remembers, by these places: it begins with nothing, at the clock of the old state, and
-- takes over the rows of the old state in their order.
abbrev pub carried_at : Places → Configuration → State → State
carried_at places new state = and_rows places new state.sessions (rows_of state) (at_moment state.clock (opening new))

-- the same with users by their names, and clients by the new places that a list has
abbrev pub carried_by : List (Option ℕ) → Configuration → Configuration → State → State
carried_by clients old new state = carried_at (places_by clients old new) new state

-- the same with users by their names, and clients by their networks
abbrev pub carried : Configuration → Configuration → State → State
carried old new state = carried_at (places old new) new state

-- the sessions of an old table that a new one hasn't, in their order and with their old places
abbrev pub left_out : Sessions → Sessions → List Session
left_out old new = filter (λ session. not (has_number session.number new)) old.sessions

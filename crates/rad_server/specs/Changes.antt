-- What a request changes among sessions and challenges. No other crate cites these.
use Rattle.std.specs.Prelude.{◌≡◌, ℕ, true, List, Option, Some, None, IsOk}
use Rattle.rad_auth.specs.declared.arrival.Request.{Request}
use Rattle.rad_pool.specs.Grants.{with_session}
use Rattle.rad_pool.specs.Meant.{meant}
use Rattle.rad_pool.specs.Sessions.{Sessions, renewed, source_reset, stopped}
use Rattle.rad_recent.specs.Challenges.{Challenges, next_number, without_answered}
use Rattle.rad_server.specs.Access.{with_challenge, without_challenge}
use Rattle.rad_server.specs.Accounting.{changed}
use Rattle.rad_server.specs.States.{State}
use Rattle.rad_server.specs.declared.change.Change.{Change}
use Rattle.rad_server.specs.declared.change.Change.TheVariants as changes
use Rattle.rad_server.specs.declared.change.Event.{Event}
use Rattle.rad_server.specs.declared.change.Event.TheVariants as events
use Rattle.rad_server.specs.declared.change.Reference.{Reference}
use Rattle.rad_server.specs.declared.tables.Tables.{Tables}

-- the number of the session that a client means, if it means one
abbrev pub session_of : ℕ → Reference → Sessions → Option ℕ
session_of client reference table = meant client reference.number reference.address reference.name table.sessions

-- the table after an event that a request reports at a moment
abbrev pub after_event : Request → ℕ → Event → Sessions → Sessions
after_event request now (events.Renewal reference) table =
    changed (λ n. renewed n now) (session_of request.client reference table) table
after_event request now (events.Stop reference) table = changed stopped (session_of request.client reference table) table
after_event request now events.Reset table = source_reset request.source table

-- the number of the session that an event names, if it names one
abbrev pub session_in : Request → Event → Sessions → Option ℕ
session_in request (events.Renewal reference) table = session_of request.client reference table
session_in request (events.Stop reference) table = session_of request.client reference table
session_in request events.Reset table = None

-- the number of the session that a change names, if it names one
abbrev pub session_by : Request → Change → Sessions → Option ℕ
session_by request changes.Nothing table = None
session_by request (changes.Challenge user) table = None
session_by request (changes.Grant session) table = None
session_by request (changes.Report event) table = session_in request event table

-- the state after a change that a request makes
abbrev pub changed_by : Request → List ℕ → Change → State → State
changed_by request draw changes.Nothing state = state
changed_by request draw (changes.Challenge user) state = with_challenge request.client user draw state
changed_by request draw (changes.Grant session) state =
    record state { sessions = with_session request.client request.source session.user state.clock session.grant state.sessions }
changed_by request draw (changes.Report event) state =
    record state { sessions = after_event request state.clock event state.sessions }

-- the state after it, without the challenge that was answered
abbrev pub after : Request → List ℕ → Option (List ℕ) → Change → State → State
after request draw value change state = changed_by request draw change (without_challenge request.client value state)

-- the challenges without the one that a client answers with a State, if it sent one
abbrev pub challenges_without : ℕ → Option (List ℕ) → Challenges → Challenges
challenges_without client None challenges = challenges
challenges_without client (Some value) challenges = without_answered value client challenges

-- a change can be made: one more challenge may wait, and a session has the next number
abbrev pub CanBeMade : State → Change → Type 0
CanBeMade state changes.Nothing = Unit {0}
CanBeMade state (changes.Challenge user) = IsOk (next_number state.challenges)
CanBeMade state (changes.Grant session) = session.grant.number ≡ state.sessions.next
CanBeMade state (changes.Report event) = Unit {0}

-- memory is ready for a change
abbrev pub IsReadyFor : Change → Tables → Type 0
IsReadyFor changes.Nothing tables = Unit {0}
IsReadyFor (changes.Challenge user) tables = tables.challenges.has_room ≡ true
IsReadyFor (changes.Grant user) tables = tables.sessions.has_room ≡ true
IsReadyFor (changes.Report event) tables = Unit {0}

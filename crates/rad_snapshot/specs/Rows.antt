-- Sessions, kept replies and challenges as the rows of a table: the rowid, which is the place counted from 1, and then the fields.
-- Moments are in milliseconds.
use Rattle.std.specs.Prelude.{◌≡◌, ◌<◌, ◌^◌, ℕ, zero, suc, pos, List, [], ◌∷◌, length, Option, Some, None, IfSome}
use Rattle.rad_packet.specs.Attributes.{attributes_in, attributes_octets}
use Rattle.rad_pool.specs.declared.session.Phase.{Phase}
use Rattle.rad_pool.specs.declared.session.Phase.TheVariants.{Pending, Active, Ended}
use Rattle.rad_pool.specs.declared.session.Session.{Session}
use Rattle.rad_recent.specs.declared.challenge.Challenge.{Challenge}
use Rattle.rad_recent.specs.declared.kept.Kept.{Kept}
use Rattle.rad_server.specs.declared.state_row.StateRow.{StateRow}
use Rattle.rad_server.specs.declared.state_row.StateRow.TheVariants as rows
use Rattle.sqlite_value.specs.Order.{Row, column}
use Rattle.sqlite_value.specs.declared.value.Value.{Value}
use Rattle.sqlite_value.specs.declared.value.Value.TheVariants.{Null, Int, Real, Text, Blob}
use Rattle.rad_journal.specs.Rows.{door_number, door_of, magnitude, number_of, octets_of}

-- ---- values

-- a number, or NULL where there is none
abbrev pub number_or_null : Option ℕ → Value
number_or_null None = Null
number_or_null (Some n) = Int (pos n)

-- the number of a value that is one, if it isn't NULL
abbrev pub number_if_any : Value → Option ℕ
number_if_any Null = None
number_if_any (Int n) = Some (magnitude n)
number_if_any (Real x) = None
number_if_any (Text t) = None
number_if_any (Blob b) = None

-- the number of a phase
abbrev pub phase_number : Phase → ℕ
phase_number Pending = 0
phase_number Active = 1
phase_number Ended = 2

-- the phase of a number that is one's
abbrev pub phase_of : ℕ → Phase
phase_of zero = Pending
phase_of (suc zero) = Active
phase_of (suc (suc n)) = Ended

-- ---- sessions

-- the row of a session at a place
abbrev pub session_row : ℕ → Session → Row
session_row place session =
    Int (pos place)
    ∷ Int (pos session.number)
    ∷ Int (pos session.client)
    ∷ Int (pos session.source)
    ∷ Int (pos session.user)
    ∷ number_or_null session.address
    ∷ Int (pos (phase_number session.phase))
    ∷ Int (pos session.made)
    ∷ Int (pos session.seen)
    ∷ []

-- the columns of a session's row, after its rowid
abbrev pub at_session_number : ℕ
at_session_number = 1

abbrev pub at_session_client : ℕ
at_session_client = 2

abbrev pub at_session_source : ℕ
at_session_source = 3

abbrev pub at_session_user : ℕ
at_session_user = 4

abbrev pub at_session_address : ℕ
at_session_address = 5

abbrev pub at_session_phase : ℕ
at_session_phase = 6

abbrev pub at_session_made : ℕ
at_session_made = 7

abbrev pub at_session_seen : ℕ
at_session_seen = 8

-- the session of a row that is one's
abbrev pub session_of : Row → Session
session_of row = record {
  number = number_of (column row at_session_number);
  client = number_of (column row at_session_client);
  source = number_of (column row at_session_source);
  user = number_of (column row at_session_user);
  address = number_if_any (column row at_session_address);
  phase = phase_of (number_of (column row at_session_phase));
  made = number_of (column row at_session_made);
  seen = number_of (column row at_session_seen);
}

-- the numbers of a session are such as one in memory has
pub record IsSession (session : Session) : Type 0 where
  pub client : session.client < 2 ^ 32
  pub source : session.source < 2 ^ 32
  pub user : session.user < 2 ^ 32
  pub address : IfSome session.address (λ address. address < 2 ^ 32)

-- ---- kept replies

-- the row of a kept reply at a place: its body is the Code and the octets of the attributes
abbrev pub reply_row : ℕ → Kept → Row
reply_row place reply =
    Int (pos place)
    ∷ number_or_null reply.client
    ∷ Int (pos reply.key.source)
    ∷ Int (pos reply.key.port)
    ∷ Int (pos (door_number reply.key.door))
    ∷ Int (pos reply.key.id)
    ∷ Blob reply.octets
    ∷ Int (pos reply.body.code)
    ∷ Blob (attributes_octets reply.body.attributes)
    ∷ Int (pos reply.made)
    ∷ []

-- the columns of a kept reply's row, after its rowid
abbrev pub at_reply_client : ℕ
at_reply_client = 1

abbrev pub at_reply_source : ℕ
at_reply_source = 2

abbrev pub at_reply_port : ℕ
at_reply_port = 3

abbrev pub at_reply_door : ℕ
at_reply_door = 4

abbrev pub at_reply_id : ℕ
at_reply_id = 5

abbrev pub at_reply_request : ℕ
at_reply_request = 6

abbrev pub at_reply_code : ℕ
at_reply_code = 7

abbrev pub at_reply_attributes : ℕ
at_reply_attributes = 8

abbrev pub at_reply_made : ℕ
at_reply_made = 9

-- the kept reply of a row that is one's
abbrev pub reply_of : Row → Kept
reply_of row = record {
  client = number_if_any (column row at_reply_client);
  key = record {
    source = number_of (column row at_reply_source);
    port = number_of (column row at_reply_port);
    door = door_of (number_of (column row at_reply_door));
    id = number_of (column row at_reply_id);
  };
  octets = octets_of (column row at_reply_request);
  body = record {
    code = number_of (column row at_reply_code);
    attributes = attributes_in (octets_of (column row at_reply_attributes));
  };
  made = number_of (column row at_reply_made);
}

-- the numbers of a kept reply are such as one in memory has
pub record IsReply (reply : Kept) : Type 0 where
  pub client : IfSome reply.client (λ client. client < 2 ^ 32)
  pub source : reply.key.source < 2 ^ 32
  pub port : reply.key.port < 2 ^ 16
  pub id : reply.key.id < 2 ^ 8
  pub code : reply.body.code < 2 ^ 8

-- ---- challenges

-- the row of a challenge at a place
abbrev pub challenge_row : ℕ → Challenge → Row
challenge_row place challenge =
    Int (pos place)
    ∷ Int (pos challenge.number)
    ∷ Blob challenge.draw
    ∷ Int (pos challenge.client)
    ∷ Int (pos challenge.user)
    ∷ Int (pos challenge.made)
    ∷ []

-- the columns of a challenge's row, after its rowid
abbrev pub at_challenge_number : ℕ
at_challenge_number = 1

abbrev pub at_challenge_draw : ℕ
at_challenge_draw = 2

abbrev pub at_challenge_client : ℕ
at_challenge_client = 3

abbrev pub at_challenge_user : ℕ
at_challenge_user = 4

abbrev pub at_challenge_made : ℕ
at_challenge_made = 5

-- the challenge of a row that is one's
abbrev pub challenge_of : Row → Challenge
challenge_of row = record {
  number = number_of (column row at_challenge_number);
  draw = octets_of (column row at_challenge_draw);
  client = number_of (column row at_challenge_client);
  user = number_of (column row at_challenge_user);
  made = number_of (column row at_challenge_made);
}

-- the numbers and the draw of a challenge are such as one in memory has
pub record IsChallenge (challenge : Challenge) : Type 0 where
  pub draw : length challenge.draw ≡ 16
  pub client : challenge.client < 2 ^ 32
  pub user : challenge.user < 2 ^ 32

-- ---- the clock and the last numbers

-- the row of a clock, and of the last numbers that were given to a session and to a challenge
abbrev pub numbers_row : ℕ → ℕ → ℕ → Row
numbers_row clock last_session last_challenge =
    Int (pos 1) ∷ Int (pos clock) ∷ Int (pos last_session) ∷ Int (pos last_challenge) ∷ []

-- ---- rows of any kind

-- the row at a place; last numbers have none of their own
abbrev pub row_of : ℕ → StateRow → Row
row_of place (rows.Session session) = session_row place session
row_of place (rows.LastSession last) = []
row_of place (rows.Reply reply) = reply_row place reply
row_of place (rows.Challenge challenge) = challenge_row place challenge
row_of place (rows.LastChallenge last) = []

-- its numbers are such as one in memory has
abbrev pub IsWithin : StateRow → Type 0
IsWithin (rows.Session session) = IsSession session
IsWithin (rows.LastSession last) = Unit {0}
IsWithin (rows.Reply reply) = IsReply reply
IsWithin (rows.Challenge challenge) = IsChallenge challenge
IsWithin (rows.LastChallenge last) = Unit {0}

-- the rows in order, at the places from this one on
abbrev pub rows_from : ℕ → List StateRow → List Row
rows_from place [] = []
rows_from place (row ∷ rest) = row_of place row ∷ rows_from (suc place) rest

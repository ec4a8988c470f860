-- What restoring a server from kept entries makes of it.
use Rattle.std.specs.Prelude.{◌≡◌, ◌≤◌, ◌<◌, ℕ, List, [], ◌∷◌, take, slice_get, All, Option, Some}
use Rattle.rad_packet.specs.Bodies.{Body}
use Rattle.rad_auth.specs.Admission.{IsAdmitted, own_datagram}
use Rattle.rad_auth.specs.Clients.{Client}
use Rattle.rad_auth.specs.Datagrams.{Datagram}
use Rattle.rad_auth.specs.declared.arrival.Request.{Request}
use Rattle.rad_config.specs.Spans.{moment_max}
use Rattle.rad_server.specs.Runs.{IsExchange, Run}
use Rattle.rad_server.specs.Servers.{Server}
use Rattle.rad_server.specs.States.{at_moment}
use Rattle.rad_server.specs.Steps.{session_at, step}
use Rattle.rad_server.specs.declared.answer.Answer.{Answer}
use Rattle.rad_server.specs.declared.answer.Answer.TheVariants.{Send}
use Rattle.rad_server.specs.declared.entry.Entry.{Entry}
use Rattle.rad_journal.specs.Kept.{answer_octets, kept_by, kept_of}
use Rattle.rad_journal.specs.declared.kept.Kept.{Kept}
use Rattle.rad_journal.specs.declared.restore_fault.RestoreFault.{RestoreFault}
use Rattle.rad_journal.specs.declared.restore_fault.RestoreFault.TheVariants.{NoMemory, Journal, TooLate, NotAdmitted, OtherAnswer}

-- the datagram that a kept request was, without padding
abbrev pub datagram_of_kept : Kept → Datagram
datagram_of_kept kept = record { source = kept.source; port = kept.port; door = kept.door; octets = kept.octets }

-- what is kept of the entries, one by one and in their order, is this
abbrev pub AreKept : List Entry → List Kept → Type 0
AreKept [] [] = Unit {0}
AreKept [] (kept ∷ others) = ⊥
AreKept (entry ∷ rest) [] = ⊥
AreKept (entry ∷ rest) (kept ∷ others) = (kept_by kept.wall entry ≡ Some kept) × AreKept rest others

-- entries that each got a reply are what `kept_of` keeps of them
abbrev pub RepliedAreKept : Type 0
RepliedAreKept = (wall : ℕ) (entries : List Entry) → All (λ entry. (body : Body) × (entry.answer ≡ Send body)) entries
    → AreKept entries (kept_of wall entries)

-- an entry leads from one server to another, and this is kept of it
pub record IsStep (before : Server) (kept : Kept) (after : Server) : Type 0 where
  pub entry : Entry
  pub exchange : IsExchange before.configuration before.state entry after.state
  pub is_kept : kept_by kept.wall entry ≡ Some kept

-- a history leads from one server to another, and this is kept of it
pub record IsRestored (before : Server) (kept : List Kept) (after : Server) : Type 0 where
  pub history : List Entry
  pub run : Run before.configuration before.state history after.state
  pub are_kept : AreKept history kept

-- ---- what cannot be restored

-- no entry that is kept as this leads on from the server
abbrev pub CannotStep : Server → Kept → Type 0
CannotStep before kept = (after : Server) → IsStep before kept after → ⊥

-- no history that is kept as this leads on from the server
abbrev pub CannotRestore : Server → List Kept → Type 0
CannotRestore before kept = (after : Server) → IsRestored before kept after → ⊥

-- no request is the one that was kept, of the client that was
abbrev pub IsNoRequest : List Client → Kept → Type 0
IsNoRequest clients kept =
    (request : Request) → IsAdmitted clients request → own_datagram request ≡ datagram_of_kept kept
    → request.client ≡ kept.client → ⊥

-- the faults of an entry
abbrev pub IsOfEntry : RestoreFault → Type 0
IsOfEntry NoMemory = ⊥
IsOfEntry (Journal reported) = ⊥
IsOfEntry (TooLate entry) = Unit {0}
IsOfEntry (NotAdmitted entry) = Unit {0}
IsOfEntry (OtherAnswer entry) = Unit {0}

-- the place of the entry that a fault is of
abbrev pub place_of : RestoreFault → ℕ
place_of NoMemory = 0
place_of (Journal reported) = 0
place_of (TooLate entry) = entry
place_of (NotAdmitted entry) = entry
place_of (OtherAnswer entry) = entry

-- ---- where restoring stops

-- this answer and session are those that were kept
pub record IsKeptSo (kept : Kept) (answer : Answer) (session : Option ℕ) : Type 0 where
  pub answers : answer_octets answer ≡ Some kept.answer
  pub names : session ≡ kept.session

-- the step of the request that was kept gives another answer, or names another session, and leads from one server to another
pub record IsAnsweredOtherwise (before : Server) (kept : Kept) (after : Server) : Type 0 where
  pub request : Request
  pub own : own_datagram request ≡ datagram_of_kept kept
  pub admitted : IsAdmitted before.configuration.clients request
  pub client : request.client ≡ kept.client
  pub moment : kept.moment ≤ moment_max
  pub answer : Answer
  pub answered : step before.configuration before.state request kept.moment kept.draw ≡ (answer, after.state)
  pub configuration : after.configuration ≡ before.configuration
  pub differs : ¬ IsKeptSo kept answer (session_at before.configuration (at_moment kept.moment before.state) request)

-- why a kept entry fails at a server, and the server after that; the moment is looked at first
abbrev pub HasReason : RestoreFault → Server → Kept → Server → Type 0
HasReason NoMemory before kept after = ⊥
HasReason (Journal reported) before kept after = ⊥
HasReason (TooLate entry) before kept after = (moment_max < kept.moment) × (after ≡ before)
HasReason (NotAdmitted entry) before kept after =
    (kept.moment ≤ moment_max) × IsNoRequest before.configuration.clients kept × (after ≡ before)
HasReason (OtherAnswer entry) before kept after = IsAnsweredOtherwise before kept after

-- the entries before a fault's are restored, and its entry fails at the server that they lead to
pub record StopsAt (fault : RestoreFault) (before : Server) (kept : List Kept) (after : Server) : Type 0 where
  pub reached : Server
  pub entry : Kept
  pub restored : IsRestored before (take (place_of fault) kept) reached
  pub next : slice_get kept (place_of fault) ≡ Some entry
  pub reason : HasReason fault reached entry after

-- some first entries are restored
abbrev pub IsBegun : Server → List Kept → Server → Type 0
IsBegun before kept after = (count : ℕ) × IsRestored before (take count kept) after

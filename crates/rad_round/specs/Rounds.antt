-- Rounds: datagrams that are handed in together, and that several workers answer.
--
-- For every round of datagrams, number of workers and schedule, the history that is kept is a run of the one-thread server
-- (`IsHistory`), with one exchange for each datagram that passes the checks (`admission`) and isn't answered `NoMemory`. Each reply
-- that is sent has the RFC's octets (`reply_octets`), under the client's secret, of that server's answer at its place in the
-- history (`IsExchange`). A repeat inside the window gets the kept reply and no second address (`Repeat`). No address belongs to
-- two sessions (`IsLawfulThroughout`).
--
-- A round is one call of `Service::round`, a schedule any order in which its workers take the lock. Arrivals and places are counted
-- from 0, and the tag of an entry is the number of its arrival.
use Rattle.std.specs.Prelude.{◌≡◌, ℕ, ◌≤◌, List, length, slice_get, Some, Ok, Err, All}
use Rattle.rad_auth.specs.Admission.{IsAdmitted, admission}
use Rattle.rad_auth.specs.Clients.{Client, client_at}
use Rattle.rad_auth.specs.Datagrams.{datagram_of}
use Rattle.rad_auth.specs.Sealing.{reply_octets}
use Rattle.rad_auth.specs.declared.arrival.Request.{Request}
use Rattle.rad_config.specs.Spans.{moment_max}
use Rattle.rad_packet.specs.Bodies.{Body}
use Rattle.rad_server.specs.Runs.{IsAsked, IsHistory}
use Rattle.rad_server.specs.Servers.{Server}
use Rattle.rad_server.specs.declared.answer.Answer as answers
use Rattle.rad_server.specs.declared.answer.Answer.{Answer}
use Rattle.rad_server.specs.declared.entry.Entry.{Entry}
use Rattle.rad_round.specs.declared.outcome.Outcome.{Outcome}
use Rattle.rad_round.specs.declared.outcome.Outcome.TheVariants.{Dropped, Busy, NoMemory, Reply}
use Rattle.rad_round.specs.declared.timed.Timed.{Timed}

-- the most datagrams of a round
abbrev pub arrivals_max : ℕ
arrivals_max = 512

-- the most workers of a round
abbrev pub workers_max : ℕ
workers_max = 8

-- no moment is too late
abbrev pub AreMoments : List Timed → Type 0
AreMoments arrivals = All (λ timed. timed.moment ≤ moment_max) arrivals

-- ---- one arrival

-- admission gives this request of an arrival
abbrev pub IsAdmittedAs : List Client → Timed → Request → Type 0
IsAdmittedAs clients timed request = admission clients (datagram_of timed.arrival) ≡ Ok request

-- an answer to a request is sent as an outcome: the octets of the reply with its body (RFC 2865, section 3; RFC 3579, section 3.2),
-- or nothing because the server is busy
abbrev pub IsSentAs : List Client → Request → Answer → Outcome → Type 0
IsSentAs clients request answer (Reply frame) =
    (body : Body) × (answer ≡ answers.Answer.Send body)
    × (frame ≡ reply_octets body request.packet.identifier request.packet.authenticator (client_at clients request.client).secret)
IsSentAs clients request answer Busy = answer ≡ answers.Answer.Busy
IsSentAs clients request answer NoMemory = ⊥
IsSentAs clients request answer (Dropped discard) = ⊥

-- an entry is that of an arrival: it holds the arrival's request, which its own octets up to Length give too, with its number,
-- moment and draw, and its answer is sent as the outcome
pub record IsEntryOf (clients : List Client) (number : ℕ) (timed : Timed) (outcome : Outcome) (entry : Entry) : Type 0 where
  pub request : Request
  pub admitted : IsAdmittedAs clients timed request
  pub own : IsAdmitted clients request
  pub asked : IsAsked number request timed.moment timed.draw entry
  pub sent : IsSentAs clients request entry.answer outcome

-- The outcome of an arrival, where `Has` says which entries there are: it is discarded for the first reason that applies, or it is
-- admitted and refused memory, or it has an entry.
abbrev pub IsOutcome : List Client → (Entry → Type 0) → ℕ → Timed → Outcome → Type 0
IsOutcome clients Has number timed (Dropped discard) = admission clients (datagram_of timed.arrival) ≡ Err discard
IsOutcome clients Has number timed NoMemory = (request : Request) × IsAdmittedAs clients timed request
IsOutcome clients Has number timed Busy = (entry : Entry) × Has entry × IsEntryOf clients number timed Busy entry
IsOutcome clients Has number timed (Reply frame) = (entry : Entry) × Has entry × IsEntryOf clients number timed (Reply frame) entry

-- ---- all arrivals

-- a history has an entry
abbrev pub HasEntry : List Entry → Entry → Type 0
HasEntry history entry = (place : ℕ) × (slice_get history place ≡ Some entry)

-- each arrival has an outcome
abbrev pub AreOutcomes : List Client → List Timed → List Outcome → List Entry → Type 0
AreOutcomes clients arrivals outcomes history = (number : ℕ) (timed : Timed) → slice_get arrivals number ≡ Some timed
    → (outcome : Outcome) × (slice_get outcomes number ≡ Some outcome) × IsOutcome clients (HasEntry history) number timed outcome

-- an entry is that of the arrival whose number is its tag
pub record HasArrival (clients : List Client) (arrivals : List Timed) (outcomes : List Outcome) (entry : Entry) : Type 0 where
  pub timed : Timed
  pub outcome : Outcome
  pub arrival : slice_get arrivals entry.tag ≡ Some timed
  pub outcome_is : slice_get outcomes entry.tag ≡ Some outcome
  pub entry_of : IsEntryOf clients entry.tag timed outcome entry

-- no two entries have one tag
abbrev pub HaveOwnTags : List Entry → Type 0
HaveOwnTags history = (place other : ℕ) (entry another : Entry) → slice_get history place ≡ Some entry
    → slice_get history other ≡ Some another → entry.tag ≡ another.tag → place ≡ other

-- what a round makes of a server: the history leads from the server before to the one after, each arrival has its outcome, and each
-- entry is that of one arrival
pub record Round (before : Server) (arrivals : List Timed) (outcomes : List Outcome) (history : List Entry) (after : Server) : Type
    0 where
  pub run : IsHistory before history after
  pub count : length outcomes ≡ length arrivals
  pub answered : AreOutcomes before.configuration.clients arrivals outcomes history
  pub entries : All (HasArrival before.configuration.clients arrivals outcomes) history
  pub tags : HaveOwnTags history

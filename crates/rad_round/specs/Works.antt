-- Works: what the workers of a round know while they work, and once they are done. Arrivals, batches and lanes are counted from 0.
use Rattle.std.specs.Prelude.{◌≡◌, ℕ, ◌+◌, ◌*◌, ◌/◌, ◌<◌, ◌≤◌, List, [], ◌∷◌, ◌++◌, map, set, Option, Some, None, IfSome, Result}
use Rattle.std.specs.Prelude.{Ok, Err, length, slice_get, All, sum_by}
use Rattle.std.specs.Option.{option_map}
use Rattle.std.specs.Vec.{vec_capacity, vec_len}
use Rattle.rad_auth.specs.Admission.{HoldsAdmitted, admission}
use Rattle.rad_auth.specs.Clients.{Client, client_at}
use Rattle.rad_auth.specs.Datagrams.{datagram_of}
use Rattle.rad_auth.specs.Sealing.{job_octets, reply_octets}
use Rattle.rad_auth.specs.declared.arrival.Request.{Request}
use Rattle.rad_auth.specs.declared.discard.Discard.{Discard}
use Rattle.rad_auth.specs.declared.job.Job.{Job}
use Rattle.rad_claim.specs.Claims.{Claims, ClaimSeat, IsFinishedSeatOf, IsNewSeatOf}
use Rattle.rad_desk.specs.declared.receipt.Receipt.{Receipt}
use Rattle.rad_log.specs.Logs.{entries_of}
use Rattle.rad_log.specs.Logs.{Has}
use Rattle.rad_log.specs.declared.rule.Taking.{Taking}
use Rattle.rad_packet.specs.Bodies.{Body}
use Rattle.rad_packet.specs.Packets.{packet_octets}
use Rattle.rad_config.specs.Configurations.{Configuration}
use Rattle.rad_server.specs.Prepared.{Prepared, prepared_in}
use Rattle.rad_server.specs.Runs.{IsAsked}
use Rattle.rad_server.specs.Steps.{IsSealable}
use Rattle.rad_server.specs.declared.answer.Answer.TheVariants.{Send}
use Rattle.rad_server.specs.declared.ask.Ask.{Ask}
use Rattle.rad_server.specs.declared.entry.Entry.{Entry}
use Rattle.rad_round.specs.Rounds.{AreMoments, IsEntryOf, IsOutcome, arrivals_max}
use Rattle.rad_round.specs.declared.outcome.Outcome.{Outcome}
use Rattle.rad_round.specs.declared.outcome.Outcome.TheVariants.{Dropped, NoMemory}
use Rattle.rad_round.specs.declared.memory.Memory.{Memory}
use Rattle.rad_round.specs.declared.timed.Timed.{Timed}

-- how many batches these arrivals are
abbrev pub batch_count : List Timed → ℕ
batch_count arrivals = (length arrivals + 7) / 8

-- ---- lanes

abbrev pub Verdict : Type 0
Verdict = Option (Result Request Discard)

-- the verdict of admission on the arrival of this number, if there is one
pub record IsVerdict (clients : List Client) (arrivals : List Timed) (number : ℕ) (verdict : Verdict) : Type 0 where
  pub value : verdict ≡ option_map (λ timed. admission clients (datagram_of timed.arrival)) (slice_get arrivals number)
  pub admitted : HoldsAdmitted clients verdict

-- the verdicts of a batch that begins with the arrival of this number
abbrev pub AreVerdicts : List Client → List Timed → ℕ → List Verdict → Type 0
AreVerdicts clients arrivals first verdicts = (lane : ℕ) (verdict : Verdict) → slice_get verdicts lane ≡ Some verdict
    → IsVerdict clients arrivals (first + lane) verdict

-- a batch: the configuration, all arrivals, its number, and the verdict in each of its lanes
pub record CheckedBatch : Type 0 where
  pub configuration : Configuration
  pub arrivals : List Timed
  pub number : ℕ
  pub verdicts : List Verdict

-- these are the verdicts on the batch of this number
pub record IsChecked (clients : List Client) (arrivals : List Timed) (number : ℕ) (verdicts : List Verdict) : Type 0 where
  pub within : number * 8 < arrivals_max
  pub moments : AreMoments arrivals
  pub lanes : length verdicts ≡ 8
  pub checked : AreVerdicts clients arrivals (number * 8) verdicts

-- these are the octets of the request that was admitted
pub record HasOctets (verdict : Verdict) (octets : List ℕ) : Type 0 where
  pub request : Request
  pub verdict_is : verdict ≡ Some (Ok request)
  pub octets_are : octets ≡ packet_octets request.packet

-- the octets in each lane, where there are any, are those of its request
abbrev pub AreOctets : List Verdict → List (Option (List ℕ)) → Type 0
AreOctets verdicts octets = (lane : ℕ) (verdict : Verdict) (some : Option (List ℕ)) → slice_get verdicts lane ≡ Some verdict
    → slice_get octets lane ≡ Some some → IfSome some (HasOctets verdict)

-- the requests of a batch are prepared, and these are their octets
pub record IsReady (configuration : Configuration) (arrivals : List Timed) (number : ℕ) (verdicts : List Verdict)
    (prepared : List (Option Prepared)) (octets : List (Option (List ℕ))) : Type 0 where
  pub checked : IsChecked configuration.clients arrivals number verdicts
  pub prepared_are : prepared ≡ map (prepared_in configuration) verdicts
  pub octet_lanes : length octets ≡ 8
  pub octets_are : AreOctets verdicts octets

-- what is asked is the request of the arrival of this number, which has this verdict
pub record IsAskOf (arrivals : List Timed) (number : ℕ) (verdict : Verdict) (ask : Ask) : Type 0 where
  pub verdict_is : verdict ≡ Some (Ok ask.prepared.now.request)
  pub timed : Timed
  pub arrival : slice_get arrivals number ≡ Some timed
  pub tag : ask.tag ≡ number
  pub moment : ask.moment ≡ timed.moment
  pub draw : ask.draw.now ≡ timed.draw

-- the same by the lane of a batch
pub record IsAskIn (batch : CheckedBatch) (lane : ℕ) (ask : Ask) : Type 0 where
  pub configuration_is : ask.prepared.now.configuration ≡ batch.configuration
  pub of : (verdict : Verdict) → slice_get batch.verdicts lane ≡ Some verdict
      → IsAskOf batch.arrivals (batch.number * 8 + lane) verdict ask

-- a receipt is that of the request of the arrival of this number
pub record IsAskedOf (arrivals : List Timed) (number : ℕ) (verdict : Verdict) (receipt : Receipt) : Type 0 where
  pub request : Request
  pub verdict_is : verdict ≡ Some (Ok request)
  pub timed : Timed
  pub arrival : slice_get arrivals number ≡ Some timed
  pub asked : IsAsked number request timed.moment timed.draw receipt.entry
  pub sealable : IsSealable receipt.entry.answer

-- the same by the lane of a batch
abbrev pub IsAskedIn : CheckedBatch → ℕ → Receipt → Type 0
IsAskedIn batch lane receipt = (verdict : Verdict) → slice_get batch.verdicts lane ≡ Some verdict
    → IsAskedOf batch.arrivals (batch.number * 8 + lane) verdict receipt

-- the receipt in each lane, where there is one, is that of its arrival, the first of which has this number
abbrev pub AreAsked : List Timed → ℕ → List Verdict → List (Option Receipt) → Type 0
AreAsked arrivals first verdicts asked =
    (lane : ℕ) (verdict : Verdict) (receipt : Option Receipt) → slice_get verdicts lane ≡ Some verdict
    → slice_get asked lane ≡ Some receipt → IfSome receipt (IsAskedOf arrivals (first + lane) verdict)

-- a batch was asked: there is a lane for each of its verdicts
abbrev pub AreAskedOf : CheckedBatch → List (Option Receipt) → Type 0
AreAskedOf batch asked = (length asked ≡ 8) × AreAsked batch.arrivals (batch.number * 8) batch.verdicts asked

-- the elements that are there, in order
abbrev pub somes : {A : Type 0} → List (Option A) → List A
somes [] = []
somes (None ∷ rest) = somes rest
somes (Some x ∷ rest) = x ∷ somes rest

-- the entry of a receipt, if there is one
abbrev pub entry_of : Option Receipt → Option Entry
entry_of receipt = option_map (λ r. r.entry) receipt

-- the entries of the lanes that were asked
abbrev pub entries_in : List (Option Receipt) → List Entry
entries_in asked = somes (map entry_of asked)

-- ---- sealing

-- what is to be sent in a lane: this body, to this request
pub record Sends (verdict : Verdict) (asked : Option Receipt) (request : Request) (body : Body) : Type 0 where
  pub receipt : Receipt
  pub verdict_is : verdict ≡ Some (Ok request)
  pub asked_is : asked ≡ Some receipt
  pub answer : receipt.entry.answer ≡ Send body

-- the octets of a reply to a client's request
abbrev pub reply_to : List Client → Request → Body → List ℕ
reply_to clients request body =
    reply_octets body request.packet.identifier request.packet.authenticator (client_at clients request.client).secret

-- a job is that of a lane
abbrev pub IsJobOf : List Client → Verdict → Option Receipt → Option Job → Type 0
IsJobOf clients verdict asked job = (request : Request) (body : Body) → Sends verdict asked request body
    → (some : Job) × (job ≡ Some some) × (job_octets some ≡ reply_to clients request body)

-- the same by the number of the lane
abbrev pub IsJobIn : List Client → List Verdict → List (Option Receipt) → ℕ → Option Job → Type 0
IsJobIn clients verdicts asked lane job = (verdict : Verdict) (receipt : Option Receipt) → slice_get verdicts lane ≡ Some verdict
    → slice_get asked lane ≡ Some receipt → IsJobOf clients verdict receipt job

-- a frame has the reply of a lane
abbrev pub IsSealed : List Client → Verdict → Option Receipt → List ℕ → Type 0
IsSealed clients verdict asked frame = (request : Request) (body : Body) → Sends verdict asked request body
    → frame ≡ reply_to clients request body

-- the same by the number of the lane
abbrev pub IsSealedIn : List Client → List Verdict → List (Option Receipt) → ℕ → List ℕ → Type 0
IsSealedIn clients verdicts asked lane frame =
    (verdict : Verdict) (receipt : Option Receipt) → slice_get verdicts lane ≡ Some verdict
    → slice_get asked lane ≡ Some receipt → IsSealed clients verdict receipt frame

-- each frame has the reply of its lane
abbrev pub AreSealed : List Client → List Verdict → List (Option Receipt) → List (List ℕ) → Type 0
AreSealed clients verdicts asked frames = (lane : ℕ) (frame : List ℕ) → slice_get frames lane ≡ Some frame
    → IsSealedIn clients verdicts asked lane frame

-- ---- batches

-- the outcome of an arrival, with its entry if an exchange was made
abbrev pub IsOutcomeWith : List Client → ℕ → Timed → Outcome → Option Entry → Type 0
IsOutcomeWith clients number timed outcome None = IsOutcome clients (λ entry. ⊥) number timed outcome
IsOutcomeWith clients number timed outcome (Some entry) = IsEntryOf clients number timed outcome entry

-- what a lane has: the outcome of the arrival of this number, or nothing where there is no such arrival
abbrev pub IsLane : List Client → List Timed → ℕ → Option Outcome → Option Entry → Type 0
IsLane clients arrivals number None entry = (slice_get arrivals number ≡ None) × (entry ≡ None)
IsLane clients arrivals number (Some outcome) entry =
    (timed : Timed) × (slice_get arrivals number ≡ Some timed) × IsOutcomeWith clients number timed outcome entry

-- the outcome in a lane with this verdict of which no exchange was made
abbrev pub unasked : Verdict → Option Outcome
unasked None = None
unasked (Some (Err discard)) = Some (Dropped discard)
unasked (Some (Ok request)) = Some NoMemory

-- the same by the receipt of the lane, if it has one
abbrev pub IsLaneOf : List Client → List Timed → ℕ → Option Outcome → Option (Option Receipt) → Type 0
IsLaneOf clients arrivals number outcome asked = (receipt : Option Receipt) → asked ≡ Some receipt
    → IsLane clients arrivals number outcome (entry_of receipt)

-- what each lane of the batch of this number has
pub record AreLanes (clients : List Client) (arrivals : List Timed) (number : ℕ) (outcomes : List (Option Outcome))
    (entries : List (Option Entry)) : Type 0 where
  pub outcome_each : length outcomes ≡ 8
  pub entry_each : length entries ≡ 8
  pub each : (lane : ℕ) (outcome : Option Outcome) (entry : Option Entry) → slice_get outcomes lane ≡ Some outcome
      → slice_get entries lane ≡ Some entry → IsLane clients arrivals (number * 8 + lane) outcome entry

-- a batch that was answered: its number, the outcomes of its lanes, and what it appended to the history, if anything
pub record Answered : Type 0 where
  pub number : ℕ
  pub outcomes : List (Option Outcome)
  pub ticket : Option (Taking Entry)

-- the entries of a taking, if there is one
abbrev pub taken : Option (Taking Entry) → List Entry
taken None = []
taken (Some taking) = taking.entries

-- a batch was answered as it must be: the outcomes are those of its arrivals, and its taking has their entries and its number
pub record IsAnswered (clients : List Client) (arrivals : List Timed) (answered : Answered) : Type 0 where
  pub entries : List (Option Entry)
  pub within : answered.number * 8 < arrivals_max
  pub lanes : AreLanes clients arrivals answered.number answered.outcomes entries
  pub taken_is : taken answered.ticket ≡ somes entries
  pub numbered : IfSome answered.ticket (λ taking. taking.number ≡ answered.number)

-- how many entries batches have
abbrev pub entry_count : List Answered → ℕ
entry_count list = sum_by (λ answered. length (taken answered.ticket)) list

-- the numbers of batches
abbrev pub numbers_of : List Answered → List ℕ
numbers_of list = map (λ answered. answered.number) list

-- ---- workers

-- a worker: its seat, which it gives away while it works; its share of the ledger; the batches that it has answered; and how many
-- it has memory for
pub record Worker : Type 0 where
  pub seat : Option ClaimSeat
  pub parts : ℕ
  pub amount : ℕ
  pub answered : List Answered
  pub capacity : ℕ

-- a worker that has done nothing, with a seat of these claims
pub record IsIdle (claims : Claims) (worker : Worker) : Type 0 where
  pub seat : ClaimSeat
  pub seat_is : worker.seat ≡ Some seat
  pub new : IsNewSeatOf claims seat
  pub part : worker.parts ≡ 1
  pub amount : worker.amount ≡ 0
  pub none : worker.answered ≡ []
  pub capacity : claims.batches ≤ worker.capacity

-- a worker has answered the batches of these numbers, and its share counts their entries
pub record HasAnswered (clients : List Client) (arrivals : List Timed) (numbers : List ℕ) (worker : Worker) : Type 0 where
  pub numbers_are : numbers_of worker.answered ≡ numbers
  pub right : All (IsAnswered clients arrivals) worker.answered
  pub part : worker.parts ≡ 1
  pub counted : worker.amount ≡ entry_count worker.answered

-- a worker has answered one more batch
pub record Adds (clients : List Client) (arrivals : List Timed) (number : ℕ) (before after : Worker) : Type 0 where
  pub answered : Answered
  pub number_is : answered.number ≡ number
  pub right : IsAnswered clients arrivals answered
  pub last : after.answered ≡ before.answered ++ answered ∷ []
  pub amount : after.amount ≡ before.amount + length (taken answered.ticket)
  pub part : after.parts ≡ before.parts
  pub capacity : after.capacity ≡ before.capacity

-- a worker has answered all batches that it claimed, and was told that there are no more
pub record HasFinished (claims : Claims) (clients : List Client) (arrivals : List Timed) (worker : Worker) : Type 0 where
  pub seat : ClaimSeat
  pub seat_is : worker.seat ≡ Some seat
  pub finished : IsFinishedSeatOf claims seat
  pub answered : HasAnswered clients arrivals seat.claimed worker

-- ---- the lock

-- what lies under the lock of a round: the history, and the log of what each taking of the lock appended to it
pub record Shared : Type 0 where
  pub history : List Entry
  pub log : List (Taking Entry)

-- the history is what was appended to it
abbrev pub IsLogged : List Entry → List (Taking Entry) → Type 0
IsLogged history log = entries_of log ≡ history

-- ---- the end of a round

-- all batches of several lists, those of the last list first
abbrev pub all_of : List (List Answered) → List Answered
all_of [] = []
all_of (list ∷ rest) = all_of rest ++ list

-- the outcome of a lane is put at a place; a lane without one leaves it as it is
abbrev pub put_lane : Option Outcome → ℕ → List Outcome → List Outcome
put_lane None place outcomes = outcomes
put_lane (Some outcome) place outcomes = set outcomes place outcome

-- the outcomes of lanes are put at the places from this one on
abbrev pub put_lanes : List (Option Outcome) → ℕ → List Outcome → List Outcome
put_lanes [] place outcomes = outcomes
put_lanes (lane ∷ lanes) place outcomes = put_lanes lanes (place + 1) (put_lane lane place outcomes)

-- the outcomes of batches are put at the places of their arrivals, those of the last batch first
abbrev pub put_all : List Answered → List Outcome → List Outcome
put_all [] outcomes = outcomes
put_all (answered ∷ rest) outcomes = put_lanes answered.outcomes (answered.number * 8) (put_all rest outcomes)

-- what a batch appended, if it did, is in the log
abbrev pub IsInLog : List (Taking Entry) → Answered → Type 0
IsInLog log answered = IfSome answered.ticket (Has log)

-- what workers hand in: their seats, the shares of all in one, and the outcomes of the round; and how many seats there is memory
-- for
pub record HandedIn : Type 0 where
  pub seats : List ClaimSeat
  pub parts : ℕ
  pub amount : ℕ
  pub outcomes : List Outcome
  pub capacity : ℕ

-- So many workers have handed in: each its seat and a list of the batches that it had claimed. The batches are answered and logged,
-- the share counts their entries, and their outcomes are put among those before.
pub record HaveHandedIn (claims : Claims) (clients : List Client) (arrivals : List Timed) (log : List (Taking Entry))
    (before : List Outcome) (count : ℕ) (handed : HandedIn) : Type 0 where
  pub lists : List (List Answered)
  pub seat_each : length handed.seats ≡ count
  pub part_each : handed.parts ≡ count
  pub finished : All (IsFinishedSeatOf claims) handed.seats
  pub claimed : map (λ seat. seat.claimed) handed.seats ≡ map numbers_of lists
  pub right : All (IsAnswered clients arrivals) (all_of lists)
  pub counted : handed.amount ≡ entry_count (all_of lists)
  pub logged : All (IsInLog log) (all_of lists)
  pub put : handed.outcomes ≡ put_all (all_of lists) before

-- one more worker hands in
pub record TakesIn (claims : Claims) (clients : List Client) (arrivals : List Timed) (log : List (Taking Entry))
    (before after : HandedIn)
    : Type 0 where
  pub seat : ClaimSeat
  pub list : List Answered
  pub seats : after.seats ≡ before.seats ++ seat ∷ []
  pub part : after.parts ≡ before.parts + 1
  pub finished : IsFinishedSeatOf claims seat
  pub claimed : seat.claimed ≡ numbers_of list
  pub right : All (IsAnswered clients arrivals) list
  pub counted : after.amount ≡ before.amount + entry_count list
  pub logged : All (IsInLog log) list
  pub put : after.outcomes ≡ put_all list before.outcomes
  pub capacity : after.capacity ≡ before.capacity

-- ---- memory

-- memory for a round of these arrivals by so many workers
pub record IsMemoryFor (arrivals : List Timed) (workers : ℕ) (memory : Memory) : Type 0 where
  pub some : 1 ≤ workers
  pub parts : memory.blank.parts ≡ workers
  pub first : memory.first ≡ memory.log
  pub batches : memory.claims.batches ≡ batch_count arrivals
  pub seats : memory.claims.seats ≡ workers
  pub seat_each : vec_len memory.seats ≡ workers
  pub new : All (IsNewSeatOf memory.claims) memory.seats.items
  pub none_returned : memory.returned.items ≡ []
  pub returned_capacity : workers ≤ vec_capacity memory.returned
  pub no_history : (memory.history.items ≡ []) × (memory.marks.items ≡ [])
  pub outcome_each : length memory.outcomes.items ≡ length arrivals

-- Serving: turns, in each of which datagrams are received, answered in a round, and their replies sent.
--
-- A turn receives until no datagram waits or a round is full. A round may be lost: then the server is as it was, and the round is
-- counted. Between turns time may pass for the server, up to a moment that the ports told.
use Rattle.std.specs.Prelude.{◌≡◌, ◌⊎◌, ℕ, zero, suc, ◌+◌, ◌-◌, ◌*◌, ◌^◌, ◌==◌, ◌||◌, min, ◌≤◌, ◌<◌, Bool, true, false, List, []}
use Rattle.std.specs.Prelude.{◌∷◌, ◌++◌, drop, length, map, take, filter, Option, Result, Ok, Err, IfOk, IfSome, IsTrue, OnErr}
use Rattle.std.specs.Prelude.{OnOk, nat_lt, if◌then◌else◌}
use Rattle.std.specs.List.{list_any, sum_by}
use Rattle.rand_core.specs.Stream.{Stream, fill_bytes}
use Rattle.rad_auth.specs.Datagrams.{datagram_of}
use Rattle.rad_config.specs.Spans.{moment_max}
use Rattle.rad_packet.specs.Packets.{length_max}
use Rattle.rad_server.specs.Repeats.{Repeat}
use Rattle.rad_server.specs.Runs.{IsHistory, IsLawfulThroughout, IsMarkedHistory, LeadsTo, fresh_of, not_before}
use Rattle.rad_server.specs.Servers.{Server}
use Rattle.rad_server.specs.States.{when_passed}
use Rattle.rad_server.specs.declared.answer.Answer.{Answer}
use Rattle.rad_server.specs.declared.answer.Answer.TheVariants as answers
use Rattle.rad_server.specs.declared.entry.Entry.{Entry}
use Rattle.rad_round.specs.Rounds.{Round, arrivals_max}
use Rattle.rad_journal.specs.Journals.{added}
use Rattle.rad_journal.specs.Kept.{kept_of}
use Rattle.rad_journal.specs.Leads.{LeadKept}
use Rattle.rad_journal.specs.declared.kept.Kept.{Kept}
use Rattle.rad_round.specs.declared.outcome.Outcome.{Outcome}
use Rattle.rad_round.specs.declared.outcome.Outcome.TheVariants.{Dropped, Busy, NoMemory, Reply}
use Rattle.rad_round.specs.declared.timed.Timed.{Timed}
use Rattle.rad_shell.specs.Passages.{Came, Empty, Fault, HavePassed, In, Out, Passage, Went, came_by, clock_told}
use Rattle.rad_shell.specs.declared.ports.Got.{Got}
use Rattle.rad_shell.specs.declared.ports.PortFault.{PortFault}
use Rattle.rad_shell.specs.declared.serve_fault.ServeFault.{ServeFault}
use Rattle.rad_shell.specs.declared.serve_fault.ServeFault.TheVariants as faults
use Rattle.rad_shell.specs.declared.served.Served.{Served}

-- what a port received fits its buffer, and its moment isn't too late
pub record IsReceived (got : Got) : Type 0 where
  pub fits : got.len ≤ length_max
  pub moment : got.moment ≤ moment_max

-- ---- faults

abbrev pub serve_fault_number : ServeFault → ℕ
serve_fault_number faults.Receive = 1
serve_fault_number faults.Send = 2
serve_fault_number faults.Mismatch = 3
serve_fault_number (faults.Journal fault) = 4

-- the fault of a port is reported only if failures were counted: they were so many before, and so many after; that of a journal,
-- only if anything is kept; no other fault is reported
abbrev pub HasCause : Bool → ℕ → ℕ → ServeFault → Type 0
HasCause keeps before after faults.Receive = before < after
HasCause keeps before after faults.Send = before < after
HasCause keeps before after faults.Mismatch = ⊥
HasCause keeps before after (faults.Journal fault) = IsTrue keeps

-- how many faults of ports a call reported
abbrev pub port_faults : {A : Type 0} → Result A ServeFault → ℕ
port_faults (Ok done) = 0
port_faults (Err faults.Receive) = 1
port_faults (Err faults.Send) = 1
port_faults (Err faults.Mismatch) = 0
port_faults (Err (faults.Journal fault)) = 0

-- ---- draws

-- so many draws of a source of random octets: each is its next 16 octets
abbrev pub draws : ℕ → Stream → List (List ℕ)
draws zero random = []
draws (suc count) random = (fill_bytes 16 random).0 ∷ draws count (fill_bytes 16 random).1

-- what the source has left after so many draws
abbrev pub after_draws : ℕ → Stream → Stream
after_draws zero random = random
after_draws (suc count) random = after_draws count (fill_bytes 16 random).1

-- ---- datagrams and their replies

-- a datagram of a round, as it came
abbrev pub came_of : Timed → Came
came_of timed = record { datagram = datagram_of timed.arrival; moment = timed.moment }

-- the reply to a datagram, if its outcome is one: from the port that the datagram came to, to where it came from
abbrev pub reply_to : Came → Outcome → List Went
reply_to came (Dropped discard) = []
reply_to came Busy = []
reply_to came NoMemory = []
reply_to came (Reply frame) =
    record { door = came.datagram.door; address = came.datagram.source; port = came.datagram.port; octets = frame } ∷ []

-- the replies to datagrams, in their order
abbrev pub replies : List Came → List Outcome → List Went
replies [] outcomes = []
replies (came ∷ rest) [] = []
replies (came ∷ rest) (outcome ∷ outcomes) = reply_to came outcome ++ replies rest outcomes

-- ---- sums

-- the datagrams that have an outcome
abbrev pub outcome_count : Served → ℕ
outcome_count served = served.replies + served.drops + served.busy + served.nomemory

-- the sums of no turn
abbrev pub no_sums : Served
no_sums = record { rounds = 0; datagrams = 0; replies = 0; drops = 0; busy = 0; nomemory = 0; failed = 0 }

-- two numbers together, or the greatest number that fits
abbrev pub capped_sum : ℕ → ℕ → ℕ
capped_sum first second = min (first + second) (2 ^ 64 - 1)

-- what turns came to, and others after them
abbrev pub with_sums : Served → Served → Served
with_sums served more = record {
  rounds = capped_sum served.rounds more.rounds;
  datagrams = capped_sum served.datagrams more.datagrams;
  replies = capped_sum served.replies more.replies;
  drops = capped_sum served.drops more.drops;
  busy = capped_sum served.busy more.busy;
  nomemory = capped_sum served.nomemory more.nomemory;
  failed = capped_sum served.failed more.failed;
}

-- whether an answer is a reply
abbrev pub is_reply : Answer → Bool
is_reply (answers.Send body) = true
is_reply answers.Busy = false

-- the entries whose answer is a reply
abbrev pub reply_count : List Entry → ℕ
reply_count history = length (filter (λ entry. is_reply entry.answer) history)

-- The sums of so many turns, of which so many are lost, that made these exchanges: there are as many replies as entries whose
-- answer is one, and as many busy ones as other entries; and if no round was lost, there are as many datagrams as outcomes.
pub record AreSums (turns lost : ℕ) (history : List Entry) (served : Served) : Type 0 where
  pub rounds : served.rounds ≡ turns
  pub failed : served.failed ≡ lost
  pub replies : served.replies ≡ reply_count history
  pub exchanged : served.replies + served.busy ≡ length history
  pub datagrams : served.failed ≡ 0 → served.datagrams ≡ outcome_count served

-- ---- turns

-- What turns came to: their exchanges; how many rounds were lost; what was kept of the exchanges; and what was to be kept of the
-- last round and perhaps isn't, since the journal failed.
pub record Tally : Type 0 where
  pub history : List Entry
  pub lost : ℕ
  pub kept : List Kept
  pub unkept : List Kept

-- no turn, and a turn whose round is lost
abbrev pub nothing_done : Tally
nothing_done = record { history = []; lost = 0; kept = []; unkept = [] }

abbrev pub round_lost : Tally
round_lost = record nothing_done { lost = 1 }

-- turns, and one more before whose round time may have passed
abbrev pub with_turn : Option ℕ → Tally → Tally → Tally
with_turn passed tally more = record {
  history = tally.history ++ not_before passed more.history;
  lost = tally.lost + more.lost;
  kept = tally.kept ++ more.kept;
  unkept = more.unkept;
}

-- how things stand: the server, the random octets to come, and what the ports tell of what has passed
pub record Situation : Type 0 where
  pub server : Server
  pub random : Stream
  pub passed : Option (List Passage)

-- after fewer datagrams than a turn takes, none waited
abbrev pub emptied : List Came → List Passage
emptied came = if nat_lt (length came) arrivals_max then Empty ∷ [] else []

-- after replies of which some are left, a fault was reported
abbrev pub stopped : List Went → List Passage
stopped [] = []
stopped (next ∷ rest) = Fault ∷ []

-- what passes the ports in a turn: first what comes, then what goes, of which some may be left
abbrev pub passages : List Came → List Went → List Went → List Passage
passages came went left = (map In came ++ emptied came) ++ (map Out went ++ stopped left)

-- A round of just the datagrams that came, with their moments, and with the next draws. What is to be kept of it, if anything is
-- kept at all, is its fresh entries, each at the moment at which it counted, at one wall time.
pub record IsAnswered (keeps : Bool) (before : Situation) (came : List Came) (outcomes : List Outcome) (history : List Entry)
    (kept : List Kept)
    (after : Situation) : Type 0 where
  pub arrivals : List Timed
  pub marks : List Bool
  pub wall : ℕ
  pub arrived : map came_of arrivals ≡ came
  pub drawn : map (λ timed. timed.draw) arrivals ≡ draws (length came) before.random
  pub random : after.random ≡ after_draws (length came) before.random
  pub round : Round before.server arrivals outcomes history after.server
  pub marked : IsMarkedHistory before.server history marks after.server
  pub fresh : kept ≡ added keeps (kept_of wall (fresh_of before.server.state.clock history marks))

-- a turn whose round is made and kept: just the replies to what came went, in their order, but for the last ones that are left
pub record IsMade (keeps : Bool) (before : Situation) (history : List Entry) (kept : List Kept) (left : List Went)
    (after : Situation) : Type 0 where
  pub came : List Came
  pub went : List Went
  pub outcomes : List Outcome
  pub answered : IsAnswered keeps before came outcomes history kept after
  pub passed : HavePassed (passages came went left) before.passed after.passed
  pub replied : went ++ left ≡ replies came outcomes

-- a turn whose round is made, but perhaps not kept, since the journal failed: nothing went
pub record IsUnkept (keeps : Bool) (before : Situation) (history : List Entry) (unkept : List Kept) (after : Situation) : Type
    0 where
  pub came : List Came
  pub outcomes : List Outcome
  pub answered : IsAnswered keeps before came outcomes history unkept after
  pub passed : HavePassed (passages came [] []) before.passed after.passed
  pub fails : IsTrue keeps

-- a turn whose round is lost: what came is lost with its draws, nothing went, and the server is as it was
pub record IsLost (before : Situation) (after : Situation) : Type 0 where
  pub came : List Came
  pub passed : HavePassed (passages came [] []) before.passed after.passed
  pub random : after.random ≡ after_draws (length came) before.random
  pub server : after.server ≡ before.server

-- a turn that has no memory for datagrams: none is received, and all is as it was
pub record IsWithoutMemory (before : Situation) (after : Situation) : Type 0 where
  pub passed : HavePassed [] before.passed after.passed
  pub random : after.random ≡ before.random
  pub server : after.server ≡ before.server

-- a turn in which a port failed before the round: what came is lost, nothing went, and all else is as it was
pub record IsCutShort (before : Situation) (after : Situation) : Type 0 where
  pub came : List Came
  pub passed : HavePassed (map In came ++ Fault ∷ []) before.passed after.passed
  pub random : after.random ≡ before.random
  pub server : after.server ≡ before.server

-- A turn, by how it ends: all replies of its round went, or it is lost; or a port failed before the round, or while replies were
-- sent, so that some are left; or the journal failed before any was sent.
abbrev pub IsTurn : Bool → Situation → Tally → Result (Unit {0}) ServeFault → Situation → Type 0
IsTurn keeps before tally (Ok done) after =
    (IsMade keeps before tally.history tally.kept [] after × (tally.lost ≡ 0) × (tally.unkept ≡ []))
    ⊎ ((IsLost before after ⊎ IsWithoutMemory before after) × (tally ≡ round_lost))
IsTurn keeps before tally (Err faults.Receive) after = IsCutShort before after × (tally ≡ nothing_done)
IsTurn keeps before tally (Err faults.Send) after =
    (next : Went) × (rest : List Went) × IsMade keeps before tally.history tally.kept (next ∷ rest) after × (tally.lost ≡ 0)
    × (tally.unkept ≡ [])
IsTurn keeps before tally (Err faults.Mismatch) after = ⊥
IsTurn keeps before tally (Err (faults.Journal fault)) after =
    IsUnkept keeps before tally.history tally.unkept after × (tally.lost ≡ 0) × (tally.kept ≡ [])

-- between turns: perhaps the ports told a moment, and time passed for the server up to it
pub record IsBetween (before : Server) (passed : Option (List Passage)) (after : Server) (passed_after : Option (List Passage))
    : Type 0 where
  pub moment : Option ℕ
  pub told : HavePassed (clock_told moment) passed passed_after
  pub within : IfSome moment (λ moment. moment ≤ moment_max)
  pub configuration : after.configuration ≡ before.configuration
  pub state : after.state ≡ when_passed moment before.state

-- So many turns one after another, up to the first fault, and what they came to. Where time has passed since the last exchange, the
-- next one doesn't come before then.
pub data AreTurns (keeps : Bool) (before : Situation) : ℕ → Tally → Result (Unit {0}) ServeFault → Situation → Type 0 where
  no_turn : AreTurns keeps before 0 nothing_done (Ok tt) before
  one_more : {turns : ℕ} {tally : Tally} {middle : Situation} (more : Tally)
      {result : Result (Unit {0}) ServeFault} {after : Situation} (leads : LeadsTo before.server tally.history middle.server)
      → AreTurns keeps before turns tally (Ok tt) middle → IsTurn keeps middle more result after
      → AreTurns keeps before (turns + 1) (with_turn leads.passed tally more) result after
  between : {turns : ℕ} {tally : Tally} {middle : Situation} (server : Server) (passed : Option (List Passage))
      → AreTurns keeps before turns tally (Ok tt) middle → IsBetween middle.server middle.passed server passed
      → AreTurns keeps before turns tally (Ok tt) (record { server = server; random = middle.random; passed = passed })

-- how turns ended
abbrev pub ended : {A : Type 0} → Result A ServeFault → Result (Unit {0}) ServeFault
ended (Ok served) = Ok tt
ended (Err fault) = Err fault

-- what is kept leads from one server to one that is like another from now on, by way of the one before the last round, if that is
-- unkept
pub record LeadsByKept (before : Server) (tally : Tally) (after : Server) : Type 0 where
  pub middle : Server
  pub kept : LeadKept before tally.kept middle
  pub unkept : LeadKept middle tally.unkept after

-- What so many turns make, or fewer up to a fault: their exchanges lead from the server before to the one after, but for time that
-- may have passed since; each repeat is answered again, and every state on the way is lawful. If anything is kept, that is enough
-- to come to a server that no later step can tell from the one after. If no fault ended the turns, their sums count these exchanges
-- and the lost turns.
pub record IsServed (keeps : Bool) (turns : ℕ) (before : Situation) (result : Result Served ServeFault) (after : Situation) : Type
    0 where
  pub made : ℕ
  pub tally : Tally
  pub turned : AreTurns keeps before made tally (ended result) after
  pub most : made ≤ turns
  pub all : OnOk result (made ≡ turns)
  pub run : LeadsTo before.server tally.history after.server
  pub repeat : Repeat before.server.configuration before.server.state tally.history
  pub lawful : IsLawfulThroughout before.server.configuration before.server.state tally.history
  pub enough : IsTrue keeps → LeadsByKept before.server tally after.server
  pub settled : OnOk result (tally.unkept ≡ [])
  pub sums : IfOk result (AreSums turns tally.lost tally.history)

-- ---- what a crash leaves

-- this holds unless the journal failed
abbrev pub UnlessJournal : {A : Type 0} → Result A ServeFault → Type 0 → Type 0
UnlessJournal (Ok done) P = P
UnlessJournal (Err faults.Receive) P = P
UnlessJournal (Err faults.Send) P = P
UnlessJournal (Err faults.Mismatch) P = P
UnlessJournal (Err (faults.Journal fault)) P = Unit {0}

-- Turns came to this: each crash from now on leaves what was kept before and what they kept, and perhaps what the last one didn't
-- keep, since the journal failed. If it didn't, the journal has just the first.
pub record Outlives {A : Type 0} (kept : List Kept) (tally : Tally) (result : Result A ServeFault) (kept_now : List Kept)
    (may_leave : List Kept → Type 0) : Type 0 where
  pub now : UnlessJournal result (kept_now ≡ kept ++ tally.kept)
  pub left : (left : List Kept) → may_leave left → (left ≡ kept ++ tally.kept) ⊎ (left ≡ kept ++ (tally.kept ++ tally.unkept))

-- ---- one turn (private)

-- the octets of datagrams
abbrev pub octet_count : List Got → ℕ
octet_count got = sum_by (λ one. one.len) got

-- whether an outcome is that of an exchange
abbrev pub is_exchanged : Outcome → Bool
is_exchanged (Dropped discard) = false
is_exchanged Busy = true
is_exchanged NoMemory = false
is_exchanged (Reply frame) = true

-- the outcomes of exchanges
abbrev pub exchange_count : List Outcome → ℕ
exchange_count outcomes = length (filter is_exchanged outcomes)

-- whether an outcome is a reply
abbrev pub is_replied : Outcome → Bool
is_replied (Dropped discard) = false
is_replied Busy = false
is_replied NoMemory = false
is_replied (Reply frame) = true

-- whether an outcome is that of refused memory
abbrev pub is_refused : Outcome → Bool
is_refused (Dropped discard) = false
is_refused Busy = false
is_refused NoMemory = true
is_refused (Reply frame) = false

-- whether time is to pass after a turn with these outcomes: no datagram came, or memory was refused for one
abbrev pub wants_time : List Outcome → Bool
wants_time outcomes = (length outcomes == 0) || list_any is_refused outcomes

-- the outcomes that are replies
abbrev pub replied_count : List Outcome → ℕ
replied_count outcomes = length (filter is_replied outcomes)

-- the most turns of one call
abbrev pub turns_max : ℕ
turns_max = 2 ^ 32

-- sums so far: they are those of at most so many turns, and no datagram has two outcomes
pub record AddUp (served : Served) : Type 0 where
  pub rounds : served.rounds ≤ turns_max
  pub most : served.datagrams ≤ arrivals_max * served.rounds
  pub once : outcome_count served ≤ served.datagrams
  pub lost : served.failed ≤ served.rounds
  pub each : served.failed ≡ 0 → served.datagrams ≡ outcome_count served

-- the sums of one turn more, with so many exchanges, replies and lost rounds more
pub record AddTurn (exchanges replies lost : ℕ) (before after : Served) : Type 0 where
  pub add_up : AddUp after
  pub rounds : after.rounds ≡ before.rounds + 1
  pub replied : after.replies ≡ before.replies + replies
  pub exchanged : after.replies + after.busy ≡ before.replies + before.busy + exchanges
  pub failed : after.failed ≡ before.failed + lost

-- the datagrams that came, whose octets are one after those of another
abbrev pub came_in : List Got → List ℕ → List Came
came_in [] octets = []
came_in (got ∷ rest) octets = came_by got (take got.len octets) ∷ came_in rest (drop got.len octets)

-- what passed when datagrams were received
abbrev pub received_all : Result (Unit {0}) PortFault → List Came → List Passage
received_all (Ok done) came = map In came ++ emptied came
received_all (Err fault) came = map In came ++ Fault ∷ []

-- these datagrams have come in a turn, and these draws were taken for them
pub record HasDrawn (before : Situation) (came : List Came) (drawn : List (List ℕ)) (random : Stream)
    (passed : Option (List Passage))
    : Type 0 where
  pub passed_is : HavePassed (map In came ++ emptied came) before.passed passed
  pub drawn_are : drawn ≡ draws (length came) before.random
  pub random_is : random ≡ after_draws (length came) before.random

-- all of these replies went, or the first ones, and then a fault was reported
pub record AreSent (all : List Went) (result : Result (Unit {0}) PortFault) (before after : Option (List Passage)) : Type 0 where
  pub went : List Went
  pub left : List Went
  pub passed : HavePassed (map Out went ++ stopped left) before after
  pub replied : went ++ left ≡ all
  pub none_left : OnOk result (left ≡ [])
  pub some_left : OnErr result (left ≡ [] → ⊥)

-- these replies went, but for those to these datagrams
pub record AreSentBefore (all : List Went) (got : List Got) (outcomes : List Outcome) (before now : Option (List Passage)) : Type
    0 where
  pub went : List Went
  pub octets : List ℕ
  pub passed : HavePassed (map Out went) before now
  pub replied : went ++ replies (came_in got octets) outcomes ≡ all

-- a round of these datagrams with these draws was made: there is one exchange for each outcome of an exchange, and as many are
-- answered by a reply as there are replies; what is kept of it is enough
pub record IsRoundMade (before : Server) (came : List Came) (drawn : List (List ℕ)) (outcomes : List Outcome) (history : List Entry)
    (marks : List Bool) (after : Server) : Type 0 where
  pub arrivals : List Timed
  pub arrived : map came_of arrivals ≡ came
  pub drawn_are : map (λ timed. timed.draw) arrivals ≡ drawn
  pub round : Round before arrivals outcomes history after
  pub marked : IsMarkedHistory before history marks after
  pub enough : (wall : ℕ) → LeadKept before (kept_of wall (fresh_of before.state.clock history marks)) after
  pub exchanged : length history ≡ exchange_count outcomes
  pub replied : reply_count history ≡ replied_count outcomes
  pub few : length outcomes ≤ arrivals_max

-- a turn, whose exchanges are counted if there is no fault
pub record IsCounted {A : Type 0} (keeps : Bool) (before : Situation) (served : Served) (result : Result A ServeFault)
    (after : Situation)
    (served_after : Served) : Type 0 where
  pub tally : Tally
  pub turn : IsTurn keeps before tally (ended result) after
  pub run : IsHistory before.server tally.history after.server
  pub enough : IsTrue keeps → LeadsByKept before.server tally after.server
  pub settled : OnOk result (tally.unkept ≡ [])
  pub sums : OnOk result (AddTurn (length tally.history) (reply_count tally.history) tally.lost served served_after)

-- what a turn did to a journal: it added what it kept, or failed and may have added what is unkept
pub record AddsTurn {A : Type 0} (kept : List Kept) (tally : Tally) (result : Result A ServeFault) (kept_now : List Kept)
    (left_before left_now : List Kept → Type 0) : Type 0 where
  pub now : UnlessJournal result (kept_now ≡ kept ++ tally.kept)
  pub left : (left : List Kept) → left_now left → left_before left ⊎ (left ≡ kept ++ (tally.kept ++ tally.unkept))

-- turns without a fault, which the sums count
pub record AreTurnsSoFar (keeps : Bool) (before : Situation) (served : Served) (after : Situation) : Type 0 where
  pub tally : Tally
  pub turned : AreTurns keeps before served.rounds tally (Ok tt) after
  pub run : LeadsTo before.server tally.history after.server
  pub enough : IsTrue keeps → LeadKept before.server tally.kept after.server
  pub settled : tally.unkept ≡ []
  pub failed : served.failed ≡ tally.lost
  pub replied : served.replies ≡ reply_count tally.history
  pub exchanged : served.replies + served.busy ≡ length tally.history

-- Recordings: what a recording has of a turn, as lines of a transcript, and what a replay makes of it.
use Rattle.std.specs.Prelude.{◌≡◌, ℕ, ◌+◌, Bool, true, false, List, [], ◌∷◌, ◌++◌, filter, slice_get, option_to_list, Option, Some}
use Rattle.std.specs.Prelude.{None}
use Rattle.std.specs.List.{flat_map}
use Rattle.rad_round.specs.Rounds.{Round}
use Rattle.rad_round.specs.declared.outcome.Outcome.{Outcome}
use Rattle.rad_round.specs.declared.outcome.Outcome.TheVariants.{Busy, Dropped, NoMemory, Reply}
use Rattle.rad_round.specs.declared.timed.Timed.{Timed}
use Rattle.rad_server.specs.Servers.{Server}
use Rattle.rad_server.specs.declared.answer.Answer.{Answer}
use Rattle.rad_server.specs.declared.answer.Answer.TheVariants as answers
use Rattle.rad_server.specs.declared.entry.Entry.{Entry}
use Rattle.rad_replay.specs.DatagramLines.{TimedDatagram}
use Rattle.rad_replay.specs.DatagramTexts.{datagram_text, draw_needed}
use Rattle.rad_replay.specs.Replays.{datagram_arrived}
use Rattle.rad_replay.specs.Transcripts.{busy_line, drop_line, nomemory_line, replay, reply_line}
use Rattle.rad_text.specs.Lines.{line_feed}

-- the line of a datagram, with its moment, and with its draw if it has one
abbrev pub recorded_line : TimedDatagram → List ℕ
recorded_line timed = datagram_text timed ++ line_feed ∷ []

-- a datagram that came, with this draw or none
abbrev pub datagram_with : Option (List ℕ) → Timed → TimedDatagram
datagram_with draw timed = datagram_arrived timed.moment draw timed.arrival

-- the draw that the line of an entry needs
abbrev pub draw_of_answer : Answer → List ℕ → Option (List ℕ)
draw_of_answer (answers.Send body) draw = draw_needed body.code draw
draw_of_answer answers.Busy draw = None

abbrev pub draw_recorded : Entry → Option (List ℕ)
draw_recorded entry = draw_of_answer entry.answer entry.draw

-- the datagram of an entry: the one whose number is its tag
abbrev pub if_found : Entry → Option Timed → List TimedDatagram
if_found entry None = []
if_found entry (Some timed) = datagram_with (draw_recorded entry) timed ∷ []

abbrev pub datagrams_of_entry : List Timed → Entry → List TimedDatagram
datagrams_of_entry arrivals entry = if_found entry (slice_get arrivals entry.tag)

-- a datagram that was discarded
abbrev pub if_discarded : Timed → Outcome → List TimedDatagram
if_discarded timed (Dropped discard) = datagram_with None timed ∷ []
if_discarded timed Busy = []
if_discarded timed NoMemory = []
if_discarded timed (Reply frame) = []

abbrev pub discarded : List Timed → List Outcome → List TimedDatagram
discarded [] outcomes = []
discarded (timed ∷ arrivals) [] = []
discarded (timed ∷ arrivals) (outcome ∷ outcomes) = if_discarded timed outcome ++ discarded arrivals outcomes

-- A turn's datagrams in an order in which one thread answers them as the turn did: those of its history, and then those that it
-- discarded. Those that were refused memory are left out, as they changed nothing.
abbrev pub recorded_datagrams : List Timed → List Outcome → List Entry → List TimedDatagram
recorded_datagrams arrivals outcomes history = flat_map (datagrams_of_entry arrivals) history ++ discarded arrivals outcomes

abbrev pub recorded : List Timed → List Outcome → List Entry → List ℕ
recorded arrivals outcomes history = flat_map recorded_line (recorded_datagrams arrivals outcomes history)

-- ---- what a replay makes of it

-- the line of an outcome, whose datagram has this number in a replay
abbrev pub line_of_outcome : ℕ → Outcome → List ℕ
line_of_outcome number (Dropped discard) = drop_line number discard
line_of_outcome number Busy = busy_line number
line_of_outcome number NoMemory = nomemory_line number
line_of_outcome number (Reply frame) = reply_line number frame

-- the lines of outcomes, of which the first has this number
abbrev pub lines_from : ℕ → List Outcome → List ℕ
lines_from number [] = []
lines_from number (outcome ∷ outcomes) = line_of_outcome number outcome ++ lines_from (number + 1) outcomes

abbrev pub is_discard : Outcome → Bool
is_discard (Dropped discard) = true
is_discard Busy = false
is_discard NoMemory = false
is_discard (Reply frame) = false

-- a turn's outcomes in the order of its recorded datagrams
abbrev pub recorded_outcomes : List Outcome → List Entry → List Outcome
recorded_outcomes outcomes history =
    flat_map (λ entry. option_to_list (slice_get outcomes entry.tag)) history ++ filter is_discard outcomes

-- From the server before a round, a replay of what is recorded of it leads to the server after it, and its lines are those of the
-- outcomes.
abbrev pub RecordingsAreReplayed : Type 0
RecordingsAreReplayed =
    (before : Server) (arrivals : List Timed) (outcomes : List Outcome) (history : List Entry) (after : Server) (number : ℕ)
    → Round before arrivals outcomes history after
    → replay before.configuration [] number before.state (recorded_datagrams arrivals outcomes history)
    ≡ (lines_from number (recorded_outcomes outcomes history), after.state)

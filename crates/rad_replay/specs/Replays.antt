-- What the parts of a replay say: one line, and the answering of all datagram lines.
use Rattle.std.specs.Prelude.{◌≡◌, ℕ, Bool, List, [], ◌∷◌, Option, Some, None, Result, Ok, Err}
use Rattle.rad_config.specs.Configurations.{Configuration}
use Rattle.rad_auth.specs.Datagrams.{datagram_of}
use Rattle.rad_auth.specs.declared.arrival.Arrival.{Arrival}
use Rattle.rad_auth.specs.declared.arrival.Request.{Request}
use Rattle.rad_replay.specs.declared.run_fault.RunFault.{RunFault}
use Rattle.rad_replay.specs.declared.run_fault.RunFault.TheVariants as run
use Rattle.rad_replay.specs.DatagramLines.{TimedDatagram}
use Rattle.rad_server.specs.States.{State}
use Rattle.rad_replay.specs.Transcripts.{AnswersLines, BreaksOffLines, answer_line, line_of, line_of_verdict, nomemory_line}
use Rattle.rad_server.specs.declared.answer.Answer.{Answer}

-- What a replay keeps from line to line: its configuration, the server's state, and the line of the last datagram.
pub record Replay : Type 0 where
  pub configuration : Configuration
  pub state : State
  pub line : List ℕ

-- these octets are first
abbrev pub IsFirstOf : List (List ℕ) → List ℕ → Type 0
IsFirstOf frames octets = (others : List (List ℕ)) × (frames ≡ octets ∷ others)

-- the line of a request, by what its step returned
abbrev pub line_of_result : {E : Type 0} → Configuration → ℕ → Request → Result Answer E → List ℕ
line_of_result configuration number request (Ok answer) = answer_line configuration number request answer
line_of_result configuration number request (Err refused) = nomemory_line number

-- the new line is that of the request with this number, and the new state the one after it; with memory or without
abbrev pub IsLineOfRequest : ℕ → ℕ → Option (List ℕ) → Request → Replay → Replay → Type 0
IsLineOfRequest number moment draw request old new =
    (has_memory : Bool) × (line_of_verdict old.configuration has_memory number old.state moment draw (Ok request)
    ≡ (new.line, new.state))

-- the same of the datagram with this number
abbrev pub IsLineOf : ℕ → TimedDatagram → Replay → Replay → Type 0
IsLineOf number timed old new =
    (has_memory : Bool) × (line_of old.configuration has_memory number old.state timed ≡ (new.line, new.state))

-- an arrival, its moment, and the draw of its line if it has one
abbrev pub datagram_arrived : ℕ → Option (List ℕ) → Arrival → TimedDatagram
datagram_arrived moment draw arrival = record { moment = moment; datagram = datagram_of arrival; draw = draw }

-- what the answering of datagram lines may end with
abbrev pub EndsLines : Configuration → List (List ℕ) → (List ℕ → Type 0) → Result Unit RunFault → Type 0
EndsLines configuration lines Writes (Ok done) = AnswersLines configuration lines Writes None
EndsLines configuration lines Writes (Err (run.BadLine number)) = AnswersLines configuration lines Writes (Some number)
EndsLines configuration lines Writes (Err run.Write) = BreaksOffLines configuration lines Writes
EndsLines configuration lines Writes (Err run.NoMemory) = Writes []
EndsLines configuration lines Writes (Err run.Read) = ⊥
EndsLines configuration lines Writes (Err run.TooLong) = ⊥
EndsLines configuration lines Writes (Err run.NoDivider) = ⊥
EndsLines configuration lines Writes (Err (run.Config reported)) = ⊥

-- the faults that reading may end with
abbrev pub IsReadFault : RunFault → Type 0
IsReadFault run.Read = Unit {0}
IsReadFault run.TooLong = Unit {0}
IsReadFault run.NoMemory = Unit {0}
IsReadFault run.NoDivider = ⊥
IsReadFault (run.Config reported) = ⊥
IsReadFault (run.BadLine number) = ⊥
IsReadFault run.Write = ⊥

-- What a replay writes for the transcript that it reads: a line for each datagram, in order. A text is a list of octets,
-- which are numbers below 256, and datagrams are numbered from 1.
use Rattle.std.specs.Prelude.{◌≡◌, ◌⊎◌, ℕ, ◌+◌, ◌<◌, ◌≤◌, ◌==◌, Bool, true, false, not, List, [], ◌∷◌, ◌++◌, length, take}
use Rattle.std.specs.Prelude.{replicate, codes, decimal, Option, Some, None, IfSome, unwrap_or, Result, Ok, Err}
use Rattle.std.specs.List.{list_any}
use Rattle.std.specs.Int.{w64, to_be_bytes}
use Rattle.hex.specs.Hex.{encode_lower}
use Rattle.rad_auth.specs.Admission.{admission}
use Rattle.rad_packet.specs.Bodies.{Body}
use Rattle.rad_auth.specs.Clients.{Client, secret_at}
use Rattle.rad_auth.specs.Discards.{discard_number, discard_name}
use Rattle.rad_auth.specs.Sealing.{reply_octets}
use Rattle.rad_auth.specs.declared.arrival.Request.{Request}
use Rattle.rad_auth.specs.declared.discard.Discard.{Discard}
use Rattle.rad_config.specs.Configurations.{Configuration, configuration_of_octets}
use Rattle.rad_config.specs.Inputs.{text_max}
use Rattle.rad_config_fault.specs.declared.config_fault.ConfigFault.TheVariants as fault
use Rattle.rad_replay.specs.declared.run_fault.RunFault.{RunFault}
use Rattle.rad_replay.specs.declared.run_fault.RunFault.TheVariants as run
use Rattle.rad_replay.specs.DatagramLines.{TimedDatagram, datagram_of_line}
use Rattle.rad_text.specs.Lines.{line_feed, lines_of, divided, text_of, datagram_lines}
use Rattle.rad_server.specs.States.{State, opening}
use Rattle.rad_server.specs.Steps.{step}
use Rattle.rad_server.specs.declared.answer.Answer.{Answer}
use Rattle.rad_server.specs.declared.answer.Answer.TheVariants.{Send, Busy}

-- ---- the line for one datagram

-- the datagram's number, a space, these words and a line feed
abbrev pub line : ℕ → List ℕ → List ℕ
line number words = decimal number ++ 32 ∷ [] ++ words ++ line_feed ∷ []

abbrev pub drop_line : ℕ → Discard → List ℕ
drop_line number discard = line number (codes "drop " ++ decimal (discard_number discard) ++ 32 ∷ [] ++ discard_name discard)

abbrev pub reply_line : ℕ → List ℕ → List ℕ
reply_line number octets = line number (codes "reply " ++ encode_lower octets)

abbrev pub busy_line : ℕ → List ℕ
busy_line number = line number (codes "busy")

abbrev pub nomemory_line : ℕ → List ℕ
nomemory_line number = line number (codes "nomemory")

-- the draw of a datagram: that of its line if it has one, or else its number in 16 octets, most significant octet first
abbrev pub draw_of : ℕ → Option (List ℕ) → List ℕ
draw_of number draw = unwrap_or draw (replicate 8 0 ++ to_be_bytes w64 number)

-- the octets of a reply to a request, sealed under its client's secret
abbrev pub sealed_reply : List Client → Request → Body → List ℕ
sealed_reply clients request body =
    reply_octets body request.packet.identifier request.packet.authenticator (secret_at clients request.client)

-- the line of an answer
abbrev pub answer_line : Configuration → ℕ → Request → Answer → List ℕ
answer_line configuration number request (Send body) = reply_line number (sealed_reply configuration.clients request body)
answer_line configuration number request Busy = busy_line number

-- the line of a request that the step answers, and the state after it
abbrev pub answered : Configuration → ℕ → Request → Answer × State → List ℕ × State
answered configuration number request (answer, state) = (answer_line configuration number request answer, state)

-- the line of a request that was admitted, or of a discard, and the state after it; if memory is refused no step is made
abbrev pub line_of_verdict : Configuration → Bool → ℕ → State → ℕ → Option (List ℕ) → Result Request Discard → List ℕ × State
line_of_verdict configuration has_memory number state moment draw (Err discard) = (drop_line number discard, state)
line_of_verdict configuration true number state moment draw (Ok request) =
    answered configuration number request (step configuration state request moment (draw_of number draw))
line_of_verdict configuration false number state moment draw (Ok request) = (nomemory_line number, state)

-- the line for a datagram, and the state after it
abbrev pub line_of : Configuration → Bool → ℕ → State → TimedDatagram → List ℕ × State
line_of configuration has_memory number state timed =
    line_of_verdict configuration has_memory number state timed.moment timed.draw (admission configuration.clients timed.datagram)

-- ---- the lines for a list of datagrams

abbrev pub is_among : ℕ → List ℕ → Bool
is_among number numbers = list_any (λ n. n == number) numbers

-- The lines for datagrams, of which the first has this number, and the state after them. Memory is refused to
-- the datagrams with these numbers.
unfoldable pub replay : Configuration → List ℕ → ℕ → State → List TimedDatagram → List ℕ × State
replay configuration without_memory number state [] = ([], state)
replay configuration without_memory number state (timed ∷ others) =
    let first = line_of configuration (not (is_among number without_memory)) number state timed in
    let rest = replay configuration without_memory (number + 1) first.1 others in
    (first.0 ++ rest.0, rest.1)

-- what is written for datagrams, from the opening state
abbrev pub written : Configuration → List ℕ → List TimedDatagram → List ℕ
written configuration without_memory datagrams = (replay configuration without_memory 1 (opening configuration) datagrams).0

-- ---- a whole run

-- a datagram and those after it; none of them if its line is malformed
abbrev pub until_malformed : Option TimedDatagram → List TimedDatagram → List TimedDatagram
until_malformed None others = []
until_malformed (Some timed) others = timed ∷ others

-- the datagrams of the lines before the first malformed one
abbrev pub datagrams_of : List (List ℕ) → List TimedDatagram
datagrams_of [] = []
datagrams_of (text ∷ lines) = until_malformed (datagram_of_line text) (datagrams_of lines)

-- a line's number if it is malformed, and otherwise the later one
abbrev pub number_if_malformed : ℕ → Option TimedDatagram → Option ℕ → Option ℕ
number_if_malformed number None later = Some number
number_if_malformed number (Some timed) later = later

-- the number of the first malformed line, where the first line has this number
abbrev pub first_malformed : ℕ → List (List ℕ) → Option ℕ
first_malformed number [] = None
first_malformed number (text ∷ lines) = number_if_malformed number (datagram_of_line text) (first_malformed (number + 1) lines)

-- a reader whose octets are known has given all of them
abbrev pub IsAllRead : Option (List ℕ) → Option (List ℕ) → Type 0
IsAllRead old new = IfSome old (λ text. new ≡ Some [])

-- the ends that are reported only once all was read
abbrev pub IsAfterReading : Result Unit RunFault → Type 0
IsAfterReading (Ok done) = Unit {0}
IsAfterReading (Err run.Read) = ⊥
IsAfterReading (Err run.TooLong) = ⊥
IsAfterReading (Err run.NoMemory) = ⊥
IsAfterReading (Err run.NoDivider) = Unit {0}
IsAfterReading (Err (run.Config reported)) = Unit {0}
IsAfterReading (Err (run.BadLine number)) = Unit {0}
IsAfterReading (Err run.Write) = Unit {0}

-- The input is the text of this configuration, a divider, and these datagram lines.
pub record IsInput (text : List ℕ) (configuration : Configuration) (lines : List (List ℕ)) : Type 0 where
  pub short : length text ≤ text_max
  pub parts : (before : List (List ℕ)) × (after : List (List ℕ)) × (divided (lines_of text) ≡ Some (before, after))
      × (configuration_of_octets (text_of before) ≡ Ok configuration) × (lines ≡ datagram_lines after)

-- The datagrams of the lines before the first malformed one, if there is one, have each got their line, and nothing else was
-- written. The number of the malformed line is reported.
abbrev pub AnswersLines : Configuration → List (List ℕ) → (List ℕ → Type 0) → Option ℕ → Type 0
AnswersLines configuration lines Writes malformed =
    (without_memory : List ℕ) × (first_malformed 1 lines ≡ malformed)
    × Writes (written configuration without_memory (datagrams_of lines))

-- The writing of this text broke off: a front of it was written, and at least one octet wasn't.
abbrev pub BreaksOff : (List ℕ → Type 0) → List ℕ → Type 0
BreaksOff Writes text = (front : List ℕ) × (rest : List ℕ) × (text ≡ front ++ rest) × (0 < length rest) × Writes front

-- It broke off in the lines of some first datagrams of those before the first malformed line.
abbrev pub BreaksOffLines : Configuration → List (List ℕ) → (List ℕ → Type 0) → Type 0
BreaksOffLines configuration lines Writes =
    (without_memory : List ℕ) × (count : ℕ)
    × BreaksOff Writes (written configuration without_memory (take count (datagrams_of lines)))

-- a fact about the configuration and the datagram lines of an input
abbrev pub OfInput : List ℕ → (Configuration → List (List ℕ) → Type 0) → Type 0
OfInput text Holds =
    (configuration : Configuration) × (lines : List (List ℕ)) × IsInput text configuration lines × Holds configuration lines

-- What a run ends with, for an input and what was written. TooLong, NoDivider and Config are reported in this order, and they,
-- Read and NoMemory before any line is answered. Before a Write fault the lines of some first datagrams went out, but for an
-- end of their text.
abbrev pub EndsRun : List ℕ → (List ℕ → Type 0) → Result Unit RunFault → Type 0
EndsRun text Writes (Ok done) = OfInput text (λ configuration lines. AnswersLines configuration lines Writes None)
EndsRun text Writes (Err run.Read) = Writes []
EndsRun text Writes (Err run.TooLong) = (text_max < length text) × Writes []
EndsRun text Writes (Err run.NoDivider) = (length text ≤ text_max) × (divided (lines_of text) ≡ None) × Writes []
EndsRun text Writes (Err (run.Config reported)) =
    (length text ≤ text_max) × (before : List (List ℕ)) × (after : List (List ℕ)) × (divided (lines_of text) ≡ Some (before, after))
    × ((reported ≡ fault.NoMemory) ⊎ (configuration_of_octets (text_of before) ≡ Err reported)) × Writes []
EndsRun text Writes (Err (run.BadLine number)) =
    OfInput text (λ configuration lines. AnswersLines configuration lines Writes (Some number))
EndsRun text Writes (Err run.Write) = OfInput text (λ configuration lines. BreaksOffLines configuration lines Writes)
EndsRun text Writes (Err run.NoMemory) = Writes []

use Rattle.std.proofs.Common.{◌≡◌, ◌+◌, List, ℕ, length}
use Rattle.std.specs.Io.KnownBytes.{Appends}
use Rattle.rad_packet.specs.Packets.{length_max}
use Rattle.rad_text.specs.Lines.{datagram_lines, lines_of}
use Rattle.rad_replay.proofs.TranscriptLemmas.{Progress}
use Rattle.rad_replay.proofs.replay.answer_lines.Given as goal

-- the lines so far were answered, and nothing else was written
abbrev pub invariant-loop-line : goal.invariant-loop-line
invariant-loop-line g l =
    let lines = datagram_lines (lines_of l.datagrams) in
    (text : List ℕ) × Progress l.config lines l.lines l.number l.replay.state text
    × Appends (g.W.Write.contents l.fn.writer) (g.W.Write.contents l.writer) text
    × (l.replay.configuration ≡ l.config) × (length l.octets ≡ length_max) × (l.number + length l.lines ≡ length lines)

abbrev pub decreases-loop-line : goal.decreases-loop-line
decreases-loop-line g l = length l.lines

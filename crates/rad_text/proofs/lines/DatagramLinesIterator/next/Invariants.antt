use Rattle.std.proofs.Common.{◌≡◌, length}
use Rattle.rad_text.specs.Lines.{lines_of, datagram_lines}
use Rattle.rad_text.proofs.lines.DatagramLinesIterator.next.Given as goal

abbrev pub invariant-loop-line : goal.invariant-loop-line
invariant-loop-line l = datagram_lines (lines_of l.self-inside.rest.now) ≡ datagram_lines (lines_of l.initial.self-inside.rest.now)

abbrev pub decreases-loop-line : goal.decreases-loop-line
decreases-loop-line l = length l.self-inside.rest.now

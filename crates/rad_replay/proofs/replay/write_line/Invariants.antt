use Rattle.std.proofs.Common.{◌≡◌, ◌++◌, List, ℕ, length}
use Rattle.std.specs.Io.KnownBytes.{Appends}
use Rattle.rad_replay.proofs.replay.write_line.Given as goal

-- what was written and what is left are the line
abbrev pub invariant-writes : goal.invariant-writes
invariant-writes g l =
    (front : List ℕ) × Appends (g.W.Write.contents l.fn.writer) (g.W.Write.contents l.writer) front × (l.line ≡ front ++ l.rest)

abbrev pub decreases-writes : goal.decreases-writes
decreases-writes g l = length l.rest

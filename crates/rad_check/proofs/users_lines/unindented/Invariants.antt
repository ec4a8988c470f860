use Rattle.std.proofs.Common.{◌≡◌, length}
use Rattle.rad_check.specs.UsersLines.{unindented}
use Rattle.rad_check.proofs.users_lines.unindented.Given as goal

abbrev pub invariant-loop-octet : goal.invariant-loop-octet
invariant-loop-octet l = unindented l.rest ≡ unindented l.line

abbrev pub decreases-loop-octet : goal.decreases-loop-octet
decreases-loop-octet l = length l.rest

use Rattle.std.proofs.Common.{◌≡◌, true, ◌++◌, take, drop}
use Rattle.rad_check.specs.UsersLines.{head_from}
use Rattle.rad_check.proofs.users_lines.head_of.Given as goal

-- the head is what was passed so far, and the head of the rest
abbrev pub invariant-loop-place : goal.invariant-loop-place
invariant-loop-place l = head_from true l.text ≡ take l.place l.text ++ head_from l.starts (drop l.place l.text)

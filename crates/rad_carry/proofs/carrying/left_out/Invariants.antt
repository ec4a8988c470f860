use Rattle.std.proofs.Common.{◌≡◌, ◌++◌}
use Rattle.std.specs.Prelude.{filter, not}
use Rattle.rad_carry.specs.Carried.{has_number, left_out}
use Rattle.rad_carry.proofs.carrying.left_out.Given as goal

-- those so far, and those among the sessions that are left
abbrev pub invariant-loop-session : goal.invariant-loop-session
invariant-loop-session l =
    l.left.items ++ filter (λ session. not (has_number session.number l.new.table)) l.session-iterator
    ≡ left_out l.old.table l.new.table

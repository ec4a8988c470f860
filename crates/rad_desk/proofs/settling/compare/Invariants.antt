use Rattle.std.proofs.Common.{All, take}
use Rattle.rad_desk.specs.Settlements.{IsSettled}
use Rattle.rad_desk.proofs.settling.compare.Given as goal

abbrev pub invariant-loop-pass : goal.invariant-loop-pass
invariant-loop-pass g l = All (IsSettled l.history) (take l.pass l.passes)

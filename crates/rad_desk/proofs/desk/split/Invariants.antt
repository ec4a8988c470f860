use Rattle.std.proofs.Common.{◌≡◌, ◌+◌}
use Rattle.rad_desk.specs.Passes.{AreNew}
use Rattle.rad_desk.proofs.desk.split.Given as goal

abbrev pub invariant-loop-i : goal.invariant-loop-i
invariant-loop-i g l = (l.rest.parts + l._i ≡ l.passes) × (l.rest.amount ≡ 0) × AreNew l._i l.all.items

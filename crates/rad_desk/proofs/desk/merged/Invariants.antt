use Rattle.std.proofs.Common.{◌≡◌, ◌+◌, vec_len}
use Rattle.rad_desk.specs.Settlements.{receipt_count}
use Rattle.rad_desk.proofs.desk.merged.Given as goal

abbrev pub invariant-loop-pass : goal.invariant-loop-pass
invariant-loop-pass g l =
    (l.all.parts + vec_len l.passes ≡ vec_len l.initial.passes)
    × (l.all.amount + receipt_count l.passes.items ≡ receipt_count l.initial.passes.items)

abbrev pub decreases-loop-pass : goal.decreases-loop-pass
decreases-loop-pass g l = vec_len l.passes

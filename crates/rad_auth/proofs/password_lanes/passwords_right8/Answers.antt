use Rattle.std.proofs.Common.{ap, arith}
use Rattle.std.specs.Prelude.{map}
use Rattle.rad_auth.specs.PasswordChecks.{is_right_in}
use Rattle.rad_auth.proofs.LaneLemmas.{eight_lanes}
use Rattle.rad_auth.proofs.password_lanes.passwords_right8.Goals as goal

pub returns : goal.returns
returns c =
    rw (
      c.is_right_by.ensures,
      c.is_right_by-2.ensures,
      c.is_right_by-3.ensures,
      c.is_right_by-4.ensures,
      c.is_right_by-5.ensures,
      c.is_right_by-6.ensures,
      c.is_right_by-7.ensures,
      c.is_right_by-8.ensures,
    )
    (ap (map is_right_in) (eight_lanes c.args.checks.now _ _ _ _ _ _ _ _ c.told-checks))

pub is_right_by-requires : goal.is_right_by-requires
is_right_by-requires c = c.digests-digests.ensures 0 (omega arith) _

pub is_right_by-requires-2 : goal.is_right_by-requires-2
is_right_by-requires-2 c = c.digests-digests.ensures 1 (omega arith) _

pub is_right_by-requires-3 : goal.is_right_by-requires-3
is_right_by-requires-3 c = c.digests-digests.ensures 2 (omega arith) _

pub is_right_by-requires-4 : goal.is_right_by-requires-4
is_right_by-requires-4 c = c.digests-digests.ensures 3 (omega arith) _

pub is_right_by-requires-5 : goal.is_right_by-requires-5
is_right_by-requires-5 c = c.digests-digests.ensures 4 (omega arith) _

pub is_right_by-requires-6 : goal.is_right_by-requires-6
is_right_by-requires-6 c = c.digests-digests.ensures 5 (omega arith) _

pub is_right_by-requires-7 : goal.is_right_by-requires-7
is_right_by-requires-7 c = c.digests-digests.ensures 6 (omega arith) _

pub is_right_by-requires-8 : goal.is_right_by-requires-8
is_right_by-requires-8 c = c.digests-digests.ensures 7 (omega arith) _

use Rattle.std.proofs.Common.{refl}
use Rattle.rad_md5.proofs.compress.carry8.Goals as goal

pub returns-clause-taken : goal.returns-clause-taken
returns-clause-taken c = λ j below live.
    rw (
      c.carry.ensures.taken j below live,
      c.carry-2.ensures.taken j below live,
      c.carry-3.ensures.taken j below live,
      c.carry-4.ensures.taken j below live,
    ) refl

pub returns-clause-left : goal.returns-clause-left
returns-clause-left c = λ j below dead.
    rw (
      c.carry.ensures.left j below dead,
      c.carry-2.ensures.left j below dead,
      c.carry-3.ensures.left j below dead,
      c.carry-4.ensures.left j below dead,
    ) refl

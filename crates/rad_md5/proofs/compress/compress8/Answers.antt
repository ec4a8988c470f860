use Rattle.std.proofs.Common.{ap, ◌∙◌}
use Rattle.md5.specs.Md5.{add_state, compress}
use Rattle.rad_md5.specs.Lanes.{lane}
use Rattle.rad_md5.proofs.compress.compress8.Goals as goal

pub returns-clause-taken : goal.returns-clause-taken
unfolding compress
returns-clause-taken c = λ j below live block words.
    c.carry8.ensures.taken j below live ∙ ap (add_state (lane j c.args.state)) (rw words at (c.steps.ensures j below))

pub returns-clause-left : goal.returns-clause-left
returns-clause-left c = c.carry8.ensures.left

use Rattle.std.proofs.Common.{◌+◌}
use Rattle.rad_recent.specs.Challenges.{has_state}
use Rattle.rad_recent.proofs.ChallengeLemmas.{taken_is}
use Rattle.rad_recent.proofs.challenges.Challenges.take.Goals as goal

pub returns-clause-settled : goal.returns-clause-settled
returns-clause-settled c =
    taken_is c.self.inside.rows.spans c.expire.new.self.spans c.remove.new.rows.spans c.args.now (c.remove.new.rows.last + 1)
    (has_state c.args.state.now c.args.client) c.self.inside.rows.rows c.expire.new.self.rows c.remove.new.rows.rows
    c.expire.ensures.rows c.expire.ensures.spans c.remove.ensures.spans c.remove.ensures.rows

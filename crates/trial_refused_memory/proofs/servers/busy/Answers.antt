use Rattle.std.proofs.Common.{◌∙◌}
use Rattle.trial_refused_memory.proofs.servers.busy.Goals as goal

-- no call changes the configuration
pub returns : goal.returns
returns c = c.restore.ensures.configuration ∙ c.answers-else-not-answers.ensures ∙ c.answers.ensures ∙ c.in-Ok.ensures.configuration

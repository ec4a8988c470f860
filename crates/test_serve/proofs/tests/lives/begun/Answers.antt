use Rattle.std.proofs.Common.{refl, ◌∙◌}
use Rattle.sqlite_trees.specs.View.{doubt}
use Rattle.test_serve.proofs.tests.lives.begun.Goals as goal

-- a store in memory is always clean
pub returns : goal.returns
unfolding doubt
returns c = c.in_ok-journal.ensures.kept refl ∙ c.in_ok-store.ensures.empty

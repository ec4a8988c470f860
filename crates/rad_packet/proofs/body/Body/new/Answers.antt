use Rattle.std.proofs.Common.{[], ◌∙◌}
use Rattle.rad_packet.proofs.AttributeLemmas.{in-spelled, are-nil}
use Rattle.rad_packet.proofs.body.Body.new.Goals as goal

pub invariant_of-result : goal.invariant_of-result
invariant_of-result c = are-nil c.new-2.result (c.new-2.ensures ∙ c.new.ensures.items)

pub returns-clause-attributes : goal.returns-clause-attributes
returns-clause-attributes c = in-spelled c.new-2.result [] (c.new-2.ensures ∙ c.new.ensures.items)

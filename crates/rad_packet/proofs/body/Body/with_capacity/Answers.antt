use Rattle.std.proofs.Common.{[], ◌∙◌}
use Rattle.rad_packet.proofs.AttributeLemmas.{in-spelled, are-nil}
use Rattle.rad_packet.proofs.body.Body.with_capacity.Goals as goal

pub invariant_of-result : goal.invariant_of-result
invariant_of-result c = are-nil c.new-octets.result (c.new-octets.ensures ∙ c.in_ok-with_capacity.ensures.items)

pub returns-clause-attributes : goal.returns-clause-attributes
returns-clause-attributes c = in-spelled c.new-octets.result [] (c.new-octets.ensures ∙ c.in_ok-with_capacity.ensures.items)

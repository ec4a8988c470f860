use Rattle.std.proofs.Common.{◌∙◌}
use Rattle.rad_auth.proofs.SameOctetsLemmas.{no_difference}
use Rattle.rad_auth.proofs.same_octets.same_octets.Goals as goal

pub octets-preserved : goal.octets-preserved
octets-preserved c = no_difference c.octets.difference c.args.octets.now c.args.others.now c.octets.place c.octets-test.true
    c.if-octets-others.false ∙ c.octets.invariant

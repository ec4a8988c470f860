use Rattle.std.proofs.Common.{◌≡◌, ap, arith}
use Rattle.std.proofs.lemmas.Bool.Decides.{nat_tests}
use Rattle.rad_claim.specs.Claims.{Claims}
use Rattle.rad_claim.proofs.claims.Claims.close.Goals as goal

pub returns-then-len-self-clause-fault : goal.returns-then-len-self-clause-fault
returns-then-len-self-clause-fault c = grind (arith, nat_tests)

pub returns-then-not-have_finished-clause-fault : goal.returns-then-not-have_finished-clause-fault
returns-then-not-have_finished-clause-fault c = grind (arith, nat_tests)

pub returns-clause-fault : goal.returns-clause-fault
returns-clause-fault c = grind (arith, nat_tests)

pub take_back-requires-clause-count : goal.take_back-requires-clause-count
take_back-requires-clause-count c =
    let seats : c.self.inside.seats ≡ c.args.self.seats = ap (λ (claims : Claims). claims.seats) c.self.view_is in
    omega arith

use Rattle.rad_auth.proofs.AdmissionLemmas.{answerable}
use Rattle.rad_auth.proofs.admit.admitted_are_answerable.Goals as goal

pub returns : goal.returns
returns c = answerable

use Rattle.rad_auth.proofs.AdmissionLemmas.{answerable}
use Rattle.rad_auth.proofs.admit.admitted_is_answerable.Goals as goal

pub returns : goal.returns
returns c = answerable c.args._clients.now c.args._request.now c.requires

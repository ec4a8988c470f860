use Rattle.std.proofs.Common.{sym}
use Rattle.rad_auth.proofs.AdmissionLemmas.{admitted_again}
use Rattle.rad_auth.proofs.admit.admitted.Goals as goal

pub returns-clause-admitted : goal.returns-clause-admitted
returns-clause-admitted c =
    let content = sym c.in_ok-check_content.ensures in
    rw c.copy.ensures (admitted_again c.args.clients.now c.args.candidate.now.request c.in_ok-check_content.field-0
    c.requires.candidate.held content)

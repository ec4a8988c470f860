use Rattle.std.proofs.Common.{nat_lt, ap, sym, ◌∙◌}
use Rattle.rad_auth.proofs.SummaryLemmas.{has-count}
use Rattle.rad_auth.proofs.admit.has_message_authenticator.Goals as goal

pub returns : goal.returns
returns c = ap (nat_lt 0) c.args.candidate.now.is_summary.message_authenticators
    ∙ sym (has-count 80 c.args.candidate.now.request.packet.attributes)

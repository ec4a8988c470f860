use Rattle.std.proofs.Common.{◌≡◌, ◌==◌, true, Some, sym, subst, ◌∙◌}
use Rattle.std.specs.Prelude.{IfSome}
use Rattle.std.proofs.lemmas.Bool.{eq-eqb}
use Rattle.rad_packet.specs.Attributes.{count, first_value}
use Rattle.rad_packet.specs.Packets.{Packet}
use Rattle.rad_auth.specs.Authenticators.{message_authenticator}
use Rattle.rad_auth.proofs.SummaryLemmas.{right_hmac}
use Rattle.rad_auth.proofs.admit.has_right_message_authenticator.Goals as goal

pub returns-in-Some : goal.returns-in-Some
returns-in-Some c = λ client same.
    let p : Packet = c.args.candidate.now.request.packet in
    let summary = c.args.candidate.now.is_summary in
    let once : (count 80 p.attributes == 1) ≡ true =
    eq-eqb (count 80 p.attributes) 1 (sym summary.message_authenticators ∙ c.if-not-occurs_once.false) in
    let first : first_value 80 p.attributes ≡ Some c.in-Some.value.now = sym c.in-Some.ensures.value in
    let held = subst (λ o. IfSome o (λ n. c.args.mac.now ≡ message_authenticator p client.secret)) summary.octets_after_hmac same in
    rw (once, first) (c.same_octets.ensures
    ∙ right_hmac p.attributes c.in-Some.value.now c.args.mac.now (message_authenticator p client.secret) first held c.told-mac)

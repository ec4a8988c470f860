use Rattle.std.proofs.Common.{◌≡◌, ◌==◌, false, List, ℕ, Some, None, length, ap, sym, refl, ◌∙◌, arith}
use Rattle.std.proofs.lemmas.Bool.{ne_eqb}
use Rattle.rad_hmac.specs.Hmac.{hmac}
use Rattle.rad_packet.specs.Bodies.{Body, packet_of_body}
use Rattle.rad_packet.specs.Packets.{Packet, packet_octets}
use Rattle.rad_auth.specs.Summaries.{octets_after_hmac, with_hmac}
use Rattle.rad_auth.specs.Authenticators.{message_authenticator, sixteen_zeros}
use Rattle.rad_auth.proofs.ReplyLemmas.{hmac_same}
use Rattle.rad_auth.proofs.AuthenticatorLemmas.{packet_made, packet_hmac, hmac_within, with_hmac-made}
use Rattle.rad_auth.proofs.seal.sign_request.Goals as goal

pub put_hmac-requires : goal.put_hmac-requires
put_hmac-requires c =
    let p : Packet = packet_of_body c.args.body.now c.args.identifier c.args.authenticator.now in
    let is : octets_after_hmac p.attributes ≡ Some c.in-Some.after =
    ap octets_after_hmac (sym c.attributes.ensures) ∙ sym c.of.ensures.octets_after_hmac ∙ c.in-Some.is in
    let frame : c.write-2.new.frame ≡ packet_octets p = c.in_ok-write.ensures.written in
    record {
      place = omega (
        arith,
        hmac_within (packet_octets p) (packet_made p) c.in-Some.after (packet_hmac p c.in-Some.after is),
        ap length frame,
      );
    }

pub returns-in-Some-clause-signed : goal.returns-in-Some-clause-signed
returns-in-Some-clause-signed c =
    let p : Packet = packet_of_body c.args.body.now c.args.identifier c.args.authenticator.now in
    let n = c.in-Some.after in
    let secret : List ℕ = c.args.secret.now in
    let mac : List ℕ = message_authenticator p secret in
    let other : (c.args.body.now.code == 4) ≡ false =
    ne_eqb c.args.body.now.code 4 (λ e. c.if-code-eq-ACCOUNTING_REQUEST.false (c.code.ensures ∙ e)) in
    let is : octets_after_hmac p.attributes ≡ Some n =
    ap octets_after_hmac (sym c.attributes.ensures) ∙ sym c.of.ensures.octets_after_hmac ∙ c.in-Some.is in
    let has = packet_hmac p n is in
    let frame : c.write-2.new.frame ≡ packet_octets p = c.in_ok-write.ensures.written in
    let inner : hmac secret (with_hmac n sixteen_zeros c.write-2.new.frame) ≡ mac =
    ap (λ (o : List ℕ). hmac secret (with_hmac n sixteen_zeros o)) frame
    ∙ ap (hmac secret) (with_hmac-made (packet_octets p) (packet_made p) n sixteen_zeros has refl) in
    let long : length mac ≡ 16 = ap length (sym inner) ∙ c.put_hmac.ensures.long in
    rw other (c.put_hmac.ensures.written ∙ ap (λ w. with_hmac n w c.write-2.new.frame) inner ∙ ap (with_hmac n mac) frame
    ∙ with_hmac-made (packet_octets p) (packet_made p) n mac has long)

pub returns-in_default-clause-signed : goal.returns-in_default-clause-signed
returns-in_default-clause-signed c =
    let p : Packet = packet_of_body c.args.body.now c.args.identifier c.args.authenticator.now in
    let other : (c.args.body.now.code == 4) ≡ false =
    ne_eqb c.args.body.now.code 4 (λ e. c.if-code-eq-ACCOUNTING_REQUEST.false (c.code.ensures ∙ e)) in
    let none : octets_after_hmac p.attributes ≡ None =
    ap octets_after_hmac (sym c.attributes.ensures) ∙ sym c.of.ensures.octets_after_hmac ∙ c.in_default.is in
    let frame : c.write-2.new.frame ≡ packet_octets p = c.in_ok-write.ensures.written in
    let same = hmac_same c.args.body.now c.args.identifier c.args.authenticator.now c.args.secret.now none in
    rw other (frame ∙ ap (λ (body : Body). packet_octets (packet_of_body body c.args.identifier c.args.authenticator.now))
    (sym same))

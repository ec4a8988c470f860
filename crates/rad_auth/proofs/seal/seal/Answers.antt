use Rattle.std.proofs.Common.{◌≡◌, ◌++◌, List, ℕ, ap, sym, ◌∙◌, ◌+◌, length, take, drop}
use Rattle.rad_packet.specs.Bodies.{Body, packet_of_body}
use Rattle.rad_packet.specs.Packets.{Packet, packet_octets}
use Rattle.rad_auth.specs.Authenticators.{signed_body}
use Rattle.rad_auth.proofs.ReplyLemmas.{begins_with_hmac, has_no_hmac, is_other, reply_overwritten, hmac_same}
use Rattle.rad_auth.proofs.AuthenticatorLemmas.{packet_made}
use Rattle.rad_auth.proofs.seal.seal.Goals as goal

pub returns-then-code-ne-ACCOUNTING_RESPONSE : goal.returns-then-code-ne-ACCOUNTING_RESPONSE
returns-then-code-ne-ACCOUNTING_RESPONSE c =
    let job = c.args.job.now in
    let written : Packet = packet_of_body job.body.now job.id c.args.authenticator.now in
    let other : job.body.now.code ≡ 5 → ⊥ = λ five. c.if-code-ne-ACCOUNTING_RESPONSE.true (c.code.ensures ∙ five) in
    let begins = begins_with_hmac job.body.now c.requires.job.reply other in
    let mac : List ℕ = c.args.mac.now in
    let frame : c.write.new.frame ≡ packet_octets written = rw (c.unwrap.ensures) at c.write.ensures.written in
    c.overwrite.ensures ∙ ap (λ (o : List ℕ). take 22 o ++ mac ++ drop (22 + length mac) o) frame
    ∙ reply_overwritten written mac c.told-authenticator begins c.told-mac
    ∙ ap (packet_made written) (c.requires.mac (is_other job.body.now.code other))
    ∙ ap (λ (a : List ℕ). packet_octets
    (packet_of_body (signed_body job.body.now job.id job.request_authenticator job.secret.now) job.id a)) c.requires.authenticator

pub returns-else-code-ne-ACCOUNTING_RESPONSE : goal.returns-else-code-ne-ACCOUNTING_RESPONSE
returns-else-code-ne-ACCOUNTING_RESPONSE c =
    let job = c.args.job.now in
    let none = has_no_hmac job.body.now c.requires.job.reply (sym c.code.ensures ∙ c.if-code-ne-ACCOUNTING_RESPONSE.false) in
    let frame : c.write.new.frame ≡ packet_octets (packet_of_body job.body.now job.id c.args.authenticator.now) =
    rw (c.unwrap.ensures) at c.write.ensures.written in
    frame
    ∙ ap (λ (body : Body). packet_octets (packet_of_body body job.id c.args.authenticator.now))
    (sym (hmac_same job.body.now job.id job.request_authenticator job.secret.now none))
    ∙ ap (λ (a : List ℕ). packet_octets
    (packet_of_body (signed_body job.body.now job.id job.request_authenticator job.secret.now) job.id a)) c.requires.authenticator

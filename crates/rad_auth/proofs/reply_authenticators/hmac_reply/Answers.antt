use Rattle.std.proofs.Common.{◌∷◌, ◌++◌, List, [], ℕ, drop, ap, ◌∙◌, refl}
use Rattle.std.proofs.lemmas.List.{append-nil}
use Rattle.rad_packet.specs.Attributes.{Attribute, attributes_octets}
use Rattle.rad_hmac.specs.Hmac.{hmac}
use Rattle.rad_md5.specs.Pieces.{message}
use Rattle.rad_auth.specs.ReplyLanes.{unsealed}
use Rattle.rad_auth.specs.Authenticators.{sixteen_zeros}
use Rattle.rad_auth.proofs.ReplyLemmas.{begins_with_hmac, reply_parts, rest_of}
use Rattle.rad_auth.proofs.AuthenticatorLemmas.{packet_made}
use Rattle.rad_auth.proofs.reply_authenticators.hmac_reply.Goals as goal

pub returns-clause-text : goal.returns-clause-text
returns-clause-text c = λ has.
    let job = c.args.job.now in
    let list : List Attribute = job.body.now.attributes in
    let octets : List ℕ = c.attributes_octets.result.now in
    let front : List ℕ = 80 ∷ 18 ∷ [] in
    let begins = begins_with_hmac job.body.now c.requires.job.reply
    (λ five. c.if-code-eq-ACCOUNTING_RESPONSE.false (c.code.ensures ∙ five)) in
    let others = rest_of 18 octets ∙ ap (drop 18) c.attributes_octets.ensures.value in
    let parts = reply_parts job.body.now.code job.id job.request_authenticator list sixteen_zeros [] begins refl in
    ap (λ pieces. hmac job.secret.now (message pieces)) c.of.ensures
    ∙ ap (λ (o : List ℕ). hmac job.secret.now (c.args.header.now ++ (front ++ (sixteen_zeros ++ (o ++ []))))) others
    ∙ ap (λ (o : List ℕ). hmac job.secret.now (o ++ (front ++ (sixteen_zeros ++ (drop 18 (attributes_octets list) ++ [])))))
    c.requires.header
    ∙ ap (hmac job.secret.now) (parts ∙ append-nil (packet_made (unsealed job) sixteen_zeros))

use Rattle.std.proofs.Common.{◌≡◌, ◌-◌, ◌∷◌, ◌++◌, List, [], ℕ, length, take, drop, ap, sym, ◌∙◌}
use Rattle.std.proofs.lemmas.List.{append_assoc, append-nil}
use Rattle.md5.specs.Md5.{md5}
use Rattle.rad_packet.specs.Attributes.{Attribute, attributes_octets}
use Rattle.rad_packet.specs.Bodies.{Body, packet_of_body}
use Rattle.rad_packet.specs.Packets.{packet_octets}
use Rattle.rad_md5.specs.Pieces.{message}
use Rattle.rad_auth.specs.ReplyLanes.{header_octets, unsealed}
use Rattle.rad_auth.proofs.ReplyLemmas.{begins_with_hmac, has_no_hmac, is_other, reply_parts, rest_of, hmac_same}
use Rattle.rad_auth.proofs.AuthenticatorLemmas.{packet_made}
use Rattle.rad_auth.proofs.reply_authenticators.digested_reply.Goals as goal

pub returns-then-code-eq-ACCOUNTING_RESPONSE : goal.returns-then-code-eq-ACCOUNTING_RESPONSE
returns-then-code-eq-ACCOUNTING_RESPONSE c =
    let job = c.args.job.now in
    let secret : List ℕ = job.secret.now in
    let header : List ℕ = header_octets job in
    let octets : List ℕ = attributes_octets job.body.now.attributes in
    let none = has_no_hmac job.body.now c.requires.job.reply (sym c.code.ensures ∙ c.if-code-eq-ACCOUNTING_RESPONSE.true) in
    ap (λ pieces. md5 (message pieces)) c.of.ensures
    ∙ ap (λ (s : List ℕ). md5 (c.args.header.now ++ (c.attributes_octets-attributes.result.now ++ (s ++ []))))
    c.octets-secret.ensures.value
    ∙ ap (λ (o : List ℕ). md5 (c.args.header.now ++ (o ++ (secret ++ [])))) c.attributes_octets-attributes.ensures.value
    ∙ ap (λ (o : List ℕ). md5 (o ++ (octets ++ (secret ++ [])))) c.requires.header
    ∙ ap (λ (o : List ℕ). md5 (header ++ (octets ++ o))) (append-nil secret)
    ∙ ap md5 (sym (append_assoc header octets secret))
    ∙ ap (λ (body : Body). md5 (packet_octets (packet_of_body body job.id job.request_authenticator) ++ secret))
    (sym (hmac_same job.body.now job.id job.request_authenticator secret none))

pub returns : goal.returns
returns c =
    let job = c.args.job.now in
    let secret : List ℕ = job.secret.now in
    let list : List Attribute = job.body.now.attributes in
    let octets : List ℕ = c.attributes_octets-attributes.result.now in
    let front : List ℕ = 80 ∷ 18 ∷ [] in
    let mac : List ℕ = c.args.mac.now in
    let other : job.body.now.code ≡ 5 → ⊥ = λ five. c.if-code-eq-ACCOUNTING_RESPONSE.false (c.code.ensures ∙ five) in
    let begins = begins_with_hmac job.body.now c.requires.job.reply other in
    let others = rest_of 18 octets ∙ ap (drop 18) c.attributes_octets-attributes.ensures.value in
    let parts = reply_parts job.body.now.code job.id job.request_authenticator list mac secret begins c.told-mac in
    let is = c.requires.mac (is_other job.body.now.code other) in
    let kept : List ℕ = take (length octets - 18) (drop 18 octets) in
    ap (λ pieces. md5 (message pieces)) c.of-2.ensures
    ∙ ap (λ (s : List ℕ). md5 (c.args.header.now ++ (front ++ (mac ++ (kept ++ (s ++ [])))))) c.octets-secret.ensures.value
    ∙ ap (λ (o : List ℕ). md5 (c.args.header.now ++ (front ++ (mac ++ (o ++ (secret ++ [])))))) others
    ∙ ap (λ (o : List ℕ). md5 (o ++ (front ++ (mac ++ (drop 18 (attributes_octets list) ++ (secret ++ [])))))) c.requires.header
    ∙ ap (λ (o : List ℕ). md5 (header_octets job ++ (front ++ (mac ++ (drop 18 (attributes_octets list) ++ o)))))
    (append-nil secret)
    ∙ ap md5 parts
    ∙ ap (λ (w : List ℕ). md5 (packet_made (unsealed job) w ++ secret)) is

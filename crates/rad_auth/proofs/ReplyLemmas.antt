-- The octets of replies.
use Rattle.std.proofs.Common.{◌≡◌, ◌⊎◌, inl, inr, ℕ, ◌+◌, ◌-◌, ◌≤◌, Bool, true, false, cond, eqb, ◌==◌, not, ◌&&◌, List, [], ◌∷◌}
use Rattle.std.proofs.Common.{◌++◌, length, take, drop, Some, None, refl, ap, sym, ◌∙◌, arith}
use Rattle.std.specs.Int.{w16, to_be_bytes}
use Rattle.std.proofs.lemmas.Bool.{ne_eqb, eq-eqb}
use Rattle.std.proofs.lemmas.List.{append_assoc, drop_at, take_all, length-append, length-drop}
use Rattle.rad_packet.specs.Attributes.{Attribute, attributes_octets, count, size}
use Rattle.rad_packet.specs.Bodies.{Body, packet_of_body}
use Rattle.rad_packet.specs.Packets.{Packet, packet_octets}
use Rattle.rad_auth.specs.Summaries.{octets_after_hmac}
use Rattle.rad_auth.specs.Sealing.{BeginsWithMessageAuthenticator, IsReply}
use Rattle.rad_auth.specs.Authenticators.{can_hold_hmac, message_authenticator, signed_body, with_message_authenticator}
use Rattle.rad_auth.proofs.AttributeLemmas.{count-cons, size-cons}
use Rattle.rad_auth.proofs.AuthenticatorLemmas.{packet_made, packet_hmac, with_hmac-made}

-- if no attribute holds an HMAC, none is written
pub no_hmac : (list : List Attribute) (w : List ℕ) → octets_after_hmac list ≡ None → with_message_authenticator w list ≡ list
no_hmac [] w e = refl
no_hmac (a ∷ list) w e = at (can_hold_hmac a) e (no_hmac list w)
  where
    at : (b : Bool) → cond b (Some (size list)) (octets_after_hmac list) ≡ None
        → (octets_after_hmac list ≡ None → with_message_authenticator w list ≡ list)
        → cond b (record a { value = w } ∷ list) (a ∷ with_message_authenticator w list) ≡ a ∷ list
    at true e others = cc
    at false e others = ap (λ l. a ∷ l) (others e)

-- where there is no Message-Authenticator, no attribute holds an HMAC
pub none_after : (list : List Attribute) → count 80 list ≡ 0 → octets_after_hmac list ≡ None
none_after [] e = refl
none_after (a ∷ list) e = at (eqb a.kind 80) (sym (count-cons 80 a list) ∙ e) (none_after list)
  where
    at : (b : Bool) → cond b 1 0 + count 80 list ≡ 0 → (count 80 list ≡ 0 → octets_after_hmac list ≡ None)
        → cond (b && eqb (length a.value) 16) (Some (size list)) (octets_after_hmac list) ≡ None
    at true e others = absurd (omega (arith, e))
    at false e others = others (omega (arith, e))

-- the first attribute holds the HMAC
first_holds : (a : Attribute) → (a.kind ≡ 80) × (length a.value ≡ 16) → can_hold_hmac a ≡ true
first_holds a begins = rw (eq-eqb a.kind 80 begins.0, eq-eqb (length a.value) 16 begins.1) refl

pub first_after : (list : List Attribute) → BeginsWithMessageAuthenticator list → octets_after_hmac list ≡ Some (size list - 18)
first_after [] begins = absurd begins
first_after (a ∷ list) begins =
    let place : size list ≡ size (a ∷ list) - 18 = omega (arith, size-cons a list, begins.1) in
    rw (first_holds a begins) (ap Some place)

-- the octets of a reply with this Value in the first attribute, part by part, and others after them
pub reply_parts : (code identifier : ℕ) (authenticator : List ℕ) (list : List Attribute) (w after : List ℕ)
    → BeginsWithMessageAuthenticator list → length w ≡ 16
    → (code ∷ identifier ∷ to_be_bytes w16 (20 + size list) ++ authenticator)
    ++ ((80 ∷ 18 ∷ []) ++ (w ++ (drop 18 (attributes_octets list) ++ after)))
    ≡ packet_octets (record {
      code = code;
      identifier = identifier;
      authenticator = authenticator;
      attributes = with_message_authenticator w list;
    }) ++ after
reply_parts code identifier authenticator [] w after begins len = absurd begins
reply_parts code identifier authenticator (a ∷ list) w after begins len =
    let octets : List ℕ = attributes_octets list in
    let made : with_message_authenticator w (a ∷ list) ≡ record a { value = w } ∷ list = rw (first_holds a begins) refl in
    let others : drop 18 (attributes_octets (a ∷ list)) ≡ octets = drop_at a.value octets 16 begins.1 in
    let same : size (record a { value = w } ∷ list) ≡ size (a ∷ list) =
    omega (arith, size-cons a list, size-cons (record a { value = w }) list, begins.1, len) in
    let head : List ℕ = code ∷ identifier ∷ to_be_bytes w16 (20 + size (a ∷ list)) ++ authenticator in
    let spelled : 80 ∷ 18 ∷ (w ++ octets) ≡ attributes_octets (record a { value = w } ∷ list) =
    ap (λ k. k ∷ 18 ∷ (w ++ octets)) (sym begins.0) ∙ ap (λ n. a.kind ∷ (n + 2) ∷ (w ++ octets)) (sym len) in
    ap (λ (o : List ℕ). head ++ (80 ∷ 18 ∷ (w ++ (o ++ after)))) others
    ∙ ap (λ (o : List ℕ). head ++ (80 ∷ 18 ∷ o)) (sym (append_assoc w octets after))
    ∙ sym (append_assoc head (80 ∷ 18 ∷ (w ++ octets)) after)
    ∙ ap (λ (o : List ℕ). head ++ o ++ after) spelled
    ∙ ap (λ n. (code ∷ identifier ∷ to_be_bytes w16 (20 + n) ++ authenticator ++ attributes_octets (record a { value = w } ∷ list))
    ++ after) (sym same)
    ∙ ap (λ l. packet_octets (record { code = code; identifier = identifier; authenticator = authenticator; attributes = l })
    ++ after) (sym made)

-- a reply with this Value written over the first one
pub reply_overwritten : (p : Packet) (w : List ℕ) → length p.authenticator ≡ 16 → BeginsWithMessageAuthenticator p.attributes
    → length w ≡ 16
    → take 22 (packet_octets p) ++ w ++ drop (22 + length w) (packet_octets p) ≡ packet_made p w
reply_overwritten p w authenticator begins len =
    let n = size p.attributes - 18 in
    let octets : List ℕ = packet_octets p in
    let long : length octets ≡ 20 + size p.attributes =
    omega (arith, length-append p.authenticator (attributes_octets p.attributes), authenticator) in
    let front : 22 ≡ length octets - (n + 16) = omega (arith, long, large p.attributes begins) in
    let back : 22 + length w ≡ length octets - n = omega (arith, long, len, large p.attributes begins) in
    ap (λ k. take k octets ++ w ++ drop (22 + length w) octets) front
    ∙ ap (λ k. take (length octets - (n + 16)) octets ++ w ++ drop k octets) back
    ∙ with_hmac-made octets (packet_made p) n w (packet_hmac p n (first_after p.attributes begins)) len
  where
    large : (list : List Attribute) → BeginsWithMessageAuthenticator list → 18 ≤ size list
    large [] begins = absurd begins
    large (a ∷ list) begins = omega (arith, size-cons a list, begins.1)

-- what follows so many octets
pub rest_of : (n : ℕ) (octets : List ℕ) → take (length octets - n) (drop n octets) ≡ drop n octets
rest_of n octets = take_all (length octets - n) (drop n octets) (omega (arith, length-drop n octets))

-- a reply that is no Accounting-Response begins with its Message-Authenticator
pub begins_with_hmac : (body : Body) → IsReply body → (body.code ≡ 5 → ⊥) → BeginsWithMessageAuthenticator body.attributes
begins_with_hmac body is other = elim is.kind [ inl response ↦ absurd (other response.code) | inr reply ↦ reply.first ]

-- an Accounting-Response has none
pub has_no_hmac : (body : Body) → IsReply body → body.code ≡ 5 → octets_after_hmac body.attributes ≡ None
has_no_hmac body is five =
    elim is.kind [
      | inl response ↦ none_after body.attributes response.none
      | inr reply ↦ absurd (other reply.code)
    ]
  where
    other : (body.code ≡ 2) ⊎ ((body.code ≡ 3) ⊎ (body.code ≡ 11)) → ⊥
    other (inl e) = omega (arith, e, five)
    other (inr (inl e)) = omega (arith, e, five)
    other (inr (inr e)) = omega (arith, e, five)

-- and stays as it is
pub hmac_same : (body : Body) (identifier : ℕ) (authenticator secret : List ℕ) → octets_after_hmac body.attributes ≡ None
    → signed_body body identifier authenticator secret ≡ body
hmac_same body identifier authenticator secret e =
    ap (λ list. record { code = body.code; attributes = list })
    (no_hmac body.attributes (message_authenticator (packet_of_body body identifier authenticator) secret) e)

-- another Code differs
pub is_other : (code : ℕ) → (code ≡ 5 → ⊥) → not (code == 5) ≡ true
is_other code other = ap not (ne_eqb code 5 other)

-- Eight lanes, one by one and as a list.
use Rattle.std.proofs.Common.{◌≡◌, ℕ, ◌<◌, ◌&&◌, Bool, true, is_some, List, [], ◌∷◌, length, get_or, Option, Some, None, Result, Ok}
use Rattle.std.proofs.Common.{Err, ap, refl, subst, ◌∙◌, arith}
use Rattle.std.proofs.lemmas.Bool.{eq-eqb}
use Rattle.std.specs.Prelude.{IfSome}
use Rattle.md5.specs.Md5.{md5}
use Rattle.rad_md5.proofs.LaneLemmas.{below_eight}
use Rattle.rad_hmac.specs.Hmac.{hmac, mac_under}
use Rattle.rad_auth.specs.Clients.{Client, secret_at}
use Rattle.rad_auth.specs.RequestLanes.{HasAccountingText, HasKeyOf, HasHmacText, IsAccountingAuthenticator, IsMessageAuthenticator}
use Rattle.rad_auth.specs.RequestLanes.{OfCandidate, has_hmac_to_check, is_accounting}
use Rattle.rad_auth.specs.ReplyLanes.{HasDigestedText, HasReplyHmacText, IsKeyOf, IsReplyDigest, IsReplyHmac, has_hmac}
use Rattle.rad_auth.specs.Authenticators.{message_authenticator}
use Rattle.rad_auth.specs.PasswordChecks.{IsLaneDigest, uses_lane}
use Rattle.rad_auth.specs.declared.password_check.PasswordCheck.{PasswordCheck}
use Rattle.rad_auth.specs.declared.job.Job.{Job}
use Rattle.rad_auth.specs.declared.candidate.Candidate.{Candidate}
use Rattle.rad_auth.specs.declared.discard.Discard.{Discard}

-- the eight items of a list, read one by one
abbrev pub lanes : {A : Type 0} (xs : List A) (d0 d1 d2 d3 d4 d5 d6 d7 : A) → List A
lanes xs d0 d1 d2 d3 d4 d5 d6 d7 =
    get_or xs 0 d0 ∷ get_or xs 1 d1 ∷ get_or xs 2 d2 ∷ get_or xs 3 d3 ∷ get_or xs 4 d4 ∷ get_or xs 5 d5 ∷ get_or xs 6 d6
    ∷ get_or xs 7 d7 ∷ []

pub eight_lanes : {A : Type 0} (xs : List A) (d0 d1 d2 d3 d4 d5 d6 d7 : A) → length xs ≡ 8 → lanes xs d0 d1 d2 d3 d4 d5 d6 d7 ≡ xs
eight_lanes (x0 ∷ x1 ∷ x2 ∷ x3 ∷ x4 ∷ x5 ∷ x6 ∷ x7 ∷ []) d0 d1 d2 d3 d4 d5 d6 d7 long = refl
eight_lanes xs d0 d1 d2 d3 d4 d5 d6 d7 long = absurd (omega arith)

-- what holds of each of the eight lanes of a list
pub each_lane : {A : Type 0} (xs : List A) (P : ℕ → A → Type 0) (d d0 d1 d2 d3 d4 d5 d6 d7 : A) → length xs ≡ 8
    → P 0 (get_or xs 0 d0) → P 1 (get_or xs 1 d1) → P 2 (get_or xs 2 d2) → P 3 (get_or xs 3 d3)
    → P 4 (get_or xs 4 d4) → P 5 (get_or xs 5 d5) → P 6 (get_or xs 6 d6) → P 7 (get_or xs 7 d7) → (j : ℕ) → j < 8
    → P j (get_or xs j d)
each_lane xs P d d0 d1 d2 d3 d4 d5 d6 d7 long p0 p1 p2 p3 p4 p5 p6 p7 =
    subst (λ ys. (j : ℕ) → j < 8 → P j (get_or ys j d)) (eight_lanes xs d0 d1 d2 d3 d4 d5 d6 d7 long)
    (below_eight (λ j. P j (get_or (lanes xs d0 d1 d2 d3 d4 d5 d6 d7) j d)) p0 p1 p2 p3 p4 p5 p6 p7)

-- the digest of a lane's text, where it is wanted
pub lane_accounting : (clients : List Client) (text digest : List ℕ) (wanted : Bool) (lane : Option (Result Candidate Discard))
    → OfCandidate (HasAccountingText clients text) lane → wanted ≡ is_accounting lane → (wanted ≡ true → digest ≡ md5 text)
    → OfCandidate (IsAccountingAuthenticator clients digest) lane
lane_accounting clients text digest wanted None told is made = tt
lane_accounting clients text digest wanted (Some (Err discard)) told is made = tt
lane_accounting clients text digest wanted (Some (Ok candidate)) told is made =
    λ five. made (is ∙ eq-eqb candidate.request.packet.code 4 five) ∙ told

-- the HMAC of a lane's text under its key, where it is wanted
pub lane_hmac : (clients : List Client) (key text mac : List ℕ) (wanted : Bool) (lane : Option (Result Candidate Discard))
    → OfCandidate (HasKeyOf clients key) lane → OfCandidate (HasHmacText text) lane
    → wanted ≡ has_hmac_to_check lane → (wanted ≡ true → mac ≡ mac_under key text)
    → OfCandidate (IsMessageAuthenticator clients mac) lane
lane_hmac clients key text mac wanted None keyed signed is made = tt
lane_hmac clients key text mac wanted (Some (Err discard)) keyed signed is made = tt
lane_hmac clients key text mac wanted (Some (Ok candidate)) keyed signed is made = λ taken.
    at candidate.summary.octets_after_hmac signed
    (is ∙ ap (λ checked. checked && is_some candidate.summary.octets_after_hmac) taken)
  where
    at : (o : Option ℕ) → IfSome o
        (λ after. (secret : List ℕ) → hmac secret text ≡ message_authenticator candidate.request.packet secret)
        → wanted ≡ is_some o → IfSome o
        (λ after. mac ≡ message_authenticator candidate.request.packet (secret_at clients candidate.request.client))
    at None h is = tt
    at (Some after) h is = made is ∙ keyed text ∙ h (secret_at clients candidate.request.client)

-- the HMAC of a reply's text under its key, where it is wanted
pub reply_hmac : (key text mac : List ℕ) (wanted : Bool) (lane : Option Job)
    → IfSome lane (IsKeyOf key) → IfSome lane (HasReplyHmacText text)
    → wanted ≡ has_hmac lane → (wanted ≡ true → mac ≡ mac_under key text) → IsReplyHmac lane mac
reply_hmac key text mac wanted None keyed signed is made = tt
reply_hmac key text mac wanted (Some job) keyed signed is made = λ has. made (is ∙ has) ∙ keyed text ∙ signed has

-- the digest of a reply's text, where it is wanted
pub reply_digest : (text digest : List ℕ) (wanted : Bool) (lane : Option Job)
    → IfSome lane (HasDigestedText text) → wanted ≡ is_some lane → (wanted ≡ true → digest ≡ md5 text) → IsReplyDigest lane digest
reply_digest text digest wanted None told is made = tt
reply_digest text digest wanted (Some job) told is made = made is ∙ told

-- the digest of a lane's password, where it is wanted
pub lane_digest : (text digest : List ℕ) (wanted : Bool) (lane : Option PasswordCheck)
    → IfSome lane (IsLaneDigest (md5 text)) → wanted ≡ uses_lane lane → (wanted ≡ true → digest ≡ md5 text)
    → IfSome lane (IsLaneDigest digest)
lane_digest text digest wanted None told is made = tt
lane_digest text digest wanted (Some check) told is made = λ fits. made (is ∙ fits) ∙ told fits

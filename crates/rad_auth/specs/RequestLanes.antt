-- Eight lanes of arrivals on their way through the checks: what was read of each, and the digest and the HMAC that were
-- made for it.
use Rattle.std.specs.Prelude.{◌≡◌, ℕ, ◌<◌, ◌==◌, ◌&&◌, Bool, false, is_some, List, [], ◌++◌, length, take, drop, slice_index_or}
use Rattle.std.specs.Prelude.{Option, Some, None, Result, Ok, Err, option_map, IfOk, IfSome, IsTrue}
use Rattle.md5.specs.Md5.{md5}
use Rattle.rad_md5.specs.Lanes.{EachLane}
use Rattle.rad_hmac.specs.Hmac.{hmac, mac_under}
use Rattle.rad_packet.specs.Codes.{code_accounting_request}
use Rattle.rad_packet.specs.Ladders.{◌>>=◌}
use Rattle.rad_packet.specs.Packets.{Packet, header_size}
use Rattle.rad_auth.specs.Admission.{IsInOwnDatagram, content_checks, is_message_authenticator_checked}
use Rattle.rad_auth.specs.Clients.{Client, client_at, secret_at}
use Rattle.rad_auth.specs.Authenticators.{accounting_authenticator, message_authenticator, sixteen_zeros}
use Rattle.rad_auth.specs.declared.candidate.Candidate.{Candidate}
use Rattle.rad_auth.specs.declared.arrival.Request.{Request}
use Rattle.rad_auth.specs.declared.discard.Discard.{Discard}

-- what is asked of the content of a candidate, and of its client
abbrev pub asked_of : {X : Type 0} → (Client → Packet → X) → List Client → Candidate → X
asked_of ask clients candidate = ask (client_at clients candidate.request.client) candidate.request.packet

-- the verdict on what was read of an arrival
abbrev pub verdict_on : List Client → Result Candidate Discard → Result Request Discard
verdict_on clients read = do
  candidate ← read
  checked ← asked_of content_checks clients candidate
  Ok candidate.request

-- the verdict on a lane
abbrev pub verdict_on_lane : List Client → Option (Result Candidate Discard) → Option (Result Request Discard)
verdict_on_lane clients lane = option_map (verdict_on clients) lane

-- a fact about the candidate of a lane, if it has one
abbrev pub OfCandidate : (Candidate → Type 0) → Option (Result Candidate Discard) → Type 0
OfCandidate Holds lane = IfSome lane (λ read. IfOk read Holds)

-- the candidate is a client's, and its own octets hold it
pub record IsCandidate (clients : List Client) (candidate : Candidate) : Type 0 where
  pub client : candidate.request.client < length clients
  pub held : IsInOwnDatagram clients candidate.request

-- the digest that an Accounting-Request must have
abbrev pub IsAccountingAuthenticator : List Client → List ℕ → Candidate → Type 0
IsAccountingAuthenticator clients digest candidate =
    candidate.request.packet.code ≡ code_accounting_request
    → digest ≡ accounting_authenticator candidate.request.packet (secret_at clients candidate.request.client)

-- the HMAC that a Message-Authenticator must have under a secret, if one can hold it
abbrev pub IsHmacUnder : List ℕ → List ℕ → Candidate → Type 0
IsHmacUnder secret mac candidate =
    IfSome candidate.summary.octets_after_hmac (λ after. mac ≡ message_authenticator candidate.request.packet secret)

-- the same under the client's secret, where the Message-Authenticator is looked at
abbrev pub IsMessageAuthenticator : List Client → List ℕ → Candidate → Type 0
IsMessageAuthenticator clients mac candidate =
    IsTrue (is_message_authenticator_checked candidate.request.packet.code)
    → IsHmacUnder (secret_at clients candidate.request.client) mac candidate

-- the same of eight lanes
abbrev pub AreAccountingAuthenticators : List Client → List (Option (Result Candidate Discard)) → List (List ℕ) → Type 0
AreAccountingAuthenticators clients lanes digests =
    EachLane (λ j. OfCandidate (IsAccountingAuthenticator clients (slice_index_or digests j [])) (slice_index_or lanes j None))

abbrev pub AreMessageAuthenticators : List Client → List (Option (Result Candidate Discard)) → List (List ℕ) → Type 0
AreMessageAuthenticators clients lanes macs =
    EachLane (λ j. OfCandidate (IsMessageAuthenticator clients (slice_index_or macs j [])) (slice_index_or lanes j None))

-- whether a lane has an Accounting-Request
abbrev pub is_accounting : Option (Result Candidate Discard) → Bool
is_accounting None = false
is_accounting (Some (Err discard)) = false
is_accounting (Some (Ok candidate)) = candidate.request.packet.code == code_accounting_request

-- whether a lane has an HMAC that is checked
abbrev pub has_hmac_to_check : Option (Result Candidate Discard) → Bool
has_hmac_to_check None = false
has_hmac_to_check (Some (Err discard)) = false
has_hmac_to_check (Some (Ok candidate)) =
    is_message_authenticator_checked candidate.request.packet.code && is_some candidate.summary.octets_after_hmac

-- a packet's octets with zeros in its Authenticator
abbrev pub with_zero_authenticator : List ℕ → List ℕ
with_zero_authenticator octets = take 4 octets ++ sixteen_zeros ++ drop header_size octets

-- a text whose digest is the Authenticator that an Accounting-Request must have
abbrev pub HasAccountingText : List Client → List ℕ → Candidate → Type 0
HasAccountingText clients text candidate =
    md5 text ≡ accounting_authenticator candidate.request.packet (secret_at clients candidate.request.client)

-- a text whose HMAC is the Message-Authenticator, under each secret
abbrev pub HasHmacText : List ℕ → Candidate → Type 0
HasHmacText text candidate = IfSome candidate.summary.octets_after_hmac (λ after.
    (secret : List ℕ) → hmac secret text ≡ message_authenticator candidate.request.packet secret)

-- a key whose HMACs are those under the secret of the candidate's client
abbrev pub HasKeyOf : List Client → List ℕ → Candidate → Type 0
HasKeyOf clients key candidate = (text : List ℕ) → mac_under key text ≡ hmac (secret_at clients candidate.request.client) text

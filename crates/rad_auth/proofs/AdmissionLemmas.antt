-- What admission says of the requests that it gives.
use Rattle.std.proofs.Common.{◌≡◌, ℕ, ◌≤◌, ◌==◌, ◌&&◌, Bool, true, false, not, List, Option, Some, None, Result, Ok, Err, refl, ap}
use Rattle.std.proofs.Common.{subst}
use Rattle.std.specs.Prelude.{IsTrue, ok_or, nat_lt}
use Rattle.std.proofs.lemmas.Bool.{eq-eqb, ltb-false}
use Rattle.std.proofs.lemmas.List.Quantifiers.{position-Some}
use Rattle.rad_packet.specs.Attributes.{has_len}
use Rattle.rad_packet.specs.Ladders.{◌>>=◌, refuse_if}
use Rattle.rad_packet.specs.Packets.{Packet, packet_of}
use Rattle.rad_auth.specs.Admission.{IsAdmitted, IsAnswerable, IsInOwnDatagram, admission, content_checks, has_bad_authenticator}
use Rattle.rad_auth.specs.Admission.{has_bad_message_authenticator, is_code_accepted, lacks_message_authenticator}
use Rattle.rad_auth.specs.Admission.{lacks_status_type, own_datagram, packet_or_discard, proxy_states_max, proxy_states_size}
use Rattle.rad_auth.specs.Admission.{request_in, request_of}
use Rattle.rad_auth.specs.Clients.{Client, client_place, client_at}
use Rattle.rad_auth.specs.Datagrams.{Datagram}
use Rattle.rad_auth.specs.declared.arrival.Request.{Request}
use Rattle.rad_auth.specs.declared.discard.Discard.{Discard}
use Rattle.rad_auth.specs.declared.discard.Discard.TheVariants.{UnknownClient, WrongCode, BadAuthenticator, BadMessageAuthenticator}
use Rattle.rad_auth.specs.declared.discard.Discard.TheVariants.{NoMessageAuthenticator, NoStatusType, ProxyStateTooLong}

refused_not : {E : Type 0} (b : Bool) (refusal : E) (u : Unit {0}) → refuse_if b refusal ≡ Ok u → b ≡ false
refused_not true refusal u e = absurd (cc)
refused_not false refusal u e = refl

-- ---- a request that is held by its own octets

pub admitted_again : (clients : List Client) (request : Request) (checked : Unit {0}) → IsInOwnDatagram clients request
    → content_checks (client_at clients request.client) request.packet ≡ Ok checked → IsAdmitted clients request
unfolding admission
admitted_again clients request checked held content = rw (held, content) refl

-- ---- what an admitted request has

-- what follows of a request from how it was read
abbrev Found : Option ℕ → Request → Type 0
Found place request =
    (place ≡ Some request.client)
    × (IsTrue (is_code_accepted request.door request.packet.code) × (request.proxy_states ≡ proxy_states_size request.packet))

found : (o : Option ℕ) (read : Result Packet Discard) (datagram : Datagram) (request : Request)
    → (ok_or o UnknownClient >>= λ place. (read >>= λ p.
    (refuse_if (not (is_code_accepted datagram.door p.code)) WrongCode >>= λ taken. Ok (request_of datagram place p)))) ≡ Ok request
    → Found o request
found None read datagram request e = absurd (cc)
found (Some place) (Err discard) datagram request e = absurd (cc)
found (Some place) (Ok p) datagram request e = at (is_code_accepted datagram.door p.code) refl e
  where
    at : (b : Bool) → is_code_accepted datagram.door p.code ≡ b
        → (refuse_if (not b) WrongCode >>= λ taken. Ok (request_of datagram place p)) ≡ Ok request → Found (Some place) request
    at false taken e = absurd (cc)
    at true taken e =
        let same : request_of datagram place p ≡ request = cc in
        subst (Found (Some place)) same (refl, (taken, refl))

held : (clients : List Client) (datagram : Datagram) (request : Request) → request_in clients datagram ≡ Ok request
    → Found (client_place clients datagram.source) request
unfolding request_in
held clients datagram request e =
    found (client_place clients datagram.source) (packet_or_discard (packet_of datagram.octets)) datagram request e

last_rungs : (a b c d e : Bool) (checked : Unit {0})
    → (refuse_if a BadAuthenticator >>= λ _. (refuse_if b BadMessageAuthenticator >>= λ _.
    (refuse_if c NoMessageAuthenticator >>= λ _. (refuse_if d NoStatusType >>= λ _. refuse_if e ProxyStateTooLong)))) ≡ Ok checked
    → (d ≡ false) × (e ≡ false)
last_rungs true b c d e checked is = absurd (cc)
last_rungs false true c d e checked is = absurd (cc)
last_rungs false false true d e checked is = absurd (cc)
last_rungs false false false true e checked is = absurd (cc)
last_rungs false false false false e checked is = (refl, refused_not e ProxyStateTooLong checked is)

-- a status is said, and the Proxy-States are short enough
content_fits : (client : Client) (p : Packet) (checked : Unit {0}) → content_checks client p ≡ Ok checked
    → (p.code ≡ 4 → IsTrue (has_len 40 4 p.attributes)) × (proxy_states_size p ≤ proxy_states_max)
unfolding content_checks
content_fits client p checked e =
    let last : (lacks_status_type p ≡ false) × (nat_lt proxy_states_max (proxy_states_size p) ≡ false)
    = last_rungs (has_bad_authenticator client p) (has_bad_message_authenticator client p) (lacks_message_authenticator client p)
    (lacks_status_type p) (nat_lt proxy_states_max (proxy_states_size p)) checked e in (
      λ is. said (p.code == 4) (has_len 40 4 p.attributes) (eq-eqb p.code 4 is) last.0,
      ltb-false proxy_states_max (proxy_states_size p) last.1,
    )
  where
    said : (accounting has_status : Bool) → accounting ≡ true → (accounting && not has_status) ≡ false → IsTrue has_status
    said true true is lacks = refl
    said true false is lacks = absurd (cc)
    said false has_status is lacks = absurd (cc)

both : (clients : List Client) (read : Result Request Discard) (request : Request)
    → (read >>= λ r. (content_checks (client_at clients r.client) r.packet >>= λ checked. Ok r)) ≡ Ok request
    → (read ≡ Ok request) × (content_checks (client_at clients request.client) request.packet ≡ Ok tt)
both clients (Err discard) request e = absurd (cc)
both clients (Ok r) request e = let parts = at (content_checks (client_at clients r.client) r.packet) refl e in
    (ap Ok parts.0, parts.1)
  where
    at : (content : Result (Unit {0}) Discard) → content_checks (client_at clients r.client) r.packet ≡ content
        → (content >>= λ checked. Ok r) ≡ Ok request
        → (r ≡ request) × (content_checks (client_at clients request.client) request.packet ≡ Ok tt)
    at (Err discard) is e = absurd (cc)
    at (Ok checked) is e =
        let same : r ≡ request = cc in
        (same, subst (λ (q : Request). content_checks (client_at clients q.client) q.packet ≡ Ok tt) same is)

pub answerable : (clients : List Client) (request : Request) → IsAdmitted clients request → IsAnswerable clients request
unfolding admission
answerable clients request e =
    let parts = both clients (request_in clients (own_datagram request)) request e in
    let place = held clients (own_datagram request) request parts.0 in
    let content = content_fits (client_at clients request.client) request.packet tt parts.1 in
    record {
      client = (position-Some _ clients request.client (client_at clients 0) place.0).0;
      place = place.0;
      taken = place.1.0;
      status = content.0;
      proxy_states = (place.1.1, content.1);
    }

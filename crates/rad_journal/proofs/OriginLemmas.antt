-- An admitted request is the datagram that it was, if that has no padding.
use Rattle.std.proofs.Common.{◌≡◌, ℕ, Bool, true, false, not, List, Option, Some, None, Result, Ok, Err, refl, sym, ap}
use Rattle.std.specs.Prelude.{ok_or}
use Rattle.rad_packet.specs.Ladders.{◌>>=◌, refuse_if}
use Rattle.rad_packet.specs.Packets.{Packet, packet_octets, packet_of}
use Rattle.rad_packet.specs.declared.packet.ReadFault.{ReadFault}
use Rattle.rad_auth.specs.Admission.{IsAdmitted, admission, content_checks, is_code_accepted, own_datagram, packet_or_discard}
use Rattle.rad_auth.specs.Admission.{request_in, request_of}
use Rattle.rad_auth.specs.Clients.{Client, client_at, client_place}
use Rattle.rad_auth.specs.Datagrams.{Datagram}
use Rattle.rad_auth.specs.declared.arrival.Request.{Request}
use Rattle.rad_auth.specs.declared.discard.Discard.{Discard}
use Rattle.rad_auth.specs.declared.discard.Discard.TheVariants.{UnknownClient, WrongCode}

-- the request is of the datagram's source, port and door, and of the packet that is read
pub record IsOf (datagram : Datagram) (read : Result Packet Discard) (request : Request) : Type 0 where
  pub packet : read ≡ Ok request.packet
  pub source : request.source ≡ datagram.source
  pub port : request.port ≡ datagram.port
  pub door : request.door ≡ datagram.door

read_of : (o : Option ℕ) (read : Result Packet Discard) (datagram : Datagram) (request : Request)
    → (ok_or o UnknownClient >>= λ place.
    (read >>= λ p. (refuse_if (not (is_code_accepted datagram.door p.code)) WrongCode
    >>= λ taken. Ok (request_of datagram place p)))) ≡ Ok request
    → IsOf datagram read request
read_of None read datagram request e = absurd (cc)
read_of (Some place) (Err discard) datagram request e = absurd (cc)
read_of (Some place) (Ok p) datagram request e = at (is_code_accepted datagram.door p.code) e
  where
    at : (b : Bool) → (refuse_if (not b) WrongCode >>= λ taken. Ok (request_of datagram place p)) ≡ Ok request
        → IsOf datagram (Ok p) request
    at false e = absurd (cc)
    at true e =
        let same : request ≡ request_of datagram place p = cc in
        record {
          packet = ap (λ (q : Packet). Ok q) (sym (ap (λ (r : Request). r.packet) same));
          source = ap (λ (r : Request). r.source) same;
          port = ap (λ (r : Request). r.port) same;
          door = ap (λ (r : Request). r.door) same;
        }

held_of : (clients : List Client) (datagram : Datagram) (request : Request) → request_in clients datagram ≡ Ok request
    → IsOf datagram (packet_or_discard (packet_of datagram.octets)) request
unfolding request_in
held_of clients datagram request e =
    read_of (client_place clients datagram.source) (packet_or_discard (packet_of datagram.octets)) datagram request e

first : (clients : List Client) (read : Result Request Discard) (request : Request)
    → (read >>= λ r. (content_checks (client_at clients r.client) r.packet >>= λ checked. Ok r)) ≡ Ok request → read ≡ Ok request
first clients (Err discard) request e = absurd (cc)
first clients (Ok r) request e = at (content_checks (client_at clients r.client) r.packet) e
  where
    at : (content : Result (Unit {0}) Discard) → ◌≡◌ {A = Result Request Discard} (content >>= λ checked. Ok r) (Ok request)
        → ◌≡◌ {A = Result Request Discard} (Ok r) (Ok request)
    at (Err discard) e = absurd (cc)
    at (Ok checked) e = e

pub admitted_of : (clients : List Client) (datagram : Datagram) (request : Request) → admission clients datagram ≡ Ok request
    → IsOf datagram (packet_or_discard (packet_of datagram.octets)) request
unfolding admission
admitted_of clients datagram request e = held_of clients datagram request (first clients (request_in clients datagram) request e)

pub own_again : (clients : List Client) (datagram : Datagram) (request : Request) → admission clients datagram ≡ Ok request
    → packet_octets request.packet ≡ datagram.octets → own_datagram request ≡ datagram
own_again clients datagram request e whole =
    let of = admitted_of clients datagram request e in
    rw (of.source, of.port, of.door, whole) refl

-- the datagram of an admitted request is read as its packet
pub packet_admitted : (clients : List Client) (request : Request) → IsAdmitted clients request
    → packet_of (packet_octets request.packet) ≡ Ok request.packet
packet_admitted clients request admitted =
    at (packet_of (packet_octets request.packet)) (admitted_of clients (own_datagram request) request admitted).packet
  where
    at : (read : Result Packet ReadFault) → packet_or_discard read ≡ Ok request.packet → read ≡ Ok request.packet
    at (Ok packet) is = ap (λ (p : Packet). Ok p) cc
    at (Err fault) is = absurd (cc)

-- Untold: what no line of a log tells of a request.
use Rattle.std.specs.Prelude.{◌≡◌, ℕ, ◌==◌, ◌||◌, Bool, List, [], filter, Option, Ok}
use Rattle.rad_packet.specs.Attributes.{Attribute}
use Rattle.rad_packet.specs.Packets.{Packet, packet_of}
use Rattle.rad_packet.specs.Types.{type_acct_status_type, type_class, type_framed_ip_address, type_user_name}
use Rattle.rad_auth.specs.Clients.{Client}
use Rattle.rad_auth.specs.Datagrams.{Datagram}
use Rattle.rad_round.specs.declared.outcome.Outcome.{Outcome}
use Rattle.rad_watch.specs.Events.{Exchange, told}

-- whether a line may tell something of a request's attributes of a Type
abbrev pub may_be_told : ℕ → Bool
may_be_told kind =
    (kind == type_user_name) || (kind == type_framed_ip_address) || (kind == type_class) || (kind == type_acct_status_type)

-- the attributes of those Types
abbrev pub told_attributes : List Attribute → List Attribute
told_attributes list = filter (λ a. may_be_told a.kind) list

-- the part of a request that may be told: not its other attributes, its Identifier and its Authenticator
abbrev pub told_part : Packet → Packet
told_part packet = record {
  code = packet.code;
  identifier = 0;
  authenticator = [];
  attributes = told_attributes packet.attributes;
}

-- octets that hold packets with the same part that may be told
pub record AreAlike (octets others : List ℕ) : Type 0 where
  pub packet : Packet
  pub other : Packet
  pub holds : packet_of octets ≡ Ok packet
  pub others_hold : packet_of others ≡ Ok other
  pub same : told_part packet ≡ told_part other

-- The same is told of requests that are alike. So no password, no answer and no authenticator has a say in an event.
abbrev pub AlikeAreToldAlike : Type 0
AlikeAreToldAlike = (clients : List Client) (datagram : Datagram) (others : List ℕ) (outcome : Outcome) (exchange : Option Exchange)
    → AreAlike datagram.octets others
    → told clients datagram outcome exchange ≡ told clients (record datagram { octets = others }) outcome exchange

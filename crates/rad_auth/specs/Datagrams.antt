-- A datagram as it came in (RFC 2865, section 3): from a source address and port, to one of the server's two ports.
-- An address is a number below 2 ^ 32, most significant octet first, a port one below 2 ^ 16, and octets are numbers
-- below 256.
use Rattle.std.specs.Prelude.{ℕ, List}
use Rattle.rad_auth.specs.declared.arrival.Arrival.{Arrival}
use Rattle.rad_auth.specs.declared.arrival.Door.{Door}

pub record Datagram : Type 0 where
  pub source : ℕ
  pub port : ℕ
  pub door : Door
  pub octets : List ℕ

-- an arrival, without where its octets are in memory
abbrev pub datagram_of : Arrival → Datagram
datagram_of arrival = record { source = arrival.source; port = arrival.port; door = arrival.door; octets = arrival.octets.now }

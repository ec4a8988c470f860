-- Passages: what passes the ports of a server, in the order in which it passes them.
--
-- A datagram comes from a source to one of the server's two ports, or goes from one of them to an address and a port (RFC 2865,
-- section 3; RFC 2866, section 3). Moments are milliseconds.
use Rattle.std.specs.Prelude.{◌≡◌, ℕ, List, [], ◌∷◌, ◌++◌, take, Option, Some, None, Result, Ok, Err}
use Rattle.rad_auth.specs.Datagrams.{Datagram}
use Rattle.rad_auth.specs.declared.arrival.Door.{Door}
use Rattle.rad_shell.specs.declared.ports.Got.{Got}
use Rattle.rad_shell.specs.declared.ports.PortFault.{PortFault}

-- a datagram that came, and its moment
pub record Came : Type 0 where
  pub datagram : Datagram
  pub moment : ℕ

-- a datagram that went
pub record Went : Type 0 where
  pub door : Door
  pub address : ℕ
  pub port : ℕ
  pub octets : List ℕ

-- what ports tell of: a datagram that was received, one that was handed over to be sent, that none waited, a moment that their
-- clock told, or a fault that they reported
pub data Passage : Type 0 where
  In : Came → Passage
  Out : Went → Passage
  Empty : Passage
  Now : ℕ → Passage
  Fault : Passage

-- Ports told of `before`, then more passed: now they tell of `before` and then more, or of nothing from now on.
abbrev pub HavePassed : List Passage → Option (List Passage) → Option (List Passage) → Type 0
HavePassed more before None = Unit {0}
HavePassed more None (Some after) = ⊥
HavePassed more (Some before) (Some after) = after ≡ before ++ more

-- ---- by one call

-- a datagram that was received, with these octets
abbrev pub came_by : Got → List ℕ → Came
came_by got octets = record {
  datagram = record { source = got.source; port = got.port; door = got.door; octets = octets };
  moment = got.moment;
}

-- what a call received: a datagram, whose octets are at the beginning of the buffer, or none
abbrev pub received : Result (Option Got) PortFault → List ℕ → List Passage
received (Ok (Some got)) buffer = In (came_by got (take got.len buffer)) ∷ []
received (Ok None) buffer = Empty ∷ []
received (Err fault) buffer = Fault ∷ []

-- what a call sent
abbrev pub sent : Result (Unit {0}) PortFault → Went → List Passage
sent (Ok done) went = Out went ∷ []
sent (Err fault) went = Fault ∷ []

-- what a reading of the clock told
abbrev pub clock_told : Option ℕ → List Passage
clock_told None = []
clock_told (Some moment) = Now moment ∷ []

-- how many faults a call reported
abbrev pub reported_by : {A E : Type 0} → Result A E → ℕ
reported_by (Ok done) = 0
reported_by (Err fault) = 1

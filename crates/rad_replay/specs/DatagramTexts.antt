-- The text of a datagram line, without its line feed: `MOMENT DOOR ADDRESS:PORT OCTETS [DRAW]`, where the draw may be missing. A
-- text is a list of octets, which are numbers below 256; a moment is in milliseconds, and an address has its most significant octet
-- first.
use Rattle.std.specs.Prelude.{◌≡◌, ℕ, ◌/◌, ◌%◌, ◌^◌, ◌==◌, ◌<◌, ◌≤◌, if◌then◌else◌, List, [], ◌++◌, length, codes, decimal, Option}
use Rattle.std.specs.Prelude.{Some, None, IfSome}
use Rattle.std.specs.Net.Text.{dotted_text}
use Rattle.hex.specs.Hex.{IsBytes, encode_lower}
use Rattle.rad_packet.specs.Codes.{code_access_challenge}
use Rattle.rad_packet.specs.Packets.{length_max}
use Rattle.rad_auth.specs.declared.arrival.Door.{Door}
use Rattle.rad_auth.specs.declared.arrival.Door.TheVariants.{Auth, Acct}
use Rattle.rad_auth.specs.Datagrams.{Datagram}
use Rattle.rad_config.specs.Spans.{moment_max}
use Rattle.rad_replay.specs.DatagramLines.{TimedDatagram, datagram_of_line}

-- the word for one of the server's ports
abbrev pub door_name : Door → List ℕ
door_name Auth = codes "auth"
door_name Acct = codes "acct"

-- four numbers joined by points
abbrev pub address_text : ℕ → List ℕ
address_text address = dotted_text (address / 2 ^ 24) (address / 2 ^ 16 % 256) (address / 2 ^ 8 % 256) (address % 256)

abbrev pub source_text : Datagram → List ℕ
source_text datagram = address_text datagram.source ++ codes ":" ++ decimal datagram.port

-- two hexadecimal digits an octet, or `-` for no octets
abbrev pub octets_text : List ℕ → List ℕ
octets_text octets = if length octets == 0 then codes "-" else encode_lower octets

-- a space and two hexadecimal digits an octet, or nothing for no draw
abbrev pub draw_text : Option (List ℕ) → List ℕ
draw_text None = []
draw_text (Some draw) = codes " " ++ encode_lower draw

-- the octets of a datagram, and its draw if it has one
abbrev pub content_text : List ℕ → Option (List ℕ) → List ℕ
content_text octets draw = octets_text octets ++ draw_text draw

abbrev pub datagram_text : TimedDatagram → List ℕ
datagram_text timed =
    let datagram = timed.datagram in
    decimal timed.moment ++ codes " " ++ door_name datagram.door ++ codes " " ++ source_text datagram ++ codes " "
    ++ content_text datagram.octets timed.draw

-- the draw that a request's line needs, whose reply has this Code: that of an Access-Challenge, which has it in its State
abbrev pub draw_needed : ℕ → List ℕ → Option (List ℕ)
draw_needed code draw = if code == code_access_challenge then Some draw else None

-- 16 octets
abbrev pub IsDraw : List ℕ → Type 0
IsDraw draw = IsBytes draw × (length draw ≡ 16)

-- A line has room for this datagram: its numbers are in range, it is no longer than a packet, and its draw, if it has one, has 16
-- octets.
pub record FitsLine (timed : TimedDatagram) : Type 0 where
  pub moment : timed.moment ≤ moment_max
  pub source : timed.datagram.source < 2 ^ 32
  pub port : timed.datagram.port < 2 ^ 16
  pub octets : IsBytes timed.datagram.octets
  pub short : length timed.datagram.octets ≤ length_max
  pub draw : IfSome timed.draw IsDraw

-- The text of each datagram that fits a line is read as that datagram, with its moment and its draw.
abbrev pub DatagramTextsAreRead : Type 0
DatagramTextsAreRead = (timed : TimedDatagram) → FitsLine timed → datagram_of_line (datagram_text timed) ≡ Some timed

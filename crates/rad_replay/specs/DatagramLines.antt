-- A datagram line of a transcript: `MOMENT DOOR ADDRESS:PORT OCTETS [DRAW]`, with one space between, where the draw may be missing.
-- A text is a list of octets, which are numbers below 256; a moment is in milliseconds, and an address has its most significant
-- octet first.
use Rattle.std.specs.Prelude.{ℕ, ◌*◌, ◌==◌, ◌||◌, nat_lt, if◌then◌else◌, List, [], length, codes, Option, Some, None}
use Rattle.std.specs.Result.{result_ok}
use lib.Pointwise.{pointwise}
use Rattle.hex.specs.Hex.{decode_of, decode_sized}
use Rattle.rad_packet.specs.Packets.{length_max}
use Rattle.rad_auth.specs.declared.arrival.Door.{Door}
use Rattle.rad_auth.specs.declared.arrival.Door.TheVariants.{Auth, Acct}
use Rattle.rad_auth.specs.Datagrams.{Datagram}
use Rattle.rad_text.specs.Decimals.{◌>>=◌, number_of, address_of}
use Rattle.rad_config.specs.Spans.{moment_max}
use Rattle.rad_text.specs.Splits.{split_once}

-- a datagram, when it came, and its draw if its line has one
pub record TimedDatagram : Type 0 where
  pub moment : ℕ
  pub datagram : Datagram
  pub draw : Option (List ℕ)

unfoldable pub moment_of : List ℕ → Option ℕ
moment_of text = number_of 19 moment_max text

unfoldable pub port_of : List ℕ → Option ℕ
port_of text = number_of 5 65535 text

unfoldable pub door_of : List ℕ → Option Door
door_of text =
    if pointwise ◌==◌ text (codes "auth") then Some Auth
    else if pointwise ◌==◌ text (codes "acct") then Some Acct
    else None

-- 2 to `2 * length_max` hexadecimal digits of either case, an even number of them, or `-` for no octets
unfoldable pub octets_of : List ℕ → Option (List ℕ)
octets_of text =
    if pointwise ◌==◌ text (codes "-") then Some []
    else if nat_lt (length text) 2 || nat_lt (2 * length_max) (length text) then None
    else result_ok (decode_of text)

-- 32 hexadecimal digits of either case
unfoldable pub draw_in : List ℕ → Option (List ℕ)
draw_in text = result_ok (decode_sized text 16)

-- the octets of a datagram alone, or, of a text with a space, the octets before it and the draw after it
abbrev pub content_with : List ℕ → Option (List ℕ × List ℕ) → Option (List ℕ × Option (List ℕ))
content_with text None = do
  octets ← octets_of text
  Some (octets, None)
content_with text (Some fields) = do
  octets ← octets_of fields.0
  draw ← draw_in fields.1
  Some (octets, Some draw)

unfoldable pub content_of : List ℕ → Option (List ℕ × Option (List ℕ))
content_of text = content_with text (split_once 32 text)

unfoldable pub datagram_of_line : List ℕ → Option TimedDatagram
datagram_of_line line = do
  moment ← split_once 32 line
  door ← split_once 32 moment.1
  source ← split_once 32 door.1
  address ← split_once 58 source.0
  m ← moment_of moment.0
  d ← door_of door.0
  a ← address_of address.0
  p ← port_of address.1
  c ← content_of source.1
  Some (record { moment = m; datagram = record { source = a; port = p; door = d; octets = c.0 }; draw = c.1 })

-- What a datagram line is read as.
use Rattle.std.specs.Prelude.{ℕ, List, take}
use Rattle.rad_replay.specs.declared.datagram_line.DatagramLine.{DatagramLine}
use Rattle.rad_replay.specs.DatagramLines.{TimedDatagram}

-- the datagram that was found, whose octets are the first of these
abbrev pub datagram_found : List ℕ → DatagramLine → TimedDatagram
datagram_found octets found =
    record {
      moment = found.moment;
      datagram = record { source = found.source; port = found.port; door = found.door; octets = take found.len octets };
      draw =
          found.draw;
    }

use Rattle.std.proofs.Common.{◌≡◌, ◌++◌, drop}
use Rattle.hex.specs.Hex.{encode_lower}
use Rattle.rad_replay.proofs.datagram_text.push_hex.Given as goal

-- what was written and the text of what is left are the whole text
abbrev pub invariant-loop-octet : goal.invariant-loop-octet
invariant-loop-octet l =
    record { text : l.text.items ++ encode_lower (drop l.octet-index l.octets) ≡ l.fn.text.items ++ encode_lower l.octets }

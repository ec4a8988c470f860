-- Frames: the octets of one packet.
use Rattle.std.specs.Prelude.{ℕ, ◌+◌, List, ◌++◌, length, take, drop}

-- octets with a part in place of as many of them, from a place on
abbrev pub overwritten : ℕ → List ℕ → List ℕ → List ℕ
overwritten place part octets = take place octets ++ part ++ drop (place + length part) octets

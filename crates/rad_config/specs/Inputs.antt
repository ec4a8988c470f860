-- Inputs: the texts that readers give. A text is a list of octets, which are numbers below 256.
use Rattle.std.specs.Prelude.{ℕ, ◌≤◌, List, length, Option}
use Rattle.std.specs.Io.KnownBytes.{Consumes}

-- the most octets of an input
abbrev pub text_max : ℕ
text_max = 16777216

-- a reader gave at most so many octets
abbrev pub GivesAtMost : ℕ → Option (List ℕ) → Option (List ℕ) → Type 0
GivesAtMost most old new = (octets : List ℕ) × Consumes old new octets × (length octets ≤ most)

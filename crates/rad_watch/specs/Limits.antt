-- Limits: how many lines are told.
use Rattle.std.specs.Prelude.{ℕ}

-- the most lines of one kind and client that are told of a second
abbrev pub lines_max : ℕ
lines_max = 20

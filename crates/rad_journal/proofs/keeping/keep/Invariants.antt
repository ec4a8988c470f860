use Rattle.std.proofs.Common.{◌≡◌, ◌++◌, drop}
use Rattle.rad_server.specs.Runs.{fresh_of}
use Rattle.rad_journal.specs.Kept.{kept_of}
use Rattle.rad_journal.proofs.keeping.keep.Given as goal

-- what is kept so far, and what is left to keep
abbrev pub invariant-loop-i : goal.invariant-loop-i
invariant-loop-i l =
    l.kept.items ++ kept_of l.wall (fresh_of l.latest (drop l.i l.history) (drop l.i l.marks))
    ≡ kept_of l.wall (fresh_of l.fn.clock l.history l.marks)

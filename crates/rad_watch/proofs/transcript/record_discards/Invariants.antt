use Rattle.std.proofs.Common.{◌≡◌, ◌++◌, drop}
use Rattle.std.specs.List.{flat_map}
use Rattle.rad_watch.specs.Recordings.{discarded, recorded_line}
use Rattle.rad_watch.proofs.transcript.record_discards.Given as goal

-- what is there, and what is still to come, are all
abbrev pub invariant-loop-i : goal.invariant-loop-i
invariant-loop-i l =
    l.text.items ++ flat_map recorded_line (discarded (drop l.i l.arrivals) (drop l.i l.outcomes))
    ≡ l.fn.text.items ++ flat_map recorded_line (discarded l.arrivals l.outcomes)

use Rattle.std.proofs.Common.{◌≡◌, ◌++◌, take}
use Rattle.std.specs.List.{flat_map}
use Rattle.rad_watch.specs.Recordings.{datagrams_of_entry, recorded_line}
use Rattle.rad_watch.proofs.transcript.record_history.Given as goal

abbrev pub invariant-loop-i : goal.invariant-loop-i
invariant-loop-i l =
    l.text.items ≡ l.fn.text.items ++ flat_map recorded_line (flat_map (datagrams_of_entry l.arrivals) (take l.i l.history))

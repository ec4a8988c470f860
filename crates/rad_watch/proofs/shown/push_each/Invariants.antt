use Rattle.std.proofs.Common.{◌≡◌, ◌++◌, take}
use Rattle.rad_watch.specs.Shown.{shown}
use Rattle.rad_watch.proofs.shown.push_each.Given as goal

abbrev pub invariant-loop-i : goal.invariant-loop-i
invariant-loop-i l =
    record {
      text : l.text.items ≡ l.fn.text.items ++ shown (take l.i l.octets);
    }

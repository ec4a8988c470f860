use Rattle.std.proofs.Common.{◌≡◌, ◌+◌, length}
use Rattle.std.specs.Array.Iter.{array_into_iter_items}
use Rattle.rad_round.specs.Works.{put_lanes}
use Rattle.rad_round.proofs.gather.put_lanes.Given as goal

abbrev pub invariant-loop-outcome : goal.invariant-loop-outcome
invariant-loop-outcome l = record {
  place : l.place + length (array_into_iter_items l.lanes) ≡ l.first + 8;
  put : put_lanes (array_into_iter_items l.lanes) l.place l.places ≡ put_lanes l.fn.outcomes l.first l.initial.places;
}

abbrev pub decreases-loop-outcome : goal.decreases-loop-outcome
decreases-loop-outcome l = length (array_into_iter_items l.lanes)

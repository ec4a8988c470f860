use Rattle.std.proofs.Common.{ℕ, ◌<◌, ◌≤◌}
use Rattle.rad_md5.specs.Blocks.{block_count}
use Rattle.rad_md5.specs.Lanes.{HaveAtMost, lane_message}
use Rattle.rad_md5.proofs.digest.most_blocks.Given as goal

abbrev pub invariant-lanes : goal.invariant-lanes
invariant-lanes l = ((k : ℕ) → k < l.j → block_count (lane_message l.messages l.places k) ≤ l.most)
    × ((n : ℕ) → HaveAtMost n l.messages l.places → l.most ≤ n)

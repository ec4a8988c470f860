use Rattle.std.proofs.Common.{◌≡◌, ℕ, ◌<◌, ◌≤◌, [], length, slice_index_or}
use Rattle.rad_md5.specs.Blocks.{block_at, block_count}
use Rattle.rad_md5.specs.Lanes.{HasEnded, IsLive, lane_message}
use Rattle.rad_md5.proofs.block.next_blocks.Given as goal

abbrev pub invariant-lanes : goal.invariant-lanes
invariant-lanes l = (length l.live ≡ 8) × (length l.blocks ≡ 8)
    × ((k : ℕ) → k < l.j → l.n < block_count (lane_message l.messages l.places k)
    → (IsLive l.live k) × (slice_index_or l.blocks k [] ≡ block_at (lane_message l.messages l.places k) l.n))
    × ((k : ℕ) → k < l.j → block_count (lane_message l.messages l.places k) ≤ l.n → HasEnded l.live k)

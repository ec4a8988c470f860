use Rattle.std.proofs.Common.{◌≡◌, ℕ, ◌<◌, List, [], slice_index, slice_index_or}
use Rattle.rad_md5.specs.Lanes.{AreWanted}
use Rattle.rad_md5.proofs.digest.place_digests.Given as goal

abbrev pub invariant-lanes : goal.invariant-lanes
invariant-lanes l = ((wanted : ℕ → List ℕ) → AreWanted l.made l.places wanted
    → (i : ℕ) → slice_index_or l.initial.digests i [] ≡ wanted i → slice_index_or l.digests i [] ≡ wanted i)
    × ((wanted : ℕ → List ℕ) → AreWanted l.made l.places wanted
    → (k : ℕ) → k < l.j → slice_index_or l.digests (slice_index l.places k) [] ≡ wanted (slice_index l.places k))

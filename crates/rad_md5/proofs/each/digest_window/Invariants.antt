use Rattle.std.proofs.Common.{ℕ, ◌<◌, ◌*◌, length, min, slice_index}
use Rattle.rad_md5.specs.Pieces.{IsDigested}
use Rattle.rad_md5.proofs.each.digest_window.Given as goal

abbrev pub invariant-groups : goal.invariant-groups
invariant-groups l = (k : ℕ) → k < min (length l.messages) (8 * l.i) → IsDigested l.messages l.digests (slice_index l.places k)

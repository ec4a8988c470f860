use Rattle.std.proofs.Common.{◌≡◌, ℕ, ◌<◌, length, slice_index}
use Rattle.rad_md5.proofs.each.in_order.Given as goal

abbrev pub invariant-places : goal.invariant-places
invariant-places l = (length l.places ≡ 64) × ((m : ℕ) → m < l.k → slice_index l.places m ≡ m)

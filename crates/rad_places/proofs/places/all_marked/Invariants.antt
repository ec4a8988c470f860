use Rattle.std.proofs.Common.{◌≡◌, ℕ, ◌*◌, ◌<◌, ◌≤◌, length}
use Rattle.rad_places.specs.Marks.{marked}
use Rattle.rad_places.proofs.places.all_marked.Given as goal

abbrev pub invariant-loop-place : goal.invariant-loop-place
invariant-loop-place l = record {
  enough : l.count ≤ 64 * length l.marks;
  chosen : (i : ℕ) → i < l.place → marked l.marks i ≡ 1;
  others : (i : ℕ) → l.place ≤ i → marked l.marks i ≡ 0;
}

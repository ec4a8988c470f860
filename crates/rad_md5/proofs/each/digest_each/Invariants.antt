use Rattle.std.proofs.Common.{◌≡◌, ◌*◌, length, take, map, min}
use Rattle.rad_md5.specs.Pieces.{digest}
use Rattle.rad_md5.proofs.each.digest_each.Given as goal

abbrev pub invariant-windows : goal.invariant-windows
invariant-windows l =
    take (min (length l.messages) (64 * l.i)) l.digests ≡ map digest (take (min (length l.messages) (64 * l.i)) l.messages)

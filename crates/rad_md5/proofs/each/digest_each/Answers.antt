use Rattle.std.proofs.Common.{◌≡◌, ◌+◌, ◌-◌, ◌*◌, min, length, arith}
use Rattle.rad_md5.proofs.DigestLemmas.{digests_grow}
use Rattle.rad_md5.proofs.each.digest_each.Goals as goal

pub windows-preserved : goal.windows-preserved
windows-preserved c =
    let all = length c.args.messages.now in
    let from = 64 * c.windows.i in
    let n = c.min-end.result - from in
    let begun : min all from ≡ from = omega (arith, c.windows-test.true, c.div_ceil-windows.ensures) in
    let to : min all (64 * (c.windows.i + 1)) ≡ from + n = omega (arith, c.min-end.ensures, begun) in
    rw to (digests_grow c.args.messages.now c.windows.digests c.digest_window.new.digests from n
    (omega (arith, c.windows.auto.digests, c.requires)) (omega (arith, c.min-end.ensures, begun)) (rw begun at c.windows.invariant)
    c.digest_window.ensures)

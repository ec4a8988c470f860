use Rattle.std.proofs.Common.{◌≡◌, ◌+◌, ◌-◌, ◌++◌, length, take, drop, ap, arith}
use Rattle.std.proofs.lemmas.List.{length-drop, length-take-le}
use Rattle.rad_md5.proofs.BlockLemmas.{skip_slice, put_slice}
use Rattle.rad_md5.proofs.block.put.Goals as goal

pub returns-then-slice-skip-clause-octets : goal.returns-then-slice-skip-clause-octets
returns-then-slice-skip-clause-octets c = λ rest.
    ap (λ others. take c.args.at c.args.block.now ++ others)
    (skip_slice c.args.slice.now rest c.args.skip (64 - c.args.at) c.if-slice-skip.true)

pub returns-clause-octets : goal.returns-clause-octets
returns-clause-octets c = λ rest.
    let s = c.args.slice.now in
    let skip = c.args.skip in
    let len = c.min-len.result in
    let size = length-drop skip s in
    let least = c.min-len.ensures in
    let same : skip + len - skip ≡ len = omega arith in
    let count : length (take len (drop skip s)) ≡ len = length-take-le len (drop skip s) (omega (arith, least, size)) in
    put_slice c.args.block.now _ s rest c.args.at skip len c.requires c.if-slice-skip.false
    (λ short. omega (arith, least, size)) (λ long. omega (arith, least, size)) (rw (same, count) at c.write.ensures)

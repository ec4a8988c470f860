use Rattle.std.proofs.Common.{arith}
use Rattle.rad_md5.specs.Pieces.{message}
use Rattle.rad_md5.proofs.BlockLemmas.{padded_length}
use Rattle.rad_md5.proofs.block.block_count.Goals as goal

pub returns : goal.returns
returns c =
    let whole = padded_length (message c.args.pieces.now) in
    omega (arith, whole, c.len.ensures.value, c.len.ensures.bound)

use Rattle.std.proofs.Common.{◌≡◌, ◌-◌, ◌*◌, ◌∙◌, length, take, drop, min, arith}
use Rattle.rad_md5.specs.Pieces.{message}
use Rattle.rad_md5.proofs.BlockLemmas.{message_block, padded_block, padded_length, put_all, put_count}
use Rattle.rad_md5.proofs.PieceLemmas.{five_put}
use Rattle.rad_md5.proofs.block.fill.Goals as goal
use Rattle.rad_md5.proofs.block.fill.Goals.{After-put-at-5}

-- what the five slices put into the block
five_slices : (c : After-put-at-5)
    → take 64 (drop (c.args.n * 64) (message c.args.pieces.now)) ≡ take c.put-at-5.result.0 c.put-at-5.new.block
five_slices c =
    put_all (message c.args.pieces.now) c.put-at-5.new.block (c.args.n * 64) c.put-at-5.result.0 c.put-at-5.result.1
    c.put-at-5.array_long c.put-at-5.ensures.place
    (five_put c.slices.result.now c.args.pieces.now (c.args.n * 64)
    c.args.block.now c.put-at.new.block c.put-at-2.new.block c.put-at-3.new.block c.put-at-4.new.block c.put-at-5.new.block
    c.put-at.result.0 c.put-at.result.1 c.put-at-2.result.0 c.put-at-2.result.1 c.put-at-3.result.0 c.put-at-3.result.1
    c.put-at-4.result.0 c.put-at-4.result.1 c.put-at-5.result.0 c.put-at-5.result.1
    c.slices.ensures.five c.slices.ensures.value c.put-at.ensures.octets c.put-at-2.ensures.octets c.put-at-3.ensures.octets
    c.put-at-4.ensures.octets c.put-at-5.ensures.octets)

-- and how many octets they put
count_put : (c : After-put-at-5) → c.put-at-5.result.0 ≡ min 64 (length (message c.args.pieces.now) - c.args.n * 64)
count_put c =
    put_count (message c.args.pieces.now) c.put-at-5.new.block (c.args.n * 64) c.put-at-5.result.0
    c.put-at-5.array_long c.put-at-5.ensures.place (five_slices c)

pub overflow_mul-n : goal.overflow_mul-n
overflow_mul-n c =
    omega (arith, c.requires, padded_length (message c.args.pieces.now), c.len-len.ensures.value, c.len-len.ensures.bound)

pub pad-requires-clause-begun : goal.pad-requires-clause-begun
pad-requires-clause-begun c = λ inside.
    omega (
      arith,
      inside,
      count_put (goal.at.pad-requires-clause-begun c).After-put-at-5,
      c.if-at-lt-BLOCK_LEN.true,
      c.len-len.ensures.value,
    )

pub pad-requires-clause-over : goal.pad-requires-clause-over
pad-requires-clause-over c = λ past.
    omega (
      arith,
      past,
      count_put (goal.at.pad-requires-clause-over c).After-put-at-5,
      c.if-at-lt-BLOCK_LEN.true,
      c.len-len.ensures.value,
    )

pub returns-then-at-lt-BLOCK_LEN : goal.returns-then-at-lt-BLOCK_LEN
returns-then-at-lt-BLOCK_LEN c =
    rw c.len-len.ensures.value at c.pad.ensures
    ∙ padded_block (message c.args.pieces.now) c.put-at-5.new.block c.args.n c.put-at-5.result.0
    c.put-at-5.array_long c.if-at-lt-BLOCK_LEN.true (five_slices (goal.at.returns-then-at-lt-BLOCK_LEN c).After-put-at-5)

pub returns-else-at-lt-BLOCK_LEN : goal.returns-else-at-lt-BLOCK_LEN
returns-else-at-lt-BLOCK_LEN c =
    message_block (message c.args.pieces.now) c.put-at-5.new.block c.args.n c.put-at-5.result.0
    c.put-at-5.array_long (omega (arith, c.if-at-lt-BLOCK_LEN.false, c.put-at-5.ensures.place))
    (five_slices (goal.at.returns-else-at-lt-BLOCK_LEN c).After-put-at-5)

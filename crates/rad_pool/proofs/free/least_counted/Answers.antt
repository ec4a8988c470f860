use Rattle.std.proofs.Common.{◌∙◌, arith, sym}
use Rattle.std.proofs.lemmas.Bool.{ltb-false}
use Rattle.rad_pool.proofs.DeadLemmas.{none_least, some_least}
use Rattle.rad_pool.proofs.free.least_counted.Goals as goal

pub returns-then-len-place : goal.returns-then-len-place
returns-then-len-place c =
    none_least c.args.rows.now.spans c.args.now c.args.rows.now.rows c.args.pool.now c.args.places.now c.least_freed-place.result
    c.requires.counted c.requires.first c.requires.len c.least_freed-place.ensures
    (omega (arith, c.if-len-place.true, c.len.ensures))

pub returns : goal.returns
returns c =
    some_least c.args.rows.now.spans c.args.now c.args.rows.now.rows c.args.pool.now c.args.places.now c.least_freed-place.result
    c.requires.counted c.requires.first c.requires.len c.least_freed-place.ensures
    (omega (arith, c.if-len-place.false, c.len.ensures)) (ltb-false 1 _ (sym c.is_shared.ensures ∙ c.if-is_shared.false))

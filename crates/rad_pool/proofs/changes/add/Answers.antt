use Rattle.std.proofs.Common.{arith}
use Rattle.rad_pool.proofs.CountLemmas.{rows_granted}
use Rattle.rad_pool.proofs.PlaceLemmas.{low_uses}
use Rattle.rad_pool.proofs.changes.add.Goals as goal

pub come-requires-clause-pools : goal.come-requires-clause-pools
come-requires-clause-pools c =
    low_uses c.args.rows.now.rows c.args.counts.now c.requires.counts.holds.pools
    (omega (arith, c.numbers_rise.ensures.few, c.numbers_rise.ensures.fits, c.requires.number))

pub returns-clause-counts : goal.returns-clause-counts
returns-clause-counts c =
    rows_granted c.args.rows.now c.push.new.self c.args.session c.args.counts.now c.come.new.self c.requires.counts c.requires.phase
    (omega (arith, c.numbers_rise.ensures.few, c.numbers_rise.ensures.fits, c.requires.number))
    c.push.ensures.rows c.push.ensures.room c.come.ensures

use Rattle.std.proofs.Common.{arith}
use Rattle.std.proofs.lemmas.Grind.{common_steps}
use Rattle.std.proofs.lemmas.List.Edits.{map_over_more}
use Rattle.rad_pool.specs.Counts.{places_left}
use Rattle.rad_pool.proofs.counts.leave_pools.Goals as goal

pub loop-places-preserved : goal.loop-places-preserved
loop-places-preserved c = grind (arith, common_steps, map_over_more (places_left c.args.address))

use Rattle.std.proofs.Common.{arith}
use Rattle.std.proofs.lemmas.Grind.{common_steps}
use Rattle.std.proofs.lemmas.List.Edits.{map_over_more}
use Rattle.rad_pool.specs.Counts.{places_come}
use Rattle.rad_pool.proofs.counts.come_to_pools.Goals as goal

pub loop-places-preserved : goal.loop-places-preserved
loop-places-preserved c = grind (arith, common_steps, map_over_more (places_come c.args.address c.args.number))

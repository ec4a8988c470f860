use Rattle.std.proofs.Common.{[], All, ap, subst, sym}
use Rattle.std.proofs.lemmas.List.Elements.{All-push}
use Rattle.rad_places.specs.Places.{SeenPlaces}
use Rattle.rad_pool.specs.Counts.{IsCounted}
use Rattle.rad_pool.proofs.PlaceLemmas.{none_counted}
use Rattle.rad_pool.proofs.counts.open_pools.Goals as goal

pub loop-pool-preserved : goal.loop-pool-preserved
loop-pool-preserved c =
    subst (All (IsCounted [])) (sym c.in_ok-push.ensures.items)
    (All-push (IsCounted []) c.loop-pool.counted.items c.in_ok-places.places c.loop-pool.invariant
    (none_counted c.in_ok-places.places _ (ap (λ (places : SeenPlaces). places.uses) c.in_ok-places.ensures)))

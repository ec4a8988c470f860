-- The room of the chains of open sessions: all that contracts say of them.
use Rattle.std.specs.Prelude.{◌<◌, ◌≤◌}
use Rattle.indexmap.specs.IndexMap.{spare}
use Rattle.rad_pool.specs.declared.links.Links.{Links}

-- there is room for one more session
pub record HasLinkRoom (links : Links) : Type 0 where
  pub newest : 0 < spare links.newest
  pub neighbours : 0 < spare links.neighbours

-- there is as much room as there was
pub record KeepsLinkRoom (old new : Links) : Type 0 where
  pub newest : spare old.newest ≤ spare new.newest
  pub neighbours : spare old.neighbours ≤ spare new.neighbours

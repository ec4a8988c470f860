use Rattle.std.proofs.Common.{◌≡◌, ◌+◌, length, drop}
use Rattle.std.specs.Prelude.{All}
use Rattle.toml.specs.View.{items_view}
use Rattle.rad_config.specs.Configurations.{pool_in}
use Rattle.rad_config.specs.Entries.{entries_from}
use Rattle.rad_config.specs.Ranges.{IsPool}
use Rattle.rad_config.specs.Readers.{pools_from}
use Rattle.rad_config_fault.specs.declared.config_fault.Part.TheVariants as part
use Rattle.rad_config.proofs.lists.pools_from.Given as goal

-- the pools so far, and those that the other entries are, are those of all the entries
abbrev pub invariant-loop-place : goal.invariant-loop-place
invariant-loop-place l =
    record {
      one_each : length l.pools.items ≡ l.place;
      as_all : entries_from part.Pool pool_in (l.place + 1) l.pools.items (items_view (drop l.place l.items))
          ≡ pools_from (items_view l.items);
      ranges : All IsPool l.pools.items;
    }

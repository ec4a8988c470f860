use Rattle.std.proofs.Common.{◌≡◌, ◌+◌, length, drop}
use Rattle.std.specs.Prelude.{All}
use Rattle.toml.specs.View.{items_view}
use Rattle.rad_config.specs.Configurations.{share_in}
use Rattle.rad_config.specs.Entries.{entries_from}
use Rattle.rad_config.specs.Ranges.{HasShare}
use Rattle.rad_config.specs.Readers.{shares_from}
use Rattle.rad_config_fault.specs.declared.config_fault.Part.TheVariants as part
use Rattle.rad_config.proofs.lists.shares_from.Given as goal

-- the shares so far, and those that the other entries say, are those of all the entries
abbrev pub invariant-loop-place : goal.invariant-loop-place
invariant-loop-place l =
    record {
      one_each : length l.shares.items ≡ l.place;
      as_all : entries_from part.Client share_in (l.place + 1) l.shares.items (items_view (drop l.place l.items))
          ≡ shares_from (items_view l.items);
      ranges : All HasShare l.shares.items;
    }

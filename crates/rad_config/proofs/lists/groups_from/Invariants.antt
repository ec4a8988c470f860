use Rattle.std.proofs.Common.{◌≡◌, ◌+◌, length, drop}
use Rattle.std.specs.Prelude.{All}
use Rattle.toml.specs.View.{items_view}
use Rattle.rad_config.specs.Configurations.{group_in}
use Rattle.rad_config.specs.Entries.{entries_from}
use Rattle.rad_config.specs.Ranges.{IsGroup}
use Rattle.rad_config.specs.ReadEntries.{groups_seen}
use Rattle.rad_config.specs.Readers.{groups_from}
use Rattle.rad_config_fault.specs.declared.config_fault.Part.TheVariants as part
use Rattle.rad_config.proofs.lists.groups_from.Given as goal

-- the groups so far, and those that the other entries are, are those of all the entries
abbrev pub invariant-loop-place : goal.invariant-loop-place
invariant-loop-place l =
    record {
      one_each : length (groups_seen l.groups.items) ≡ l.place;
      as_all : entries_from part.Group (group_in l.pools) (l.place + 1) (groups_seen l.groups.items)
          (items_view (drop l.place l.items)) ≡ groups_from l.pools (items_view l.items);
      ranges : All (IsGroup (length l.pools)) (groups_seen l.groups.items);
    }

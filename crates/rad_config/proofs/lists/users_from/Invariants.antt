use Rattle.std.proofs.Common.{◌≡◌, ◌+◌, length, drop}
use Rattle.std.specs.Prelude.{All}
use Rattle.toml.specs.View.{items_view}
use Rattle.rad_config.specs.Configurations.{user_in}
use Rattle.rad_config.specs.Entries.{entries_from}
use Rattle.rad_config.specs.Ranges.{IsUser}
use Rattle.rad_config.specs.ReadEntries.{groups_seen}
use Rattle.rad_config.specs.Readers.{users_from}
use Rattle.rad_config_fault.specs.declared.config_fault.Part.TheVariants as part
use Rattle.rad_config.proofs.lists.users_from.Given as goal

-- the users so far, and those that the other entries are, are those of all the entries
abbrev pub invariant-loop-place : goal.invariant-loop-place
invariant-loop-place l =
    record {
      one_each : length l.users ≡ l.place;
      as_all : entries_from part.User (user_in l.pools (groups_seen l.groups)) (l.place + 1) l.users
          (items_view (drop l.place l.items)) ≡ users_from l.pools (groups_seen l.groups) (items_view l.items);
      ranges : All (IsUser (length l.pools)) l.users;
    }

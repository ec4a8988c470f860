use Rattle.std.proofs.Common.{◌≡◌, ◌+◌, length, drop}
use Rattle.toml.specs.View.{items_view}
use Rattle.rad_config.specs.Configurations.{client_in}
use Rattle.rad_config.specs.Entries.{entries_from}
use Rattle.rad_config.specs.Readers.{clients_from}
use Rattle.rad_config_fault.specs.declared.config_fault.Part.TheVariants as part
use Rattle.rad_config.proofs.lists.clients_from.Given as goal

-- the clients so far, and those that the other entries are, are those of all the entries
abbrev pub invariant-loop-place : goal.invariant-loop-place
invariant-loop-place l =
    record {
      one_each : length l.clients ≡ l.place;
      as_all : entries_from part.Client client_in (l.place + 1) l.clients (items_view (drop l.place l.items))
          ≡ clients_from (items_view l.items);
    }

-- How many entries a part of a configuration may have.
use Rattle.std.specs.Prelude.{ℕ}
use Rattle.rad_auth.specs.Clients.{clients_max}
use Rattle.rad_config.specs.Configurations.{groups_max, pools_max, users_max}
use Rattle.rad_config_fault.specs.declared.config_fault.Part.{Part}
use Rattle.rad_config_fault.specs.declared.config_fault.Part.TheVariants as parts

abbrev pub most_of : Part → ℕ
most_of parts.Top = 0
most_of parts.Client = clients_max
most_of parts.Pool = pools_max
most_of parts.User = users_max
most_of parts.Group = groups_max

-- Octets in memory, which one value has or several share.
use Rattle.std.specs.Prelude.{ℕ, List}
use Rattle.std.specs.Arc.{arc_value}
use Rattle.rad_packet.specs.declared.octets.Store.{Store}
use Rattle.rad_packet.specs.declared.octets.Store.TheVariants.{Own, Shared}

-- the octets, whoever has them
abbrev pub stored : Store → List ℕ
stored (Own octets) = octets.items
stored (Shared octets) = (arc_value octets).items

use Rattle.std.proofs.Common.{rules}
use Rattle.rad_config.specs.Ranges.{IsGroup}
use Rattle.rad_config.specs.ReadEntries.{group_seen}
use Rattle.rad_config.proofs.GroupLemmas.{All-mapped}
use Rattle.rad_config.proofs.read_group.group_of.Goals as goal

pub returns-clause-range : goal.returns-clause-range
returns-clause-range c = λ pools all.
    All-mapped (IsGroup pools) group_seen c.args.groups.now c.in_ok-place.place c.index-groups-place.result (search rules)
    c.index-groups-place.is all

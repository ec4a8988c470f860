use Rattle.std.proofs.Common.{length, rules}
use Rattle.rad_config.specs.Entries.{and_entry}
use Rattle.rad_config.specs.Ranges.{IsGroup}
use Rattle.rad_config.specs.ReadEntries.{group_seen, groups_seen}
use Rattle.rad_config.proofs.EntryLemmas.{All-push}
use Rattle.rad_config.proofs.UserLemmas.{map-push}
use Rattle.rad_config.proofs.lists.add_group.Goals as goal

pub returns-clause-read : goal.returns-clause-read
unfolding and_entry
returns-clause-read c =
    let pushed = map-push group_seen c.args.groups.now.items c.in_ok-group.group in
    search (rules, pushed)

pub returns-clause-range : goal.returns-clause-range
returns-clause-range c =
    let pushed = map-push group_seen c.args.groups.now.items c.in_ok-group.group in
    let range = All-push (IsGroup (length c.args.pools.now)) (groups_seen c.args.groups.now.items) (group_seen c.in_ok-group.group)
    c.requires.range c.in_ok-group.ensures.range in
    search (rules, pushed, range)

use Rattle.std.proofs.Common.{◌≡◌, length, rules}
use Rattle.rad_config.specs.Ranges.{IsUser}
use Rattle.rad_config.specs.ReadEntries.{entry_user}
use Rattle.rad_config.proofs.EntryLemmas.{All-push}
use Rattle.rad_config.proofs.lists.add_user.Goals as goal

pub returns-clause-range : goal.returns-clause-range
returns-clause-range c =
    let is : c.in_ok-user.user ≡ entry_user c.in_ok-said.said = search rules in
    let range = All-push (IsUser (length c.args.beside.now.pools.now)) c.args.users.now c.in_ok-user.user c.requires.range
    (rw is c.in_ok-said.ensures.range) in
    search (rules, range)

use Rattle.std.proofs.Common.{rules}
use Rattle.rad_dictionary.specs.Meant.{IsGrantable}
use Rattle.rad_dictionary.specs.Seen.{attribute_seen}
use Rattle.rad_config.proofs.EntryLemmas.{All-push}
use Rattle.rad_config.proofs.read_reply.add_attribute.Goals as goal

pub returns-clause-range : goal.returns-clause-range
returns-clause-range c =
    let range = All-push IsGrantable c.args.body.now.attributes (attribute_seen c.in_ok-meant.meant) c.requires
    c.in_ok-meant.ensures.range in
    search (rules, range)

use Rattle.std.proofs.Common.{◌∙◌, sym}
use Rattle.std.specs.Str.{bytes_eq}
use Rattle.rad_config.specs.Profiles.{Group}
use Rattle.rad_config.specs.ReadEntries.{group_seen}
use Rattle.rad_config.proofs.UserLemmas.{position-map}
use Rattle.rad_config.proofs.read_group.place_of.Goals as goal

pub returns-clause-value : goal.returns-clause-value
returns-clause-value c =
    c.place_by.ensures.value
    ∙ sym (position-map (λ (group : Group). bytes_eq c.args.name.now group.name) group_seen c.args.groups.now)

use Rattle.std.proofs.Common.{◌∙◌, sym}
use Rattle.rad_recent.specs.Challenges.{has_state}
use Rattle.rad_recent.proofs.ChallengeLemmas.{none_removed, removed_is}
use Rattle.rad_recent.proofs.answers.remove.Goals as goal

pub returns-in-Some-clause-rows : goal.returns-in-Some-clause-rows
returns-in-Some-clause-rows c =
    c.remove.ensures.rows
    ∙ removed_is c.args.state.now c.args.client c.args.rows.now.last c.in-Some.challenge c.args.rows.now.rows
    c.numbers_rise.ensures.rising.rising c.numbers_rise.ensures.rising.given c.numbers_rise.ensures.fits
    (sym c.requires ∙ c.in-Some.is)

pub returns-in_default-clause-rows : goal.returns-in_default-clause-rows
returns-in_default-clause-rows c =
    sym (none_removed (has_state c.args.state.now c.args.client) c.args.rows.now.rows (sym c.requires ∙ c.in_default.is))

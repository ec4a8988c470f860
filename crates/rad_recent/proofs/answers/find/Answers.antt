use Rattle.std.proofs.Common.{◌∙◌, ◌&&◌, ap, sym}
use Rattle.rad_recent.specs.Challenges.{has_state, is_challenge_live}
use Rattle.rad_recent.proofs.ChallengeLemmas.{find_absent, find_here, find_nothing, find_other}
use Rattle.rad_recent.proofs.answers.find.Goals as goal

pub returns-in_default : goal.returns-in_default
returns-in_default c =
    find_nothing c.args.rows.now.spans c.args.now c.args.state.now c.args.client c.args.rows.now.last c.args.rows.now.rows
    c.numbers_rise.ensures.rising.given c.numbers_rise.ensures.fits c.number_of.result c.number_of.ensures c.in_default.is

pub returns-in_default-get : goal.returns-in_default-get
returns-in_default-get c =
    find_absent c.args.rows.now.spans c.args.now c.args.state.now c.args.client c.args.rows.now.last c.args.rows.now.rows
    c.numbers_rise.ensures.rising.given c.numbers_rise.ensures.fits c.number_of.result c.number_of.ensures
    c.in-Some.number c.in-Some.is (sym c.in_default-get.ensures)

pub returns-then-not-is_answered : goal.returns-then-not-is_answered
returns-then-not-is_answered c =
    find_other c.args.rows.now.spans c.args.now c.args.state.now c.args.client c.args.rows.now.last c.args.rows.now.rows
    c.numbers_rise.ensures.rising.given c.numbers_rise.ensures.fits c.number_of.result c.number_of.ensures
    c.in-Some.number c.in-Some.is c.in-Some-get.row.now c.numbers_rise.ensures.rising.rising (sym c.in-Some-get.ensures)
    (sym (ap (λ h. is_challenge_live h c.args.now c.in-Some-get.row.now
    && has_state c.args.state.now c.args.client c.in-Some-get.row.now) c.spans.ensures) ∙ sym c.is_answered.ensures
    ∙ c.if-not-is_answered.true)

pub returns : goal.returns
returns c =
    find_here c.args.rows.now.spans c.args.now c.args.state.now c.args.client c.args.rows.now.last c.args.rows.now.rows
    c.numbers_rise.ensures.rising.given c.numbers_rise.ensures.fits c.number_of.result c.number_of.ensures
    c.in-Some.number c.in-Some.is c.in-Some-get.row.now (sym c.in-Some-get.ensures)
    (sym (ap (λ h. is_challenge_live h c.args.now c.in-Some-get.row.now
    && has_state c.args.state.now c.args.client c.in-Some-get.row.now) c.spans.ensures) ∙ sym c.is_answered.ensures
    ∙ c.if-not-is_answered.false)

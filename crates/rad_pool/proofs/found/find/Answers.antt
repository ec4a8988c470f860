use Rattle.std.proofs.Common.{◌∙◌, sym}
use Rattle.rad_pool.proofs.CountLemmas.{meant_found, meant_none}
use Rattle.rad_pool.proofs.found.find.Goals as goal

pub returns-in-None : goal.returns-in-None
returns-in-None c = meant_none c.args.client c.args.number c.args.rows.now.rows (sym c.in-None.ensures)

pub returns-in-Some : goal.returns-in-Some
returns-in-Some c =
    c.number_for.ensures
    ∙ meant_found c.args.client c.args.number c.args.rows.now.rows c.in-Some.session.now c.numbers_rise.ensures.rising.rising
    (sym c.in-Some.ensures)

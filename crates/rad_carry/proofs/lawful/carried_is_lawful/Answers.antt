use Rattle.rad_carry.proofs.LawLemmas.{carried_lawful}
use Rattle.rad_carry.proofs.SameLemmas.{carried_same, none_left_out}
use Rattle.rad_carry.proofs.lawful.carried_is_lawful.Goals as goal

pub returns-clause-lawful : goal.returns-clause-lawful
returns-clause-lawful c = carried_lawful c.lawful_steps.ensures.opening c.lawful_steps.ensures.passing c.rows_rebuild.ensures.law

pub returns-clause-same : goal.returns-clause-same
returns-clause-same c = carried_same c.rows_rebuild.ensures.rebuilt

pub returns-clause-none : goal.returns-clause-none
returns-clause-none c = none_left_out (carried_same c.rows_rebuild.ensures.rebuilt)

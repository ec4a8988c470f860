use Rattle.std.proofs.Common.{◌∙◌, sym}
use Rattle.rad_pool.proofs.HolderLemmas.{none_held, one_held}
use Rattle.rad_pool.proofs.holder.holder_of.Goals as goal

pub returns-then-uses-eq0 : goal.returns-then-uses-eq0
returns-then-uses-eq0 c =
    none_held c.args.address c.args.rows.now.rows (sym (c.uses-uses.ensures c.args.rows.now.rows c.requires) ∙ c.if-uses-eq0.true)

pub returns-then-has_address : goal.returns-then-has_address
returns-then-has_address c =
    one_held c.args.address c.uses-uses.result.last c.in-Some.session.now c.args.rows.now.rows
    (sym c.in-Some.ensures) (sym c.has_address.ensures ∙ c.if-has_address.true)
    (sym (c.uses-uses.ensures c.args.rows.now.rows c.requires) ∙ c.if-uses-eq1.true)

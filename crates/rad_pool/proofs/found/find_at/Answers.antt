use Rattle.std.proofs.Common.{◌∙◌, [], ◌∷◌}
use Rattle.rad_pool.proofs.HolderLemmas.{meant_held}
use Rattle.rad_pool.proofs.found.find_at.Goals as goal

pub returns-in-Nobody : goal.returns-in-Nobody
returns-in-Nobody c =
    meant_held c.args.client c.args.address c.args.name c.args.rows.now.rows [] (rw c.in-Nobody.is at c.holder_of.ensures)

pub returns-in-One : goal.returns-in-One
returns-in-One c =
    c.number_if_wanted.ensures
    ∙ meant_held c.args.client c.args.address c.args.name c.args.rows.now.rows (c.in-One.session.now ∷ [])
    (rw c.in-One.is at c.holder_of.ensures)

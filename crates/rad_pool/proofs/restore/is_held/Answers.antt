use Rattle.rad_pool.proofs.HolderLemmas.{held_once, not_held}
use Rattle.rad_pool.proofs.restore.is_held.Goals as goal

pub returns-in-Nobody : goal.returns-in-Nobody
returns-in-Nobody c = not_held c.args.address c.args.rows.now.rows (rw c.in-Nobody.is at c.holder_of.ensures)

pub returns-in-One : goal.returns-in-One
returns-in-One c = held_once c.args.address c.in-One.field-0.now c.args.rows.now.rows (rw c.in-One.is at c.holder_of.ensures)

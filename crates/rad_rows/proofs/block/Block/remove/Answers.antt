use Rattle.std.proofs.lemmas.List.Elements.{All-filter}
use Rattle.rad_rows.specs.Blocks.{LivesUntil}
use Rattle.rad_rows.specs.Rows.{has_other}
use Rattle.rad_rows.proofs.block.Block.remove.Goals as goal

pub invariant_of-self : goal.invariant_of-self
invariant_of-self g c =
    rw c.remove.ensures.items (All-filter (has_other g.T.Row.number c.args.number)
    (LivesUntil g.T.Row.is_live c.self.inside.spans c.self.inside.bound) c.self.inside.rows.items c.self.invariant)

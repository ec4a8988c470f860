use Rattle.std.proofs.Common.{refl, subst, sym}
use Rattle.std.specs.List.{FoldsTo}
use Rattle.rad_rows.proofs.BlockLemmas.{none_dead}
use Rattle.rad_rows.proofs.block.Block.tell_dead.Goals as goal

pub returns-then-now-self : goal.returns-then-now-self
returns-then-now-self g c =
    rw (← c.self.view_is) (subst (λ l. FoldsTo g.G.Tally.told c.args.tally.now l c.args.tally.now)
    (sym (none_dead g.T.Row.is_live c.self.inside.spans c.self.inside.bound c.args.now c.self.inside.rows.items c.if-now-self.true
    c.requires c.self.invariant)) refl)

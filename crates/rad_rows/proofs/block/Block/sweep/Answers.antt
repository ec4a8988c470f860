use Rattle.std.proofs.Common.{refl, subst, sym}
use Rattle.std.specs.List.{FoldsTo}
use Rattle.rad_rows.proofs.BlockLemmas.{filter_live, none_dead, same_rows}
use Rattle.rad_rows.proofs.block.Block.sweep.Goals as goal

pub returns-then-now-self-clause-cut : goal.returns-then-now-self-clause-cut
returns-then-now-self-clause-cut g c =
    same_rows c.args.self.now _ (rw (← c.self.view_is)
    (filter_live g.T.Row.is_live c.self.inside.spans c.self.inside.bound c.args.now c.self.inside.rows.items c.if-now-self.true
    c.requires
    c.self.invariant))

pub returns-then-now-self-clause-told : goal.returns-then-now-self-clause-told
returns-then-now-self-clause-told g c =
    rw (← c.self.view_is) (subst (λ l. FoldsTo g.G.Tally.told c.args.tally.now l c.args.tally.now)
    (sym (none_dead g.T.Row.is_live c.self.inside.spans c.self.inside.bound c.args.now c.self.inside.rows.items c.if-now-self.true
    c.requires c.self.invariant)) refl)

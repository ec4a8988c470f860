use Rattle.std.proofs.Common.{◌∙◌, Option, Ok, ap, arith, subst, sym}
use Rattle.sqlite_trees.specs.Tree.{Trees}
use Rattle.sqlite_trees.specs.View.{IsClean}
use Rattle.rad_config.specs.Configurations.{Configuration}
use Rattle.rad_snapshot.specs.Snapshots.{IsSnapshotOf}
use Rattle.rad_state.specs.Metas.{meta_rows}
use Rattle.rad_state.specs.declared.meta.Meta.{Meta}
use Rattle.rad_state.proofs.StoreLemmas.{reads_fresh}
use Rattle.rad_state.proofs.state.State.into_parts.Goals as goal

pub open-requires : goal.open-requires
open-requires g c clean =
    let S = g.S.Store in
    let first : IsClean (S.view c.args.self.store) = omega (arith, c.read.ensures.clean, clean) in
    reads_fresh (S.view c.args.self.store) (S.view c.read.new.store) (c.in_ok-server.ensures.same clean)
    (c.args.self.opened first).fresh

pub returns-clause-says : goal.returns-clause-says
returns-clause-says g c clean meta found reads =
    let S = g.S.Store in
    let mid : IsClean (S.view c.read.new.store) = omega (arith, c.in_ok-open.ensures.clean, clean) in
    let first : IsClean (S.view c.args.self.store) = omega (arith, c.read.ensures.clean, mid) in
    record {
      meta = meta;
      held = c.args.self.metas first ∙ ap (λ (m : Option Meta). meta_rows m) found;
      configuration = reads ∙ ap (λ (k : Configuration). Ok k) (sym c.in_ok-server.ensures.configuration);
      lawful = c.state_is_lawful.ensures.state;
      snapshot = subst (λ (t : Trees). IsSnapshotOf t c.in_ok-server.server.state) ((c.args.self.opened first).fresh.settled)
          (c.in_ok-server.ensures.snapshot mid);
    }

pub returns-clause-crash : goal.returns-clause-crash
returns-clause-crash g c db left = c.read.ensures.outcomes db (c.in_ok-open.ensures.crash db left)

use Rattle.std.proofs.Common.{◌≡◌, ◌≢◌, ◌⊎◌, inr, Ok, Some, Err, IfErr, [], ◌∷◌, true, refl, rules, arith, subst, sym, ◌∙◌}
use Rattle.sqlite_disk.specs.Disk.{MoreFaults}
use Rattle.sqlite_trees.specs.View.{Advances, IsClean}
use Rattle.rad_config.specs.Configurations.{Configuration}
use Rattle.rad_server.specs.Restored.{restored}
use Rattle.rad_server.specs.States.{State}
use Rattle.rad_snapshot.specs.Faults.{IsOfRows, reported}
use Rattle.rad_snapshot.specs.Restoring.{CannotPutBack}
use Rattle.rad_snapshot.specs.Snapshots.{tree_of}
use Rattle.rad_snapshot.proofs.StoreLemmas.{damage_is, goes_on, read_none, reads_on, refuses, sought_all, strays}
use Rattle.rad_snapshot.proofs.restoring.restore_table.Goals as goal

pub loop-place-init : goal.loop-place-init
loop-place-init g c =
    let S = g.S.Store in
    let first = S.view c.args.store.now in
    let all = λ (clean : IsClean (S.view c.seek.new.self)). sought_all first (S.view c.seek.new.self) c.tree.result _
    c.new-key.ensures (c.in_ok-seek.ensures.ok clean) in
    record {
      clean = c.seek.ensures.quiet.clean;
      outcomes = c.seek.ensures.quiet.outcomes;
      counts = c.seek.ensures.quiet.counts;
      same = λ clean. (all clean).1;
      live = c.in_ok-seek.ensures.live;
      configuration = refl;
      so_far = λ clean. read_none c.args.server.now.configuration c.args.table c.args.server.now.state first
          (S.view c.seek.new.self)
          (subst (λ t. (S.view c.seek.new.self).cursors 0 ≡ Some (first.trees t)) c.tree.ensures (all clean).0);
    }

pub returns-in_err-item-clause-refused : goal.returns-in_err-item-clause-refused
returns-in_err-item-clause-refused g c =
    let S = g.S.Store in
    let fault = c.in_err-item.field-0.0 in
    let stored = (S.view c.args.store.now).trees (tree_of c.args.table) in
    let configuration = c.args.server.now.configuration in
    let before = c.args.server.now.state in
    let given : c.from_residual-in_err-item.result ≡ Err (reported fault) = search rules in
    subst (λ r. IfErr r (λ fault. IsOfRows fault → IsClean (S.view c.next.new.self)
    → MoreFaults (S.faults c.args.store.now) (S.faults c.next.new.self)
    ⊎ CannotPutBack configuration c.args.table stored before)) (sym given)
    (λ of clean.
    let was : IsClean (S.view c.loop-place.store) = omega (arith, c.next.ensures.quiet.clean, clean) in
    let found : c.in_ok-next.field-0 ≡ true = search rules in
    inr (strays configuration c.args.table before stored (S.view c.loop-place.store) (S.view c.next.new.self) c.loop-place.place
    c.loop-place.server.state c.next.new.row
    (c.loop-place.invariant.so_far was)
    (subst (λ b. Advances (S.view c.loop-place.store) (S.view c.next.new.self) 0 c.next.new.row b) found
    (c.in_ok-next.ensures.ok clean))
    (c.in_err-item.ensures.damaged (damage_is fault of))))

pub returns-in_err-restore_row-clause-refused : goal.returns-in_err-restore_row-clause-refused
returns-in_err-restore_row-clause-refused g c =
    let S = g.S.Store in
    let fault = c.in_err-restore_row.field-0.0 in
    let stored = (S.view c.args.store.now).trees (tree_of c.args.table) in
    let configuration = c.args.server.now.configuration in
    let before = c.args.server.now.state in
    let given : c.from_residual-in_err-restore_row.result ≡ Err fault = search rules in
    subst (λ r. IfErr r (λ fault. IsOfRows fault → IsClean (S.view c.next.new.self)
    → MoreFaults (S.faults c.args.store.now) (S.faults c.next.new.self)
    ⊎ CannotPutBack configuration c.args.table stored before)) (sym given)
    (λ of clean.
    let was : IsClean (S.view c.loop-place.store) = omega (arith, c.next.ensures.quiet.clean, clean) in
    let found : c.in_ok-next.field-0 ≡ true = search rules in
    let item = c.in_ok-item.item in
    let never = subst (λ (k : Configuration). (after : State) → restored k (item ∷ []) c.loop-place.server.state ≢ Ok after)
    c.loop-place.invariant.configuration (c.in_err-restore_row.ensures.refused of) in
    inr (refuses configuration c.args.table before stored (S.view c.loop-place.store) (S.view c.next.new.self) c.loop-place.place
    c.loop-place.server.state c.next.new.row
    (c.loop-place.invariant.so_far was)
    (subst (λ b. Advances (S.view c.loop-place.store) (S.view c.next.new.self) 0 c.next.new.row b) found
    (c.in_ok-next.ensures.ok clean))
    item c.in_ok-item.ensures.kind c.in_ok-item.ensures.is never))

pub loop-place-preserved : goal.loop-place-preserved
loop-place-preserved g c =
    let S = g.S.Store in
    let was = c.loop-place.invariant in
    let stored = (S.view c.args.store.now).trees (tree_of c.args.table) in
    let configuration = c.args.server.now.configuration in
    let before : IsClean (S.view c.next.new.self) → IsClean (S.view c.loop-place.store) =
    λ clean. omega (arith, c.next.ensures.quiet.clean, clean) in
    let found : c.in_ok-next.field-0 ≡ true = search rules in
    let item = c.in_ok-item.item in
    let led = subst (λ (k : Configuration). restored k (item ∷ []) c.loop-place.server.state ≡ Ok c.restore_row.new.server.state)
    was.configuration c.in_ok-restore_row.ensures.restored in
    record {
      clean = omega (arith, was.clean, c.next.ensures.quiet.clean);
      outcomes = λ db left. was.outcomes db (c.next.ensures.quiet.outcomes db left);
      counts = omega (arith, was.counts, c.next.ensures.quiet.counts);
      same = λ clean. reads_on (S.view c.args.store.now) (S.view c.loop-place.store) (S.view c.next.new.self)
          (was.same (before clean)) (c.in_ok-next.ensures.moves clean).same;
      live = search rules;
      configuration = c.restore_row.ensures.configuration ∙ was.configuration;
      so_far = λ clean. goes_on configuration c.args.table c.args.server.now.state stored (S.view c.loop-place.store)
          (S.view c.next.new.self) c.loop-place.place c.loop-place.server.state c.next.new.row
          (was.so_far (before clean)) (subst (λ b. Advances (S.view c.loop-place.store) (S.view c.next.new.self) 0 c.next.new.row b)
          found (c.in_ok-next.ensures.ok clean))
          item c.restore_row.new.server.state c.in_ok-item.ensures.kind c.in_ok-item.ensures.is led;
    }

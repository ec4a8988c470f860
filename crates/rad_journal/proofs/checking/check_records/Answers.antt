use Rattle.std.proofs.Common.{◌≡◌, Some, refl, ap, arith, subst, slice_get}
use Rattle.sqlite_trees.specs.View.{IsClean, View}
use Rattle.rad_journal.specs.Records.{register_tree}
use Rattle.rad_journal.specs.Rows.{entries_of, table}
use Rattle.rad_journal.specs.Stores.{OnlyReads}
use Rattle.rad_journal.proofs.CursorLemmas.{reads_on, seeks_first}
use Rattle.rad_journal.proofs.LogLemmas.{record_next}
use Rattle.rad_journal.proofs.checking.check_records.Goals as goal

pub loop-place-init : goal.loop-place-init
loop-place-init g c =
    let S = g.S.Store in
    let old = S.view c.args.store.now in
    let new = S.view c.seek.new.self in
    let first : IsClean new → (new.cursors 0 ≡ Some (old.trees (register_tree c.args.register))) × OnlyReads old new = λ clean.
    subst (λ t. (new.cursors 0 ≡ Some (old.trees t)) × OnlyReads old new) c.tree.ensures
    (seeks_first old new c.tree.result _ c.new-key.ensures (c.in_ok-seek.ensures.ok clean)) in
    record {
      clean = c.seek.ensures.quiet.clean;
      outcomes = c.seek.ensures.quiet.outcomes;
      same = λ clean. (first clean).1;
      live = c.in_ok-seek.ensures.live;
      so_far = λ clean. ((S.view c.args.store.now).trees (register_tree c.args.register), refl, (first clean).0);
    }

pub loop-place-preserved : goal.loop-place-preserved
loop-place-preserved g c =
    let S = g.S.Store in
    let was = c.loop-place.invariant in
    let step = c.in_ok-check_record.ensures in
    let before : IsClean (S.view c.check_record.new.store) → IsClean (S.view c.loop-place.store) =
    λ clean. omega (arith, c.check_record.ensures.clean, clean) in
    record {
      clean = omega (arith, was.clean, c.check_record.ensures.clean);
      outcomes = λ db left. was.outcomes db (c.check_record.ensures.outcomes db left);
      same = λ clean. reads_on (S.view c.args.store.now) (S.view c.loop-place.store) (S.view c.check_record.new.store)
          (was.same (before clean)) (step.taken clean).2.reads;
      live = step.live;
      so_far = λ clean.
          let taken = step.taken clean in
          let trees = ap (λ (v : View). v.trees) (was.same (before clean)) in
          record_next c.args.register (S.view c.args.store.now) (S.view c.loop-place.store) (S.view c.check_record.new.store)
          c.loop-place.place taken.0 (was.so_far (before clean))
          (subst (λ t. slice_get (entries_of (t table)) c.loop-place.place ≡ Some taken.0) trees taken.1) taken.2;
    }

use Rattle.std.proofs.Common.{◌≡◌, ◌∙◌, rules, arith, subst, true}
use Rattle.sqlite_trees.specs.Tree.{put_row}
use Rattle.sqlite_trees.specs.View.{IsClean, SetsTree}
use Rattle.rad_snapshot.specs.Restoring.{IsNext, left}
use Rattle.rad_snapshot.proofs.WriteLemmas.{frames, put_next}
use Rattle.rad_snapshot.proofs.writing.put_rows.Goals as goal

pub loop-place-preserved : goal.loop-place-preserved
loop-place-preserved g c =
    let S = g.S.Store in
    let was = c.loop-place.invariant in
    let step = c.put.ensures in
    let row = c.fill_next.new.row in
    let more : c.in_ok-fill_next.field-0 ≡ true = search rules in
    let next : IsNext (left c.loop-place.rest) (left c.fill_next.new.self) c.loop-place.place row =
    c.in_ok-fill_next.ensures.next more in
    let before : IsClean (S.view c.put.new.self) → IsClean (S.view c.loop-place.store) =
    λ clean. omega (arith, step.quiet.clean, clean) in
    record {
      clean = omega (arith, was.clean, step.quiet.clean);
      outcomes = λ db left. was.outcomes db (step.quiet.outcomes db left);
      schema = record {
        shape = step.schema.shape ∙ was.schema.shape;
        reals = step.schema.reals ∙ was.schema.reals;
        committed_shape = step.schema.committed_shape ∙ was.schema.committed_shape;
        committed_reals = step.schema.committed_reals ∙ was.schema.committed_reals;
        numbered = step.schema.numbered ∙ was.schema.numbered;
      };
      frame = λ clean. frames (S.view c.args.store.now) (S.view c.loop-place.store) (S.view c.put.new.self)
          (was.frame (before clean)) (c.in_ok-put.ensures.frame clean);
      so_far = put_next (S.view c.args.store.now) (S.view c.loop-place.store) (S.view c.put.new.self)
          (IsClean (S.view c.loop-place.store)) (IsClean (S.view c.put.new.self)) c.args.table
          (left c.args.rest.now) (left c.loop-place.rest) (left c.fill_next.new.self) c.loop-place.place row was.so_far next before
          (λ clean. subst (λ t. SetsTree (S.view c.loop-place.store) (S.view c.put.new.self) t (put_row row)) c.tree.ensures
          (c.in_ok-put.ensures.ok clean));
    }

use Rattle.std.proofs.Common.{◌≡◌, ◌+◌, ◌∙◌, arith, get_or}
use Rattle.sqlite_trees.specs.View.{IsClean}
use Rattle.rad_journal.specs.Rows.{entries_of, table}
use Rattle.rad_journal.proofs.LogLemmas.{frames, put_so_far, set_rest, rest_on}
use Rattle.rad_journal.proofs.append.put_all.Goals as goal

pub loop-i-preserved : goal.loop-i-preserved
loop-i-preserved g c =
    let S = g.S.Store in
    let was = c.loop-i.invariant in
    let step = c.put.ensures in
    let it : c.index-entries-i.result ≡ get_or c.args.entries.now c.loop-i.i c.index-entries-i.result = c.index-entries-i.is in
    record {
      clean = omega (arith, was.clean, step.quiet.clean);
      outcomes = λ db left. was.outcomes db (step.quiet.outcomes db left);
      schema = record {
        shape = step.schema.shape ∙ was.schema.shape;
        reals = step.schema.reals ∙ was.schema.reals;
        committed_shape = step.schema.committed_shape ∙ was.schema.committed_shape;
        committed_reals = step.schema.committed_reals ∙ was.schema.committed_reals;
        numbered = step.schema.numbered ∙ was.schema.numbered;
      };
      frame = λ clean.
          let before : IsClean (S.view c.loop-i.store) = omega (arith, step.quiet.clean, clean) in
          frames (S.view c.args.store.now) (S.view c.loop-i.store) (S.view c.put.new.store) (was.frame before)
          (c.in_ok-put.ensures.frame clean);
      put = λ clean.
          let before : IsClean (S.view c.loop-i.store) = omega (arith, step.quiet.clean, clean) in
          let first : IsClean (S.view c.args.store.now) = omega (arith, was.clean, before) in
          put_so_far (S.view c.loop-i.store) (S.view c.put.new.store) (entries_of ((S.view c.args.store.now).trees table))
          c.args.entries.now c.loop-i.i c.args.count (c.loop-i.number + 1) c.index-entries-i.result it (omega arith)
          (c.in_ok-put.ensures.ok clean) (omega (arith, was.number)) (was.put before) ((c.requires.counted first).1);
      rest = λ clean.
          let before : IsClean (S.view c.loop-i.store) = omega (arith, step.quiet.clean, clean) in
          rest_on (S.view c.args.store.now) (S.view c.loop-i.store) (S.view c.put.new.store) table (was.rest before)
          (set_rest (S.view c.loop-i.store) (S.view c.put.new.store) table _ (c.in_ok-put.ensures.ok clean));
      number = omega (arith, was.number);
    }

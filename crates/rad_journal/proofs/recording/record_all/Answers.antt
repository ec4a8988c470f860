use Rattle.std.proofs.Common.{◌≡◌, ◌+◌, ◌∙◌, arith, get_or}
use Rattle.sqlite_trees.specs.View.{IsClean}
use Rattle.rad_journal.specs.Records.{register_tree}
use Rattle.rad_journal.proofs.LogLemmas.{frames, recorded_so_far, rest_on}
use Rattle.rad_journal.proofs.recording.record_all.Goals as goal

pub loop-i-preserved : goal.loop-i-preserved
loop-i-preserved g c =
    let S = g.S.Store in
    let was = c.loop-i.invariant in
    let step = c.record.ensures in
    let it : c.index-entries-i.result ≡ get_or c.args.entries.now c.loop-i.i c.index-entries-i.result = c.index-entries-i.is in
    record {
      clean = omega (arith, was.clean, step.clean);
      outcomes = λ db left. was.outcomes db (step.outcomes db left);
      schema = record {
        shape = step.schema.shape ∙ was.schema.shape;
        reals = step.schema.reals ∙ was.schema.reals;
        committed_shape = step.schema.committed_shape ∙ was.schema.committed_shape;
        committed_reals = step.schema.committed_reals ∙ was.schema.committed_reals;
        numbered = step.schema.numbered ∙ was.schema.numbered;
      };
      frame = λ clean.
          let before : IsClean (S.view c.loop-i.store) = omega (arith, step.clean, clean) in
          frames (S.view c.args.store.now) (S.view c.loop-i.store) (S.view c.record.new.store) (was.frame before)
          (c.in_ok-record.ensures.frame clean);
      recorded = λ clean first counted held.
          let before : IsClean (S.view c.loop-i.store) = omega (arith, step.clean, clean) in
          recorded_so_far c.args.register (S.view c.loop-i.store) (S.view c.record.new.store) first c.args.entries.now c.loop-i.i
          c.args.count (c.loop-i.number + 1)
          c.index-entries-i.result it (omega arith) (c.in_ok-record.ensures.ok clean) (omega (arith, was.number)) counted
          (was.recorded before first counted held);
      rest = λ clean.
          let before : IsClean (S.view c.loop-i.store) = omega (arith, step.clean, clean) in
          rest_on (S.view c.args.store.now) (S.view c.loop-i.store) (S.view c.record.new.store) (register_tree c.args.register)
          (was.rest before)
          (c.in_ok-record.ensures.ok clean).rest;
      number = omega (arith, was.number);
    }

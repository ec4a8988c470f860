use Rattle.std.proofs.Common.{◌≡◌, ◌+◌, true, rules, arith, subst}
use Rattle.sqlite_trees.specs.View.{Advances, IsClean}
use Rattle.rad_journal.specs.Rows.{entry_of, row_of, table}
use Rattle.rad_journal.proofs.LogLemmas.{SoFar, advances, seeks}
use Rattle.rad_journal.specs.Stores.{OnlyReads}
use Rattle.rad_journal.proofs.checking.check_entries.Goals as goal

pub loop-place-init : goal.loop-place-init
loop-place-init g c =
    let S = g.S.Store in
    record {
      clean = c.seek.ensures.quiet.clean;
      outcomes = c.seek.ensures.quiet.outcomes;
      same = λ clean. (seeks (S.view c.args.store.now) (S.view c.seek.new.self) _ c.new-key.ensures
          (c.in_ok-seek.ensures.ok clean)).1;
      live = c.in_ok-seek.ensures.live;
      so_far = λ clean. (seeks (S.view c.args.store.now) (S.view c.seek.new.self) _ c.new-key.ensures
          (c.in_ok-seek.ensures.ok clean)).0;
    }

pub loop-place-preserved : goal.loop-place-preserved
loop-place-preserved g c =
    let S = g.S.Store in
    let was = c.loop-place.invariant in
    let step = c.in_ok-next.ensures in
    let found : c.in_ok-next.field-0 ≡ true = search rules in
    let same : c.next.new.row ≡ row_of (1 + c.loop-place.place) (entry_of c.next.new.row) =
    c.in_ok-is_next.ensures c.if-not-branch-2.false in
    let before : IsClean (S.view c.next.new.self) → IsClean (S.view c.loop-place.store) =
    λ clean. omega (arith, c.next.ensures.quiet.clean, clean) in
    let both : IsClean (S.view c.next.new.self)
    → SoFar ((S.view c.args.store.now).trees table) (S.view c.next.new.self) (c.loop-place.place + 1)
    × OnlyReads (S.view c.args.store.now) (S.view c.next.new.self) = λ clean.
    advances (S.view c.args.store.now) (S.view c.loop-place.store) (S.view c.next.new.self) ((S.view c.args.store.now).trees table)
    c.next.new.row c.loop-place.place
    (subst (λ b. Advances (S.view c.loop-place.store) (S.view c.next.new.self) 0 c.next.new.row b) found (step.ok clean)) same
    (was.so_far (before clean)) (was.same (before clean)) in
    record {
      clean = omega (arith, was.clean, c.next.ensures.quiet.clean);
      outcomes = λ db left. was.outcomes db (c.next.ensures.quiet.outcomes db left);
      same = λ clean. (both clean).1;
      live = search rules;
      so_far = λ clean. (both clean).0;
    }

use Rattle.std.proofs.Common.{arith}
use Rattle.sqlite_trees.specs.View.{IsClean}
use Rattle.test_journal.proofs.FreshLemmas.{commit_fresh}
use Rattle.test_journal.proofs.tests.stores.with_row.Goals as goal

pub returns : goal.returns
returns g c clean =
    let S = g.S.Store in
    let mid : IsClean (S.view c.put.new.self) = omega (arith, c.commit.ensures.clean, clean) in
    let old : IsClean (S.view c.args.store) = omega (arith, c.put.ensures.quiet.clean, mid) in
    commit_fresh (S.view c.args.store) (S.view c.put.new.self) (S.view c.commit.new.self) (c.requires old)
    (c.in_ok-put.ensures.frame mid) (c.in_ok-commit.ensures.ok clean)

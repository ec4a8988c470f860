use Rattle.std.proofs.Common.{sym, subst}
use Rattle.sqlite_store.specs.FileStore.{view}
use Rattle.sqlite_trees.specs.View.{IsClean}
use Rattle.rad_journal.specs.Stores.{IsFresh}
use Rattle.test_journal.proofs.FreshLemmas.{ready_is_fresh}
use Rattle.test_journal.proofs.tests.disks.create.Goals as goal

pub returns : goal.returns
returns g c =
    subst (λ it. IsClean (view it) → IsFresh (view it)) (sym c.in_ok-store.ensures.same)
    (ready_is_fresh c.in_ok-ready.field-0 c.in_ok-ready.ensures c.in_ok-store.ensures.tables)

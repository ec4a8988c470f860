use Rattle.std.proofs.Common.{IsTrue, sym, subst}
use Rattle.sqlite_trees.specs.View.{IsClean}
use Rattle.sqlite_store.specs.FileStore.{view}
use Rattle.rad_state.specs.Stores.{IsOpened}
use Rattle.rad_state.proofs.ReadyLemmas.{has_sums, ready_is_opened}
use Rattle.rad_state.proofs.opening.open_files.Goals as goal

pub returns-clause-opened : goal.returns-clause-opened
returns-clause-opened g c =
    subst (λ it. IsClean (view it) → IsOpened (view it)) (sym c.in_ok-store.ensures.same)
    (ready_is_opened c.in_ok-ready.field-0 c.in_ok-ready.ensures.ready c.in_ok-store.ensures.tables)

pub returns-clause-sums : goal.returns-clause-sums
returns-clause-sums g c =
    subst (λ it. IsClean (view it) → IsTrue (view it).has_sums) (sym c.in_ok-store.ensures.same)
    (has_sums c.in_ok-ready.field-0 c.in_ok-ready.ensures.size)

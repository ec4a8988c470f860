use Rattle.std.proofs.Common.{IsTrue, sym, subst}
use Rattle.sqlite_trees.specs.View.{IsClean}
use Rattle.sqlite_store.specs.FileStore.{view}
use Rattle.rad_state.specs.Stores.{IsBlank}
use Rattle.rad_state.proofs.ReadyLemmas.{has_sums, ready_is_blank}
use Rattle.rad_state.proofs.opening.make_files.Goals as goal

pub returns-clause-blank : goal.returns-clause-blank
returns-clause-blank g c =
    subst (λ it. IsClean (view it) → IsBlank (view it)) (sym c.in_ok-store.ensures.same)
    (ready_is_blank c.in_ok-make.field-0 c.in_ok-make.ensures.ready c.in_ok-store.ensures.tables c.in_ok-make.ensures.empty)

pub returns-clause-sums : goal.returns-clause-sums
returns-clause-sums g c =
    subst (λ it. IsClean (view it) → IsTrue (view it).has_sums) (sym c.in_ok-store.ensures.same)
    (has_sums c.in_ok-make.field-0 c.in_ok-make.ensures.size)

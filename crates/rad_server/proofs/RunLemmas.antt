-- Runs: one more entry goes on with them, and they lead through lawful states alone.
use Rattle.std.proofs.Common.{Bool, List, [], ◌∷◌, ◌++◌, refl, sym, subst}
use Rattle.rad_auth.specs.Admission.{AdmittedAreAnswerable}
use Rattle.rad_config.specs.Configurations.{Configuration}
use Rattle.rad_config.specs.Ranges.{IsConfiguration}
use Rattle.rad_server.specs.Lawful.{IsLawful, StepKeepsTheLaw}
use Rattle.rad_server.specs.Runs.{IsExchange, IsMarked, MarkedRun, Run}
use Rattle.rad_server.specs.States.{State}
use Rattle.rad_server.specs.declared.entry.Entry.{Entry}

-- a run goes on with one more exchange
pub run_goes_on : (configuration : Configuration) (before : State) (history : List Entry) (state : State) (entry : Entry)
    (after : State)
    → Run configuration before history state → IsExchange configuration state entry after
    → Run configuration before (history ++ entry ∷ []) after
run_goes_on configuration before [] state entry after same exchange =
    (after, subst (λ s. IsExchange configuration s entry after) (sym same) exchange, refl)
run_goes_on configuration before (first ∷ rest) state entry after run exchange =
    (run.0, run.1, run_goes_on configuration run.0 rest state entry after run.2 exchange)

-- a marked run goes on with one more exchange and its mark
pub marks_go_on : (configuration : Configuration) (before : State) (history : List Entry) (marks : List Bool) (state : State)
    (entry : Entry) (mark : Bool) (after : State)
    → MarkedRun configuration before history marks state → IsMarked configuration state entry mark after
    → MarkedRun configuration before (history ++ entry ∷ []) (marks ++ mark ∷ []) after
marks_go_on configuration before [] [] state entry mark after same marked =
    (after, subst (λ s. IsMarked configuration s entry mark after) (sym same) marked, refl)
marks_go_on configuration before [] (first ∷ rest) state entry mark after run marked = absurd run
marks_go_on configuration before (first ∷ rest) [] state entry mark after run marked = absurd run
marks_go_on configuration before (first ∷ rest) (own ∷ marks) state entry mark after run marked =
    (run.0, run.1, marks_go_on configuration run.0 rest marks state entry mark after run.2 marked)

-- a run, and one after it
pub run_append : (configuration : Configuration) (before : State) (first rest : List Entry) (middle after : State)
    → Run configuration before first middle → Run configuration middle rest after → Run configuration before (first ++ rest) after
run_append configuration before [] rest middle after is run = subst (λ state. Run configuration state rest after) (sym is) run
run_append configuration before (entry ∷ more) rest middle after run next =
    (run.0, run.1, run_append configuration run.0 more rest middle after run.2 next)

-- a run leads from a lawful state to a lawful one
pub run_is_lawful : AdmittedAreAnswerable → StepKeepsTheLaw
    → (configuration : Configuration) (before : State) (history : List Entry) (after : State)
    → IsConfiguration configuration → IsLawful configuration before → Run configuration before history after
    → IsLawful configuration after
run_is_lawful answerable steps configuration before [] after valid lawful same = subst (IsLawful configuration) same lawful
run_is_lawful answerable steps configuration before (entry ∷ rest) after valid lawful run =
    let exchange : IsExchange configuration before entry run.0 = run.1 in
    let stepped = steps configuration before exchange.request entry.moment entry.draw valid
    (answerable configuration.clients exchange.request exchange.asked.admitted) exchange.asked.moment exchange.asked.draw lawful in
    run_is_lawful answerable steps configuration run.0 rest after valid
    (subst (λ pair. IsLawful configuration pair.1) exchange.answered stepped) run.2

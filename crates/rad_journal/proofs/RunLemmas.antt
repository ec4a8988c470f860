-- Runs: one more entry that was kept, and all of them.
use Rattle.std.proofs.Common.{◌≡◌, ℕ, zero, suc, ◌+◌, List, [], ◌∷◌, ◌++◌, take, Some, None, slice_get, refl, sym, ap, subst, arith}
use Rattle.std.proofs.lemmas.Option.{none-some}
use Rattle.rad_config.specs.Configurations.{Configuration}
use Rattle.rad_server.specs.Runs.{IsExchange, Run}
use Rattle.rad_server.specs.Servers.{Server}
use Rattle.rad_server.specs.States.{State}
use Rattle.rad_server.specs.declared.entry.Entry.{Entry}
use Rattle.rad_journal.specs.Kept.{kept_by}
use Rattle.rad_journal.specs.Restores.{AreKept, IsRestored, IsStep}
use Rattle.rad_journal.specs.declared.kept.Kept.{Kept}

-- a run goes on with one more exchange
run_next : (configuration : Configuration) (before : State) (history : List Entry) (state : State) (entry : Entry) (after : State)
    → Run configuration before history state → IsExchange configuration state entry after
    → Run configuration before (history ++ entry ∷ []) after
run_next configuration before [] state entry after same exchange =
    (after, subst (λ s. IsExchange configuration s entry after) (sym same) exchange, refl)
run_next configuration before (first ∷ rest) state entry after run exchange =
    (run.0, run.1, run_next configuration run.0 rest state entry after run.2 exchange)

-- one more of a list is kept
kept_next : (n : ℕ) (kept : List Kept) (history : List Entry) (next : Kept) (entry : Entry) → AreKept history (take n kept)
    → slice_get kept n ≡ Some next → kept_by next.wall entry ≡ Some next → AreKept (history ++ entry ∷ []) (take (suc n) kept)
kept_next n [] history next entry are is it = absurd (none-some _ is)
kept_next zero (first ∷ kept) [] next entry are is it =
    let same : first ≡ next = cc is in
    subst (λ (k : Kept). AreKept (entry ∷ []) (k ∷ [])) (sym same) (it, tt)
kept_next zero (first ∷ kept) (earlier ∷ history) next entry are is it = absurd are
kept_next (suc n) (first ∷ kept) [] next entry are is it = absurd are
kept_next (suc n) (first ∷ kept) (earlier ∷ history) next entry are is it = (are.0, kept_next n kept history next entry are.1 is it)

-- one more entry of a list
pub restored_next : (n : ℕ) (kept : List Kept) (next : Kept) (before between after : Server)
    → IsRestored before (take n kept) between
    → slice_get kept n ≡ Some next → between.configuration ≡ before.configuration → IsStep between next after
    → IsRestored before (take (n + 1) kept) after
restored_next n kept next before between after restored is same step =
    let one : suc n ≡ n + 1 = omega arith in
    let exchange = subst (λ configuration. IsExchange configuration between.state step.entry after.state) same step.exchange in
    record {
      history = restored.history ++ step.entry ∷ [];
      run = run_next before.configuration before.state restored.history between.state step.entry after.state restored.run exchange;
      are_kept = subst (λ k. AreKept (restored.history ++ step.entry ∷ []) (take k kept)) one
          (kept_next n kept restored.history next step.entry restored.are_kept is step.is_kept);
    }

-- so many of a list are all of it
take_all : (n : ℕ) (kept : List Kept) → slice_get kept n ≡ None → take n kept ≡ kept
take_all zero [] is = refl
take_all (suc n) [] is = refl
take_all zero (first ∷ kept) is = absurd (none-some _ (sym is))
take_all (suc n) (first ∷ kept) is = ap (λ (l : List Kept). first ∷ l) (take_all n kept is)

-- all of them
pub restored_all : (n : ℕ) (kept : List Kept) (before after : Server) → IsRestored before (take n kept) after
    → slice_get kept n ≡ None
    → IsRestored before kept after
restored_all n kept before after restored is = subst (λ (l : List Kept). IsRestored before l after) (take_all n kept is) restored

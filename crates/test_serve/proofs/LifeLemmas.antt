-- Where lives begin: with nothing that was kept, and nothing that was sent.
use Rattle.std.proofs.Common.{◌≡◌, List, [], sym, ap, subst, ◌∙◌}
use Rattle.sqlite_trees.specs.Memory.{memory_view}
use Rattle.sqlite_trees.specs.Tree.{Trees}
use Rattle.sqlite_trees.specs.declared.memory.MemStore.{MemStore}
use Rattle.rad_config.specs.Configurations.{Configuration}
use Rattle.rad_journal.specs.Rows.{entries_of, table}
use Rattle.rad_journal.specs.Stores.{MayLeave, kept_in}
use Rattle.rad_journal.specs.declared.kept.Kept.{Kept}
use Rattle.rad_shell.specs.Passages.{Went}
use Rattle.rad_state.specs.Generations.{Generation, LeavesOf, fresh_server, just_begun}
use Rattle.rad_serve.specs.Lives.{IsOneRun}
use Rattle.rad_serve.proofs.LifeLemmas.{same_generation}

-- a crash leaves nothing of a store that has no entries
pub leaves_nothing : (store : MemStore) (left : List Kept) → kept_in (memory_view store) ≡ []
    → MayLeave (λ db. db ≡ (memory_view store).committed) left → left ≡ []
leaves_nothing store left none leaves = leaves.2 ∙ ap (λ (db : Trees). entries_of (db table)) leaves.1 ∙ none

-- nothing is one run, whatever leaves it
pub one_run_of_nothing : (configuration : Configuration) (may_leave : List Kept → Type 0) (left : Generation) (sent : List Went)
    → LeavesOf configuration may_leave left → ((entries : List Kept) → may_leave entries → entries ≡ []) → sent ≡ []
    → IsOneRun [] (just_begun (fresh_server configuration)) [] → IsOneRun [] left sent
one_run_of_nothing configuration may_leave left sent leaves none unsent one =
    subst (λ (g : Generation). IsOneRun [] g sent)
    (same_generation left (fresh_server configuration) [] leaves.0 (none left.entries leaves.1))
    (subst (λ (s : List Went). IsOneRun [] (just_begun (fresh_server configuration)) s) (sym unsent) one)

use Rattle.std.proofs.Common.{◌≡◌, ◌<◌, ℕ}
use Rattle.sqlite_trees.specs.declared.store.Shape.TheVariants.{Table}
use Rattle.rad_state.proofs.opening.with_tables.Given as goal

abbrev pub invariant-loop-tree : goal.invariant-loop-tree
invariant-loop-tree g l = (tree : ℕ) → tree < l.tree → (g.S.Store.view l.store).shape tree ≡ Table

use Rattle.std.proofs.Common.{◌≡◌, ◌∙◌, ap, arith, refl, sym}
use Rattle.sqlite_trees.specs.Memory.{memory_is_unaltered, memory_view}
use Rattle.sqlite_trees.specs.Objects.{catalog_tree}
use Rattle.sqlite_trees.specs.Tree.{Trees}
use Rattle.sqlite_trees.specs.declared.store.Shape.TheVariants.{Table}
use Rattle.rad_journal.specs.Records.{register_tree}
use Rattle.rad_journal.specs.Rows.{table}
use Rattle.rad_journal.specs.declared.register.Register.TheVariants.{Accounting, Grants}
use Rattle.rad_snapshot.specs.Snapshots.{tree_of}
use Rattle.rad_snapshot.specs.declared.snapshot_table.SnapshotTable.TheVariants.{Sessions, Replies, Challenges, Numbers}
use Rattle.rad_state.specs.Metas.{meta_table}
use Rattle.trial_refused_memory.proofs.stores.blank.Goals as goal

pub returns-clause-blank : goal.returns-clause-blank
returns-clause-blank c =
    let shape = c.in_ok-store.ensures.shape in
    record {
      opened = record {
        fresh = record {
          is_open = refl;
          shapes = record {
            entries = ap (λ f. f table) shape ∙ c.table.ensures;
            records = λ register. elim register as (λ of. (memory_view c.in_ok-store.store).shape (register_tree of) ≡ Table) [
              | Accounting ↦ ap (λ f. f (register_tree Accounting)) shape ∙ c.table-2.ensures
              | Grants ↦ ap (λ f. f (register_tree Grants)) shape ∙ c.table-3.ensures
            ];
          };
          committed_shape =
              (memory_is_unaltered c.in_ok-store.store (ap (λ (t : Trees). t catalog_tree) c.in_ok-store.ensures.clean)).0;
          settled = c.in_ok-store.ensures.clean;
        };
        meta_shape = ap (λ f. f meta_table) shape ∙ c.table-4.ensures;
        snapshot_shapes = λ of. elim of as (λ of. (memory_view c.in_ok-store.store).shape (tree_of of) ≡ Table) [
          | Sessions ↦ ap (λ f. f (tree_of Sessions)) shape ∙ c.table-5.ensures
          | Replies ↦ ap (λ f. f (tree_of Replies)) shape ∙ c.table-6.ensures
          | Challenges ↦ ap (λ f. f (tree_of Challenges)) shape ∙ c.table-7.ensures
          | Numbers ↦ ap (λ f. f (tree_of Numbers)) shape ∙ c.table-8.ensures
        ];
      };
      none = λ tree few.
          ap (λ (t : Trees). t tree) (sym c.in_ok-store.ensures.clean)
          ∙ c.in_ok-store.ensures.empty tree (λ is. omega (arith, is, few)) (λ is. omega (arith, is, few));
    }

use Rattle.std.proofs.Common.{◌≡◌, ap, refl}
use Rattle.sqlite_trees.specs.Memory.{memory_is_unaltered, memory_view}
use Rattle.sqlite_trees.specs.Objects.{catalog_tree}
use Rattle.sqlite_trees.specs.Tree.{Trees}
use Rattle.sqlite_trees.specs.declared.store.Shape.TheVariants.{Table}
use Rattle.rad_journal.specs.Records.{register_tree}
use Rattle.rad_journal.specs.declared.register.Register.TheVariants.{Accounting, Grants}
use Rattle.rad_journal.specs.Rows.{table}
use Rattle.test_journal.proofs.tests.stores.blank.Goals as goal

pub returns : goal.returns
returns c = record {
  is_open = refl;
  shapes = record {
    entries = ap (λ f. f table) c.in_ok-store.ensures.shape;
    records = λ register. elim register as (λ of. (memory_view c.in_ok-store.store).shape (register_tree of) ≡ Table) [
      | Accounting ↦ ap (λ f. f (register_tree Accounting)) c.in_ok-store.ensures.shape
      | Grants ↦ ap (λ f. f (register_tree Grants)) c.in_ok-store.ensures.shape
    ];
  };
  committed_shape = (memory_is_unaltered c.in_ok-store.store (ap (λ (t : Trees). t catalog_tree) c.in_ok-store.ensures.clean)).0;
  settled = c.in_ok-store.ensures.clean;
}

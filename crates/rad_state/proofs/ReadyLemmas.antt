-- A store that is ready and has its tables was just opened, and is blank if it was just made.
use Rattle.std.proofs.Common.{◌≡◌, ◌-◌, ◌<◌, ◌^◌, ℕ, Bool, true, false, IsTrue, [], refl, sym, ap, arith}
use Rattle.sqlite_disk.specs.declared.Disk.{Ghosts}
use Rattle.sqlite_trees.specs.View.{IsClean, View, doubt}
use Rattle.sqlite_trees.specs.declared.store.Shape.TheVariants.{Table}
use Rattle.sqlite_store.specs.declared.store.FileStore.{FileStore}
use Rattle.sqlite_store.specs.FileStore.{IsReady, schema_of, state, view}
use Rattle.sqlite_store.specs.Saved.{kept_schema}
use Rattle.sqlite_store.specs.Listing.{all_shapes}
use Rattle.rad_journal.specs.Records.{register_tree}
use Rattle.rad_journal.specs.Rows.{table}
use Rattle.rad_journal.specs.declared.register.Register.{Register}
use Rattle.rad_journal.specs.declared.register.Register.TheVariants.{Accounting, Grants}
use Rattle.rad_snapshot.specs.Snapshots.{HasTables, tree_of}
use Rattle.rad_snapshot.specs.declared.snapshot_table.SnapshotTable.TheVariants.{Sessions, Replies, Challenges, Numbers}
use Rattle.rad_state.specs.Metas.{meta_table}
use Rattle.rad_state.specs.Stores.{AreTables, IsBlank, IsOpened}

has_tables : (view : View) → AreTables view → HasTables view
has_tables view all Sessions = all (tree_of Sessions) (omega arith)
has_tables view all Replies = all (tree_of Replies) (omega arith)
has_tables view all Challenges = all (tree_of Challenges) (omega arith)
has_tables view all Numbers = all (tree_of Numbers) (omega arith)

has_registers : (view : View) → AreTables view → (register : Register) → view.shape (register_tree register) ≡ Table
has_registers view all Accounting = all (register_tree Accounting) (omega arith)
has_registers view all Grants = all (register_tree Grants) (omega arith)

clean_is : (clean : Bool) → doubt clean ≡ 0 → IsTrue clean
unfolding doubt
clean_is true none = refl
clean_is false some = absurd (cc)

module _ {D : Type 0} {g : Ghosts D} (it : FileStore D g) where
  pub ready_is_opened : IsReady it → AreTables (view it) → IsClean (view it) → IsOpened (view it)
  ready_is_opened ready all clean = record {
    fresh = record {
      is_open = ready.is_open clean;
      shapes = record { entries = all table (omega arith); records = has_registers (view it) all };
      committed_shape = sym (ap (λ saved. all_shapes (kept_schema saved (schema_of it))) ready.unaltered);
      settled = ready.clean;
    };
    meta_shape = all meta_table (omega arith);
    snapshot_shapes = has_tables (view it) all;
  }

  pub ready_is_blank : IsReady it → AreTables (view it)
      → (IsTrue (state it).is_clean → (tree : ℕ) → tree < 2 ^ 32 → (view it).committed tree ≡ []) → IsClean (view it)
      → IsBlank (view it)
  ready_is_blank ready all empty clean = record {
    opened = ready_is_opened ready all clean;
    none = λ tree few. empty (clean_is (state it).is_clean clean) tree (omega (arith, few));
  }

  -- eight octets of each page are its sum
  pub has_sums : (IsTrue (state it).is_clean → (state it).page_size ≡ 4096 - 8) → IsClean (view it) → IsTrue (view it).has_sums
  has_sums size clean = rw (size (clean_is (state it).is_clean clean)) refl

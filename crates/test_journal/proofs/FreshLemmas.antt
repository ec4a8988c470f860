-- Stores that show what a store shows that was just opened.
use Rattle.std.proofs.Common.{◌≡◌, IsTrue, refl, sym, ap, subst, ◌∙◌}
use Rattle.sqlite_disk.specs.declared.Disk.{Ghosts}
use Rattle.sqlite_store.specs.FileStore.{IsReady, schema_of, view}
use Rattle.sqlite_store.specs.Listing.{all_shapes}
use Rattle.sqlite_store.specs.Saved.{kept_schema}
use Rattle.sqlite_store.specs.declared.store.FileStore.{FileStore}
use Rattle.sqlite_trees.specs.View.{Commits, IsClean, OnlyWrites, View}
use Rattle.rad_journal.specs.Records.{register_tree}
use Rattle.rad_journal.specs.Rows.{table}
use Rattle.rad_journal.specs.Stores.{HasTables, IsFresh}

-- what was written is committed
pub commit_fresh : (old mid new : View) → IsFresh old → OnlyWrites old mid → Commits mid new → IsFresh new
commit_fresh old mid new fresh frame commits = subst (λ (v : View). IsFresh v) (sym commits.is) (record {
  is_open = subst IsTrue (sym (ap (λ (v : View). v.is_open) frame)) fresh.is_open;
  shapes = record {
    entries = ap (λ (v : View). v.shape table) frame ∙ fresh.shapes.entries;
    records = λ register. ap (λ (v : View). v.shape (register_tree register)) frame ∙ fresh.shapes.records register;
  };
  committed_shape = refl;
  settled = refl;
})

pub ready_is_fresh : {D : Type 0} {g : Ghosts D} (it : FileStore D g) → IsReady it → HasTables (view it) → IsClean (view it)
    → IsFresh (view it)
ready_is_fresh it ready journal clean = record {
  is_open = ready.is_open clean;
  shapes = journal;
  committed_shape = sym (ap (λ saved. all_shapes (kept_schema saved (schema_of it))) ready.unaltered);
  settled = ready.clean;
}

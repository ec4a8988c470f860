-- What reads show of a store.
use Rattle.std.proofs.Common.{◌≡◌, sym, ap, subst, ◌∙◌}
use Rattle.sqlite_trees.specs.View.{View}
use Rattle.rad_journal.specs.Stores.{IsFresh, OnlyReads}
use Rattle.rad_snapshot.specs.Snapshots.{tree_of}
use Rattle.rad_state.specs.Metas.{meta_table}
use Rattle.rad_state.specs.Stores.{IsOpened}

-- ---- stores that were just opened

pub reads_fresh : (old new : View) → OnlyReads old new → IsFresh old → IsFresh new
reads_fresh old new same fresh = subst (λ (v : View). IsFresh v) (sym same) (record {
  is_open = fresh.is_open;
  shapes = record { entries = fresh.shapes.entries; records = fresh.shapes.records };
  committed_shape = fresh.committed_shape;
  settled = fresh.settled;
})

pub reads_opened : (old new : View) → OnlyReads old new → IsOpened old → IsOpened new
reads_opened old new same opened = record {
  fresh = reads_fresh old new same opened.fresh;
  meta_shape = ap (λ (v : View). v.shape meta_table) same ∙ opened.meta_shape;
  snapshot_shapes = λ table. ap (λ (v : View). v.shape (tree_of table)) same ∙ opened.snapshot_shapes table;
}

pub reads_committed : (old new : View) → OnlyReads old new → new.committed ≡ old.committed
reads_committed old new same = ap (λ (v : View). v.committed) same

-- What a beginning leaves in a blank store.
use Rattle.std.proofs.Common.{◌≡◌, ◌⊎◌, inl, inr, ⊎_elim, false, IsTrue, List, [], refl, sym, ap, subst, ◌∙◌, arith}
use Rattle.rad_server.specs.States.{State}
use Rattle.sqlite_value.specs.Order.{Row}
use Rattle.sqlite_trees.specs.Tree.{Trees, put_row}
use Rattle.sqlite_trees.specs.View.{Commits, OnlyWrites, SetsTree, View}
use Rattle.rad_journal.specs.Records.{register_tree}
use Rattle.rad_journal.specs.Rows.{table}
use Rattle.rad_journal.specs.Stores.{IsFresh}
use Rattle.rad_journal.specs.declared.register.Register.{Register}
use Rattle.rad_journal.specs.declared.register.Register.TheVariants.{Accounting, Grants}
use Rattle.rad_snapshot.specs.Snapshots.{AreEmpty, IsSnapshotOf, KeepsOthers, tree_of}
use Rattle.rad_snapshot.specs.declared.snapshot_table.SnapshotTable.{SnapshotTable}
use Rattle.rad_snapshot.specs.declared.snapshot_table.SnapshotTable.TheVariants.{Sessions, Replies, Challenges, Numbers}
use Rattle.rad_state.specs.Metas.{meta_row, meta_table}
use Rattle.rad_state.specs.Stores.{AreBlank, Begins, IsBlank, LeavesBeginning}
use Rattle.rad_state.specs.declared.meta.Meta.{Meta}

-- ---- blank stores

blank_trees : (view : View) → IsBlank view → AreBlank view.trees
blank_trees view blank tree few = ap (λ (t : Trees). t tree) blank.opened.fresh.settled ∙ blank.none tree few

pub are_empty : (view : View) → IsBlank view → AreEmpty view.trees
are_empty view blank Sessions = blank_trees view blank (tree_of Sessions) (omega arith)
are_empty view blank Replies = blank_trees view blank (tree_of Replies) (omega arith)
are_empty view blank Challenges = blank_trees view blank (tree_of Challenges) (omega arith)
are_empty view blank Numbers = blank_trees view blank (tree_of Numbers) (omega arith)

-- ---- a snapshot and a meta are put

not_journal : (of : SnapshotTable) → table ≡ tree_of of → ⊥
not_journal Sessions is = absurd (omega (arith, is))
not_journal Replies is = absurd (omega (arith, is))
not_journal Challenges is = absurd (omega (arith, is))
not_journal Numbers is = absurd (omega (arith, is))

not_register : (register : Register) (of : SnapshotTable) → register_tree register ≡ tree_of of → ⊥
not_register Accounting Sessions is = absurd (omega (arith, is))
not_register Accounting Replies is = absurd (omega (arith, is))
not_register Accounting Challenges is = absurd (omega (arith, is))
not_register Accounting Numbers is = absurd (omega (arith, is))
not_register Grants Sessions is = absurd (omega (arith, is))
not_register Grants Replies is = absurd (omega (arith, is))
not_register Grants Challenges is = absurd (omega (arith, is))
not_register Grants Numbers is = absurd (omega (arith, is))

not_meta : (of : SnapshotTable) → meta_table ≡ tree_of of → ⊥
not_meta Sessions is = absurd (omega (arith, is))
not_meta Replies is = absurd (omega (arith, is))
not_meta Challenges is = absurd (omega (arith, is))
not_meta Numbers is = absurd (omega (arith, is))

module _ (old mid new : View) (meta : Meta) (state : State) (blank : IsBlank old) where
  none_recorded_in : KeepsOthers old.trees mid.trees → SetsTree mid new meta_table (put_row (meta_row meta))
      → (register : Register) → new.trees (register_tree register) ≡ []
  none_recorded_in others sets Accounting =
      ap (λ (v : View). v.trees (register_tree Accounting)) sets.is
      ∙ others (register_tree Accounting) (not_register Accounting) ∙ blank_trees old blank (register_tree Accounting) (omega arith)
  none_recorded_in others sets Grants =
      ap (λ (v : View). v.trees (register_tree Grants)) sets.is
      ∙ others (register_tree Grants) (not_register Grants) ∙ blank_trees old blank (register_tree Grants) (omega arith)

  pub begun : IsSnapshotOf mid.trees state → KeepsOthers old.trees mid.trees → SetsTree mid new meta_table (put_row (meta_row meta))
      → Begins new.trees meta state
  begun snapshot others sets = let none_in = none_recorded_in others sets in record {
    held = ap (λ (v : View). v.trees meta_table) sets.is
        ∙ ap (λ (rows : List Row). put_row (meta_row meta) rows)
        (others meta_table not_meta ∙ blank_trees old blank meta_table (omega arith));
    snapshot = record {
      sessions = ap (λ (v : View). v.trees (tree_of Sessions)) sets.is ∙ snapshot.sessions;
      replies = ap (λ (v : View). v.trees (tree_of Replies)) sets.is ∙ snapshot.replies;
      challenges = ap (λ (v : View). v.trees (tree_of Challenges)) sets.is ∙ snapshot.challenges;
      numbers = ap (λ (v : View). v.trees (tree_of Numbers)) sets.is ∙ snapshot.numbers;
    };
    none = ap (λ (v : View). v.trees table) sets.is ∙ others table not_journal ∙ blank_trees old blank table (omega arith);
    none_recorded = none_in;
  }

-- ---- both are committed

pub commit_fresh : (old mid put new : View) → IsBlank old → OnlyWrites old mid → OnlyWrites mid put → Commits put new → IsFresh new
commit_fresh old mid put new blank snapshot meta commits =
    let wrote : put ≡ record old { trees = put.trees; cursors = put.cursors } =
    meta ∙ ap (λ (v : View). record v { trees = put.trees; cursors = put.cursors }) snapshot in
    subst (λ (v : View). IsFresh v) (sym commits.is) (record {
      is_open = subst IsTrue (sym (ap (λ (v : View). v.is_open) wrote)) blank.opened.fresh.is_open;
      shapes = record {
        entries = ap (λ (v : View). v.shape table) wrote ∙ blank.opened.fresh.shapes.entries;
        records = λ register. ap (λ (v : View). v.shape (register_tree register)) wrote
            ∙ blank.opened.fresh.shapes.records register;
      };
      committed_shape = refl;
      settled = refl;
    })

pub commit_begins : (put new : View) (meta : Meta) (state : State) → Begins put.trees meta state → Commits put new
    → Begins new.committed meta state
commit_begins put new meta state begins commits = subst (λ (v : View). Begins v.committed meta state) (sym commits.is) begins

module _ (old : View) (before : Trees → Type 0) (meta : Meta) (state : State) (blank : IsBlank old)
    (settled : (db : Trees) → before db → db ≡ old.committed) where
  -- nothing is committed
  pub blank_leaves : (after : Trees → Type 0) → ((db : Trees) → after db → before db) → LeavesBeginning after meta state
  blank_leaves after earlier db left =
      inl (ap (λ (t : Trees). t meta_table) (settled db (earlier db left)) ∙ blank.none meta_table (omega arith))

  -- a commit comes to its end or not
  pub commit_leaves : (put : View) (between after : Trees → Type 0) → Begins put.trees meta state
      → ((db : Trees) → between db → before db)
      → ((db : Trees) → after db → ((put.is_broken ≡ false) × (db ≡ put.trees)) ⊎ between db) → LeavesBeginning after meta state
  commit_leaves put between after begins earlier crash db left = ⊎_elim
      (λ now. inr (subst (λ (t : Trees). Begins t meta state) (sym now.1) begins))
      (λ was. blank_leaves between earlier db was)
      (crash db left)

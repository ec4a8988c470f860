-- Rows that are put into a table, one behind the other.
use Rattle.std.proofs.Common.{◌≡◌, ◌<◌, ℕ, suc, ◌+◌, Bool, cond, pos, ◌-◌, List, [], ◌∷◌, ◌++◌, map, length, Less, refl, sym, ap}
use Rattle.std.proofs.Common.{subst, ◌∙◌, arith}
use Rattle.std.specs.List.{AllByRecursion}
use Rattle.std.proofs.lemmas.Bool.{eq-eqb, ne_eqb}
use Rattle.std.proofs.lemmas.Bool.Decides.{nat_tests}
use Rattle.std.proofs.lemmas.Int.{ints}
use Rattle.std.proofs.lemmas.List.{append_assoc, length-append}
use Rattle.rad_server.specs.States.{State}
use Rattle.rad_server.specs.declared.state_row.StateRow.{StateRow}
use Rattle.rad_server.specs.declared.state_row.StateRow.TheVariants as kinds
use Rattle.sqlite_value.specs.declared.value.Value.{Value}
use Rattle.sqlite_value.specs.declared.value.Value.TheVariants.{Int}
use Rattle.sqlite_value.specs.Order.{Row, column, value_cmp}
use Rattle.sqlite_value.proofs.OrderLemmas.{value_cmp-Int}
use Rattle.sqlite_trees.specs.Tree.{Trees, put_row, with_tree}
use Rattle.sqlite_trees.specs.View.{OnlyWrites, SetsTree, View}
use Rattle.rad_snapshot.specs.Restoring.{HasRow, IsNext, IsPut, numbers_rows}
use Rattle.rad_snapshot.specs.Rows.{IsWithin, numbers_row, row_of, rows_from}
use Rattle.rad_snapshot.specs.Snapshots.{IsSnapshotOf, KeepsOthers, tree_of}
use Rattle.rad_snapshot.specs.declared.numbers.Numbers.{Numbers}
use Rattle.rad_snapshot.specs.declared.snapshot_table.SnapshotTable.{SnapshotTable}
use Rattle.rad_snapshot.specs.declared.snapshot_table.SnapshotTable.TheVariants as tables
use Rattle.rad_snapshot.proofs.RowLemmas.{one_more}

lower : (m n : ℕ) → m < n → value_cmp (Int (pos m)) (Int (pos n)) ≡ Less
lower m n lt = value_cmp-Int (pos m) (pos n) ∙ grind (arith, ints, nat_tests)

-- a row with the next rowid goes behind
put_last : (m n : ℕ) (items : List StateRow) (item : StateRow) → AllByRecursion HasRow items → HasRow item → m ≡ n + length items
    → put_row (row_of m item) (rows_from n items) ≡ rows_from n (items ++ item ∷ [])
put_last m n [] item has it is = let same : m ≡ n = omega (arith, is) in ap (λ (k : ℕ). row_of k item ∷ []) same
put_last m n (first ∷ items) item has it is =
    let order : value_cmp (column (row_of n first) 0) (column (row_of m item) 0) ≡ Less =
    ap (λ (v : Value). value_cmp v (column (row_of m item) 0)) (has.0 n) ∙ ap (λ (v : Value). value_cmp (Int (pos n)) v) (it m)
    ∙ lower n m (omega (arith, is)) in
    rw order (ap (λ (l : List Row). row_of n first ∷ l) (put_last m (suc n) items item has.1 it (omega (arith, is))))

-- ---- one tree of many

here : (trees : Trees) (tree : ℕ) (rows : List Row) → with_tree trees tree rows tree ≡ rows
here trees tree rows = ap (λ (b : Bool). cond b rows (trees tree)) (eq-eqb tree tree refl)

there : (trees : Trees) (tree other : ℕ) (rows : List Row) → (other ≡ tree → ⊥) → with_tree trees tree rows other ≡ trees other
there trees tree other rows other_is = ap (λ (b : Bool). cond b rows (trees other)) (ne_eqb other tree other_is)

-- what was put so far of all rows, and what is left
pub record PutSoFar (old new : View) (clean : Type 0) (table : SnapshotTable) (all rest : List StateRow) (place : ℕ) : Type 0 where
  pub done : List StateRow
  pub split : all ≡ done ++ rest
  pub count : place ≡ 1 + length done
  pub has : AllByRecursion HasRow done
  pub within : AllByRecursion IsWithin done
  pub put : clean → IsPut old.trees new.trees table (rows_from 1 done)

pub begun : (view : View) (clean : Type 0) (table : SnapshotTable) (all : List StateRow) → (clean → view.trees (tree_of table) ≡ [])
    → PutSoFar view view clean table all all 1
begun view clean table all empty = record {
  done = [];
  split = refl;
  count = refl;
  has = tt;
  within = tt;
  put = λ it. record { here = empty it; others = λ tree other. refl };
}

put_one : (old mid new : View) (table : SnapshotTable) (rows : List Row) (row : Row) → IsPut old.trees mid.trees table rows
    → SetsTree mid new (tree_of table) (put_row row)
    → IsPut old.trees new.trees table (put_row row rows)
put_one old mid new table rows row was sets =
    let trees : new.trees ≡ with_tree mid.trees (tree_of table) (put_row row (mid.trees (tree_of table))) =
    ap (λ (v : View). v.trees) sets.is in
    record {
      here = ap (λ (t : Trees). t (tree_of table)) trees ∙ here mid.trees (tree_of table) (put_row row (mid.trees (tree_of table)))
          ∙ ap (λ (l : List Row). put_row row l) was.here;
      others = λ tree other. ap (λ (t : Trees). t tree) trees
          ∙ there mid.trees (tree_of table) tree (put_row row (mid.trees (tree_of table))) other ∙ was.others tree other;
    }

pub put_next : (old mid new : View) (was_clean clean : Type 0) (table : SnapshotTable) (all before after : List StateRow)
    (place : ℕ) (row : Row)
    → PutSoFar old mid was_clean table all before place → IsNext before after place row → (clean → was_clean)
    → (clean → SetsTree mid new (tree_of table) (put_row row)) → PutSoFar old new clean table all after (place + 1)
put_next old mid new was_clean clean table all before after place row was next stays sets =
    let item = next.item in
    let last : place ≡ 1 + length was.done = was.count in
    let grown : 1 + length was.done + 1 ≡ 1 + length (was.done ++ item ∷ []) = longer was.done item in
    record {
      done = was.done ++ item ∷ [];
      split = was.split ∙ ap (λ (l : List StateRow). was.done ++ l) next.split ∙ sym (append_assoc was.done (item ∷ []) after);
      count = ap (λ (k : ℕ). k + 1) last ∙ grown;
      has = one_more HasRow was.done item was.has next.has;
      within = one_more IsWithin was.done item was.within next.within;
      put = λ it. subst (λ (l : List Row). IsPut old.trees new.trees table l)
          (ap (λ (r : Row). put_row r (rows_from 1 was.done)) next.is ∙ put_last place 1 was.done item was.has next.has last)
          (put_one old mid new table (rows_from 1 was.done) row (was.put (stays it)) (sets it));
    }
  where
    longer : (done : List StateRow) (item : StateRow) → 1 + length done + 1 ≡ 1 + length (done ++ item ∷ [])
    longer done item = omega (arith, length-append done (item ∷ []))

all_done : (done : List StateRow) → done ++ [] ≡ done
all_done [] = refl
all_done (d ∷ done) = ap (λ (l : List StateRow). d ∷ l) (all_done done)

pub put_all : (old new : View) (clean : Type 0) (table : SnapshotTable) (all rest : List StateRow) (place : ℕ)
    → PutSoFar old new clean table all rest place → rest ≡ []
    → clean → IsPut old.trees new.trees table (rows_from 1 all)
put_all old new clean table all rest place was none it =
    let same : was.done ≡ all = sym (all_done was.done) ∙ ap (λ (l : List StateRow). was.done ++ l) (sym none) ∙ sym was.split in
    subst (λ (l : List StateRow). IsPut old.trees new.trees table (rows_from 1 l)) same (was.put it)

pub within_all : (old new : View) (clean : Type 0) (table : SnapshotTable) (all rest : List StateRow) (place : ℕ)
    → PutSoFar old new clean table all rest place → rest ≡ []
    → AllByRecursion IsWithin all
within_all old new clean table all rest place was none =
    let same : was.done ≡ all = sym (all_done was.done) ∙ ap (λ (l : List StateRow). was.done ++ l) (sym none) ∙ sym was.split in
    subst (λ (l : List StateRow). AllByRecursion IsWithin l) same was.within

pub frames : (first second third : View) → OnlyWrites first second → OnlyWrites second third → OnlyWrites first third
frames first second third here there = there ∙ ap (λ (v : View). record v { trees = third.trees; cursors = third.cursors }) here

-- the row of numbers
pub put_first : (old new : View) (numbers : Numbers) (row : Row) → old.trees (tree_of tables.Numbers) ≡ []
    → row ≡ numbers_row numbers.clock numbers.last_session numbers.last_challenge
    → SetsTree old new (tree_of tables.Numbers) (put_row row) → IsPut old.trees new.trees tables.Numbers (numbers_rows numbers)
put_first old new numbers row empty is sets =
    subst (λ (l : List Row). IsPut old.trees new.trees tables.Numbers l) (ap (λ (r : Row). r ∷ []) is)
    (put_one old old new tables.Numbers [] row (record { here = empty; others = λ tree other. refl }) sets)

-- ---- all tables

module _ (first second third fourth fifth : Trees) (xs ys zs : List StateRow) (numbers : Numbers)
    (one : IsPut first second tables.Sessions (rows_from 1 xs)) (two : IsPut second third tables.Replies (rows_from 1 ys))
    (three : IsPut third fourth tables.Challenges (rows_from 1 zs))
    (four : IsPut fourth fifth tables.Numbers (numbers_rows numbers)) where
  pub all_written : (state : State) → xs ≡ map kinds.Session state.sessions.sessions → ys ≡ map kinds.Reply state.replies.kept
      → zs ≡ map kinds.Challenge state.challenges.challenges → numbers.clock ≡ state.clock
      → state.sessions.next ≡ numbers.last_session + 1
      → state.challenges.next ≡ numbers.last_challenge + 1 → IsSnapshotOf fifth state
  all_written state sessions replies challenges clock next next' =
      let last_session : numbers.last_session ≡ state.sessions.next - 1 = omega (arith, next) in
      let last_challenge : numbers.last_challenge ≡ state.challenges.next - 1 = omega (arith, next') in
      record {
        sessions = four.others (tree_of tables.Sessions) (λ e. omega (arith, e))
            ∙ three.others (tree_of tables.Sessions) (λ e. omega (arith, e))
            ∙ two.others (tree_of tables.Sessions) (λ e. omega (arith, e)) ∙ one.here
            ∙ ap (λ (l : List StateRow). rows_from 1 l) sessions;
        replies = four.others (tree_of tables.Replies) (λ e. omega (arith, e))
            ∙ three.others (tree_of tables.Replies) (λ e. omega (arith, e)) ∙ two.here
            ∙ ap (λ (l : List StateRow). rows_from 1 l) replies;
        challenges = four.others (tree_of tables.Challenges) (λ e. omega (arith, e)) ∙ three.here
            ∙ ap (λ (l : List StateRow). rows_from 1 l) challenges;
        numbers = four.here ∙ ap (λ (n : ℕ). numbers_row n numbers.last_session numbers.last_challenge ∷ []) clock
            ∙ ap (λ (n : ℕ). numbers_row state.clock n numbers.last_challenge ∷ []) last_session
            ∙ ap (λ (n : ℕ). numbers_row state.clock (state.sessions.next - 1) n ∷ []) last_challenge;
      }

  pub others_kept : KeepsOthers first fifth
  others_kept tree none = four.others tree (none tables.Numbers) ∙ three.others tree (none tables.Challenges)
      ∙ two.others tree (none tables.Replies) ∙ one.others tree (none tables.Sessions)

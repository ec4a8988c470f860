-- What calls do to a store with a log.
use Rattle.std.proofs.Common.{◌≡◌, ◌<◌, ◌⊎◌, inl, inr, ⊎_elim, ℕ, suc, ◌+◌, Bool, true, false, IsTrue, List, [], ◌∷◌, ◌++◌, length}
use Rattle.std.proofs.Common.{take, get_or, slice_get, cond, ne_eqb, Some, None, refl, sym, ap, subst, ◌∙◌, arith, append-nil}
use Rattle.std.proofs.Common.{append_assoc, length-append}
use mathlib.Core.Path.{fun_ext}
use Rattle.std.proofs.Math.Seq.{take-suc}
use Rattle.std.proofs.lemmas.Bool.{eq-eqb}
use Rattle.std.proofs.lemmas.List.{length-map, length-take-le, map-append, take_all}
use Rattle.std.proofs.lemmas.Option.{get_or_from_slice_get, none-some, slice_get_cases}
use Rattle.std.specs.Prelude.{option_to_list}
use Rattle.sqlite_trees.specs.Tree.{Trees, order_of, put_row, sought}
use Rattle.sqlite_trees.specs.declared.store.Direction.TheVariants.{Forward}
use Rattle.sqlite_trees.specs.View.{Advances, Commits, IsRolledBack, KeepsSchema, OnlyWrites, SetsTree, View, with_cursor}
use Rattle.sqlite_value.specs.Order.{Row}
use Rattle.rad_journal.specs.Rows.{IsCounted, IsLog, entries_of, entry_of, row_of, rows_from, table}
use Rattle.rad_journal.specs.Records.{IsJournal, record_of, records_of, register_tree, with_record}
use Rattle.rad_journal.specs.Stores.{HasTables, IsAdded, IsRecorded, IsSound, KeepsOthers, LeavesAdded, LeavesRest, OnlyReads}
use Rattle.rad_journal.specs.Stores.{TakesRecord, others}
use Rattle.rad_journal.proofs.CursorLemmas.{ends, gives, reads_on, seeks_first, some_rows, with_reads}
use Rattle.rad_journal.proofs.RowLemmas.{entries_back, put_last, record_last, records_push, rows_push}
use Rattle.rad_journal.specs.declared.kept.Kept.{Kept}
use Rattle.rad_journal.specs.declared.register.Register.{Register}
use Rattle.rad_journal.specs.declared.register.Register.TheVariants.{Accounting, Grants}

pub frames : (first second third : View) → OnlyWrites first second → OnlyWrites second third → OnlyWrites first third
frames first second third here there = there ∙ ap (λ (v : View). record v { trees = third.trees; cursors = third.cursors }) here

-- rows of entries are a log, which stands for them
pub is_log : (rows : List Row) (entries : List Kept) → rows ≡ rows_from 1 entries → IsLog rows
is_log rows entries is =
    is ∙ ap (λ (l : List Kept). rows_from 1 l) (sym (ap (λ (r : List Row). entries_of r) is ∙ entries_back 1 entries))

pub stands_for : (rows : List Row) (entries : List Kept) → rows ≡ rows_from 1 entries → entries_of rows ≡ entries
stands_for rows entries is = ap (λ (r : List Row). entries_of r) is ∙ entries_back 1 entries

-- one more entry is put
pub put_entry : (old new : View) (count m : ℕ) (entry : Kept) → SetsTree old new table (put_row (row_of m entry)) → m ≡ count + 1
    → IsCounted (old.trees table) count → new.trees table ≡ rows_from 1 (entries_of (old.trees table) ++ entry ∷ [])
put_entry old new count m entry sets is counted =
    let last : m ≡ 1 + length (entries_of (old.trees table)) = omega (arith, is, counted.1) in
    ap (λ (v : View). v.trees table) sets.is
    ∙ ap (λ (rows : List Row). put_row (row_of m entry) rows) counted.0
    ∙ put_last m 1 (entries_of (old.trees table)) entry last

-- so many of entries were put, and then one more
pub take_next : (entries : List Kept) (i : ℕ) (x : Kept) → x ≡ get_or entries i x → i < length entries
    → take (i + 1) entries ≡ take i entries ++ x ∷ []
take_next entries i x it lt =
    let one : suc i ≡ i + 1 = omega arith in
    let next : take (i + 1) entries ≡ take i entries ++ get_or entries i x ∷ [] =
    subst (λ k. take k entries ≡ take i entries ++ get_or entries i x ∷ []) one (take-suc entries i x lt) in
    next ∙ ap (λ (y : Kept). take i entries ++ y ∷ []) (sym it)

pub put_so_far : (old new : View) (before entries : List Kept) (i count m : ℕ) (x : Kept) → x ≡ get_or entries i x
    → i < length entries
    → SetsTree old new table (put_row (row_of m x)) → m ≡ count + i + 1
    → old.trees table ≡ rows_from 1 (before ++ take i entries) → length before ≡ count
    → new.trees table ≡ rows_from 1 (before ++ take (i + 1) entries)
put_so_far old new before entries i count m x it lt sets is was counted =
    let first = before ++ take i entries in
    let stands : entries_of (old.trees table) ≡ first = stands_for (old.trees table) first was in
    let taken : length (take i entries) ≡ i = length-take-le i entries (omega (arith, lt)) in
    let long : length (entries_of (old.trees table)) ≡ count + i =
    ap (λ (l : List Kept). length l) stands ∙ omega (arith, length-append before (take i entries), counted, taken) in
    put_entry old new (count + i) m x sets (omega (arith, is)) (is_log (old.trees table) first was, long)
    ∙ ap (λ (l : List Kept). rows_from 1 (l ++ x ∷ [])) stands
    ∙ ap (λ (l : List Kept). rows_from 1 l)
    (append_assoc before (take i entries) (x ∷ []) ∙ ap (λ (l : List Kept). before ++ l) (sym (take_next entries i x it lt)))

-- a write of one tree leaves the rest
pub set_rest : (old new : View) (tree : ℕ) (edit : List Row → List Row) → SetsTree old new tree edit → LeavesRest old new tree
set_rest old new tree edit sets other not =
    ap (λ (v : View). v.trees other) sets.is
    ∙ ap (λ (b : Bool). cond b (edit (old.trees tree)) (old.trees other)) (ne_eqb other tree not)

-- and so do two after one another
pub rest_on : (first second third : View) (tree : ℕ) → LeavesRest first second tree → LeavesRest second third tree
    → LeavesRest first third tree
rest_on first second third tree here there other not = there other not ∙ here other not

-- a record is put into a register
pub put_record : (old new : View) (register : Register) (row : Row) → SetsTree old new (register_tree register) (put_row row)
    → IsRecorded old new register (Some row)
put_record old new register row sets = record {
  records = ap (λ (v : View). v.trees (register_tree register)) sets.is
      ∙ ap (λ (b : Bool). cond b (put_row row (old.trees (register_tree register))) (old.trees (register_tree register)))
      (eq-eqb (register_tree register) (register_tree register) refl);
  rest = set_rest old new (register_tree register) (put_row row) sets;
}

-- no register is the table of the entries
pub not_entries : (register : Register) → table ≡ register_tree register → ⊥
not_entries Accounting is = omega (arith, is)
not_entries Grants is = omega (arith, is)

-- entries are put, and then their records into both registers
module _ (old put once new : View) (entries : LeavesRest old put table)
    (accounting : LeavesRest put once (register_tree Accounting))
    (grants : LeavesRest once new (register_tree Grants)) where
  pub entries_stay : new.trees table ≡ put.trees table
  entries_stay = grants table (not_entries Grants) ∙ accounting table (not_entries Accounting)

  pub others_stay : others new.trees ≡ others old.trees
  others_stay = fun_ext (λ tree.
      grants (suc (suc (suc tree))) (λ is. omega (arith, is))
      ∙ accounting (suc (suc (suc tree))) (λ is. omega (arith, is))
      ∙ entries (suc (suc (suc tree))) (λ is. omega (arith, is)))

  -- what each register got
  pub both_recorded : (before added : List Kept)
      → (put.trees (register_tree Accounting) ≡ records_of Accounting before
      → once.trees (register_tree Accounting) ≡ records_of Accounting (before ++ added))
      → (once.trees (register_tree Grants) ≡ records_of Grants before
      → new.trees (register_tree Grants) ≡ records_of Grants (before ++ added))
      → (register : Register) → old.trees (register_tree register) ≡ records_of register before
      → new.trees (register_tree register) ≡ records_of register (before ++ added)
  both_recorded before added first second Accounting was =
      grants (register_tree Accounting) (λ is. omega (arith, is))
      ∙ first (entries (register_tree Accounting) (λ is. omega (arith, is)) ∙ was)
  both_recorded before added first second Grants was =
      second (accounting (register_tree Grants) (λ is. omega (arith, is)) ∙ entries (register_tree Grants) (λ is. omega (arith, is))
      ∙ was)

-- so many records were put, and then one more
pub recorded_so_far : (register : Register) (old new : View) (before entries : List Kept) (i count m : ℕ) (x : Kept)
    → x ≡ get_or entries i x → i < length entries
    → IsRecorded old new register (record_of register m x) → m ≡ count + i + 1 → length before ≡ count
    → old.trees (register_tree register) ≡ records_of register (before ++ take i entries)
    → new.trees (register_tree register) ≡ records_of register (before ++ take (i + 1) entries)
recorded_so_far register old new before entries i count m x it lt put is counted was =
    let done = before ++ take i entries in
    let taken : length (take i entries) ≡ i = length-take-le i entries (omega (arith, lt)) in
    let long : m ≡ 1 + length done = omega (arith, is, length-append before (take i entries), counted, taken) in
    put.records ∙ ap (λ (rows : List Row). with_record (record_of register m x) rows) was
    ∙ record_last register m 1 done x long
    ∙ ap (λ (l : List Kept). records_of register l)
    (append_assoc before (take i entries) (x ∷ []) ∙ ap (λ (l : List Kept). before ++ l) (sym (take_next entries i x it lt)))

-- the tables stay where the shapes do
pub same_tables : (old new : View) → new.shape ≡ old.shape → HasTables old → HasTables new
same_tables old new same were = record {
  entries = ap (λ f. f table) same ∙ were.entries;
  records = λ register. ap (λ f. f (register_tree register)) same ∙ were.records register;
}

-- ---- a commit

module _ (old mid new : View) (recovers_old recovers_mid recovers_new : Trees → Type 0) (count : ℕ) (entries : List Kept)
    (was : IsSound old recovers_old true (Some count)) (outcomes : (db : Trees) → recovers_mid db → recovers_old db) where
  abbrev Puts : Type 0
  Puts = (mid.trees table ≡ rows_from 1 (entries_of (old.trees table) ++ entries))
      × ((register : Register) (before : List Kept) → length before ≡ count
      → old.trees (register_tree register) ≡ records_of register before
      → mid.trees (register_tree register) ≡ records_of register (before ++ entries))

  abbrev Leaves : Type 0
  Leaves = (db : Trees) → recovers_new db → ((mid.is_broken ≡ false) × (db ≡ mid.trees)) ⊎ recovers_mid db

  before_entries : length (entries_of (old.trees table)) ≡ count
  before_entries = ap (λ (t : Trees). length (entries_of (t table))) (was.settled refl) ∙ was.counted count refl

  before_records : (register : Register) → old.trees (register_tree register) ≡ records_of register (entries_of (old.trees table))
  before_records register = subst (λ (t : Trees). t (register_tree register) ≡ records_of register (entries_of (t table)))
      (sym (was.settled refl)) ((was.journal refl).records register)

  mid_journal : Puts → IsJournal mid.trees
  mid_journal puts = record {
    log = is_log (mid.trees table) (entries_of (old.trees table) ++ entries) puts.0;
    records = λ register. puts.1 register (entries_of (old.trees table)) before_entries (before_records register)
        ∙ ap (λ (l : List Kept). records_of register l)
        (sym (stands_for (mid.trees table) (entries_of (old.trees table) ++ entries) puts.0));
  }

  mid_entries : Puts → entries_of (mid.trees table) ≡ entries_of (old.committed table) ++ entries
  mid_entries puts = stands_for (mid.trees table) (entries_of (old.trees table) ++ entries) puts.0
      ∙ ap (λ (t : Trees). entries_of (t table) ++ entries) (was.settled refl)

  each : Puts → Leaves → (db : Trees) → recovers_new db → IsJournal db
  each puts leaves db left = ⊎_elim (λ now. subst IsJournal (sym now.1) (mid_journal puts))
      (λ before. was.outcomes db (outcomes db before)) (leaves db left)

  pub commit_leaves : Puts → Leaves → LeavesAdded old recovers_old recovers_new entries
  commit_leaves puts leaves db left =
      ⊎_elim (λ now. inr (ap (λ (t : Trees). entries_of (t table)) now.1 ∙ mid_entries puts)) (λ before. inl (outcomes db before))
      (leaves db left)

  -- what is beside the table stays, also where the commit fails
  pub commit_keeps : others mid.trees ≡ others old.trees → Leaves → (mid.is_broken ≡ false → recovers_old old.committed)
      → KeepsOthers recovers_old recovers_new
  commit_keeps same leaves stays beside were db left =
      ⊎_elim
      (λ now. ap (λ (t : Trees). others t) now.1 ∙ same ∙ ap (λ (t : Trees). others t) (was.settled refl)
      ∙ were old.committed (stays now.0))
      (λ before. were db (outcomes db before))
      (leaves db left)

  pub commit_sound : Puts → Leaves → OnlyWrites old mid → Commits mid new
      → IsSound new recovers_new true (Some (count + length entries))
  commit_sound puts leaves frame commits =
      let committed : new.committed ≡ mid.trees = ap (λ (v : View). v.committed) commits.is in
      let shape : new.shape ≡ old.shape = ap (λ (v : View). v.shape) commits.is ∙ ap (λ (v : View). v.shape) frame in
      record {
        outcomes = each puts leaves;
        shapes = λ _. same_tables old new shape (was.shapes refl);
        committed_shape = λ _. ap (λ (v : View). v.shape) commits.is ∙ sym (ap (λ (v : View). v.committed_shape) commits.is);
        known = λ _. refl;
        settled = λ _. ap (λ (v : View). v.trees) commits.is ∙ sym committed;
        journal = λ _. subst IsJournal (sym committed) (mid_journal puts);
        counted = λ n is.
            let sum : count + length entries ≡ n = cc is in
            let long : length (entries_of (new.committed table)) ≡ length (entries_of (old.committed table) ++ entries) =
            ap (λ (t : Trees). length (entries_of (t table))) committed ∙ ap (λ (l : List Kept). length l) (mid_entries puts) in
            let before : length (entries_of (old.committed table)) ≡ count = was.counted count refl in
            omega (arith, long, length-append (entries_of (old.committed table)) entries, before, sum);
      }

  pub commit_added : Puts → OnlyWrites old mid → Commits mid new → IsTrue old.is_open → IsAdded old new entries
  commit_added puts frame commits is_open = record {
    was_open = is_open;
    is_open = ap (λ (v : View). v.is_open) commits.is ∙ ap (λ (v : View). v.is_open) frame ∙ is_open;
    added = ap (λ (v : View). entries_of (v.committed table)) commits.is ∙ mid_entries puts;
  }

  pub commit_failed : Puts → Leaves → KeepsSchema old mid → IsRolledBack mid new → IsSound new recovers_new true None
  commit_failed puts leaves schema back =
      let same : mid.shape ≡ mid.committed_shape = schema.shape ∙ was.committed_shape refl ∙ sym schema.committed_shape in
      let shape : new.shape ≡ mid.shape = back.shape same in
      record {
        outcomes = each puts leaves;
        shapes = λ _. same_tables old new (shape ∙ schema.shape) (was.shapes refl);
        committed_shape = λ _. shape ∙ same ∙ sym back.committed_shape;
        known = λ none. absurd (cc none);
        settled = λ none. absurd (cc none);
        journal = λ none. absurd (cc none);
        counted = λ n none. absurd (cc none);
      }

  pub put_failed : KeepsSchema old mid → IsSound mid recovers_mid true None
  put_failed schema = record {
    outcomes = λ db left. was.outcomes db (outcomes db left);
    shapes = λ _. same_tables old mid schema.shape (was.shapes refl);
    committed_shape = λ _. schema.shape ∙ was.committed_shape refl ∙ sym schema.committed_shape;
    known = λ none. absurd (cc none);
    settled = λ none. absurd (cc none);
    journal = λ none. absurd (cc none);
    counted = λ n none. absurd (cc none);
  }

open_if : (is_open is_broken : Bool) → (is_open ≡ false → IsTrue is_broken) → is_broken ≡ false → IsTrue is_open
open_if true is_broken law sound = refl
open_if false is_broken law sound = absurd (let broken = law refl in cc (broken, sound))

-- a store whose transaction is not broken after writes was open before them
pub still_open : (old mid : View) → (old.is_open ≡ false → IsTrue old.is_broken) → OnlyWrites old mid → mid.is_broken ≡ false
    → IsTrue old.is_open
still_open old mid law frame sound = open_if old.is_open old.is_broken law (sym (ap (λ (v : View). v.is_broken) frame) ∙ sound)

-- ---- the check of the rows

-- one more row is that of an entry
pub one_more : (rows done left : List Row) (row : Row) (n : ℕ) → rows ≡ done ++ row ∷ left → done ≡ rows_from 1 (entries_of done)
    → length done ≡ n → row ≡ row_of (1 + n) (entry_of row)
    → (done ++ row ∷ [] ≡ rows_from 1 (entries_of (done ++ row ∷ [])))
one_more rows done left row n is was long same =
    let all : entries_of (done ++ row ∷ []) ≡ entries_of done ++ entry_of row ∷ [] = map-append entry_of done (row ∷ []) in
    let count : length (entries_of done) ≡ n = length-map done entry_of ∙ long in
    let last : 1 + n ≡ 1 + length (entries_of done) = omega (arith, count) in
    ap (λ (l : List Row). l ++ row ∷ []) was ∙ ap (λ (r : Row). rows_from 1 (entries_of done) ++ r ∷ []) same
    ∙ sym (rows_push (1 + n) 1 (entries_of done) (entry_of row) last) ∙ ap (λ (l : List Kept). rows_from 1 l) (sym all)

-- so many rows were read, and those are entries
abbrev pub SoFar : List Row → View → ℕ → Type 0
SoFar rows v n = (done left : List Row) × (rows ≡ done ++ left) × (v.cursors 0 ≡ Some left) × (done ≡ rows_from 1 (entries_of done))
    × (length done ≡ n)

pub seeks : (old new : View) (key : Row) → key ≡ []
    → new ≡ with_cursor old 0 (sought (order_of (old.shape table)) Forward key (old.trees table))
    → SoFar (old.trees table) new 0 × OnlyReads old new
seeks old new key none is =
    let first = seeks_first old new table key none is in
    (([], old.trees table, refl, first.0, refl, refl), first.1)

pub advances : (first old new : View) (rows : List Row) (row : Row) (n : ℕ) → Advances old new 0 row true
    → row ≡ row_of (1 + n) (entry_of row) → SoFar rows old n → OnlyReads first old → SoFar rows new (n + 1) × OnlyReads first new
advances first old new rows row n step same (done, left, split, cursor, is, long) reads =
    let after : left ≡ row ∷ step.0 = some_rows left (row ∷ step.0) (sym cursor ∙ step.1) in
    let whole : rows ≡ done ++ row ∷ step.0 = split ∙ ap (λ (l : List Row). done ++ l) after in (
      (
        done ++ row ∷ [],
        step.0,
        whole ∙ sym (append_assoc done (row ∷ []) step.0),
        ap (λ (v : View). v.cursors 0) step.2,
        one_more rows done step.0 row n whole is long same,
        omega (arith, length-append done (row ∷ []), long),
      ),
      step.2 ∙ ap (λ (v : View). with_cursor v 0 step.0) reads
          ∙ ap (λ cs. record first { cursors = cs })
          (sym (ap (λ (v : View). v.cursors) (step.2 ∙ ap (λ (v : View). with_cursor v 0 step.0) reads))),
    )

-- ---- the check of the records

-- there is none
pub takes_none : (old new : View) → new ≡ old → TakesRecord old new None
takes_none old new same = record {
  reads = same ∙ ap (λ cs. record old { cursors = cs }) (sym (ap (λ (v : View). v.cursors) same));
  takes = λ left at. (left, refl, ap (λ (v : View). v.cursors 0) same ∙ at);
}

-- it was read, and is this one
pub takes_one : (old mid new : View) (row wanted : Row) → mid ≡ old → Advances mid new 0 row true → row ≡ wanted
    → TakesRecord old new (Some wanted)
takes_one old mid new row wanted same step is = record {
  reads = reads_on old mid new (takes_none old mid same).reads (with_reads mid new step.0 step.2);
  takes = λ left at.
      let (rest, split, now, reads) = gives mid new left row step (ap (λ (v : View). v.cursors 0) same ∙ at) in
      (rest, split ∙ ap (λ (r : Row). r ∷ rest) is, now);
}

-- the records of so many entries were read
abbrev pub RecordsSoFar : Register → View → View → ℕ → Type 0
RecordsSoFar register first v n = (left : List Row)
    × (first.trees (register_tree register) ≡ records_of register (take n (entries_of (first.trees table))) ++ left)
    × (v.cursors 0 ≡ Some left)

-- an entry that is there
found_get : (entries : List Kept) (n : ℕ) (entry : Kept) → slice_get entries n ≡ Some entry
    → (n < length entries) × (entry ≡ get_or entries n entry)
found_get entries n entry is = (
  ⊎_elim (λ has. has.1) (λ none. absurd (none-some _ (sym none.1 ∙ is))) (slice_get_cases entries n).1,
  sym (get_or_from_slice_get entries n entry entry is),
)

pub record_next : (register : Register) (first old new : View) (n : ℕ) (entry : Kept) → RecordsSoFar register first old n
    → slice_get (entries_of (first.trees table)) n ≡ Some entry → TakesRecord old new (record_of register (1 + n) entry)
    → RecordsSoFar register first new (n + 1)
record_next register first old new n entry (left, split, at) is takes =
    let entries = entries_of (first.trees table) in
    let (rest, parts, now) = takes.takes left at in
    let found = found_get entries n entry is in
    let taken : length (take n entries) ≡ n = length-take-le n entries (omega (arith, found.0)) in
    let last : 1 + n ≡ 1 + length (take n entries) = omega (arith, taken) in (
      rest,
      split ∙ ap (λ (l : List Row). records_of register (take n entries) ++ l) parts
          ∙ sym (append_assoc (records_of register (take n entries)) (option_to_list (record_of register (1 + n) entry)) rest)
          ∙ ap (λ (l : List Row). l ++ rest) (sym (records_push register (1 + n) 1 (take n entries) entry last))
          ∙ ap (λ (l : List Kept). records_of register l ++ rest) (sym (take_next entries n entry found.1 found.0)),
      now,
    )

-- and no more are left
pub records_end : (register : Register) (first old new : View) (row : Row) (n : ℕ) → RecordsSoFar register first old n
    → length (entries_of (first.trees table)) ≡ n
    → Advances old new 0 row false → first.trees (register_tree register) ≡ records_of register (entries_of (first.trees table))
records_end register first old new row n (left, split, at) long step =
    let entries = entries_of (first.trees table) in
    let none = (ends old new left row step at).0 in
    split ∙ ap (λ (l : List Row). records_of register (take n entries) ++ l) none
    ∙ append-nil (records_of register (take n entries))
    ∙ ap (λ (l : List Kept). records_of register l) (take_all n entries (omega (arith, long)))

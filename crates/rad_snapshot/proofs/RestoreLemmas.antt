-- Rows that are put back one after the other.
use Rattle.std.proofs.Common.{◌≡◌, ℕ, ◌+◌, ⊎_elim, List, [], ◌∷◌, ◌++◌, map, length, Result, Ok, Err, refl, sym, ap, subst, ◌∙◌}
use Rattle.std.proofs.lemmas.List.{append-nil, append_assoc}
use Rattle.std.specs.List.{AllByRecursion}
use Rattle.rad_config.specs.Configurations.{Configuration}
use Rattle.rad_packet.specs.Ladders.{◌>>=◌}
use Rattle.rad_pool.specs.declared.session.Session.{Session}
use Rattle.rad_recent.specs.declared.challenge.Challenge.{Challenge}
use Rattle.rad_recent.specs.declared.kept.Kept.{Kept}
use Rattle.rad_row_fault.specs.Follows.{FollowsRules}
use Rattle.rad_row_fault.specs.declared.row_fault.RowFault.{RowFault}
use Rattle.rad_row_fault.specs.declared.row_fault.RowFault.TheVariants as faults
use Rattle.rad_server.specs.Restored.{restorable, restored, with_row}
use Rattle.rad_server.specs.States.{State}
use Rattle.rad_server.specs.declared.state_row.StateRow.{StateRow}
use Rattle.rad_server.specs.declared.state_row.StateRow.TheVariants as rows
use Rattle.sqlite_value.specs.Order.{Row}
use Rattle.rad_snapshot.specs.Faults.{IsOfRows, refused_at}
use Rattle.rad_snapshot.specs.Restoring.{ArePutBack, CannotPutBack, IsOf, IsRowAt}
use Rattle.rad_snapshot.specs.Rows.{IsWithin, row_of, rows_from}
use Rattle.rad_snapshot.specs.declared.snapshot_table.SnapshotTable.{SnapshotTable}
use Rattle.rad_snapshot.specs.declared.snapshot_table.SnapshotTable.TheVariants as tables
use Rattle.rad_snapshot.proofs.RowLemmas.{IsCut, cut_at, one_of, row_same, rows_same}

-- ---- results

bound : {A B E : Type 0} (first : Result A E) (next : A → Result B E) (value : B) → (first >>= next) ≡ Ok value
    → (x : A) × (first ≡ Ok x) × (next x ≡ Ok value)
bound (Ok x) next value is = (x, refl, is)
bound (Err fault) next value is = absurd (cc)

pub ok_has : (x y : State) → ◌≡◌ {A = Result State RowFault} (Ok x) (Ok y) → x ≡ y
ok_has x y is = ap inside is
  where
    inside : Result State RowFault → State
    inside (Ok value) = value
    inside (Err fault) = x

-- ---- one row

passes : (configuration : Configuration) (row : StateRow) (rest : List StateRow) (before after : State)
    → restored configuration (row ∷ rest) before ≡ Ok after
    → (restorable configuration row before ≡ Ok tt) × (restored configuration rest (with_row row before) ≡ Ok after)
unfolding restored
passes configuration row rest before after is =
    let parts = bound (restorable configuration row before) (λ fits. restored configuration rest (with_row row before)) after is in
    (fit (restorable configuration row before) parts.0 parts.1, parts.2)
  where
    fit : (r : Result (Unit {0}) RowFault) (x : Unit {0}) → r ≡ Ok x → r ≡ Ok tt
    fit r x is = is

goes : (configuration : Configuration) (row : StateRow) (rest : List StateRow) (before : State)
    → restorable configuration row before ≡ Ok tt
    → restored configuration (row ∷ rest) before ≡ restored configuration rest (with_row row before)
unfolding restored
goes configuration row rest before fits = ap (λ r. r >>= λ done. restored configuration rest (with_row row before)) fits

pub no_row : (configuration : Configuration) (before : State) → restored configuration [] before ≡ Ok before
unfolding restored
no_row configuration before = refl

-- a server that put a row back is at the state with it
pub one_restored : (configuration : Configuration) (row : StateRow) (before after : State)
    → FollowsRules (restorable configuration row before) (Ok tt)
    → after ≡ with_row row before → restored configuration (row ∷ []) before ≡ Ok after
one_restored configuration row before after follows is =
    let fits : restorable configuration row before ≡ Ok tt = ⊎_elim (λ same. sym same) (λ other. other.0) follows in
    goes configuration row [] before fits ∙ no_row configuration (with_row row before) ∙ ap (λ (s : State). Ok s) (sym is)

-- a row that a server refuses leads nowhere
pub one_refused : (configuration : Configuration) (table : SnapshotTable) (place : ℕ) (row : StateRow) (before : State)
    (fault : RowFault)
    → FollowsRules (restorable configuration row before) (Err fault) → IsOfRows (refused_at table place fault)
    → (after : State) → restored configuration (row ∷ []) before ≡ Ok after → ⊥
one_refused configuration table place row before fault follows of_rows after is =
    let fits = (passes configuration row [] before after is).0 in
    ⊎_elim (λ same. absurd (cc (same, fits))) (λ other. memory fault (same_fault fault other.1) of_rows) follows
  where
    same_fault : (f : RowFault) → ◌≡◌ {A = Result (Unit {0}) RowFault} (Err f) (Err faults.NoMemory) → f ≡ faults.NoMemory
    same_fault f same = cc same

    memory : (f : RowFault) → f ≡ faults.NoMemory → IsOfRows (refused_at table place f) → ⊥
    memory f same of = subst (λ (g : RowFault). IsOfRows (refused_at table place g)) same of

-- ---- rows that follow one another

pub split : (configuration : Configuration) (xs ys : List StateRow) (before after : State)
    → restored configuration (xs ++ ys) before ≡ Ok after
    → (mid : State) × (restored configuration xs before ≡ Ok mid) × (restored configuration ys mid ≡ Ok after)
split configuration [] ys before after is = (before, no_row configuration before, is)
split configuration (x ∷ xs) ys before after is =
    let one = passes configuration x (xs ++ ys) before after is in
    let more = split configuration xs ys (with_row x before) after one.1 in
    (more.0, goes configuration x xs before one.0 ∙ more.1, more.2)

pub join : (configuration : Configuration) (xs ys : List StateRow) (before mid : State) → restored configuration xs before ≡ Ok mid
    → restored configuration (xs ++ ys) before ≡ restored configuration ys mid
join configuration [] ys before mid is =
    ap (λ (s : State). restored configuration ys s) (ok_has before mid (sym (no_row configuration before) ∙ is))
join configuration (x ∷ xs) ys before mid is =
    let one = passes configuration x xs before mid is in
    goes configuration x (xs ++ ys) before one.0 ∙ join configuration xs ys (with_row x before) mid one.1

-- two states that rows lead to are one
pub leads_to_one : (configuration : Configuration) (xs : List StateRow) (before one other : State)
    → restored configuration xs before ≡ Ok one
    → restored configuration xs before ≡ Ok other → one ≡ other
leads_to_one configuration xs before one other here there = ok_has one other (sym here ∙ there)

-- ---- a table

module _ (configuration : Configuration) (table : SnapshotTable) (stored : List Row) (before : State) where
  pub put_back_same : (after other : State) → ArePutBack configuration table stored before after
      → ArePutBack configuration table stored before other → after ≡ other
  put_back_same after other one two =
      let same : one.items ≡ two.items = rows_same table 1 one.items two.items one.kind two.kind (sym one.are ∙ two.are) in
      leads_to_one configuration two.items before after other
      (subst (λ (l : List StateRow). restored configuration l before ≡ Ok after) same one.restored) two.restored

  module _ (done : List StateRow) (row : Row) (left : List Row) (now : State) (are : stored ≡ rows_from 1 done ++ row ∷ left)
      (kinds : AllByRecursion (IsOf table) done) (led : restored configuration done before ≡ Ok now) where
    cut_of : (after : State) (put : ArePutBack configuration table stored before after) → IsCut 1 done put.items row
    cut_of after put = cut_at table 1 done put.items row left kinds put.kind (sym put.are ∙ are)

    -- a row that is none of the table's
    pub stray : (place : ℕ) → place ≡ 1 + length done → (IsRowAt table place row → ⊥)
        → CannotPutBack configuration table stored before
    stray place is none after put within =
        let cut = cut_of after put in
        none (record {
          item = cut.item;
          kind = one_of (IsOf table) done cut.item cut.rest
              (subst (λ (l : List StateRow). AllByRecursion (IsOf table) l) cut.split put.kind);
          within = one_of IsWithin done cut.item cut.rest
              (subst (λ (l : List StateRow). AllByRecursion IsWithin l) cut.split within);
          is = cut.is ∙ ap (λ (k : ℕ). row_of k cut.item) (sym is);
        })

    -- a row that is refused
    pub refused : (place : ℕ) (item : StateRow) → place ≡ 1 + length done → IsOf table item → row ≡ row_of place item
        → ((after : State) → restored configuration (item ∷ []) now ≡ Ok after → ⊥)
        → CannotPutBack configuration table stored before
    refused place item is kind of never after put within =
        let cut = cut_of after put in
        let kind' = one_of (IsOf table) done cut.item cut.rest
        (subst (λ (l : List StateRow). AllByRecursion (IsOf table) l) cut.split put.kind) in
        let same : cut.item ≡ item =
        row_same table place cut.item item kind' kind (ap (λ (k : ℕ). row_of k cut.item) is ∙ sym cut.is ∙ of) in
        let led' = split configuration done (cut.item ∷ cut.rest) before after
        (subst (λ (l : List StateRow). restored configuration l before ≡ Ok after) cut.split put.restored) in
        let here : led'.0 ≡ now = leads_to_one configuration done before led'.0 now led'.1 led in
        let one = split configuration (cut.item ∷ []) cut.rest led'.0 after led'.2 in
        never one.0 (subst (λ (s : State). restored configuration (item ∷ []) s ≡ Ok one.0) here
        (subst (λ (x : StateRow). restored configuration (x ∷ []) led'.0 ≡ Ok one.0) same one.1))

-- ---- lists of rows of one kind

-- rows of the table of sessions are those of sessions
pub sessions_as : (items : List StateRow) → AllByRecursion (IsOf tables.Sessions) items
    → (xs : List Session) × (items ≡ map rows.Session xs)
sessions_as [] kinds = ([], refl)
sessions_as (rows.Session session ∷ items) kinds =
    let more = sessions_as items kinds.1 in
    (session ∷ more.0, ap (λ (l : List StateRow). rows.Session session ∷ l) more.1)
sessions_as (rows.LastSession last ∷ items) kinds = absurd kinds.0
sessions_as (rows.Reply reply ∷ items) kinds = absurd kinds.0
sessions_as (rows.Challenge challenge ∷ items) kinds = absurd kinds.0
sessions_as (rows.LastChallenge last ∷ items) kinds = absurd kinds.0

pub sessions_of : (xs : List Session) → AllByRecursion (IsOf tables.Sessions) (map rows.Session xs)
sessions_of [] = tt
sessions_of (x ∷ xs) = (tt, sessions_of xs)

-- rows of the table of replies are those of replies
pub replies_as : (items : List StateRow) → AllByRecursion (IsOf tables.Replies) items
    → (xs : List Kept) × (items ≡ map rows.Reply xs)
replies_as [] kinds = ([], refl)
replies_as (rows.Session session ∷ items) kinds = absurd kinds.0
replies_as (rows.LastSession last ∷ items) kinds = absurd kinds.0
replies_as (rows.Reply reply ∷ items) kinds =
    let more = replies_as items kinds.1 in
    (reply ∷ more.0, ap (λ (l : List StateRow). rows.Reply reply ∷ l) more.1)
replies_as (rows.Challenge challenge ∷ items) kinds = absurd kinds.0
replies_as (rows.LastChallenge last ∷ items) kinds = absurd kinds.0

pub replies_of : (xs : List Kept) → AllByRecursion (IsOf tables.Replies) (map rows.Reply xs)
replies_of [] = tt
replies_of (x ∷ xs) = (tt, replies_of xs)

-- rows of the table of challenges are those of challenges
pub challenges_as : (items : List StateRow) → AllByRecursion (IsOf tables.Challenges) items
    → (xs : List Challenge) × (items ≡ map rows.Challenge xs)
challenges_as [] kinds = ([], refl)
challenges_as (rows.Session session ∷ items) kinds = absurd kinds.0
challenges_as (rows.LastSession last ∷ items) kinds = absurd kinds.0
challenges_as (rows.Reply reply ∷ items) kinds = absurd kinds.0
challenges_as (rows.Challenge challenge ∷ items) kinds =
    let more = challenges_as items kinds.1 in
    (challenge ∷ more.0, ap (λ (l : List StateRow). rows.Challenge challenge ∷ l) more.1)
challenges_as (rows.LastChallenge last ∷ items) kinds = absurd kinds.0

pub challenges_of : (xs : List Challenge) → AllByRecursion (IsOf tables.Challenges) (map rows.Challenge xs)
challenges_of [] = tt
challenges_of (x ∷ xs) = (tt, challenges_of xs)

-- ---- what the rows of a table make of a state

pub sessions_put : (configuration : Configuration) (xs : List Session) (before after : State)
    → restored configuration (map rows.Session xs) before ≡ Ok after
    → (next : ℕ) × (after ≡ record before
    { sessions = record before.sessions { sessions = before.sessions.sessions ++ xs; next = next } })
sessions_put configuration [] before after is =
    let same : before ≡ after = ok_has before after (sym (no_row configuration before) ∙ is) in (
      before.sessions.next,
      sym same ∙ ap (λ (l : List Session). record before { sessions = record before.sessions { sessions = l } })
          (sym (append-nil before.sessions.sessions)),
    )
sessions_put configuration (x ∷ xs) before after is =
    let one = passes configuration (rows.Session x) (map rows.Session xs) before after is in
    let more = sessions_put configuration xs (with_row (rows.Session x) before) after one.1 in (
      more.0,
      more.1 ∙ ap (λ (l : List Session). record before { sessions = record before.sessions { sessions = l; next = more.0 } })
          (append_assoc before.sessions.sessions (x ∷ []) xs),
    )

pub replies_put : (configuration : Configuration) (xs : List Kept) (before after : State)
    → restored configuration (map rows.Reply xs) before ≡ Ok after
    → after ≡ record before { replies = record before.replies { kept = before.replies.kept ++ xs } }
replies_put configuration [] before after is =
    let same : before ≡ after = ok_has before after (sym (no_row configuration before) ∙ is) in
    sym same ∙ ap (λ (l : List Kept). record before { replies = record before.replies { kept = l } })
    (sym (append-nil before.replies.kept))
replies_put configuration (x ∷ xs) before after is =
    let one = passes configuration (rows.Reply x) (map rows.Reply xs) before after is in
    replies_put configuration xs (with_row (rows.Reply x) before) after one.1
    ∙ ap (λ (l : List Kept). record before { replies = record before.replies { kept = l } })
    (append_assoc before.replies.kept (x ∷ []) xs)

pub challenges_put : (configuration : Configuration) (xs : List Challenge) (before after : State)
    → restored configuration (map rows.Challenge xs) before ≡ Ok after
    → (next : ℕ) × (after ≡ record before
    { challenges = record before.challenges { challenges = before.challenges.challenges ++ xs; next = next } })
challenges_put configuration [] before after is =
    let same : before ≡ after = ok_has before after (sym (no_row configuration before) ∙ is) in (
      before.challenges.next,
      sym same ∙ ap (λ (l : List Challenge). record before { challenges = record before.challenges { challenges = l } })
          (sym (append-nil before.challenges.challenges)),
    )
challenges_put configuration (x ∷ xs) before after is =
    let one = passes configuration (rows.Challenge x) (map rows.Challenge xs) before after is in
    let more = challenges_put configuration xs (with_row (rows.Challenge x) before) after one.1 in (
      more.0,
      more.1 ∙ ap (λ (l : List Challenge). record before
          { challenges = record before.challenges { challenges = l; next = more.0 } })
          (append_assoc before.challenges.challenges (x ∷ []) xs),
    )

-- a row of its own leads to the state with it
pub one_put : (configuration : Configuration) (row : StateRow) (before after : State)
    → restored configuration (row ∷ []) before ≡ Ok after → after ≡ with_row row before
one_put configuration row before after is =
    let one = passes configuration row [] before after is in
    ok_has after (with_row row before) (sym one.1 ∙ no_row configuration (with_row row before))

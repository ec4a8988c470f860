-- The rows of four tables, and the state that they are the snapshot of.
use Rattle.std.proofs.Common.{◌≡◌, ℕ, ◌+◌, ◌-◌, ◌<◌, List, [], ◌∷◌, ◌++◌, map, Result, Ok, sym, ap, subst, ◌∙◌, arith}
use Rattle.rad_config.specs.Configurations.{Configuration}
use Rattle.rad_config.specs.Spans.{moment_max}
use Rattle.rad_row_fault.specs.declared.row_fault.RowFault.{RowFault}
use Rattle.rad_server.specs.Lawful.{RestoreRebuilds}
use Rattle.rad_server.specs.Restored.{rebuilt, restored, with_row}
use Rattle.rad_server.specs.States.{State, at_moment, opening}
use Rattle.rad_server.specs.declared.state_row.StateRow.{StateRow}
use Rattle.rad_server.specs.declared.state_row.StateRow.TheVariants as rows
use Rattle.sqlite_trees.specs.Tree.{Trees}
use Rattle.sqlite_value.specs.Order.{Row, column}
use Rattle.rad_journal.specs.Rows.{number_of}
use Rattle.rad_snapshot.specs.Restoring.{AreAllPutBack, ArePutBack, CannotAllPutBack, CannotPutBack, numbers_rows}
use Rattle.rad_snapshot.specs.Rows.{numbers_row, rows_from}
use Rattle.rad_snapshot.specs.Snapshots.{IsNoSnapshot, IsSnapshotOf, OneSnapshotOneState, tree_of}
use Rattle.rad_snapshot.specs.declared.numbers.Numbers.{Numbers}
use Rattle.rad_snapshot.specs.declared.snapshot_table.SnapshotTable.TheVariants as tables
use Rattle.rad_snapshot.proofs.RestoreLemmas.{challenges_as, challenges_of, challenges_put, leads_to_one, ok_has, one_put}
use Rattle.rad_snapshot.proofs.RestoreLemmas.{put_back_same, replies_as, replies_of, replies_put, sessions_as, sessions_of}
use Rattle.rad_snapshot.proofs.RestoreLemmas.{sessions_put, split}
use Rattle.rad_snapshot.proofs.RowLemmas.{rows_same}

-- ---- the row of numbers

-- a number of the first row
pick : ℕ → List Row → ℕ
pick at [] = 0
pick at (row ∷ rest) = number_of (column row at)

-- the numbers of a state
abbrev pub numbers_of : State → Numbers
numbers_of state =
    record { clock = state.clock; last_session = state.sessions.next - 1; last_challenge = state.challenges.next - 1 }

pub numbers_same : (one other : Numbers) → numbers_rows one ≡ numbers_rows other → one ≡ other
unfolding pick
numbers_same one other same =
    let clock : one.clock ≡ other.clock = ap (λ (l : List Row). pick 1 l) same in
    let last_session : one.last_session ≡ other.last_session = ap (λ (l : List Row). pick 2 l) same in
    let last_challenge : one.last_challenge ≡ other.last_challenge = ap (λ (l : List Row). pick 3 l) same in
    ap (λ (n : ℕ). record one { clock = n }) clock
    ∙ ap (λ (n : ℕ). record one { clock = other.clock; last_session = n }) last_session
    ∙ ap (λ (n : ℕ). record other { last_challenge = n }) last_challenge

-- ---- one snapshot, one state

listed : List StateRow → List StateRow → List StateRow → Numbers → List StateRow
listed sessions replies challenges numbers =
    sessions ++ rows.LastSession numbers.last_session ∷ (replies ++ (challenges ++ rows.LastChallenge numbers.last_challenge ∷ []))

pub one_state : RestoreRebuilds → OneSnapshotOneState
unfolding listed
one_state rebuilds configuration trees one other lawful lawful' is is' =
    let a : map rows.Session one.sessions.sessions ≡ map rows.Session other.sessions.sessions =
    rows_same tables.Sessions 1 _ _ (sessions_of one.sessions.sessions) (sessions_of other.sessions.sessions)
    (sym is.sessions ∙ is'.sessions) in
    let b : map rows.Reply one.replies.kept ≡ map rows.Reply other.replies.kept =
    rows_same tables.Replies 1 _ _ (replies_of one.replies.kept) (replies_of other.replies.kept) (sym is.replies ∙ is'.replies) in
    let c : map rows.Challenge one.challenges.challenges ≡ map rows.Challenge other.challenges.challenges =
    rows_same tables.Challenges 1 _ _ (challenges_of one.challenges.challenges) (challenges_of other.challenges.challenges)
    (sym is.challenges ∙ is'.challenges) in
    let n : numbers_of one ≡ numbers_of other = numbers_same (numbers_of one) (numbers_of other) (sym is.numbers ∙ is'.numbers) in
    let make : List StateRow → List StateRow → List StateRow → Numbers → Result State RowFault =
    λ sessions replies challenges numbers. restored configuration (listed sessions replies challenges numbers)
    (at_moment numbers.clock (opening configuration)) in
    let xs = map rows.Session one.sessions.sessions in
    let ys = map rows.Reply one.replies.kept in
    let zs = map rows.Challenge one.challenges.challenges in
    let xs' = map rows.Session other.sessions.sessions in
    let ys' = map rows.Reply other.replies.kept in
    let zs' = map rows.Challenge other.challenges.challenges in
    let same : rebuilt configuration one ≡ rebuilt configuration other =
    ap (λ (l : List StateRow). make l ys zs (numbers_of one)) a ∙ ap (λ (l : List StateRow). make xs' l zs (numbers_of one)) b
    ∙ ap (λ (l : List StateRow). make xs' ys' l (numbers_of one)) c ∙ ap (λ (k : Numbers). make xs' ys' zs' k) n in
    ok_has one other (sym (rebuilds configuration one lawful) ∙ same ∙ rebuilds configuration other lawful')

-- ---- a state that the rows lead to

clock_at : (configuration : Configuration) (clock : ℕ) → (at_moment clock (opening configuration)).clock ≡ clock
clock_at configuration clock = grind (arith)

less_one : (n : ℕ) → n + 1 - 1 ≡ n
less_one n = omega arith

pub lead_to : (configuration : Configuration) (trees : Trees) (numbers : Numbers) (after : State)
    → trees (tree_of tables.Numbers) ≡ numbers_rows numbers
    → AreAllPutBack configuration trees numbers (at_moment numbers.clock (opening configuration)) after → IsSnapshotOf trees after
lead_to configuration trees numbers after is put =
    let start = at_moment numbers.clock (opening configuration) in
    let (xs, sessions) = sessions_as put.sessions.items put.sessions.kind in
    let (ys, replies) = replies_as put.replies.items put.replies.kind in
    let (zs, challenges) = challenges_as put.challenges.items put.challenges.kind in
    let (next, granted) = sessions_put configuration xs start put.granted
    (subst (λ (l : List StateRow). restored configuration l start ≡ Ok put.granted) sessions put.sessions.restored) in
    let numbered = one_put configuration (rows.LastSession numbers.last_session) put.granted put.numbered put.last_session in
    let replied = replies_put configuration ys put.numbered put.replied
    (subst (λ (l : List StateRow). restored configuration l put.numbered ≡ Ok put.replied) replies put.replies.restored) in
    let (next', challenged) = challenges_put configuration zs put.replied put.challenged
    (subst (λ (l : List StateRow). restored configuration l put.replied ≡ Ok put.challenged) challenges
    put.challenges.restored) in
    let last = one_put configuration (rows.LastChallenge numbers.last_challenge) put.challenged after put.last_challenge in
    let numbered' : put.numbered ≡ with_row (rows.LastSession numbers.last_session)
    (record start { sessions = record start.sessions { sessions = xs; next = next } }) =
    numbered ∙ ap (λ (s : State). with_row (rows.LastSession numbers.last_session) s) granted in
    let replied' : put.replied ≡ record start {
      sessions = record start.sessions { sessions = xs; next = numbers.last_session + 1 };
      replies = record start.replies { kept = ys };
    } =
    replied ∙ ap (λ (s : State). record s { replies = record s.replies { kept = s.replies.kept ++ ys } }) numbered' in
    let challenged' : put.challenged
    ≡ record start {
      sessions = record start.sessions { sessions = xs; next = numbers.last_session + 1 };
      replies = record start.replies { kept = ys };
      challenges = record start.challenges { challenges = zs; next = next' };
    } =
    challenged ∙ ap (λ (s : State). record s
    { challenges = record s.challenges { challenges = s.challenges.challenges ++ zs; next = next' } }) replied' in
    let all : after ≡ record start {
      sessions = record start.sessions { sessions = xs; next = numbers.last_session + 1 };
      replies = record start.replies { kept = ys };
      challenges =
          record start.challenges { challenges = zs; next = numbers.last_challenge + 1 };
    } =
    last ∙ ap (λ (s : State). with_row (rows.LastChallenge numbers.last_challenge) s) challenged' in
    let clock : numbers.clock ≡ after.clock = sym (clock_at configuration numbers.clock) ∙ sym (ap (λ (s : State). s.clock) all) in
    let last_session : numbers.last_session ≡ after.sessions.next - 1 =
    sym (less_one numbers.last_session) ∙ sym (ap (λ (s : State). s.sessions.next - 1) all) in
    let last_challenge : numbers.last_challenge ≡ after.challenges.next - 1 =
    sym (less_one numbers.last_challenge) ∙ sym (ap (λ (s : State). s.challenges.next - 1) all) in
    record {
      sessions = put.sessions.are ∙ ap (λ (l : List StateRow). rows_from 1 l) sessions
          ∙ sym (ap (λ (s : State). rows_from 1 (map rows.Session s.sessions.sessions)) all);
      replies = put.replies.are ∙ ap (λ (l : List StateRow). rows_from 1 l) replies
          ∙ sym (ap (λ (s : State). rows_from 1 (map rows.Reply s.replies.kept)) all);
      challenges = put.challenges.are ∙ ap (λ (l : List StateRow). rows_from 1 l) challenges
          ∙ sym (ap (λ (s : State). rows_from 1 (map rows.Challenge s.challenges.challenges)) all);
      numbers = is ∙ ap (λ (n : ℕ). numbers_row n numbers.last_session numbers.last_challenge ∷ []) clock
          ∙ ap (λ (n : ℕ). numbers_row after.clock n numbers.last_challenge ∷ []) last_session
          ∙ ap (λ (n : ℕ). numbers_row after.clock (after.sessions.next - 1) n ∷ []) last_challenge;
    }

-- ---- rows that lead to no state

module _ (configuration : Configuration) (trees : Trees) where
  -- the numbers are those of the state
  numbers_are : (numbers : Numbers) (state : State) → trees (tree_of tables.Numbers) ≡ numbers_rows numbers
      → IsSnapshotOf trees state → numbers_of state ≡ numbers
  numbers_are numbers state is of = numbers_same (numbers_of state) numbers (sym of.numbers ∙ is)

  -- no row of numbers
  pub no_numbers : ((numbers : Numbers) → trees (tree_of tables.Numbers) ≡ numbers_rows numbers → ⊥)
      → IsNoSnapshot configuration trees
  no_numbers none state lawful within of = none (numbers_of state) of.numbers

  -- a clock beyond the last moment
  pub too_late : (numbers : Numbers) → trees (tree_of tables.Numbers) ≡ numbers_rows numbers → moment_max < numbers.clock
      → IsNoSnapshot configuration trees
  too_late numbers is late state lawful within of =
      let clock : state.clock ≡ numbers.clock = ap (λ (n : Numbers). n.clock) (numbers_are numbers state is of) in
      absurd (omega (arith, late, clock, lawful.clock))

  -- rows that are not put back
  pub no_rows : RestoreRebuilds → (numbers : Numbers) → trees (tree_of tables.Numbers) ≡ numbers_rows numbers
      → CannotAllPutBack configuration trees numbers (at_moment numbers.clock (opening configuration))
      → IsNoSnapshot configuration trees
  no_rows rebuilds numbers is cannot state lawful within of =
      let own = numbers_of state in
      let xs = map rows.Session state.sessions.sessions in
      let ys = map rows.Reply state.replies.kept in
      let zs = map rows.Challenge state.challenges.challenges in
      let start = at_moment state.clock (opening configuration) in
      let one = split configuration xs
      (rows.LastSession own.last_session ∷ (ys ++ (zs ++ rows.LastChallenge own.last_challenge ∷ []))) start state
      (rebuilds configuration state lawful) in
      let two = split configuration (rows.LastSession own.last_session ∷ [])
      (ys ++ (zs ++ rows.LastChallenge own.last_challenge ∷ [])) one.0 state one.2 in
      let three = split configuration ys (zs ++ rows.LastChallenge own.last_challenge ∷ []) two.0 state two.2 in
      let four = split configuration zs (rows.LastChallenge own.last_challenge ∷ []) three.0 state three.2 in
      let put : AreAllPutBack configuration trees own start state = record {
        granted = one.0;
        numbered = two.0;
        replied = three.0;
        challenged = four.0;
        sessions = record { items = xs; are = of.sessions; kind = sessions_of state.sessions.sessions; restored = one.1 };
        last_session = two.1;
        replies = record { items = ys; are = of.replies; kind = replies_of state.replies.kept; restored = three.1 };
        challenges = record {
          items = zs;
          are = of.challenges;
          kind = challenges_of state.challenges.challenges;
          restored = four.1;
        };
        last_challenge = four.2;
      } in
      subst (λ (n : Numbers). CannotAllPutBack configuration trees n (at_moment n.clock (opening configuration)))
      (sym (numbers_are numbers state is of)) cannot state put
      (record { sessions = within.sessions; replies = within.replies; challenges = within.challenges })

-- ---- each stage

module _ (configuration : Configuration) (trees : Trees) (numbers : Numbers) (before : State) where
  abbrev Sessions : State → Type 0
  Sessions granted = ArePutBack configuration tables.Sessions (trees (tree_of tables.Sessions)) before granted

  pub no_sessions : CannotPutBack configuration tables.Sessions (trees (tree_of tables.Sessions)) before
      → CannotAllPutBack configuration trees numbers before
  no_sessions cannot after put within = cannot put.granted put.sessions within.sessions

  module _ (granted : State) (first : Sessions granted) where
    granted_is : (after : State) (put : AreAllPutBack configuration trees numbers before after) → put.granted ≡ granted
    granted_is after put =
        put_back_same configuration tables.Sessions (trees (tree_of tables.Sessions)) before put.granted granted put.sessions first

    pub no_last_session : ((s : State) → restored configuration (rows.LastSession numbers.last_session ∷ []) granted ≡ Ok s → ⊥)
        → CannotAllPutBack configuration trees numbers before
    no_last_session never after put within =
        never put.numbered (subst (λ (s : State). restored configuration (rows.LastSession numbers.last_session ∷ []) s
        ≡ Ok put.numbered) (granted_is after put) put.last_session)

    module _ (numbered : State) (second : restored configuration (rows.LastSession numbers.last_session ∷ []) granted
        ≡ Ok numbered) where
      numbered_is : (after : State) (put : AreAllPutBack configuration trees numbers before after) → put.numbered ≡ numbered
      numbered_is after put = leads_to_one configuration (rows.LastSession numbers.last_session ∷ []) granted put.numbered numbered
          (subst (λ (s : State). restored configuration (rows.LastSession numbers.last_session ∷ []) s ≡ Ok put.numbered)
          (granted_is after put) put.last_session) second

      pub no_replies : CannotPutBack configuration tables.Replies (trees (tree_of tables.Replies)) numbered
          → CannotAllPutBack configuration trees numbers before
      no_replies cannot after put within =
          subst (λ (s : State). CannotPutBack configuration tables.Replies (trees (tree_of tables.Replies)) s)
          (sym (numbered_is after put)) cannot put.replied put.replies within.replies

      module _ (replied : State) (third : ArePutBack configuration tables.Replies (trees (tree_of tables.Replies)) numbered
          replied) where
        replied_is : (after : State) (put : AreAllPutBack configuration trees numbers before after) → put.replied ≡ replied
        replied_is after put =
            put_back_same configuration tables.Replies (trees (tree_of tables.Replies)) numbered put.replied replied
            (subst (λ (s : State). ArePutBack configuration tables.Replies (trees (tree_of tables.Replies)) s put.replied)
            (numbered_is after put) put.replies) third

        pub no_challenges : CannotPutBack configuration tables.Challenges (trees (tree_of tables.Challenges)) replied
            → CannotAllPutBack configuration trees numbers before
        no_challenges cannot after put within =
            subst (λ (s : State). CannotPutBack configuration tables.Challenges (trees (tree_of tables.Challenges)) s)
            (sym (replied_is after put)) cannot put.challenged put.challenges within.challenges

        module _ (challenged : State) (fourth : ArePutBack configuration tables.Challenges (trees (tree_of tables.Challenges))
            replied challenged) where
          pub no_last_challenge : ((s : State)
              → restored configuration (rows.LastChallenge numbers.last_challenge ∷ []) challenged ≡ Ok s
              → ⊥) → CannotAllPutBack configuration trees numbers before
          no_last_challenge never after put within =
              let here : put.challenged ≡ challenged =
              put_back_same configuration tables.Challenges (trees (tree_of tables.Challenges)) replied put.challenged
              challenged
              (subst (λ (s : State). ArePutBack configuration tables.Challenges (trees (tree_of tables.Challenges)) s
              put.challenged) (replied_is after put) put.challenges) fourth in
              never after (subst (λ (s : State). restored configuration (rows.LastChallenge numbers.last_challenge ∷ []) s
              ≡ Ok after) here put.last_challenge)

-- ---- what is said of equal ones

pub all_put_there : (configuration other : Configuration) (trees there : Trees) (numbers : Numbers) (before first after : State)
    → other ≡ configuration → there ≡ trees → first ≡ before
    → AreAllPutBack other there numbers first after → AreAllPutBack configuration trees numbers before after
all_put_there configuration other trees there numbers before first after same is start put =
    subst (λ (c : Configuration). AreAllPutBack c trees numbers before after) same
    (subst (λ (t : Trees). AreAllPutBack other t numbers before after) is
    (subst (λ (s : State). AreAllPutBack other there numbers s after) start put))

pub cannot_all_there : (configuration other : Configuration) (trees there : Trees) (numbers : Numbers) (before first : State)
    → other ≡ configuration → there ≡ trees → first ≡ before
    → CannotAllPutBack other there numbers first → CannotAllPutBack configuration trees numbers before
cannot_all_there configuration other trees there numbers before first same is start cannot =
    subst (λ (c : Configuration). CannotAllPutBack c trees numbers before) same
    (subst (λ (t : Trees). CannotAllPutBack other t numbers before) is
    (subst (λ (s : State). CannotAllPutBack other there numbers s) start cannot))

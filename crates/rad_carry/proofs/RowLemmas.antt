-- Rows that are put in one after the other.
use Rattle.std.proofs.Common.{◌≡◌, ℕ, ◌+◌, ◌-◌, ◌++◌, [], ◌∷◌, List, map, Result, Ok, Err, arith, refl, ap, sym, ◌∙◌}
use Rattle.std.specs.Prelude.{OnOk}
use Rattle.rad_config.specs.Configurations.{Configuration}
use Rattle.rad_pool.specs.Sessions.{Sessions}
use Rattle.rad_recent.specs.Challenges.{Challenges}
use Rattle.rad_recent.specs.Recent.{Replies}
use Rattle.rad_server.specs.Restored.{rows_of}
use Rattle.rad_server.specs.Servers.{Server}
use Rattle.rad_server.specs.States.{State}
use Rattle.rad_server.specs.declared.state_row.StateRow.{StateRow}
use Rattle.rad_server.specs.declared.state_row.StateRow.TheVariants as rows
use Rattle.rad_carry.specs.Carried.{and_moved, and_row, and_rows, moved}
use Rattle.rad_carry.specs.Places.{Places}

-- some rows, and then others
pub and_rows-append : (places : Places) (new : Configuration) (old : Sessions) (xs ys : List StateRow) (state : State)
    → and_rows places new old (xs ++ ys) state ≡ and_rows places new old ys (and_rows places new old xs state)
and_rows-append places new old [] ys state = refl
and_rows-append places new old (x ∷ xs) ys state = and_rows-append places new old xs ys (and_moved new old (moved places x) state)

-- the tables of a state, and the last numbers that they say
pub record AreTables (state : State) (table : Sessions) (replies : Replies) (challenges : Challenges) (last given : ℕ) : Type
    0 where
  pub table_is : table ≡ state.sessions
  pub replies_are : replies ≡ state.replies
  pub challenges_are : challenges ≡ state.challenges
  pub last_is : table.next ≡ last + 1
  pub given_is : challenges.next ≡ given + 1

-- the rows of a state, table by table
pub all_rows : (places : Places) (state : State) (table : Sessions) (replies : Replies) (challenges : Challenges) (last given : ℕ)
    → AreTables state table replies challenges last given → (begin one two three four : Server) (end : State)
    → one.state ≡ and_rows places begin.configuration table (map rows.Session table.sessions) begin.state
    → one.configuration ≡ begin.configuration
    → two.state ≡ and_row one.configuration table (rows.LastSession last) one.state → two.configuration ≡ one.configuration
    → three.state ≡ and_rows places two.configuration table (map rows.Reply replies.kept) two.state
    → three.configuration ≡ two.configuration
    → four.state ≡ and_rows places three.configuration table (map rows.Challenge challenges.challenges) three.state
    → four.configuration ≡ three.configuration
    → end ≡ and_row four.configuration table (rows.LastChallenge given) four.state
    → end ≡ and_rows places begin.configuration state.sessions (rows_of state) begin.state
all_rows places state table replies challenges last given are begin one two three four end first c1 second c2 third c3 fourth c4
    fifth =
    let new : Configuration = begin.configuration in
    let old : Sessions = state.sessions in
    let on : List StateRow → State → State = and_rows places new old in
    let sessions : List StateRow = map rows.Session state.sessions.sessions in
    let kept : List StateRow = map rows.Reply state.replies.kept in
    let waiting : List StateRow = map rows.Challenge state.challenges.challenges in
    let end_row : List StateRow = rows.LastChallenge (state.challenges.next - 1) ∷ [] in
    let d2 : two.configuration ≡ new = c2 ∙ c1 in
    let d3 : three.configuration ≡ new = c3 ∙ d2 in
    let d4 : four.configuration ≡ new = c4 ∙ d3 in
    let e1 : one.state ≡ on sessions begin.state =
    first ∙ ap (λ (t : Sessions). and_rows places new t (map rows.Session t.sessions) begin.state) are.table_is in
    let e2 : two.state ≡ and_row new old (rows.LastSession (old.next - 1)) one.state =
    second ∙ ap (λ (m : Configuration). and_row m table (rows.LastSession last) one.state) c1
    ∙ ap (λ (t : Sessions). and_row new t (rows.LastSession last) one.state) are.table_is
    ∙ ap (λ (l : ℕ). and_row new old (rows.LastSession l) one.state) last_is in
    let e3 : three.state ≡ on kept two.state =
    third ∙ ap (λ (m : Configuration). and_rows places m table (map rows.Reply replies.kept) two.state) d2
    ∙ ap (λ (t : Sessions). and_rows places new t (map rows.Reply replies.kept) two.state) are.table_is
    ∙ ap (λ (r : Replies). and_rows places new old (map rows.Reply r.kept) two.state) are.replies_are in
    let e4 : four.state ≡ on waiting three.state =
    fourth ∙ ap (λ (m : Configuration). and_rows places m table (map rows.Challenge challenges.challenges) three.state) d3
    ∙ ap (λ (t : Sessions). and_rows places new t (map rows.Challenge challenges.challenges) three.state) are.table_is
    ∙ ap (λ (r : Challenges). and_rows places new old (map rows.Challenge r.challenges) three.state) are.challenges_are in
    let e5 : end ≡ on end_row four.state =
    fifth ∙ ap (λ (m : Configuration). and_row m table (rows.LastChallenge given) four.state) d4
    ∙ ap (λ (t : Sessions). and_row new t (rows.LastChallenge given) four.state) are.table_is
    ∙ ap (λ (l : ℕ). and_row new old (rows.LastChallenge l) four.state) given_is in
    e5 ∙ ap (on end_row) e4 ∙ sym (and_rows-append places new old waiting end_row three.state)
    ∙ ap (on (waiting ++ end_row)) e3 ∙ sym (and_rows-append places new old kept (waiting ++ end_row) two.state)
    ∙ ap (on (kept ++ (waiting ++ end_row))) e2
    ∙ ap (on (rows.LastSession (old.next - 1) ∷ (kept ++ (waiting ++ end_row)))) e1
    ∙ sym (and_rows-append places new old sessions (rows.LastSession (old.next - 1) ∷ (kept ++ (waiting ++ end_row))) begin.state)
  where
    last_is : last ≡ state.sessions.next - 1
    last_is = omega (arith, are.last_is, ap (λ (t : Sessions). t.next) are.table_is)

    given_is : given ≡ state.challenges.next - 1
    given_is = omega (arith, are.given_is, ap (λ (t : Challenges). t.next) are.challenges_are)

-- what follows from what holds at an Ok
pub ok_then : {T E : Type 0} (P Q : Type 0) (r : Result T E) → OnOk r P → (P → Q) → OnOk r Q
ok_then P Q (Ok value) holds so = so holds
ok_then P Q (Err fault) holds so = tt

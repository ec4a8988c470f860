-- What is carried of a lawful state is lawful under the new configuration.
use Rattle.std.proofs.Common.{◌≡◌, ◌≤◌, ℕ, ◌-◌, [], ◌∷◌, List, map, All, Bool, true, false, ◌&&◌, cond, Option, Some, None, Result}
use Rattle.std.proofs.Common.{Ok, Err, arith, refl}
use Rattle.std.specs.Prelude.{IfSome, not, option_map, option_and_then}
use Rattle.std.specs.Result.{is_ok}
use Rattle.std.proofs.lemmas.List.Elements.{All-append, All-cons, All-head, All-map, All-nil, All-tail}
use Rattle.rad_config.specs.Configurations.{Configuration}
use Rattle.rad_pool.specs.Grants.{last_number}
use Rattle.rad_pool.specs.Sessions.{Sessions}
use Rattle.rad_pool.specs.declared.session.Session.{Session}
use Rattle.rad_recent.specs.Challenges.{last_challenge}
use Rattle.rad_recent.specs.declared.challenge.Challenge.{Challenge}
use Rattle.rad_recent.specs.declared.kept.Kept.{Kept}
use Rattle.rad_server.specs.Lawful.{IsLawful, OpeningIsLawful, PassingKeepsTheLaw, RestoreIsTheLaw}
use Rattle.rad_server.specs.Restored.{IsRow, restorable, rows_of, with_row}
use Rattle.rad_server.specs.States.{State, at_moment, opening}
use Rattle.rad_server.specs.declared.state_row.StateRow.{StateRow}
use Rattle.rad_server.specs.declared.state_row.StateRow.TheVariants as rows
use Rattle.rad_carry.specs.Carried.{and_moved, and_rows, gives_lost, moved, moved_client}
use Rattle.rad_carry.specs.Laws.{CarriedIsLawful}
use Rattle.rad_carry.specs.Places.{Places, moved_place}

-- ---- a row keeps its type at its new places

session_is_row : (session : Session) (client user : Option ℕ) → session.number ≤ last_number
    → IfSome (option_map rows.Session
    (option_and_then (λ c. option_map (λ u. record session { client = c; user = u }) user) client)) IsRow
session_is_row session None user known = tt
session_is_row session (Some c) None known = tt
session_is_row session (Some c) (Some u) known = known

challenge_is_row : (row : Challenge) (client user : Option ℕ) → IsRow (rows.Challenge row)
    → IfSome (option_map rows.Challenge
    (option_and_then (λ c. option_map (λ u. record row { client = c; user = u }) user) client)) IsRow
challenge_is_row row None user known = tt
challenge_is_row row (Some c) None known = tt
challenge_is_row row (Some c) (Some u) known = known

reply_is_row : (reply : Kept) (client : Option (Option ℕ))
    → IfSome (option_map rows.Reply (option_map (λ c. record reply { client = c }) client)) IsRow
reply_is_row reply None = tt
reply_is_row reply (Some c) = tt

moved_is_row : (places : Places) (row : StateRow) → IsRow row → IfSome (moved places row) IsRow
moved_is_row places (rows.Session row) known =
    session_is_row row (moved_place places.clients row.client) (moved_place places.users row.user) known
moved_is_row places (rows.LastSession last) known = known
moved_is_row places (rows.Reply reply) known = reply_is_row reply (moved_client places.clients reply.client)
moved_is_row places (rows.Challenge row) known =
    challenge_is_row row (moved_place places.clients row.client) (moved_place places.users row.user) known
moved_is_row places (rows.LastChallenge last) known = known

-- ---- each row keeps the law

if_allowed : {E : Type 0} (new : Configuration) (row : StateRow) (state : State) (allowed : Result (Unit {0}) E) (lost : Bool)
    → (allowed ≡ Ok tt → IsLawful new (with_row row state)) → IsLawful new state
    → IsLawful new (cond (is_ok allowed && not lost) (with_row row state) state)
if_allowed new row state (Err fault) lost with_it lawful = lawful
if_allowed new row state (Ok done) true with_it lawful = lawful
if_allowed new row state (Ok done) false with_it lawful = with_it refl

and_moved_lawful : RestoreIsTheLaw → (new : Configuration) (old : Sessions) (row : Option StateRow) (state : State)
    → IfSome row IsRow
    → IsLawful new state → IsLawful new (and_moved new old row state)
and_moved_lawful law new old None state known lawful = lawful
and_moved_lawful law new old (Some row) state known lawful =
    if_allowed new row state (restorable new row state) (gives_lost old state.sessions row)
    (λ fits. ((law new row state known lawful).0 fits).1) lawful

rows_lawful : RestoreIsTheLaw → (places : Places) (new : Configuration) (old : Sessions) (xs : List StateRow) (state : State)
    → All IsRow xs
    → IsLawful new state → IsLawful new (and_rows places new old xs state)
rows_lawful law places new old [] state known lawful = lawful
rows_lawful law places new old (x ∷ xs) state known lawful =
    rows_lawful law places new old xs (and_moved new old (moved places x) state) (All-tail IsRow x xs known)
    (and_moved_lawful law new old (moved places x) state (moved_is_row places x (All-head IsRow x xs known)) lawful)

-- ---- the rows of a lawful state

rows_are : (configuration : Configuration) (state : State) → IsLawful configuration state → All IsRow (rows_of state)
rows_are configuration state lawful =
    let end = All-cons IsRow (rows.LastChallenge (state.challenges.next - 1)) [] last_given (All-nil IsRow) in
    let third = All-append IsRow (map rows.Challenge state.challenges.challenges) _
    (All-map IsRow rows.Challenge state.challenges.challenges given) end in
    let second = All-append IsRow (map rows.Reply state.replies.kept) _
    (All-map IsRow rows.Reply state.replies.kept (λ k d within. tt)) third in
    let first = All-cons IsRow (rows.LastSession (state.sessions.next - 1)) _ last second in
    All-append IsRow (map rows.Session state.sessions.sessions) _
    (All-map IsRow rows.Session state.sessions.sessions numbered) first
  where
    last : state.sessions.next - 1 ≤ last_number
    last = omega (arith, lawful.sessions.next)

    last_given : state.challenges.next - 1 ≤ last_challenge
    last_given = omega (arith, lawful.challenges.next)

    numbered : All (λ (s : Session). s.number ≤ last_number) state.sessions.sessions
    numbered = λ k d within. omega (arith, lawful.sessions.next, (lawful.sessions.sessions k d within).number)

    given : All (λ (row : Challenge). IsRow (rows.Challenge row)) state.challenges.challenges
    given = λ k d within. (
      omega (arith, lawful.challenges.next, (lawful.challenges.each k d within).number),
      (lawful.configured k d within).draw,
    )

-- ---- the whole

pub carried_lawful : OpeningIsLawful → PassingKeepsTheLaw → RestoreIsTheLaw → CarriedIsLawful
carried_lawful opens passes law places old new state valid lawful =
    rows_lawful law places new state.sessions (rows_of state) (at_moment state.clock (opening new)) (rows_are old state lawful)
    (passes new (opening new) state.clock valid lawful.clock (opens new))

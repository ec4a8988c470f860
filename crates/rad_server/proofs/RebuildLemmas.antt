-- A lawful state, put back row by row into a server that remembers nothing, is that state.
use Rattle.std.proofs.Common.{◌≡◌, ℕ, ◌-◌, Bool, cond, List, [], ◌∷◌, ◌++◌, map, All, Option, Result, Ok, Err, arith, refl, ap, sym}
use Rattle.std.proofs.Common.{subst, ◌∙◌}
use Rattle.std.specs.Prelude.{count_by, max}
use Rattle.std.proofs.lemmas.List.{append_assoc}
use Rattle.std.proofs.lemmas.List.Elements.{All-head, All-tail}
use Rattle.std.proofs.lemmas.List.Sums.{sum_by-append}
use Rattle.std.proofs.lemmas.Option.{IfSome_then}
use Rattle.rad_packet.specs.Ladders.{◌>>=◌}
use Rattle.rad_config.specs.Configurations.{Configuration}
use Rattle.rad_pool.specs.Lawful.{RestoreRebuilds as SessionsRebuilt}
use Rattle.rad_pool.specs.Restored.{last_restorable, with_last}
use Rattle.rad_pool.specs.Restored as sessions
use Rattle.rad_pool.specs.Sessions.{Sessions}
use Rattle.rad_pool.specs.Sessions as tables
use Rattle.rad_pool.specs.declared.session.Session.{Session}
use Rattle.rad_recent.specs.Challenges.{Challenges, is_with}
use Rattle.rad_recent.specs.Challenges as challenges
use Rattle.rad_recent.specs.Lawful.{RestoreRebuildsChallenges, RestoreRebuildsReplies}
use Rattle.rad_recent.specs.Recent.{Replies, is_of, with_reply}
use Rattle.rad_recent.specs.Recent as replies
use Rattle.rad_recent.specs.Restored.{challenge_restorable, challenges_rebuilt, challenges_restored, last_challenge_restorable}
use Rattle.rad_recent.specs.Restored.{replies_restored, reply_restorable, with_challenge_row, with_last_challenge}
use Rattle.rad_recent.specs.declared.challenge.Challenge.{Challenge}
use Rattle.rad_recent.specs.declared.challenge.Party.TheVariants.{Client, User}
use Rattle.rad_recent.specs.declared.kept.Kept.{Kept}
use Rattle.rad_server.proofs.RestoreLemmas.{both_pass, joins_so, may_wait_so, shares_so, waits_so}
use Rattle.rad_server.specs.Lawful.{HasItsSession, IsChallengeOf, IsLawful, IsOwned, IsRepeatable}
use Rattle.rad_server.specs.Restored.{rebuilt, restorable, restored, rows_of, with_row}
use Rattle.rad_server.specs.Shares.{AreSharedChallenges, AreSharedReplies, IsWithin, challenges_limit, challenges_share}
use Rattle.rad_server.specs.Shares.{replies_share}
use Rattle.rad_server.specs.States.{State, at_moment, opening}
use Rattle.rad_server.specs.declared.state_row.StateRow.{StateRow}
use Rattle.rad_server.specs.declared.state_row.StateRow.TheVariants as rows

-- ---- ladders

-- the first of two steps, and what follows it
bound : {A B E : Type 0} (first : Result A E) (next : A → Result B E) (value : B) → (first >>= next) ≡ Ok value
    → (x : A) × (first ≡ Ok x) × (next x ≡ Ok value)
bound (Ok x) next value is = (x, refl, is)
bound (Err fault) next value is = absurd (cc)

-- what an Ok has
ok_has : {A E : Type 0} (fallback x y : A) → ◌≡◌ {A = Result A E} (Ok x) (Ok y) → x ≡ y
ok_has {A} {E} fallback x y is = ap inside is
  where
    inside : Result A E → A
    inside (Ok value) = value
    inside (Err fault) = fallback

-- ---- rows that follow one another

next_row : (configuration : Configuration) (row : StateRow) (rest : List StateRow) (state : State)
    → restorable configuration row state ≡ Ok tt
    → restored configuration (row ∷ rest) state ≡ restored configuration rest (with_row row state)
unfolding restored
next_row configuration row rest state fits = ap (λ r. r >>= λ done. restored configuration rest (with_row row state)) fits

no_row : (configuration : Configuration) (state : State) → restored configuration [] state ≡ Ok state
unfolding restored
no_row configuration state = refl

sessions_back : (configuration : Configuration) (more : List StateRow) (xs : List Session) (state : State) (table : Sessions)
    → sessions.restored configuration state.clock xs state.sessions ≡ Ok table
    → restored configuration (map rows.Session xs ++ more) state ≡ restored configuration more (record state { sessions = table })
unfolding sessions.restored restorable
sessions_back configuration more [] state table is =
    ap (λ (t : Sessions). restored configuration more (record state { sessions = t }))
    (ok_has state.sessions state.sessions table is)
sessions_back configuration more (x ∷ xs) state table is =
    let parts = both_pass (sessions.restorable configuration state.clock x state.sessions)
    (sessions.restored configuration state.clock xs (sessions.with_row x state.sessions)) table is in
    next_row configuration (rows.Session x) (map rows.Session xs ++ more) state parts.0
    ∙ sessions_back configuration more xs (with_row (rows.Session x) state) table parts.1

-- ---- shares of the first rows

within_before : {X : Type 0} (limit : Option ℕ) (test : X → Bool) (before rest : List X)
    → IsWithin limit (count_by test (before ++ rest)) → IsWithin limit (count_by test before)
within_before limit test before rest within =
    IfSome_then limit within (λ most few. omega (arith, few, sum_by-append (λ x. cond {A = ℕ} (test x) 1 0) before rest))

-- the list with the first of the rest after the others
moved : {X : Type 0} (before : List X) (x : X) (rest whole : List X) → before ++ x ∷ rest ≡ whole
    → (before ++ x ∷ []) ++ rest ≡ whole
moved before x rest whole is = append_assoc before (x ∷ []) rest ∙ is

shares_before : (configuration : Configuration) (table whole : Replies) (rest : List Kept) → table.kept ++ rest ≡ whole.kept
    → AreSharedReplies configuration whole
    → AreSharedReplies configuration table
shares_before configuration table whole rest split shares client =
    within_before (replies_share configuration client) (is_of client) table.kept rest
    (subst (λ xs. IsWithin (replies_share configuration client) (count_by (is_of client) xs)) (sym split) (shares client))

waiting_before : (configuration : Configuration) (table whole : Challenges) (rest : List Challenge)
    → table.challenges ++ rest ≡ whole.challenges
    → AreSharedChallenges configuration whole → AreSharedChallenges configuration table
waiting_before configuration table whole rest split waiting = record {
  clients = λ client. within_before (challenges_share configuration client) (is_with (Client client)) table.challenges rest
      (subst (λ xs. IsWithin (challenges_share configuration client) (count_by (is_with (Client client)) xs)) (sym split)
      (waiting.clients client));
  users = λ user. within_before (challenges_limit configuration user) (is_with (User user)) table.challenges rest
      (subst (λ xs. IsWithin (challenges_limit configuration user) (count_by (is_with (User user)) xs)) (sym split)
      (waiting.users user));
}

-- ---- replies

-- a reply has its session
abbrev HasIts : Sessions → Kept → Type 0
HasIts table reply = HasItsSession table reply.body reply.made

-- what holds of replies that are put back
record AreReplies (configuration : Configuration) (table : Sessions) (xs : List Kept) : Type 0 where
  repeatable : All IsRepeatable xs
  owned : All (IsOwned configuration) xs
  addresses : All (HasIts table) xs

replies_back : (configuration : Configuration) (more : List StateRow) (whole : Replies) (xs : List Kept) (state : State)
    → replies_restored state.clock xs state.replies ≡ Ok whole → state.replies.kept ++ xs ≡ whole.kept
    → AreReplies configuration state.sessions xs → AreSharedReplies configuration whole
    → restored configuration (map rows.Reply xs ++ more) state ≡ restored configuration more (record state { replies = whole })
unfolding replies_restored restorable
replies_back configuration more whole [] state is split known shares =
    ap (λ (t : Replies). restored configuration more (record state { replies = t })) (ok_has state.replies state.replies whole is)
replies_back configuration more whole (x ∷ xs) state is split known shares =
    let parts = both_pass (reply_restorable state.clock x state.replies)
    (replies_restored state.clock xs (with_reply x state.replies)) whole is in
    let split' = moved state.replies.kept x xs whole.kept split in
    let joins = joins_so configuration state.sessions state.replies x (All-head IsRepeatable x xs known.repeatable)
    (All-head (IsOwned configuration) x xs known.owned)
    (shares_so configuration x state.replies (shares_before configuration (with_reply x state.replies) whole xs split' shares))
    (All-head (HasIts state.sessions) x xs known.addresses) in
    let fits : restorable configuration (rows.Reply x) state ≡ Ok tt =
    ap (λ r. r >>= λ done. reply_restorable state.clock x state.replies) joins ∙ parts.0 in
    next_row configuration (rows.Reply x) (map rows.Reply xs ++ more) state fits
    ∙ replies_back configuration more whole xs (with_row (rows.Reply x) state) parts.1 split' (record {
      repeatable = All-tail IsRepeatable x xs known.repeatable;
      owned = All-tail (IsOwned configuration) x xs known.owned;
      addresses = All-tail (HasIts state.sessions) x xs known.addresses;
    }) shares

-- ---- challenges

challenges_back : (configuration : Configuration) (more : List StateRow) (table whole : Challenges) (xs : List Challenge)
    (state : State)
    → challenges_restored state.clock xs state.challenges ≡ Ok table → state.challenges.challenges ++ xs ≡ whole.challenges
    → All (IsChallengeOf configuration) xs → AreSharedChallenges configuration whole
    → restored configuration (map rows.Challenge xs ++ more) state
    ≡ restored configuration more (record state { challenges = table })
unfolding challenges_restored restorable
challenges_back configuration more table whole [] state is split known waiting =
    ap (λ (t : Challenges). restored configuration more (record state { challenges = t }))
    (ok_has state.challenges state.challenges table is)
challenges_back configuration more table whole (x ∷ xs) state is split known waiting =
    let parts = both_pass (challenge_restorable state.clock x state.challenges)
    (challenges_restored state.clock xs (with_challenge_row x state.challenges)) table is in
    let split' = moved state.challenges.challenges x xs whole.challenges split in
    let own = All-head (IsChallengeOf configuration) x xs known in
    let waits = waits_so configuration state.challenges x (record {
      client = own.client;
      user = own.user;
      answer = own.answer;
      may = may_wait_so configuration state.challenges x
          (waiting_before configuration (with_challenge_row x state.challenges) whole xs split' waiting);
    }) in
    let fits : restorable configuration (rows.Challenge x) state ≡ Ok tt =
    ap (λ r. r >>= λ done. challenge_restorable state.clock x state.challenges) waits ∙ parts.0 in
    next_row configuration (rows.Challenge x) (map rows.Challenge xs ++ more) state fits
    ∙ challenges_back configuration more table whole xs (with_row (rows.Challenge x) state) parts.1 split'
    (All-tail (IsChallengeOf configuration) x xs known) waiting

-- ---- a state

-- the laws of the tables
pub record RebuildLaws : Type 0 where
  pub sessions : SessionsRebuilt
  pub replies : RestoreRebuildsReplies
  pub challenges : RestoreRebuildsChallenges

-- a table whose rows are back, and whose last number then is
last_back : (configuration : Configuration) (clock : ℕ) (table : Sessions) → sessions.rebuilt configuration clock table ≡ Ok table
    → (rows : Sessions) × (sessions.restored configuration clock table.sessions (tables.opening table.spans) ≡ Ok rows)
    × (last_restorable (table.next - 1) rows ≡ Ok tt) × (with_last (table.next - 1) rows ≡ table)
unfolding sessions.rebuilt
last_back configuration clock table is =
    let step = bound (sessions.restored configuration clock table.sessions (tables.opening table.spans))
    (λ (rows : Sessions). last_restorable (table.next - 1) rows >>= λ fits. Ok (with_last (table.next - 1) rows)) table is in
    let rows : Sessions = step.0 in
    let parts = both_pass (last_restorable (table.next - 1) rows) (Ok (with_last (table.next - 1) rows)) table step.2 in
    (rows, step.1, parts.0, ok_has table (with_last (table.next - 1) rows) table parts.1)

last_challenge_back : (clock : ℕ) (table : Challenges) → challenges_rebuilt clock table ≡ Ok table
    → (rows : Challenges) × (challenges_restored clock table.challenges (challenges.opening table.hold) ≡ Ok rows)
    × (last_challenge_restorable (table.next - 1) rows ≡ Ok tt) × (with_last_challenge (table.next - 1) rows ≡ table)
unfolding challenges_rebuilt
last_challenge_back clock table is =
    let step = bound (challenges_restored clock table.challenges (challenges.opening table.hold))
    (λ (rows : Challenges). last_challenge_restorable (table.next - 1) rows
    >>= λ fits. Ok (with_last_challenge (table.next - 1) rows)) table is in
    let rows : Challenges = step.0 in
    let parts = both_pass (last_challenge_restorable (table.next - 1) rows) (Ok (with_last_challenge (table.next - 1) rows)) table
    step.2 in
    (rows, step.1, parts.0, ok_has table (with_last_challenge (table.next - 1) rows) table parts.1)

-- the numbers that are put back last
last_fits : (configuration : Configuration) (last : ℕ) (state : State) → last_restorable last state.sessions ≡ Ok tt
    → restorable configuration (rows.LastSession last) state ≡ Ok tt
unfolding restorable
last_fits configuration last state fits = fits

last_challenge_fits : (configuration : Configuration) (last : ℕ) (state : State)
    → last_challenge_restorable last state.challenges ≡ Ok tt
    → restorable configuration (rows.LastChallenge last) state ≡ Ok tt
unfolding restorable
last_challenge_fits configuration last state fits = fits

pub restore_rebuilds : RebuildLaws → (configuration : Configuration) (state : State) → IsLawful configuration state
    → rebuilt configuration state ≡ Ok state
restore_rebuilds laws configuration state lawful =
    let back = last_back configuration state.clock state.sessions
    (laws.sessions configuration state.clock state.sessions lawful.sessions) in
    let last_number = state.sessions.next - 1 in
    let given = last_challenge_back state.clock state.challenges (laws.challenges state.clock state.challenges lawful.challenges) in
    let last_given = state.challenges.next - 1 in
    let end : List StateRow = rows.LastChallenge last_given ∷ [] in
    let third : List StateRow = map rows.Challenge state.challenges.challenges ++ end in
    let second : List StateRow = map rows.Reply state.replies.kept ++ third in
    let first : List StateRow = rows.LastSession last_number ∷ second in
    let begin : State = record {
      clock = state.clock;
      sessions = tables.opening state.sessions.spans;
      replies = replies.opening state.replies.window;
      challenges = challenges.opening state.challenges.hold;
    } in
    let with_sessions : State = record begin { sessions = back.0 } in
    let with_last_session : State = record begin { sessions = state.sessions } in
    let with_replies : State = record with_last_session { replies = state.replies } in
    let with_challenges : State = record with_replies { challenges = given.0 } in
    let begins : at_moment state.clock (opening configuration) ≡ begin = λ j. record {
      clock = later j;
      sessions = tables.opening (sym lawful.spans j);
      replies = replies.opening (sym lawful.window j);
      challenges = challenges.opening (sym lawful.hold j);
    } in
    ap (restored configuration (rows_of state)) begins
    ∙ sessions_back configuration first state.sessions.sessions begin back.0 back.1
    ∙ next_row configuration (rows.LastSession last_number) second with_sessions
    (last_fits configuration last_number with_sessions back.2)
    ∙ ap (λ (t : Sessions). restored configuration second (record begin { sessions = t })) back.3
    ∙ replies_back configuration third state.replies state.replies.kept with_last_session
    (laws.replies state.clock state.replies lawful.replies) refl
    (record { repeatable = lawful.repeatable; owned = lawful.owned; addresses = lawful.addresses }) lawful.shares
    ∙ challenges_back configuration end given.0 state.challenges state.challenges.challenges with_replies given.1 refl
    lawful.configured lawful.waiting
    ∙ next_row configuration (rows.LastChallenge last_given) [] with_challenges
    (last_challenge_fits configuration last_given with_challenges given.2)
    ∙ ap (λ (t : Challenges). restored configuration [] (record with_replies { challenges = t })) given.3
    ∙ no_row configuration state
  where
    later : max 0 state.clock ≡ state.clock
    later = omega arith

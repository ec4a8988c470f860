-- All is carried to the same configuration.
use Rattle.std.proofs.Common.{◌≡◌, ◌<◌, ℕ, ◌-◌, ◌++◌, suc, zero, [], ◌∷◌, List, map, length, All, Bool, true, false, ◌&&◌, ◌==◌}
use Rattle.std.proofs.Common.{cond, find, Option, Some, None, Result, Ok, Err, refl, ap, sym, subst, ◌∙◌}
use Rattle.std.specs.Prelude.{IfSome, filter, is_some, not, option_and_then, option_map, position, slice_get}
use Rattle.std.specs.Result.{is_ok}
use Rattle.std.proofs.lemmas.Bool.{eq-eqb}
use Rattle.std.proofs.lemmas.List.Elements.{All-append, All-cons, All-head, All-map, All-nil, All-tail}
use Rattle.std.proofs.lemmas.List.Quantifiers.{position-Some}
use Rattle.rad_packet.specs.Ladders.{◌>>=◌}
use Rattle.rad_auth.specs.Clients.{Client, client_at}
use Rattle.rad_config.specs.Configurations.{Configuration}
use Rattle.rad_config.specs.Ranges.{IsConfiguration}
use Rattle.rad_pool.specs.Sessions.{Sessions}
use Rattle.rad_pool.specs.declared.session.Session.{Session}
use Rattle.rad_recent.specs.declared.challenge.Challenge.{Challenge}
use Rattle.rad_recent.specs.declared.kept.Kept.{Kept}
use Rattle.rad_server.specs.Lawful.{IsLawful, RestoreRebuilds}
use Rattle.rad_server.specs.Restored.{restorable, restored, with_row}
use Rattle.rad_server.specs.States.{State, at_moment, opening}
use Rattle.rad_server.specs.declared.state_row.StateRow.{StateRow}
use Rattle.rad_server.specs.declared.state_row.StateRow.TheVariants as rows
use Rattle.rad_carry.proofs.PlaceLemmas.{client_stays, user_stays}
use Rattle.rad_carry.proofs.RowLemmas.{and_rows-append}
use Rattle.rad_carry.specs.Carried.{and_moved, and_row, and_rows, gives_lost, has_number, is_lost, left_out, moved, moved_client}
use Rattle.rad_carry.specs.Carried.{session_given}
use Rattle.rad_carry.specs.Laws.{CarriedIsTheSame, NoneIsLeftOut}
use Rattle.rad_carry.specs.Places.{Places, moved_place, places}

-- ---- rows that stay as they are

-- a client and a user stay where they are
record Stays (places : Places) (client user : ℕ) : Type 0 where
  client_stays : moved_place places.clients client ≡ Some client
  user_stays : moved_place places.users user ≡ Some user

-- at its new places it is the same row
abbrev IsUnmoved : Places → StateRow → Type 0
IsUnmoved places row = moved places row ≡ Some row

session_unmoved : (places : Places) (session : Session) → Stays places session.client session.user
    → IsUnmoved places (rows.Session session)
session_unmoved places session stays =
    ap (λ o. option_map rows.Session
    (option_and_then (λ (c : ℕ). option_map (λ (u : ℕ). record session { client = c; user = u })
    (moved_place places.users session.user)) o)) stays.client_stays
    ∙ ap (λ o. option_map rows.Session (option_map (λ (u : ℕ). record session { user = u }) o)) stays.user_stays

challenge_unmoved : (places : Places) (row : Challenge) → Stays places row.client row.user → IsUnmoved places (rows.Challenge row)
challenge_unmoved places row stays =
    ap (λ o. option_map rows.Challenge
    (option_and_then (λ (c : ℕ). option_map (λ (u : ℕ). record row { client = c; user = u })
    (moved_place places.users row.user)) o)) stays.client_stays
    ∙ ap (λ o. option_map rows.Challenge (option_map (λ (u : ℕ). record row { user = u }) o)) stays.user_stays

client_unmoved : (clients : List (Option ℕ)) (client : Option ℕ) → IfSome client (λ c. moved_place clients c ≡ Some c)
    → moved_client clients client ≡ Some client
client_unmoved clients None stays = refl
client_unmoved clients (Some c) stays = ap (option_map Some) stays

reply_unmoved : (places : Places) (reply : Kept) → IfSome reply.client (λ c. moved_place places.clients c ≡ Some c)
    → IsUnmoved places (rows.Reply reply)
reply_unmoved places reply stays =
    ap (λ o. option_map rows.Reply (option_map (λ (c : Option ℕ). record reply { client = c }) o))
    (client_unmoved places.clients reply.client stays)

-- ---- a row that is allowed and has its session

taken_over : (new : Configuration) (old : Sessions) (row : StateRow) (state : State) → restorable new row state ≡ Ok tt
    → gives_lost old state.sessions row ≡ false → and_row new old row state ≡ with_row row state
taken_over new old row state fits has =
    ap (λ r. cond (is_ok r && not (gives_lost old state.sessions row)) (with_row row state) state) fits
    ∙ ap (λ b. cond (not b) (with_row row state) state) has

-- nothing is lost from the same sessions
both_or_none : (b : Bool) → (b && not b) ≡ false
both_or_none true = refl
both_or_none false = refl

none_lost : (old new : Sessions) → new.sessions ≡ old.sessions → (number : Option ℕ) → is_lost old new number ≡ false
none_lost old new same None = refl
none_lost old new same (Some number) =
    ap (λ (xs : List Session). has_number number old && not (is_some (find (λ (s : Session). s.number == number) xs))) same
    ∙ both_or_none (has_number number old)

none_gives_lost : (old new : Sessions) → new.sessions ≡ old.sessions → (row : StateRow) → gives_lost old new row ≡ false
none_gives_lost old new same (rows.Session row) = refl
none_gives_lost old new same (rows.LastSession last) = refl
none_gives_lost old new same (rows.Reply reply) = none_lost old new same (session_given reply)
none_gives_lost old new same (rows.Challenge row) = refl
none_gives_lost old new same (rows.LastChallenge last) = refl

-- ---- rows that are put back one after the other

both : {A E : Type 0} (first : Result (Unit {0}) E) (next : Result A E) (end : A) → (first >>= λ done. next) ≡ Ok end
    → (first ≡ Ok tt) × (next ≡ Ok end)
both (Ok done) next end is = (refl, is)
both (Err fault) next end is = absurd (cc)

ok_is : {A E : Type 0} (x y : A) → ◌≡◌ {A = Result A E} (Ok x) (Ok y) → x ≡ y
ok_is x y is = cc

-- what of a first row, and of the rest
parts : (c : Configuration) (x : StateRow) (xs : List StateRow) (state end : State) → restored c (x ∷ xs) state ≡ Ok end
    → (restorable c x state ≡ Ok tt) × (restored c xs (with_row x state) ≡ Ok end)
unfolding restored
parts c x xs state end is = both (restorable c x state) (restored c xs (with_row x state)) end is

no_row : (c : Configuration) (state end : State) → restored c [] state ≡ Ok end → state ≡ end
unfolding restored
no_row c state end is = ok_is state end is

next_row : (c : Configuration) (x : StateRow) (xs : List StateRow) (state : State) → restorable c x state ≡ Ok tt
    → restored c (x ∷ xs) state ≡ restored c xs (with_row x state)
unfolding restored
next_row c x xs state fits = ap (λ r. r >>= λ done. restored c xs (with_row x state)) fits

nothing : (c : Configuration) (state : State) → restored c [] state ≡ Ok state
unfolding restored
nothing c state = refl

-- some rows, and then others
halves : (c : Configuration) (xs ys : List StateRow) (state end : State) → restored c (xs ++ ys) state ≡ Ok end
    → (middle : State) × (restored c xs state ≡ Ok middle) × (restored c ys middle ≡ Ok end)
halves c [] ys state end is = (state, nothing c state, is)
halves c (x ∷ xs) ys state end is =
    let own = parts c x (xs ++ ys) state end is in
    let rest = halves c xs ys (with_row x state) end own.1 in
    (rest.0, next_row c x xs state own.0 ∙ rest.1, rest.2)

-- a row that gives no session away
abbrev GivesNone : StateRow → Type 0
GivesNone row = (old new : Sessions) → gives_lost old new row ≡ false

-- a row that leaves the sessions as they are
abbrev LeavesSessions : StateRow → Type 0
LeavesSessions row = (state : State) → (with_row row state).sessions.sessions ≡ state.sessions.sessions

leave_sessions : (c : Configuration) (xs : List StateRow) (state end : State) → restored c xs state ≡ Ok end → All LeavesSessions xs
    → end.sessions.sessions ≡ state.sessions.sessions
leave_sessions c [] state end is leave = ap (λ (s : State). s.sessions.sessions) (sym (no_row c state end is))
leave_sessions c (x ∷ xs) state end is leave =
    leave_sessions c xs (with_row x state) end (parts c x xs state end is).1 (All-tail LeavesSessions x xs leave)
    ∙ All-head LeavesSessions x xs leave state

-- sessions that can be put back are taken over
sessions_same : (places : Places) (c : Configuration) (old : Sessions) (xs : List StateRow) (state end : State)
    → restored c xs state ≡ Ok end
    → All (IsUnmoved places) xs → All GivesNone xs → and_rows places c old xs state ≡ end
sessions_same places c old [] state end is unmoved gives = no_row c state end is
sessions_same places c old (x ∷ xs) state end is unmoved gives =
    let own = parts c x xs state end is in
    ap (λ o. and_rows places c old xs (and_moved c old o state)) (All-head (IsUnmoved places) x xs unmoved)
    ∙ ap (and_rows places c old xs) (taken_over c old x state own.0 (All-head GivesNone x xs gives old state.sessions))
    ∙ sessions_same places c old xs (with_row x state) end own.1 (All-tail (IsUnmoved places) x xs unmoved)
    (All-tail GivesNone x xs gives)

-- and so are the other rows, once all sessions are there
others_same : (places : Places) (c : Configuration) (old : Sessions) (xs : List StateRow) (state end : State)
    → restored c xs state ≡ Ok end
    → All (IsUnmoved places) xs → All LeavesSessions xs → state.sessions.sessions ≡ old.sessions
    → and_rows places c old xs state ≡ end
others_same places c old [] state end is unmoved leave has = no_row c state end is
others_same places c old (x ∷ xs) state end is unmoved leave has =
    let own = parts c x xs state end is in
    ap (λ o. and_rows places c old xs (and_moved c old o state)) (All-head (IsUnmoved places) x xs unmoved)
    ∙ ap (and_rows places c old xs) (taken_over c old x state own.0 (none_gives_lost old state.sessions has x))
    ∙ others_same places c old xs (with_row x state) end own.1 (All-tail (IsUnmoved places) x xs unmoved)
    (All-tail LeavesSessions x xs leave)
    (All-head LeavesSessions x xs leave state ∙ has)

-- ---- the rows of a lawful state

when_there : (P : ℕ → Type 0) (whole o : Option ℕ) → whole ≡ o → ((k : ℕ) → whole ≡ Some k → P k) → IfSome o P
when_there P whole None is holds = tt
when_there P whole (Some k) is holds = holds k is

place_within : (p : Client → Bool) (xs : List Client) → IfSome (position p xs) (λ k. k < length xs)
place_within p xs =
    when_there (λ k. k < length xs) (position p xs) (position p xs) refl (λ k is. (position-Some p xs k (client_at [] 0) is).0)

if_there : (P Q : ℕ → Type 0) (o : Option ℕ) → IfSome o P → ((k : ℕ) → P k → Q k) → IfSome o Q
if_there P Q None holds then' = tt
if_there P Q (Some k) holds then' = then' k holds

sessions_unmoved : (c : Configuration) (state : State) → IsConfiguration c → IsLawful c state
    → All (IsUnmoved (places c c)) (map rows.Session state.sessions.sessions)
sessions_unmoved c state valid lawful =
    All-map (IsUnmoved (places c c)) rows.Session state.sessions.sessions (λ k d within.
    let own = lawful.sessions.sessions k d within in
    session_unmoved (places c c) _
    (record { client_stays = client_stays c.clients _ own.client; user_stays = user_stays c.users valid.names _ own.user }))

replies_unmoved : (c : Configuration) (state : State) → IsLawful c state
    → All (IsUnmoved (places c c)) (map rows.Reply state.replies.kept)
replies_unmoved c state lawful =
    All-map (IsUnmoved (places c c)) rows.Reply state.replies.kept (λ k d within.
    reply_unmoved (places c c) _ (subst (λ o. IfSome o (λ p. moved_place (places c c).clients p ≡ Some p))
    (sym (lawful.owned k d within))
    (if_there (λ p. p < length c.clients) (λ p. moved_place (places c c).clients p ≡ Some p) _ (place_within _ c.clients)
    (λ p there. client_stays c.clients p there))))

challenges_unmoved : (c : Configuration) (state : State) → IsConfiguration c → IsLawful c state
    → All (IsUnmoved (places c c)) (map rows.Challenge state.challenges.challenges)
challenges_unmoved c state valid lawful =
    All-map (IsUnmoved (places c c)) rows.Challenge state.challenges.challenges (λ k d within.
    let own = lawful.configured k d within in
    challenge_unmoved (places c c) _
    (record { client_stays = client_stays c.clients _ own.client; user_stays = user_stays c.users valid.names _ own.user }))

-- ---- the whole

pub carried_same : RestoreRebuilds → CarriedIsTheSame
carried_same rebuilds c state valid lawful =
    let begin : State = at_moment state.clock (opening c) in
    let end : List StateRow = rows.LastChallenge (state.challenges.next - 1) ∷ [] in
    let third : List StateRow = map rows.Challenge state.challenges.challenges ++ end in
    let second : List StateRow = map rows.Reply state.replies.kept ++ third in
    let first : List StateRow = map rows.Session state.sessions.sessions in
    let others : List StateRow = rows.LastSession (state.sessions.next - 1) ∷ second in
    let split = halves c first others begin state (rebuilds c state lawful) in
    let unmoved = All-cons (IsUnmoved (places c c)) (rows.LastSession (state.sessions.next - 1)) second refl
    (All-append (IsUnmoved (places c c)) (map rows.Reply state.replies.kept) third (replies_unmoved c state lawful)
    (All-append (IsUnmoved (places c c)) (map rows.Challenge state.challenges.challenges) end
    (challenges_unmoved c state valid lawful)
    (All-cons (IsUnmoved (places c c)) (rows.LastChallenge (state.challenges.next - 1)) [] refl
    (All-nil (IsUnmoved (places c c)))))) in
    let leave = All-cons LeavesSessions (rows.LastSession (state.sessions.next - 1)) second (λ s. refl)
    (All-append LeavesSessions (map rows.Reply state.replies.kept) third
    (All-map LeavesSessions rows.Reply state.replies.kept (λ k d within s. refl))
    (All-append LeavesSessions (map rows.Challenge state.challenges.challenges) end
    (All-map LeavesSessions rows.Challenge state.challenges.challenges (λ k d within s. refl))
    (All-cons LeavesSessions (rows.LastChallenge (state.challenges.next - 1)) [] (λ s. refl) (All-nil LeavesSessions)))) in
    and_rows-append (places c c) c state.sessions first others begin
    ∙ ap (and_rows (places c c) c state.sessions others)
    (sessions_same (places c c) c state.sessions first begin split.0 split.1 (sessions_unmoved c state valid lawful)
    (All-map GivesNone rows.Session state.sessions.sessions (λ k d within old new. refl)))
    ∙ others_same (places c c) c state.sessions others split.0 state split.2 unmoved leave
    (sym (leave_sessions c others split.0 state split.2 leave))

-- ---- nothing is left out

filter_none : {X : Type 0} (p : X → Bool) (xs : List X) → ((k : ℕ) (x : X) → slice_get xs k ≡ Some x → p x ≡ false)
    → filter p xs ≡ []
filter_none p [] none = refl
filter_none p (x ∷ xs) none =
    ap (λ b. cond b (x ∷ filter p xs) (filter p xs)) (none 0 x refl) ∙ filter_none p xs (λ k y at. none (suc k) y at)

some_is : {X : Type 0} (x y : X) → Some x ≡ Some y → x ≡ y
some_is x y is = cc

or_found : (test : Bool) (y : Session) (rest : Option Session) → is_some rest ≡ true → is_some (cond test (Some y) rest) ≡ true
or_found true y rest found = refl
or_found false y rest found = found

found : (xs : List Session) (k : ℕ) (x : Session) → slice_get xs k ≡ Some x
    → is_some (find (λ (s : Session). s.number == x.number) xs) ≡ true
found [] k x at = absurd (cc)
found (y ∷ ys) zero x at =
    ap (λ b. is_some (cond b (Some y) (find (λ (s : Session). s.number == x.number) ys)))
    (eq-eqb y.number x.number (ap (λ (s : Session). s.number) (some_is y x at)))
found (y ∷ ys) (suc k) x at = or_found (y.number == x.number) y (find (λ (s : Session). s.number == x.number) ys) (found ys k x at)

none_left : (table : Sessions) → left_out table table ≡ []
none_left table =
    filter_none (λ (s : Session). not (has_number s.number table)) table.sessions (λ k x at. ap not (found table.sessions k x at))

pub none_left_out : CarriedIsTheSame → NoneIsLeftOut
none_left_out same c state valid lawful =
    ap (λ (s : State). left_out state.sessions s.sessions) (same c state valid lawful) ∙ none_left state.sessions

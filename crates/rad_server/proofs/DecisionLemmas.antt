-- What the configuration tells of credentials being known, what is decided is what is defined.
use Rattle.std.proofs.Common.{◌≡◌, ℕ, ◌<◌, ◌==◌, Bool, true, false, not, if◌then◌else◌, List, length, get_or, Option, Some, None}
use Rattle.std.proofs.Common.{IfSome, is_some, ok_or, slice_get, Result, Ok, Err, refl, sym, ap, subst, ◌∙◌, arith}
use Rattle.std.specs.Prelude.{unwrap_or}
use Rattle.std.specs.Str.{bytes_eq}
use Rattle.std.proofs.lemmas.Bool.Decides.{nat_tests}
use Rattle.std.proofs.lemmas.List.Elements.{All-filter}
use Rattle.std.proofs.lemmas.List.Quantifiers.{position-Some}
use Rattle.std.proofs.lemmas.Option.{get_or_from_slice_get, slice_get-get_or}
use Rattle.std.proofs.lemmas.Slice.Eq.{bytes_eq-Decides}
use Rattle.rad_packet.specs.Bodies.{Body}
use Rattle.rad_packet.specs.Ladders.{◌>>=◌, refuse_if}
use Rattle.rad_auth.specs.PasswordChecks.{is_right_in}
use Rattle.rad_auth.specs.declared.arrival.Door.TheVariants.{Acct, Auth}
use Rattle.rad_auth.specs.declared.arrival.Request.{Request}
use Rattle.rad_config.specs.Configurations.{Configuration, user_place}
use Rattle.rad_config.specs.Ranges.{IsConfiguration}
use Rattle.rad_config.specs.declared.user.User.{User}
use Rattle.rad_recent.specs.Challenges.{cut_challenges, has_state, is_challenge_live}
use Rattle.rad_server.specs.Access.{access, access_with, answer_matches, decided, decision_on_answer, decision_on_password}
use Rattle.rad_server.specs.Access.{is_name_of, password_matches, session_for, user_by_answer, user_by_password, user_challenged}
use Rattle.rad_server.specs.Access.{user_decision, without_challenge}
use Rattle.rad_server.specs.Accounting.{account, session_reported}
use Rattle.rad_server.specs.Changes.{CanBeMade, changed_by, session_by}
use Rattle.rad_server.specs.Credentials.{Credentials, credentials_in}
use Rattle.rad_server.specs.Decisions.{decision_answering, is_named, user_answering}
use Rattle.rad_server.specs.Prepared.{AreUsers, IsAnswer, IsFixed, IsLogin, IsPasswordOf, wanted_of}
use Rattle.rad_server.specs.Replies.{accounting_response}
use Rattle.rad_server.specs.States.{State}
use Rattle.rad_server.specs.Steps.{reply_by_port, session_by_port}
use Rattle.rad_server.specs.TableStates.{AreUsable, state_for}
use Rattle.rad_server.specs.Users.{user_at}
use Rattle.rad_server.specs.declared.change.Change.{Change}
use Rattle.rad_server.specs.declared.change.Change.TheVariants.{Nothing}
use Rattle.rad_server.specs.declared.denial.Denial.{Denial}
use Rattle.rad_server.specs.declared.denial.Denial.TheVariants.{WrongState, AccessDenied}
use Rattle.rad_server.specs.declared.fixed_reply.FixedReply.TheVariants.{Accounting, Denied}
use Rattle.rad_server.specs.declared.inquiry.Login.{Login}
use Rattle.rad_server.specs.declared.access.ChallengeAnswer.{ChallengeAnswer}
use Rattle.rad_server.specs.declared.tables.Tables.{Tables}
use Rattle.rad_server.proofs.PlanLemmas.{found_has, image_has, names_none}

-- ---- names

-- what is there is there
is_there : {X : Type 0} (o : Option X) (x d : X) → o ≡ Some x → o ≡ Some (unwrap_or o d)
is_there None x d e = absurd cc
is_there (Some y) x d e = refl

-- the name of the user at a place leads to the place
named : (configuration : Configuration) (place : ℕ) → IsConfiguration configuration → place < length configuration.users
    → user_place configuration.users (user_at configuration place).name ≡ Some place
named configuration place ranges within =
    let row : User = user_at configuration place in
    ranges.names place row (is_there _ _ _ (slice_get-get_or configuration.users place row within))

-- whether a name is that of the user at a place is whether it leads to the place
own_name : (configuration : Configuration) (place : ℕ) (name : List ℕ) → IsConfiguration configuration
    → place < length configuration.users
    → is_name_of configuration place name ≡ is_named (user_place configuration.users name) place
own_name configuration place name ranges within = at (bytes_eq name (user_at configuration place).name) refl
  where
    row : User
    row = user_at configuration place

    there : slice_get configuration.users place ≡ Some row
    there = is_there _ _ _ (slice_get-get_or configuration.users place row within)

    other : (o : Option ℕ) → user_place configuration.users name ≡ o → bytes_eq name row.name ≡ false → false ≡ is_named o place
    other None nobody differs = refl
    other (Some user) found differs = apart (user == place) refl
      where
        apart : (b : Bool) → (user == place) ≡ b → false ≡ b
        apart false e = refl
        apart true e =
            let same : user ≡ place = grind (arith, nat_tests, e) in
            let first = position-Some (λ u. bytes_eq name u.name) configuration.users user row found in
            let read : get_or configuration.users user row ≡ row =
            ap (λ k. get_or configuration.users k row) same ∙ get_or_from_slice_get configuration.users place row row there in
            sym differs ∙ ap (λ u. bytes_eq name u.name) (sym read) ∙ first.1

    at : (b : Bool) → bytes_eq name row.name ≡ b → b ≡ is_named (user_place configuration.users name) place
    at false differs = other (user_place configuration.users name) refl differs
    at true same =
        let is : user_place configuration.users name ≡ Some place =
        ap (user_place configuration.users) ((bytes_eq-Decides name row.name).0 same) ∙ named configuration place ranges within in
        rw is (grind (arith, nat_tests))

-- ---- users

-- two checks, the second of which is made only where the first passes
two_checks : (a b c d : Bool) (user : ℕ) → a ≡ c → (c ≡ true → b ≡ d)
    → (refuse_if (not a) WrongState >>= (λ own. refuse_if (not b) AccessDenied >>= (λ right. Ok user)))
    ≡ (refuse_if (not c) WrongState >>= (λ own. refuse_if (not d) AccessDenied >>= (λ right. Ok user)))
two_checks a b false d user same second = rw same refl
two_checks a b true d user same second = rw same (ap (λ t. refuse_if (not t) AccessDenied >>= (λ right. Ok user)) (second refl))

is_named-true : (o : Option ℕ) (place : ℕ) → is_named o place ≡ true → o ≡ Some place
is_named-true None place is = absurd cc
is_named-true (Some user) place is = ap Some (grind (arith, nat_tests, is))

-- the user whose challenge is answered, whether the answer is right being known
answering : (configuration : Configuration) (request : Request) (login : Login) (answer : ChallengeAnswer) (challenged : Option ℕ)
    → IsConfiguration configuration → (known : IsLogin configuration request login) → is_some known.credentials.state ≡ true
    → answer.user ≡ login.user → answer.is_right ≡ is_right_in login.check
    → IfSome challenged (λ user. user < length configuration.users)
    → user_answering challenged answer ≡ user_by_answer configuration request challenged known.credentials
unfolding user_answering user_by_answer
answering configuration request login answer None ranges known has user right within = refl
answering configuration request login answer (Some place) ranges known has user right within =
    let credentials : Credentials = known.credentials in
    let named : answer.user ≡ user_place configuration.users credentials.name = user ∙ known.user in
    let own : is_name_of configuration place credentials.name ≡ is_named answer.user place =
    own_name configuration place credentials.name ranges within ∙ ap (λ o. is_named o place) (sym named) in
    sym (two_checks _ _ _ _ place own (λ is.
    sym (right ∙ known.check
    ∙ ap (λ o. answer_matches configuration request credentials.password (wanted_of configuration (is_some credentials.state) o))
    (sym user ∙ is_named-true answer.user place is)
    ∙ ap (λ b. answer_matches configuration request credentials.password (wanted_of configuration b (Some place))) has)))

-- the user whose name and password were sent, whether the password is right being known
abbrev pub logged_in : Option ℕ → Bool → Result ℕ Denial
logged_in user right = ok_or user AccessDenied >>= (λ place. refuse_if (not right) AccessDenied >>= (λ r. Ok place))

by_password : (configuration : Configuration) (request : Request) (login : Login) → (known : IsLogin configuration request login)
    → is_some known.credentials.state ≡ false
    → user_by_password configuration request known.credentials ≡ logged_in login.user (is_right_in login.check)
unfolding user_by_password
by_password configuration request login known none =
    let credentials : Credentials = known.credentials in
    sym (ap (λ o. logged_in o (is_right_in login.check)) known.user
    ∙ at (user_place configuration.users credentials.name) (is_right_in login.check)
    (known.check ∙ ap (λ o. answer_matches configuration request credentials.password
    (wanted_of configuration (is_some credentials.state) o)) known.user
    ∙ ap (λ b. answer_matches configuration request credentials.password
    (wanted_of configuration b (user_place configuration.users credentials.name))) none))
  where
    at : (o : Option ℕ) (right : Bool)
        → right ≡ answer_matches configuration request known.credentials.password (wanted_of configuration false o)
        → logged_in o right
        ≡ (ok_or o AccessDenied >>= (λ user. refuse_if
        (not (password_matches configuration request known.credentials.password (user_at configuration user).password)) AccessDenied
        >>= (λ r. Ok user)))
    at None right is = refl
    at (Some user) right is = ap (λ b. refuse_if (not b) AccessDenied >>= (λ r. Ok user)) is

-- ---- rules

-- the rule of the authentication port
by_access : (configuration : Configuration) (request : Request) → request.door ≡ Auth → (state : State) (draw : List ℕ)
    → reply_by_port request.door configuration state request draw ≡ access configuration state request draw
by_access configuration request door state draw = ap (λ port. reply_by_port port configuration state request draw) door

-- access is denied without a look at the credentials
pub denied_unread : (configuration : Configuration) (request : Request) (denial : Denial)
    → request.door ≡ Auth → credentials_in request.packet.attributes ≡ Err denial
    → IsFixed configuration request (Denied denial) Nothing
denied_unread configuration request denial door read = record {
  says = λ state draw. by_access configuration request door state draw ∙ ap (access_with configuration state request draw) read;
  possible = λ state. tt;
  session = λ state. sym (names_none configuration request door state.sessions);
}

-- what an Accounting-Request reports
pub reported_is : (configuration : Configuration) (request : Request) (change : Change) → request.door ≡ Acct
    → ((state : State) (draw : List ℕ) → (account configuration state request).1 ≡ changed_by request draw change state)
    → ((state : State) → CanBeMade state change)
    → ((state : State) → session_by request change state.sessions ≡ session_reported configuration request state.sessions)
    → IsFixed configuration request Accounting change
reported_is configuration request change door reported possible session = record {
  says = λ state draw.
      ap (λ port. reply_by_port port configuration state request draw) door
      ∙ (λ i. (accounting_response request.packet, reported state draw i));
  possible = possible;
  session = λ state. session state ∙ ap (λ port. session_by_port port configuration request state.sessions) (sym door);
}

-- the reply to credentials with this State, or without one
abbrev with_state : Configuration → Request → Credentials → State → List ℕ → Option (List ℕ) → Body × State
with_state configuration request credentials state draw value =
    let left = without_challenge request.client value state in
    decided configuration left request draw
    (if is_some value then decision_on_answer configuration left request (user_challenged request value state) credentials
    else decision_on_password configuration left request credentials)

reads : (configuration : Configuration) (request : Request) (login : Login) (value : Option (List ℕ))
    (known : IsLogin configuration request login)
    → known.credentials.state ≡ value → (state : State) (draw : List ℕ)
    → access configuration state request draw ≡ with_state configuration request known.credentials state draw value
reads configuration request login value known sent state draw =
    ap (access_with configuration state request draw) known.read
    ∙ ap (with_state configuration request known.credentials state draw) sent

-- a challenge is answered
pub answer_is : (configuration : Configuration) (request : Request) (login : Login) (answer : ChallengeAnswer)
    → IsConfiguration configuration → request.door ≡ Auth → (known : IsLogin configuration request login)
    → known.credentials.state ≡ Some answer.state.now
    → answer.user ≡ login.user → answer.is_right ≡ is_right_in login.check → IsAnswer configuration request answer
unfolding decision_answering decision_on_answer
answer_is configuration request login answer ranges door known sent user right = record {
  door = door;
  says = λ state draw users.
      let value : Option (List ℕ) = Some answer.state.now in
      let left : State = without_challenge request.client value state in
      by_access configuration request door state draw ∙ reads configuration request login value known sent state draw
      ∙ ap (λ found. decided configuration left request draw (found >>= (λ place. session_for configuration left place)))
      (sym (answering configuration request login answer (user_challenged request value state) ranges known (ap is_some sent) user
      right (users value)));
}

-- a password was sent
after_password : (configuration : Configuration) (request : Request) (login : Login) (known : IsLogin configuration request login)
    → known.credentials.state ≡ None → (state : State) (draw : List ℕ)
    → access configuration state request draw
    ≡ decided configuration state request draw
    (logged_in login.user (is_right_in login.check) >>= (λ user. user_decision configuration state request.client user))
unfolding decision_on_password
after_password configuration request login known none state draw =
    reads configuration request login None known none state draw
    ∙ ap (λ found. decided configuration state request draw
    (found >>= (λ user. user_decision configuration state request.client user)))
    (by_password configuration request login known (ap is_some none))

-- it is right
pub password_is : (configuration : Configuration) (request : Request) (login : Login) (user : ℕ) → request.door ≡ Auth
    → (known : IsLogin configuration request login)
    → known.credentials.state ≡ None → login.user ≡ Some user → is_right_in login.check ≡ true
    → IsPasswordOf configuration request user
password_is configuration request login user door known none found right = record {
  door = door;
  within = subst (λ o. IfSome o (λ place. place < length configuration.users)) found known.within;
  says = λ state draw.
      by_access configuration request door state draw ∙ after_password configuration request login known none state draw
      ∙ ap (λ o. decided configuration state request draw (o >>= (λ place. user_decision configuration state request.client place)))
      (ap (λ o. logged_in o (is_right_in login.check)) found ∙ ap (logged_in (Some user)) right);
}

-- it is wrong, or no user has the name
pub denied_is : (configuration : Configuration) (request : Request) (login : Login) → request.door ≡ Auth
    → (known : IsLogin configuration request login)
    → known.credentials.state ≡ None → logged_in login.user (is_right_in login.check) ≡ Err AccessDenied
    → IsFixed configuration request (Denied AccessDenied) Nothing
denied_is configuration request login door known none refused = record {
  says = λ state draw.
      by_access configuration request door state draw ∙ after_password configuration request login known none state draw
      ∙ ap (λ o. decided configuration state request draw (o >>= (λ place. user_decision configuration state request.client place)))
      refused;
  possible = λ state. tt;
  session = λ state. sym (names_none configuration request door state.sessions);
}

-- the users who are challenged are those of the configuration
pub challenged_within : (configuration : Configuration) (request : Request) (now : ℕ) (tables : Tables)
    → AreUsable configuration tables
    → AreUsers configuration request (state_for request now tables)
challenged_within configuration request now tables usable None = tt
challenged_within configuration request now tables usable (Some value) =
    let table = tables.challenges.table in
    let within : ℕ → Type 0 = λ user. user < length configuration.users in
    image_has within (λ challenge. challenge.user) _
    (found_has (λ challenge. within challenge.user) (has_state value request.client) (cut_challenges now table).challenges
    (All-filter (is_challenge_live table.hold now) (λ challenge. within challenge.user) table.challenges usable.users))

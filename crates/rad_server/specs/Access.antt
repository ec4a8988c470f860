-- Who is granted access (RFC 2865, sections 2 and 4.1 to 4.4): the user whose password was sent, after a challenge if the
-- user has one, as far as sessions and addresses allow.
use Rattle.std.specs.Prelude.{ℕ, not, Bool, false, if◌then◌else◌, List, Option, Some, None, is_some, option_map, unwrap_or, Result}
use Rattle.std.specs.Prelude.{Ok, Err, ok_or}
use Rattle.std.specs.Str.{bytes_eq}
use Rattle.rad_packet.specs.Bodies.{Body}
use Rattle.rad_packet.specs.Ladders.{◌>>=◌, refuse_if}
use Rattle.rad_auth.specs.Chap.{chap_right}
use Rattle.rad_auth.specs.Clients.{secret_at}
use Rattle.rad_auth.specs.Passwords.{password_right}
use Rattle.rad_auth.specs.declared.arrival.Request.{Request}
use Rattle.rad_config.specs.Configurations.{Configuration, is_reached, user_place}
use Rattle.rad_pool.specs.Grants.{granted, with_session}
use Rattle.rad_pool.specs.declared.grant.Grant.{Grant}
use Rattle.rad_pool.specs.declared.grant.Refusal.{Refusal}
use Rattle.rad_recent.specs.Challenges.{Challenges, answered, next_number, waiting_with, without_answered}
use Rattle.rad_recent.specs.Challenges as challenges
use Rattle.rad_recent.specs.declared.challenge.Challenge.{Challenge}
use Rattle.rad_recent.specs.declared.challenge.Party.TheVariants as parties
use Rattle.rad_recent.specs.declared.challenges.IssueFault.{IssueFault}
use Rattle.rad_server.specs.Credentials.{Credentials, SentPassword, UserPassword, ChapPassword, credentials_in}
use Rattle.rad_server.specs.Denials.{denial_of}
use Rattle.rad_server.specs.Replies.{access_accept, access_challenge, access_reject}
use Rattle.rad_server.specs.Shares.{challenges_limit, challenges_share}
use Rattle.rad_server.specs.States.{State}
use Rattle.rad_server.specs.Users.{user_at}
use Rattle.rad_server.specs.declared.denial.Denial.{Denial}
use Rattle.rad_server.specs.declared.denial.Denial.TheVariants.{StateUnknown, WrongState, AccessDenied, SessionLimit, ServerFull}

-- what the user at a place is given, if access isn't denied: a challenge, or a session
pub data Decision : Type 0 where
  Challenged : ℕ → Decision
  Granted : ℕ → Grant → Decision

-- ---- passwords

-- whether this password was sent in a request; without a CHAP-Challenge, the challenge is the Request Authenticator
abbrev pub password_matches : Configuration → Request → SentPassword → List ℕ → Bool
password_matches configuration request (UserPassword value) password =
    password_right (secret_at configuration.clients request.client) request.packet.authenticator value password
password_matches configuration request (ChapPassword value challenge) password =
    chap_right value password (unwrap_or challenge request.packet.authenticator)

-- the same of the answer to a challenge, if the user has one
abbrev pub answer_matches : Configuration → Request → SentPassword → Option (List ℕ) → Bool
answer_matches configuration request sent None = false
answer_matches configuration request sent (Some answer) = password_matches configuration request sent answer

-- the user whose name and password were sent
unfoldable pub user_by_password : Configuration → Request → Credentials → Result ℕ Denial
user_by_password configuration request credentials = do
  user ← ok_or (user_place configuration.users credentials.name) AccessDenied
  right ← refuse_if (not (password_matches configuration request credentials.password (user_at configuration user).password))
      AccessDenied
  Ok user

-- ---- challenges

-- the challenge that a client answers with a State, if it sent one
abbrev pub answered_challenge : ℕ → Option (List ℕ) → Challenges → Option Challenge
answered_challenge client None challenges = None
answered_challenge client (Some value) challenges = answered value client challenges

-- the user whose challenge a request answers, if it answers one
abbrev pub user_challenged : Request → Option (List ℕ) → State → Option ℕ
user_challenged request value state =
    option_map (λ challenge. challenge.user) (answered_challenge request.client value state.challenges)

-- the state without that challenge
abbrev pub without_challenge : ℕ → Option (List ℕ) → State → State
without_challenge client None state = state
without_challenge client (Some value) state = record state { challenges = without_answered value client state.challenges }

-- whether a name is that of the user at a place
abbrev pub is_name_of : Configuration → ℕ → List ℕ → Bool
is_name_of configuration user name = bytes_eq name (user_at configuration user).name

-- the user whose challenge is answered, rightly and under the user's name
unfoldable pub user_by_answer : Configuration → Request → Option ℕ → Credentials → Result ℕ Denial
user_by_answer configuration request challenged credentials = do
  user ← ok_or challenged StateUnknown
  own ← refuse_if (not (is_name_of configuration user credentials.name)) WrongState
  right ← refuse_if (not (answer_matches configuration request credentials.password (user_at configuration user).answer))
      AccessDenied
  Ok user

-- the number of a new challenge, or why there is none
abbrev pub number_or_denial : Result ℕ IssueFault → Result ℕ Denial
number_or_denial (Ok number) = Ok number
number_or_denial (Err fault) = Err ServerFull

-- the same, as far as the user and the client who sent the request may have one more
unfoldable pub challenge_number : Configuration → Challenges → ℕ → ℕ → Result ℕ Denial
challenge_number configuration challenges client user = do
  own ← refuse_if (is_reached (challenges_limit configuration user) (waiting_with (parties.User user) challenges)) SessionLimit
  shared ← refuse_if (is_reached (challenges_share configuration client) (waiting_with (parties.Client client) challenges))
      ServerFull
  number_or_denial (next_number challenges)

-- a challenge for a user, or why there is none
abbrev pub challenge_or_denial : ℕ → Result ℕ Denial → Result Decision Denial
challenge_or_denial user (Ok number) = Ok (Challenged user)
challenge_or_denial user (Err denial) = Err denial

abbrev pub challenge_for : Configuration → State → ℕ → ℕ → Result Decision Denial
challenge_for configuration state client user =
    challenge_or_denial user (challenge_number configuration state.challenges client user)

-- the state with a challenge for a user
abbrev pub with_challenge : ℕ → ℕ → List ℕ → State → State
with_challenge client user draw state =
    record state { challenges = challenges.with_challenge client user draw state.clock state.challenges }

-- ---- the decision

-- a session for a user, or why there is none
abbrev pub session_or_denial : ℕ → Result Grant Refusal → Result Decision Denial
session_or_denial user (Ok grant) = Ok (Granted user grant)
session_or_denial user (Err refusal) = Err (denial_of refusal)

abbrev pub session_for : Configuration → State → ℕ → Result Decision Denial
session_for configuration state user = session_or_denial user (granted configuration user state.sessions)

-- a request with a State: with the right answer to its challenge, the user is granted a session
unfoldable pub decision_on_answer : Configuration → State → Request → Option ℕ → Credentials → Result Decision Denial
decision_on_answer configuration state request challenged credentials = do
  user ← user_by_answer configuration request challenged credentials
  session_for configuration state user

-- what a user whose password a client sent is given: a challenge, or else a session
abbrev pub user_decision : Configuration → State → ℕ → ℕ → Result Decision Denial
user_decision configuration state client user =
    if is_some (user_at configuration user).challenge then challenge_for configuration state client user
    else session_for configuration state user

-- a request without a State: with the password, the user is challenged or else granted a session
unfoldable pub decision_on_password : Configuration → State → Request → Credentials → Result Decision Denial
decision_on_password configuration state request credentials = do
  user ← user_by_password configuration request credentials
  user_decision configuration state request.client user

-- the decision, given the user whose challenge is answered, if one is
abbrev pub decision : Configuration → State → Request → Option ℕ → Credentials → Result Decision Denial
decision configuration state request challenged credentials =
    if is_some credentials.state then decision_on_answer configuration state request challenged credentials
    else decision_on_password configuration state request credentials

-- the reply that a decision makes, and the state after it
abbrev pub decided : Configuration → State → Request → List ℕ → Result Decision Denial → Body × State
decided configuration state request draw (Err denial) = (access_reject denial request.packet, state)
decided configuration state request draw (Ok (Challenged user)) = (
  access_challenge (user_at configuration user) state.challenges.next draw request.packet,
  with_challenge request.client user draw state,
)
decided configuration state request draw (Ok (Granted user grant)) = (
  access_accept (user_at configuration user) grant request.packet,
  record state { sessions = with_session request.client request.source user state.clock grant state.sessions },
)

-- The reply to a request with these credentials, and the state after it. A challenge that is answered goes, whatever follows.
abbrev pub access_with : Configuration → State → Request → List ℕ → Result Credentials Denial → Body × State
access_with configuration state request draw (Err denial) = decided configuration state request draw (Err denial)
access_with configuration state request draw (Ok credentials) =
    let left = without_challenge request.client credentials.state state in
    decided configuration left request draw
    (decision configuration left request (user_challenged request credentials.state state) credentials)

-- the reply to an Access-Request, and the state after it
abbrev pub access : Configuration → State → Request → List ℕ → Body × State
access configuration state request draw = access_with configuration state request draw (credentials_in request.packet.attributes)

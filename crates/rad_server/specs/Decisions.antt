-- What the code decides on an Access-Request. No other crate cites these.
use Rattle.std.specs.Prelude.{◌≡◌, ◌<◌, ℕ, ◌==◌, Bool, false, not, List, Option, None, Some, ok_or, Result, Ok, Err, length}
use Rattle.rad_packet.specs.Bodies.{Body}
use Rattle.rad_packet.specs.Ladders.{◌>>=◌, refuse_if}
use Rattle.rad_auth.specs.declared.arrival.Request.{Request}
use Rattle.rad_config.specs.Configurations.{Configuration}
use Rattle.rad_pool.specs.Grants.{HasPoolFor}
use Rattle.rad_recent.specs.Challenges.{next_number}
use Rattle.rad_server.specs.Access.{Challenged, Decision, Granted, decided, session_for, user_challenged, without_challenge}
use Rattle.rad_server.specs.States.{State}
use Rattle.rad_server.specs.declared.access.Decision.{Decision as DecisionOfCode}
use Rattle.rad_server.specs.declared.access.Decision.TheVariants as decisions
use Rattle.rad_server.specs.declared.denial.Denial.{Denial}
use Rattle.rad_server.specs.declared.denial.Denial.TheVariants.{StateUnknown, WrongState, AccessDenied}
use Rattle.rad_server.specs.declared.access.ChallengeAnswer.{ChallengeAnswer}

-- what a call returned, seen by view, is what is defined
abbrev pub Gives : {X Y E : Type 0} → (X → Y) → Result X E → Result Y E → Type 0
Gives view (Ok value) defined = defined ≡ Ok (view value)
Gives view (Err refusal) defined = defined ≡ Err refusal

abbrev pub decision_of : DecisionOfCode → Decision
decision_of (decisions.Challenge user number) = Challenged user
decision_of (decisions.Session session) = Granted session.user session.grant

-- whether the user whose name was sent is the one at a place
abbrev pub is_named : Option ℕ → ℕ → Bool
is_named None place = false
is_named (Some user) place = user == place

-- the user whose challenge is answered, rightly and under the user's name
unfoldable pub user_answering : Option ℕ → ChallengeAnswer → Result ℕ Denial
user_answering challenged answer = do
  user ← ok_or challenged StateUnknown
  own ← refuse_if (not (is_named answer.user user)) WrongState
  right ← refuse_if (not answer.is_right) AccessDenied
  Ok user

-- what the user is given whose challenge a request answers
unfoldable pub decision_answering : Configuration → State → Option ℕ → ChallengeAnswer → Result Decision Denial
decision_answering configuration state challenged answer = do
  user ← user_answering challenged answer
  session_for configuration state user

-- the reply to an answer to a challenge, and the state after it
abbrev pub access_by_answer : Configuration → State → Request → List ℕ → ChallengeAnswer → Body × State
access_by_answer configuration state request draw answer =
    let left = without_challenge request.client (Some answer.state.now) state in
    decided configuration left request draw
    (decision_answering configuration left (user_challenged request (Some answer.state.now) state) answer)

-- a decision gives to a user of the configuration, and an address only to one with a pool
abbrev pub IsOfUser : Configuration → DecisionOfCode → Type 0
IsOfUser configuration (decisions.Challenge user number) = user < length configuration.users
IsOfUser configuration (decisions.Session session) =
    (session.user < length configuration.users) × HasPoolFor configuration session.user session.grant

-- what a decision gives can be given in a state: a challenge with the next number, or a session with the next number
abbrev pub CanBeGiven : State → DecisionOfCode → Type 0
CanBeGiven state (decisions.Challenge user number) = (next_number state.challenges ≡ Ok number) × (number ≡ state.challenges.next)
CanBeGiven state (decisions.Session session) = session.grant.number ≡ state.sessions.next

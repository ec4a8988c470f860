-- What is known of a request before the state is looked at: what the configuration alone tells. Other crates cite `Prepared` and
-- `prepared_in` alone.
use Rattle.std.specs.Prelude.{◌≡◌, ℕ, ◌<◌, ◌==◌, Bool, true, false, if◌then◌else◌, is_some, List, length, Option, Some, None}
use Rattle.std.specs.Prelude.{option_copied, option_map, Result, Ok, Err, IfSome}
use Rattle.rad_packet.specs.Bodies.{Body}
use Rattle.rad_packet.specs.Codes.{code_status_server}
use Rattle.rad_auth.specs.Admission.{IsAdmitted}
use Rattle.rad_auth.specs.PasswordChecks.{is_right_in}
use Rattle.rad_auth.specs.declared.arrival.Door.{Door}
use Rattle.rad_auth.specs.declared.arrival.Door.TheVariants.{Auth}
use Rattle.rad_auth.specs.declared.arrival.Request.{Request}
use Rattle.rad_auth.specs.declared.discard.Discard.{Discard}
use Rattle.rad_config.specs.Configurations.{Configuration, user_place}
use Rattle.rad_server.specs.Access.{answer_matches, decided, user_challenged, user_decision}
use Rattle.rad_server.specs.Changes.{CanBeMade, changed_by, session_by}
use Rattle.rad_server.specs.Credentials.{Credentials, credentials_in}
use Rattle.rad_server.specs.Decisions.{access_by_answer}
use Rattle.rad_server.specs.FixedReplies.{fixed_body}
use Rattle.rad_server.specs.States.{State}
use Rattle.rad_server.specs.Steps.{reply_by_port, session_by_port}
use Rattle.rad_server.specs.Users.{user_at}
use Rattle.rad_server.specs.declared.change.Change.{Change}
use Rattle.rad_server.specs.declared.change.Change.TheVariants.{Nothing}
use Rattle.rad_server.specs.declared.denial.Denial.{Denial}
use Rattle.rad_server.specs.declared.fixed_reply.FixedReply.{FixedReply}
use Rattle.rad_server.specs.declared.fixed_reply.FixedReply.TheVariants.{Denied, Status}
use Rattle.rad_server.specs.declared.inquiry.Inquiry.{Inquiry}
use Rattle.rad_server.specs.declared.inquiry.Inquiry.TheVariants as inquiries
use Rattle.rad_server.specs.declared.inquiry.Login.{Login}
use Rattle.rad_server.specs.declared.prepared.Ruled.{Ruled}
use Rattle.rad_server.specs.declared.prepared.Ruling.{Ruling}
use Rattle.rad_server.specs.declared.prepared.Ruling.TheVariants as rulings
use Rattle.rad_server.specs.declared.access.ChallengeAnswer.{ChallengeAnswer}
use Rattle.rad_server.specs.declared.rule.Rule.{Rule}
use Rattle.rad_server.specs.declared.rule.Rule.TheVariants.{Fixed, Password, Answer}

-- a request, and the configuration under which it is prepared
pub record Prepared : Type 0 where
  pub configuration : Configuration
  pub request : Request

-- the request in a lane of verdicts, prepared, if there is one
abbrev pub prepared_in : Configuration → Option (Result Request Discard) → Option Prepared
prepared_in configuration None = None
prepared_in configuration (Some (Err discard)) = None
prepared_in configuration (Some (Ok request)) = Some (record { configuration = configuration; request = request })

-- ---- rules

-- In every state a request is answered by a fixed reply. The same changes, which can be made, and the change names the session that
-- the request does.
pub record IsFixed (configuration : Configuration) (request : Request) (fixed : FixedReply) (change : Change) : Type 0 where
  pub says : (state : State) (draw : List ℕ)
      → reply_by_port request.door configuration state request draw
      ≡ (fixed_body request.packet fixed, changed_by request draw change state)
  pub possible : (state : State) → CanBeMade state change
  pub session : (state : State) → session_by request change state.sessions
      ≡ session_by_port request.door configuration request state.sessions

-- the rule by which access is denied in every state
abbrev pub denied : Denial → Rule
denied denial = Fixed (Denied denial) Nothing

-- in every state the user at a place is challenged or granted a session, as far as there is room
pub record IsPasswordOf (configuration : Configuration) (request : Request) (user : ℕ) : Type 0 where
  pub door : request.door ≡ Auth
  pub within : user < length configuration.users
  pub says : (state : State) (draw : List ℕ)
      → reply_by_port request.door configuration state request draw
      ≡ decided configuration state request draw (user_decision configuration state request.client user)

-- the users who are challenged are those of the configuration
abbrev pub AreUsers : Configuration → Request → State → Type 0
AreUsers configuration request state = (value : Option (List ℕ))
    → IfSome (user_challenged request value state) (λ user. user < length configuration.users)

-- in every state with challenges of such users alone a request answers the challenge of its State with what the configuration tells
pub record IsAnswer (configuration : Configuration) (request : Request) (answer : ChallengeAnswer) : Type 0 where
  pub door : request.door ≡ Auth
  pub says : (state : State) (draw : List ℕ) → AreUsers configuration request state
      → reply_by_port request.door configuration state request draw ≡ access_by_answer configuration state request draw answer

-- the rule by which a request is answered
abbrev pub IsRule : Configuration → Request → Rule → Type 0
IsRule configuration request (Fixed fixed change) = IsFixed configuration request fixed change
IsRule configuration request (Password user) = IsPasswordOf configuration request user
IsRule configuration request (Answer answer) = IsAnswer configuration request answer

-- the same; a Status-Server has no rule
abbrev pub IsRuleOf : Configuration → Request → Option Rule → Type 0
IsRuleOf configuration request None = (request.packet.code == code_status_server) ≡ true
IsRuleOf configuration request (Some rule) =
    ((request.packet.code == code_status_server) ≡ false) × IsRule configuration request rule

-- the reply to a request that came to this port, if it is fixed
abbrev pub fixed_reply : Door → Option Rule → Option FixedReply
fixed_reply door None = Some (Status door)
fixed_reply door (Some (Fixed fixed change)) = Some fixed
fixed_reply door (Some (Password user)) = None
fixed_reply door (Some (Answer answer)) = None

-- the reply to a request is fixed, and has this body
abbrev pub IsBodyOf : Request → Option Rule → Body → Type 0
IsBodyOf request rule body = option_map (fixed_body request.packet) (fixed_reply request.door rule) ≡ Some body

pub record IsPrepared (configuration : Configuration) (request : Request) (rule : Option Rule) (body : Option Body) : Type 0 where
  pub admitted : IsAdmitted configuration.clients request
  pub rule_is : IsRuleOf configuration request rule
  pub body_is : IfSome body (IsBodyOf request rule)

-- a rule, and the body of the reply if it was made in advance
pub record IsRuled (configuration : Configuration) (request : Request) (ruled : Ruled) : Type 0 where
  pub rule_is : IsRule configuration request ruled.rule
  pub body_is : IfSome ruled.body (λ body. IsBodyOf request (Some ruled.rule) body.now)

-- what is known of a request that was prepared
abbrev pub IsRuling : Configuration → Request → Ruling → Type 0
IsRuling configuration request (rulings.Status body) =
    ((request.packet.code == code_status_server) ≡ true)
    × IfSome body (λ body. body.now ≡ fixed_body request.packet (Status request.door))
IsRuling configuration request (rulings.Ruled ruled) =
    ((request.packet.code == code_status_server) ≡ false) × IsRuled configuration request ruled

-- ---- credentials

-- what the password of the user at a place must be: beside a State, the user's answer, which not every user has
abbrev pub wanted_of : Configuration → Bool → Option ℕ → Option (List ℕ)
wanted_of configuration is_answer None = None
wanted_of configuration is_answer (Some place) =
    if is_answer then (user_at configuration place).answer else Some (user_at configuration place).password

-- whether the password among credentials is right for a user
abbrev pub is_right_for : Configuration → Request → Credentials → Option ℕ → Bool
is_right_for configuration request credentials user =
    answer_matches configuration request credentials.password (wanted_of configuration (is_some credentials.state) user)

-- the credentials of a request whose password is still to be compared
pub record IsLogin (configuration : Configuration) (request : Request) (login : Login) : Type 0 where
  pub credentials : Credentials
  pub read : credentials_in request.packet.attributes ≡ Ok credentials
  pub user : login.user ≡ user_place configuration.users credentials.name
  pub within : IfSome login.user (λ place. place < length configuration.users)
  pub state : option_copied login.state ≡ credentials.state
  pub check : is_right_in login.check ≡ is_right_for configuration request credentials login.user

-- what is known of a request before a password is compared
abbrev pub IsInquiry : Configuration → Request → Inquiry → Type 0
IsInquiry configuration request (inquiries.Known rule) = IsRuleOf configuration request rule
IsInquiry configuration request (inquiries.Login login) =
    ((request.packet.code == code_status_server) ≡ false) × (request.door ≡ Auth) × IsLogin configuration request login

-- the same of the request in a lane, if there is one
abbrev pub IsInquiryIn : Configuration → Option (Result Request Discard) → Inquiry → Type 0
IsInquiryIn configuration None inquiry = Unit {0}
IsInquiryIn configuration (Some (Err discard)) inquiry = Unit {0}
IsInquiryIn configuration (Some (Ok request)) inquiry = IsInquiry configuration request inquiry

-- whether the password that is still to be compared is right
abbrev pub right_of : Inquiry → Bool
right_of (inquiries.Known rule) = false
right_of (inquiries.Login login) = is_right_in login.check

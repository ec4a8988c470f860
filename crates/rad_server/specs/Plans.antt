-- What a plan says. No other crate cites these.
use Rattle.std.specs.Prelude.{◌≡◌, ℕ, Bool, false, true, List, Some, None, option_copied, Result, IfOk}
use Rattle.rad_packet.specs.Bodies.{Body}
use Rattle.rad_packet.specs.Packets.{packet_octets}
use Rattle.rad_auth.specs.declared.arrival.Request.{Request}
use Rattle.rad_config.specs.Configurations.{Configuration}
use Rattle.rad_recent.specs.declared.kept.Kept.{Kept}
use Rattle.rad_server.specs.Access.{Decision, decided, without_challenge}
use Rattle.rad_server.specs.Decisions.{CanBeGiven, Gives, decision_of}
use Rattle.rad_server.specs.States.{State}
use Rattle.rad_server.specs.Steps.{answer, is_fresh, key_of, reply_by_port, sent_and_kept, session_by_port, without_reply}
use Rattle.rad_server.specs.declared.access.Decision.{Decision as DecisionOfCode}
use Rattle.rad_server.specs.declared.denial.Denial.{Denial}
use Rattle.rad_server.specs.declared.answer.Answer.{Answer}
use Rattle.rad_server.specs.declared.answer.Answer.TheVariants.{Send, Busy}
use Rattle.rad_server.specs.declared.plan.NewReply.{NewReply}
use Rattle.rad_server.specs.declared.plan.Plan.{Plan}
use Rattle.rad_server.specs.declared.plan.Plan.TheVariants as plans
use Rattle.rad_server.specs.declared.tables.Tables.{Tables}
use Rattle.rad_server.specs.Changes.{CanBeMade, IsReadyFor, after, changed_by, session_by}

-- A reply that carries out a decision: in each state in which what was decided can be given, body and change are as defined, and
-- the change can be made. It names no session.
pub record IsDecidedReply (configuration : Configuration) (request : Request) (draw : List ℕ)
    (decision : Result DecisionOfCode Denial) (reply : NewReply) : Type 0 where
  pub says : (state : State) (defined : Result Decision Denial) → Gives decision_of decision defined
      → IfOk decision (CanBeGiven state)
      → decided configuration state request draw defined ≡ (reply.body, changed_by request draw reply.change state)
  pub possible : (state : State) → IfOk decision (CanBeGiven state) → CanBeMade state reply.change
  pub session : (state : State) → session_by request reply.change state.sessions ≡ None

-- A new reply, given the current state: what it says and what changes are what the rule of the port gives in the state without a
-- reply to a request with the same key, and so is the session that it names.
pub record IsNewReply (configuration : Configuration) (current : State) (request : Request) (draw : List ℕ)
    (reply : NewReply) : Type 0 where
  pub planned : reply_by_port request.door configuration (without_reply request current) request draw
      ≡ (reply.body, after request draw (option_copied reply.answered) reply.change (without_reply request current))
  pub possible : CanBeMade (without_challenge request.client (option_copied reply.answered) current) reply.change
  pub session : session_by request reply.change current.sessions
      ≡ session_by_port request.door configuration request current.sessions

-- what is kept of a reply at a moment is what it says, with what its request is recognised by
pub record IsToBeKept (now : ℕ) (request : Request) (body : Body) (kept : Kept) : Type 0 where
  pub client : kept.client ≡ Some request.client
  pub key : kept.key ≡ key_of request
  pub octets : kept.octets ≡ packet_octets request.packet
  pub says : kept.body ≡ body
  pub made : kept.made ≡ now

-- a new reply and what is kept of it answer a fresh request
pub record IsNewAnswer (configuration : Configuration) (current : State) (request : Request) (draw : List ℕ) (reply : NewReply)
    (kept : Kept) : Type 0 where
  pub fresh : is_fresh configuration current request ≡ true
  pub answered : answer configuration current request draw
      ≡ sent_and_kept request (reply_by_port request.door configuration (without_reply request current) request draw)
  pub rule : IsNewReply configuration current request draw reply
  pub keeps : IsToBeKept current.clock request reply.body kept

-- a plan says the answer to a request in the current state, and what the next state is
abbrev pub IsPlanOf : Configuration → State → Request → List ℕ → Plan → Type 0
IsPlanOf configuration current request draw (plans.Unchanged body) =
    (answer configuration current request draw ≡ (Send body, current)) × (is_fresh configuration current request ≡ false)
IsPlanOf configuration current request draw plans.Busy =
    (answer configuration current request draw ≡ (Busy, without_reply request current))
    × (is_fresh configuration current request ≡ false)
IsPlanOf configuration current request draw (plans.New reply kept) = IsNewAnswer configuration current request draw reply kept

-- the answer of a plan
abbrev pub planned_answer : Plan → Answer
planned_answer (plans.Unchanged body) = Send body
planned_answer plans.Busy = Busy
planned_answer (plans.New reply kept) = Send reply.body

-- whether a plan is that of a fresh request
abbrev pub is_new : Plan → Bool
is_new (plans.Unchanged body) = false
is_new plans.Busy = false
is_new (plans.New reply kept) = true

-- memory is ready for a plan
abbrev pub IsReadyForPlan : Plan → Tables → Type 0
IsReadyForPlan (plans.Unchanged body) tables = Unit {0}
IsReadyForPlan plans.Busy tables = Unit {0}
IsReadyForPlan (plans.New reply kept) tables =
    IsReadyFor reply.change tables × (tables.replies.ready ≡ Some kept.key)

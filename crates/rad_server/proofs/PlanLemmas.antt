-- What a plan answers: a kept reply again, nothing at all, or a new reply.
use Rattle.std.proofs.Common.{◌≡◌, ℕ, Bool, true, false, not, ◌||◌, is_some, cond, List, [], ◌∷◌, find, All, Option, Some, None}
use Rattle.std.proofs.Common.{IfSome, option_map, Result, Ok, Err, Bor, refl, sym, ap, ◌∙◌}
use Rattle.std.specs.Prelude.{◌==◌, IfOk, option_copied, unwrap_or}
use Rattle.std.proofs.lemmas.List.Elements.{All-head, All-tail}
use Rattle.rad_packet.specs.Bodies.{Body}
use Rattle.rad_packet.specs.Codes.{code_status_server}
use Rattle.rad_auth.specs.declared.arrival.Door.TheVariants.{Auth}
use Rattle.rad_auth.specs.declared.arrival.Request.{Request}
use Rattle.rad_config.specs.Configurations.{Configuration}
use Rattle.rad_pool.specs.Sessions.{Sessions}
use Rattle.rad_recent.specs.Recent.{without_key}
use Rattle.rad_recent.specs.declared.kept.Kept.{Kept}
use Rattle.rad_server.specs.Access.{Decision, decided, without_challenge}
use Rattle.rad_server.specs.Decisions.{CanBeGiven, Gives, decision_of}
use Rattle.rad_server.specs.FixedReplies.{fixed_body}
use Rattle.rad_server.specs.Plans.{IsDecidedReply, IsNewReply, IsPlanOf, is_new}
use Rattle.rad_server.specs.Prepared.{IsBodyOf, IsFixed, fixed_reply}
use Rattle.rad_server.specs.Shares.{lacks_room}
use Rattle.rad_server.specs.States.{State}
use Rattle.rad_server.specs.Steps.{answer, answer_with, is_fresh, key_of, reply_by_port, reply_kept, sent_and_kept, session_by_port}
use Rattle.rad_server.specs.Steps.{without_reply}
use Rattle.rad_server.specs.declared.access.Decision.{Decision as DecisionOfCode}
use Rattle.rad_server.specs.declared.access.Decision.TheVariants as decisions
use Rattle.rad_server.specs.declared.answer.Answer.TheVariants.{Send, Busy}
use Rattle.rad_server.specs.declared.change.Change.{Change}
use Rattle.rad_server.specs.declared.denial.Denial.{Denial}
use Rattle.rad_server.specs.declared.fixed_reply.FixedReply.{FixedReply}
use Rattle.rad_server.specs.declared.plan.NewReply.{NewReply}
use Rattle.rad_server.specs.declared.plan.Plan.{Plan}
use Rattle.rad_server.specs.declared.plan.Plan.TheVariants as plans
use Rattle.rad_server.specs.declared.rule.Rule.{Rule}

-- what holds of each element holds of the one that is found
pub found_has : {X : Type 0} (P : X → Type 0) (p : X → Bool) (xs : List X) → All P xs → IfSome (find p xs) P
found_has P p [] each = tt
found_has {X} P p (x ∷ xs) each = at P p x xs (p x) (All-head P x xs each) (found_has P p xs (All-tail P x xs each))
  where
    at : {X : Type 0} (P : X → Type 0) (p : X → Bool) (x : X) (xs : List X) (b : Bool) → P x → IfSome (find p xs) P
        → IfSome (cond b (Some x) (find p xs)) P
    at P p x xs true first rest = first
    at P p x xs false first rest = rest

-- what holds of the image of an element holds of the image of an element that is there
pub image_has : {X Y : Type 0} (P : Y → Type 0) (f : X → Y) (o : Option X) → IfSome o (λ x. P (f x)) → IfSome (option_map f o) P
image_has P f None holds = tt
image_has P f (Some x) holds = holds

-- a repeat is answered by the kept reply, and isn't fresh
pub kept_again : (configuration : Configuration) (current : State) (request : Request) (draw : List ℕ) (body : Body)
    → (request.packet.code == code_status_server) ≡ false
    → option_map (λ reply. reply.body) (reply_kept request current) ≡ Some body
    → (answer configuration current request draw ≡ (Send body, current)) × (is_fresh configuration current request ≡ false)
kept_again configuration current request draw body other found = rw (other) (at (reply_kept request current) found)
  where
    at : (o : Option Kept) → option_map (λ reply. reply.body) o ≡ Some body
        → (answer_with configuration current request draw o ≡ (Send body, current))
        × (not (is_some o || lacks_room configuration request.client (without_reply request current).replies) ≡ false)
    at None e = absurd cc
    at (Some reply) e = (ap (λ (o : Option Body). (Send (body_or o), current)) e, refl)
      where
        body_or : Option Body → Body
        body_or None = body
        body_or (Some found) = found

-- without room for one more reply, a request that is no repeat isn't answered, and isn't fresh
pub no_answer : (configuration : Configuration) (current : State) (request : Request) (draw : List ℕ)
    → (request.packet.code == code_status_server) ≡ false
    → option_map (λ reply. reply.body) (reply_kept request current) ≡ None
    → lacks_room configuration request.client (without_key (key_of request) current.replies) ≡ true
    → (answer configuration current request draw ≡ (Busy, without_reply request current))
    × (is_fresh configuration current request ≡ false)
no_answer configuration current request draw other found full = rw (other) (at (reply_kept request current) found)
  where
    at : (o : Option Kept) → option_map (λ reply. reply.body) o ≡ None
        → (answer_with configuration current request draw o ≡ (Busy, without_reply request current))
        × (not (is_some o || lacks_room configuration request.client (without_reply request current).replies) ≡ false)
    at (Some reply) e = absurd cc
    at None e = rw (full) (refl, refl)

-- with room, it is fresh, and answered by the rule of its port, and the reply is kept
pub new_answer : (configuration : Configuration) (current : State) (request : Request) (draw : List ℕ)
    → (request.packet.code == code_status_server) ≡ false
    → option_map (λ reply. reply.body) (reply_kept request current) ≡ None
    → lacks_room configuration request.client (without_key (key_of request) current.replies) ≡ false
    → (answer configuration current request draw
    ≡ sent_and_kept request (reply_by_port request.door configuration (without_reply request current) request draw))
    × (is_fresh configuration current request ≡ true)
new_answer configuration current request draw other found room = rw (other) (at (reply_kept request current) found)
  where
    at : (o : Option Kept) → option_map (λ reply. reply.body) o ≡ None
        → (answer_with configuration current request draw o
        ≡ sent_and_kept request (reply_by_port request.door configuration (without_reply request current) request draw))
        × (not (is_some o || lacks_room configuration request.client (without_reply request current).replies) ≡ true)
    at (Some reply) e = absurd cc
    at None e = rw (room) (refl, refl)

-- a plan tells whether its request is fresh
pub plan_tells_fresh : (configuration : Configuration) (current : State) (request : Request) (draw : List ℕ) (plan : Plan)
    → IsPlanOf configuration current request draw plan
    → is_new plan ≡ is_fresh configuration current request
plan_tells_fresh configuration current request draw (plans.Unchanged body) planned = sym planned.1
plan_tells_fresh configuration current request draw plans.Busy planned = sym planned.1
plan_tells_fresh configuration current request draw (plans.New reply kept) planned = sym planned.fresh

-- ---- new replies

-- a request to the authentication port names no session
pub names_none : (configuration : Configuration) (request : Request) → request.door ≡ Auth → (table : Sessions)
    → session_by_port request.door configuration request table ≡ None
names_none configuration request door table = ap (λ port. session_by_port port configuration request table) door

-- a fixed reply, and what changes with it
pub fixed_is_new : (configuration : Configuration) (current : State) (request : Request) (draw : List ℕ) (fixed : FixedReply)
    (change : Change) {E : Type 0} (r : Result NewReply E)
    → IsFixed configuration request fixed change
    → IfOk r (λ reply. reply.body ≡ fixed_body request.packet fixed) → IfOk r (λ reply. option_copied reply.answered ≡ None)
    → IfOk r (λ reply. reply.change ≡ change)
    → IfOk r (IsNewReply configuration current request draw)
fixed_is_new configuration current request draw fixed change (Err fault) rule body none changes = tt
fixed_is_new configuration current request draw fixed change (Ok reply) rule body none changes = record {
  planned = rw (body, none, changes) (rule.says (without_reply request current) draw);
  possible = rw (none, changes) (rule.possible current);
  session = rw (changes) (rule.session current);
}

-- what can be given in the current state can be given in that without a reply
given_without : (current : State) (request : Request) (value : Option (List ℕ)) (decision : Result DecisionOfCode Denial)
    → IfOk decision (CanBeGiven (without_challenge request.client value current))
    → IfOk decision (CanBeGiven (without_challenge request.client value (without_reply request current)))
given_without current request value (Err denial) given = tt
given_without current request None (Ok (decisions.Challenge user number)) given = given
given_without current request None (Ok (decisions.Session session)) given = given
given_without current request (Some state) (Ok (decisions.Challenge user number)) given = given
given_without current request (Some state) (Ok (decisions.Session session)) given = given

-- a reply to a request on which was decided, after the challenge of this State if one is answered
pub decided_is_new : (configuration : Configuration) (current : State) (request : Request) (draw : List ℕ) (value : Option (List ℕ))
    (decision : Result DecisionOfCode Denial) (defined : Result Decision Denial) {E : Type 0} (r : Result NewReply E)
    → request.door ≡ Auth
    → reply_by_port request.door configuration (without_reply request current) request draw
    ≡ decided configuration (without_challenge request.client value (without_reply request current)) request draw defined
    → Gives decision_of decision defined → IfOk decision (CanBeGiven (without_challenge request.client value current))
    → IfOk r (IsDecidedReply configuration request draw decision) → IfOk r (λ reply. option_copied reply.answered ≡ value)
    → IfOk r (IsNewReply configuration current request draw)
decided_is_new configuration current request draw value decision defined (Err fault) door by gives given says answered = tt
decided_is_new configuration current request draw value decision defined (Ok reply) door by gives given says answered = record {
  planned = rw (answered)
      (by ∙ says.says (without_challenge request.client value (without_reply request current)) defined gives
      (given_without current request value decision given));
  possible = rw (answered) (says.possible (without_challenge request.client value current) given);
  session = says.session current ∙ sym (names_none configuration request door current.sessions);
}

-- a body that was made in advance is that of the fixed reply
pub is_body : (request : Request) (rule : Option Rule) (fixed : FixedReply) (o : Option (Bor Body))
    → fixed_reply request.door rule ≡ Some fixed
    → IfSome o (λ body. IsBodyOf request rule body.now) → IfSome o (λ body. body.now ≡ fixed_body request.packet fixed)
is_body request rule fixed None is made = tt
is_body request rule fixed (Some body) is made =
    ap (λ o. unwrap_or o body.now) (sym made ∙ ap (option_map (fixed_body request.packet)) is)

-- what holds of a value behind a reference
pub borrowed_has : {X : Type 0} (P : X → Type 0) (o : Option (Bor X)) → IfSome (option_copied o) P → IfSome o (λ x. P x.now)
borrowed_has P None holds = tt
borrowed_has P (Some x) holds = holds

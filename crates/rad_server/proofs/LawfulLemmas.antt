-- The state before the first request is lawful, and a step for a request that may be answered leads from a lawful state to a lawful
-- one. The laws of the tables come from rad_pool and rad_recent.
use Rattle.std.proofs.Common.{◌≡◌, ℕ, ◌≤◌, ◌<◌, Bool, true, false, cond, not, ◌==◌, List, [], ◌∷◌, length, find, All, Option, Some}
use Rattle.std.proofs.Common.{None, IfSome, option_map, Result, Ok, Err, ok_or, arith, refl, ap, sym, subst, ◌∙◌}
use Rattle.std.proofs.lemmas.Bool.{cond_both, false≢true, ltb-true, or_parts}
use Rattle.std.proofs.lemmas.List.Elements.{All-contains, All-filter, All-head, All-nil, All-push, All-tail, All-weaker}
use Rattle.std.proofs.lemmas.List.Elements.{Contains-push, filter_passes}
use Rattle.std.proofs.lemmas.Option.{IfSome_then, slice_get-get_or}
use Rattle.std.specs.List.{position_or_len}
use Rattle.std.specs.Str.{bytes_eq}
use Rattle.std.specs.Prelude.{IfOk, IsOk, is_some, max, nat_lt, option_and_then, slice_get, unwrap_or}
use Rattle.std.specs.Option.{option_or}
use Rattle.rad_packet.specs.Attributes.{value_max, first_integer}
use Rattle.rad_packet.specs.Bodies.{Body}
use Rattle.rad_packet.specs.Codes.{code_status_server}
use Rattle.rad_packet.specs.Ladders.{◌>>=◌, refuse_if}
use Rattle.rad_packet.specs.Packets.{packet_octets}
use Rattle.rad_packet.specs.Types.{type_acct_status_type}
use Rattle.rad_auth.specs.Admission.{IsAnswerable}
use Rattle.rad_auth.specs.Authenticators.{sixteen_zeros}
use Rattle.rad_auth.specs.Clients.{client_place}
use Rattle.rad_auth.specs.Sealing.{IsReply}
use Rattle.rad_auth.specs.declared.arrival.Door.{Door}
use Rattle.rad_auth.specs.declared.arrival.Door.TheVariants.{Auth, Acct}
use Rattle.rad_auth.specs.declared.arrival.Request.{Request}
use Rattle.rad_config.specs.Configurations.{Configuration, is_reached, user_place}
use Rattle.rad_config.specs.Ranges.{HasLength, IsConfiguration, IsUser}
use Rattle.rad_config.specs.Spans.{milliseconds, moment_max, spans_of}
use Rattle.rad_config.specs.declared.spans.Spans.{Spans}
use Rattle.rad_config.specs.declared.user.User.{User}
use Rattle.rad_pool.specs.Grants.{granted, own_pool, pool_of, pool_of_user, with_session}
use Rattle.rad_pool.specs.Lawful.{ExpiryKeepsTheLaw, GrantKeepsTheLaw, IsInPool, IsLawful as AreLawfulSessions, IsLawfulSession}
use Rattle.rad_pool.specs.Lawful.{OpeningIsLawful as OpeningSessionsAreLawful, RenewalKeepsTheLaw, ResetKeepsTheLaw}
use Rattle.rad_pool.specs.Lawful.{StopKeepsTheLaw}
use Rattle.rad_pool.specs.Sessions.{Sessions, cut, renewed, source_reset, stopped}
use Rattle.rad_pool.specs.declared.grant.Grant.{Grant}
use Rattle.rad_pool.specs.declared.grant.Refusal.{Refusal}
use Rattle.rad_pool.specs.declared.session.Phase.TheVariants.{Pending}
use Rattle.rad_pool.specs.declared.session.Session.{Session}
use Rattle.rad_recent.specs.Challenges.{Challenges, answered, has_state, is_challenge_live, next_number, waiting_with}
use Rattle.rad_recent.specs.Lawful.{AnswerLeavesLawfulChallenges, AreLawfulReplies, ExpiryLeavesLawfulChallenges}
use Rattle.rad_recent.specs.Lawful.{ExpiryLeavesLawfulReplies, IssueLeavesLawfulChallenges, KeepingLeavesLawfulReplies}
use Rattle.rad_recent.specs.Lawful.{OpeningChallengesAreLawful, OpeningRepliesAreLawful, RemovalLeavesLawfulReplies}
use Rattle.rad_recent.specs.Recent.{Replies, cut_replies, is_full, is_reply_live, replies_for, same_key, without_key}
use Rattle.rad_recent.specs.Recent as recent
use Rattle.rad_recent.specs.declared.challenge.Challenge.{Challenge}
use Rattle.rad_recent.specs.declared.challenge.Party.TheVariants as Party
use Rattle.rad_recent.specs.declared.challenges.IssueFault.{IssueFault}
use Rattle.rad_recent.specs.declared.kept.Kept.{Kept}
use Rattle.rad_server.proofs.AddressLemmas.{KeepsSessions, OutlastReplies, WasSeen, accept_has_session, grant_keeps, live_has}
use Rattle.rad_server.proofs.AddressLemmas.{renewal_keeps, reset_keeps, still_has, stop_keeps}
use Rattle.rad_server.proofs.ReplyLemmas.{accept_is_reply, can_be_accepted, accounting_is_reply, challenge_is_reply}
use Rattle.rad_server.proofs.ReplyLemmas.{reject_is_reply}
use Rattle.rad_server.proofs.ShareLemmas.{MayWait, challenges_within, none_within, replies_within, shares_with_one}
use Rattle.rad_server.proofs.ShareLemmas.{waiting_with_one}
use Rattle.rad_server.specs.Access.{Challenged, Decision, Granted, access, access_with, answer_matches, answered_challenge}
use Rattle.rad_server.specs.Access.{challenge_for, challenge_number, challenge_or_denial, decided, decision, decision_on_answer}
use Rattle.rad_server.specs.Access.{decision_on_password, is_name_of, number_or_denial, password_matches, session_for}
use Rattle.rad_server.specs.Access.{session_or_denial, user_by_answer, user_by_password, without_challenge}
use Rattle.rad_server.specs.Accounting.{account, changed, reported, session_meant, shows_reset, shows_session, status_stop}
use Rattle.rad_server.specs.Credentials.{Credentials, credentials_in}
use Rattle.rad_server.specs.Lawful.{HasItsSession, IsChallengeOf, IsLawful, IsOwned, IsRepeatable}
use Rattle.rad_server.specs.Replies.{accounting_response}
use Rattle.rad_server.specs.Shares.{challenges_limit, challenges_share, lacks_room, replies_share}
use Rattle.rad_server.specs.States.{State, at_moment, opening}
use Rattle.rad_server.specs.Steps.{answer, answer_with, key_of, reply_by_port, reply_kept, sent_and_kept, step, with_reply}
use Rattle.rad_server.specs.Steps.{without_reply}
use Rattle.rad_server.specs.Users.{user_at}
use Rattle.rad_server.specs.declared.answer.Answer.{Answer}
use Rattle.rad_server.specs.declared.answer.Answer.TheVariants.{Busy}
use Rattle.rad_server.specs.declared.denial.Denial.{Denial}
use Rattle.rad_server.specs.declared.denial.Denial.TheVariants.{AccessDenied, ServerFull, SessionLimit, StateUnknown, WrongState}

-- what holds of the tables of the opening state
pub record OpeningLaws : Type 0 where
  pub sessions : OpeningSessionsAreLawful
  pub replies : OpeningRepliesAreLawful
  pub challenges : OpeningChallengesAreLawful

-- what keeps the law of each table
pub record SessionLaws : Type 0 where
  pub expiry : ExpiryKeepsTheLaw
  pub grant : GrantKeepsTheLaw
  pub renewal : RenewalKeepsTheLaw
  pub stop : StopKeepsTheLaw
  pub reset : ResetKeepsTheLaw

pub record ReplyLaws : Type 0 where
  pub expiry : ExpiryLeavesLawfulReplies
  pub removal : RemovalLeavesLawfulReplies
  pub keeping : KeepingLeavesLawfulReplies

pub record ChallengeLaws : Type 0 where
  pub expiry : ExpiryLeavesLawfulChallenges
  pub answer : AnswerLeavesLawfulChallenges
  pub issue : IssueLeavesLawfulChallenges

pub record TableLaws : Type 0 where
  pub sessions : SessionLaws
  pub replies : ReplyLaws
  pub challenges : ChallengeLaws

-- what expiry keeps of each table's law
pub record ExpiryLaws : Type 0 where
  pub sessions : ExpiryKeepsTheLaw
  pub replies : ExpiryLeavesLawfulReplies
  pub challenges : ExpiryLeavesLawfulChallenges

-- ---- lists

-- what holds of each element holds of the one that is found
IfSome-find : {X : Type 0} (P : X → Type 0) (p : X → Bool) (xs : List X) → All P xs → IfSome (find p xs) P
IfSome-find P p [] each = tt
IfSome-find P p (x ∷ xs) each =
    cond_both (p x) (Some x) (find p xs) (λ o. IfSome o P) (λ _. All-head P x xs each)
    (λ _. IfSome-find P p xs (All-tail P x xs each))

-- what holds of each image holds of the image of the value, if there is one
IfSome-map : {X Y : Type 0} (f : X → Y) (P : Y → Type 0) (o : Option X) → IfSome o (λ x. P (f x)) → IfSome (option_map f o) P
IfSome-map f P None holds = tt
IfSome-map f P (Some x) holds = holds

-- ---- ladders

-- what holds of the value that follows a check holds of the check's too, since a refusal has none
IfOk-refuse_if : {A E : Type 0} (P : A → Type 0) (refused : Bool) (refusal : E) (next : Unit {0} → Result A E) → IfOk (next tt) P
    → IfOk (refuse_if refused refusal >>= next) P
IfOk-refuse_if P true refusal next holds = tt
IfOk-refuse_if P false refusal next holds = holds

-- what holds of the last value, where it follows from what holds of a step's
IfOk-ok_or : {A B E : Type 0} (P : A → Type 0) (Q : B → Type 0) (o : Option A) (refusal : E) (next : A → Result B E) → IfSome o P
    → ((x : A) → P x → IfOk (next x) Q) → IfOk (ok_or o refusal >>= next) Q
IfOk-ok_or P Q None refusal next holds follows = tt
IfOk-ok_or P Q (Some x) refusal next holds follows = follows x holds

-- ---- addresses

-- a kept reply has its session
abbrev HasIts : Sessions → Kept → Type 0
HasIts table reply = HasItsSession table reply.body reply.made

-- kept replies have their sessions while sessions are kept
addresses_kept : (old new : Sessions) (kept : List Kept) → KeepsSessions old new → All (HasIts old) kept → All (HasIts new) kept
addresses_kept old new kept keeps has =
    All-weaker (HasIts old) (HasIts new) (λ reply its. still_has old new reply.body reply.made keeps its) kept has

-- the live ones do after those that are no longer live were removed, since a session lives at least as long as a reply
addresses_live : (now : ℕ) (table : Sessions) (replies : Replies) → replies.window ≡ table.spans.window → OutlastReplies table.spans
    → All WasSeen table.sessions
    → All (HasIts table) replies.kept → All (HasIts (cut now table)) (cut_replies now replies).kept
addresses_live now table replies same outlast seen has =
    let live : Kept → Bool = is_reply_live replies.window now in
    let kept = All-filter live (HasIts table) replies.kept has in
    let passes = filter_passes live replies.kept in
    λ k d within. live_has now replies.window table _ _ same outlast seen (passes k d within) (kept k d within)

-- ---- the clock

-- a session that was granted lives as long as a reply is kept
spans_outlast : (configuration : Configuration) → IsConfiguration configuration → OutlastReplies (spans_of configuration)
spans_outlast configuration valid = record {
  hold = omega (arith, valid.hold.0);
  stale = IfSome-map milliseconds (λ span. milliseconds configuration.window ≤ span) configuration.stale
      (IfSome_then configuration.stale valid.stale (λ stale known. omega (arith, known.0)));
}

-- the state before the first request is lawful
pub opening_is_lawful : OpeningLaws → (configuration : Configuration) → IsLawful configuration (opening configuration)
opening_is_lawful laws configuration = record {
  clock = omega arith;
  spans = refl;
  window = refl;
  hold = refl;
  sessions = laws.sessions configuration 0 (spans_of configuration);
  replies = laws.replies 0 (spans_of configuration).window;
  owned = All-nil (IsOwned configuration);
  shares = λ client. none_within (replies_share configuration client);
  repeatable = All-nil IsRepeatable;
  addresses = All-nil (HasIts (opening configuration).sessions);
  challenges = laws.challenges 0 (spans_of configuration).hold;
  waiting = record {
    clients = λ client. none_within (challenges_share configuration client);
    users = λ user. none_within (challenges_limit configuration user);
  };
  configured = All-nil (IsChallengeOf configuration);
}

-- a lawful state is lawful at each later moment
pub at_moment_is_lawful : ExpiryLaws → (configuration : Configuration) (state : State) (moment : ℕ) → IsConfiguration configuration
    → moment ≤ moment_max
    → IsLawful configuration state → IsLawful configuration (at_moment moment state)
at_moment_is_lawful laws configuration state moment valid within lawful =
    let now : ℕ = max state.clock moment in
    let later : state.clock ≤ now = omega arith in
    let same : state.replies.window ≡ state.sessions.spans.window =
    lawful.window ∙ ap (λ (spans : Spans). spans.window) (sym lawful.spans) in
    let outlast : OutlastReplies state.sessions.spans =
    subst OutlastReplies (sym lawful.spans) (spans_outlast configuration valid) in
    let seen : All WasSeen state.sessions.sessions =
    All-weaker (IsLawfulSession configuration state.clock state.sessions.next) WasSeen
    (λ session known. record { seen = known.seen.0 }) state.sessions.sessions lawful.sessions.sessions in
    record {
      clock = omega (arith, within, lawful.clock);
      spans = lawful.spans;
      window = lawful.window;
      hold = lawful.hold;
      sessions = laws.sessions configuration state.clock now state.sessions later lawful.sessions;
      replies = laws.replies state.clock now state.replies later lawful.replies;
      owned = All-filter (is_reply_live state.replies.window now) (IsOwned configuration) state.replies.kept lawful.owned;
      shares = replies_within configuration (is_reply_live state.replies.window now) state.replies lawful.shares;
      repeatable = All-filter (is_reply_live state.replies.window now) IsRepeatable state.replies.kept lawful.repeatable;
      addresses = addresses_live now state.sessions state.replies same outlast seen lawful.addresses;
      challenges = laws.challenges state.clock now state.challenges later lawful.challenges;
      waiting = challenges_within configuration (is_challenge_live state.challenges.hold now) state.challenges lawful.waiting;
      configured = All-filter (is_challenge_live state.challenges.hold now) (IsChallengeOf configuration)
          state.challenges.challenges lawful.configured;
    }

-- ---- users

-- a place of the configuration's users
abbrev IsPlace : Configuration → ℕ → Type 0
IsPlace configuration user = user < length configuration.users

-- the user at a place is one of the configuration
user_is_known : (configuration : Configuration) (user : ℕ) → IsConfiguration configuration → IsPlace configuration user
    → IsUser (length configuration.pools) (user_at configuration user)
user_is_known configuration user is within =
    let row : User = user_at configuration user in
    rw (slice_get-get_or configuration.users user row within) (is.users user row within)

-- a user who has a place is there
is_there : {X : Type 0} (xs : List X) (i : ℕ) (d : X) → i < length xs → slice_get xs i ≡ Some (unwrap_or (slice_get xs i) d)
is_there xs i d within = let e = slice_get-get_or xs i d within in e ∙ ap (λ o. Some (unwrap_or o d)) (sym e)

-- a text of the configuration fits an attribute
text_fits : (text : Option (List ℕ)) → IfSome text (HasLength 1 value_max) → IfSome text (λ octets. length octets ≤ value_max)
text_fits text has = IfSome_then text has (λ octets known. known.1)

-- the user with a name, if there is one, has a place
place_of_name : (configuration : Configuration) (name : List ℕ)
    → IfSome (user_place configuration.users name) (IsPlace configuration)
place_of_name configuration name =
    let users : List User = configuration.users in
    let place : ℕ = position_or_len (λ (user : User). bytes_eq name user.name) users in
    cond_both (nat_lt place (length users)) (Some place) None (λ o. IfSome o (IsPlace configuration))
    (λ is. ltb-true place (length users) is) (λ _. tt)

-- the user of a challenge that is answered has a place
place_of_challenge : (configuration : Configuration) (client : ℕ) (value : Option (List ℕ)) (table : Challenges)
    → All (IsChallengeOf configuration) table.challenges
    → IfSome (option_map (λ challenge. challenge.user) (answered_challenge client value table)) (IsPlace configuration)
place_of_challenge configuration client None table known = tt
place_of_challenge configuration client (Some value) table known =
    let IsKnown : Challenge → Type 0 = IsChallengeOf configuration in
    let found : IfSome (answered value client table) IsKnown =
    IfSome-find IsKnown (has_state value client) table.challenges known in
    IfSome-map (λ (challenge : Challenge). challenge.user) (IsPlace configuration) (answered value client table)
    (IfSome_then (answered value client table) found (λ challenge known. known.user))

-- the user whose password was sent has a place
place_by_password : (configuration : Configuration) (request : Request) (credentials : Credentials)
    → IfOk (user_by_password configuration request credentials) (IsPlace configuration)
unfolding user_by_password
place_by_password configuration request credentials =
    let Known : ℕ → Type 0 = IsPlace configuration in
    IfOk-ok_or Known Known (user_place configuration.users credentials.name) AccessDenied _
    (place_of_name configuration credentials.name)
    (λ user within.
    let right : Bool = password_matches configuration request credentials.password (user_at configuration user).password in
    IfOk-refuse_if Known (not right) AccessDenied _ within)

-- the user whose answer was sent has a place, if the one whose challenge is answered has
place_by_answer : (configuration : Configuration) (request : Request) (challenged : Option ℕ) (credentials : Credentials)
    → IfSome challenged (IsPlace configuration)
    → IfOk (user_by_answer configuration request challenged credentials) (IsPlace configuration)
unfolding user_by_answer
place_by_answer configuration request challenged credentials known =
    let Known : ℕ → Type 0 = IsPlace configuration in
    IfOk-ok_or Known Known challenged StateUnknown _ known
    (λ user within.
    let right : Bool = answer_matches configuration request credentials.password (user_at configuration user).answer in
    IfOk-refuse_if Known (not (is_name_of configuration user credentials.name)) WrongState _
    (IfOk-refuse_if Known (not right) AccessDenied _ within))

-- ---- the decision

-- What a decision promises: a challenge is for a user who has one, where one more may be made for that user and the client; a
-- session is what the rule grants.
abbrev IsSound : Configuration → State → ℕ → Result Decision Denial → Type 0
IsSound configuration state client (Err denial) = Unit {0}
IsSound configuration state client (Ok (Challenged user)) =
    IsPlace configuration user × (is_some (user_at configuration user).challenge ≡ true) × IsOk (next_number state.challenges)
    × MayWait configuration client user state.challenges
IsSound configuration state client (Ok (Granted user grant)) =
    IsPlace configuration user × (granted configuration user state.sessions ≡ Ok grant)

-- a session that is granted to a user of the configuration is sound
session_is_sound : (configuration : Configuration) (state : State) (client user : ℕ) → IsPlace configuration user
    → IsSound configuration state client (session_for configuration state user)
session_is_sound configuration state client user within = at (granted configuration user state.sessions) refl
  where
    at : (r : Result Grant Refusal) → granted configuration user state.sessions ≡ r
        → IsSound configuration state client (session_or_denial user r)
    at (Ok grant) is = (within, is)
    at (Err refusal) is = tt

-- a challenge for a user of the configuration who has one is sound
challenge_is_sound : (configuration : Configuration) (state : State) (client user : ℕ) → IsPlace configuration user
    → is_some (user_at configuration user).challenge ≡ true
    → IsSound configuration state client (challenge_for configuration state client user)
unfolding challenge_number
challenge_is_sound configuration state client user within has =
    by_checks (is_reached (challenges_limit configuration user) (waiting_with (Party.User user) state.challenges)) refl
    (is_reached (challenges_share configuration client) (waiting_with (Party.Client client) state.challenges)) refl
  where
    at : MayWait configuration client user state.challenges → (r : Result ℕ IssueFault) → next_number state.challenges ≡ r
        → IsSound configuration state client (challenge_or_denial user (number_or_denial r))
    at may (Ok number) is = (within, has, rw (is) refl, may)
    at may (Err fault) is = tt

    by_checks : (own : Bool) → is_reached (challenges_limit configuration user)
        (waiting_with (Party.User user) state.challenges) ≡ own
        → (shared : Bool) → is_reached (challenges_share configuration client) (waiting_with (Party.Client client) state.challenges)
        ≡ shared
        → IsSound configuration state client
        (challenge_or_denial user (refuse_if own SessionLimit
        >>= (λ own. refuse_if shared ServerFull >>= (λ shared. number_or_denial (next_number state.challenges)))))
    by_checks true own shared shared_is = tt
    by_checks false own true shared_is = tt
    by_checks false own false shared_is = at (record { own = own; shared = shared_is }) (next_number state.challenges) refl

-- what is decided for a user is sound, if it is for each user of the configuration
sound_step : (configuration : Configuration) (state : State) (client : ℕ) (user : Result ℕ Denial)
    (next : ℕ → Result Decision Denial)
    → IfOk user (IsPlace configuration)
    → ((place : ℕ) → IsPlace configuration place → IsSound configuration state client (next place))
    → IsSound configuration state client (user >>= next)
sound_step configuration state client (Err denial) next known sound = tt
sound_step configuration state client (Ok place) next known sound = sound place known

-- the decision on a request that answers a challenge is sound
on_answer_is_sound : (configuration : Configuration) (state : State) (request : Request) (challenged : Option ℕ)
    (credentials : Credentials)
    → IfSome challenged (IsPlace configuration)
    → IsSound configuration state request.client (decision_on_answer configuration state request challenged credentials)
unfolding decision_on_answer
on_answer_is_sound configuration state request challenged credentials known =
    sound_step configuration state request.client (user_by_answer configuration request challenged credentials)
    (session_for configuration state)
    (place_by_answer configuration request challenged credentials known) (session_is_sound configuration state request.client)

-- the decision on another request is sound
on_password_is_sound : (configuration : Configuration) (state : State) (request : Request) (credentials : Credentials)
    → IsSound configuration state request.client (decision_on_password configuration state request credentials)
unfolding decision_on_password
on_password_is_sound configuration state request credentials =
    sound_step configuration state request.client (user_by_password configuration request credentials) _
    (place_by_password configuration request credentials)
    (λ user within.
    let challenge : Result Decision Denial = challenge_for configuration state request.client user in
    let session : Result Decision Denial = session_for configuration state user in
    cond_both (is_some (user_at configuration user).challenge) challenge session (IsSound configuration state request.client)
    (challenge_is_sound configuration state request.client user within)
    (λ _. session_is_sound configuration state request.client user within))

-- the decision is sound
decision_is_sound : (configuration : Configuration) (state : State) (request : Request) (challenged : Option ℕ)
    (credentials : Credentials)
    → IfSome challenged (IsPlace configuration)
    → IsSound configuration state request.client (decision configuration state request challenged credentials)
decision_is_sound configuration state request challenged credentials known =
    cond_both (is_some credentials.state) (decision_on_answer configuration state request challenged credentials)
    (decision_on_password configuration state request credentials) (IsSound configuration state request.client)
    (λ _. on_answer_is_sound configuration state request challenged credentials known)
    (λ _. on_password_is_sound configuration state request credentials)

-- ---- access

-- a request that may be answered by a server with this configuration, with this draw
pub record IsGiven (configuration : Configuration) (request : Request) (draw : List ℕ) : Type 0 where
  pub valid : IsConfiguration configuration
  pub answerable : IsAnswerable configuration.clients request
  pub drawn : length draw ≡ length sixteen_zeros

-- what a rule gives in a state: a reply that can be sealed, with its session if it gives an address, and a lawful state with the
-- same clock and the same kept replies
record IsLawfulResult (configuration : Configuration) (state : State) (result : Body × State) : Type 0 where
  reply : IsReply result.0
  session : HasItsSession result.1.sessions result.0 result.1.clock
  new : IsLawful configuration result.1
  clock : result.1.clock ≡ state.clock
  replies : result.1.replies ≡ state.replies

-- an address in a user's pool is one of a user with an address of their own, or a pool
pooled : (configuration : Configuration) (user : ℕ) (row : User) (address : Option ℕ)
    → slice_get configuration.users user ≡ Some row
    → IfSome address (IsInPool (pool_of configuration user)) → is_some address ≡ true
    → is_some (option_or row.address row.pool) ≡ true
pooled configuration user row None is inside has = absurd (false≢true has)
pooled configuration user row (Some address) is inside has = at row.address row.pool refl refl
  where
    at : (own pool : Option ℕ) → row.address ≡ own → row.pool ≡ pool → is_some (option_or row.address row.pool) ≡ true
    at (Some held) pool e f = ap (λ o. is_some (option_or o row.pool)) e
    at None (Some place) e f = ap (λ o. is_some (option_or o row.pool)) e ∙ ap is_some f
    at None None e f =
        let none : pool_of configuration user ≡ None =
        ap (option_and_then (pool_of_user configuration.pools)) is
        ∙ ap (λ own. option_or (option_map own_pool own) (option_and_then (slice_get configuration.pools) row.pool)) e
        ∙ ap (option_and_then (slice_get configuration.pools)) f in
        absurd (subst (λ o. IsInPool o address) none inside)

-- a sound decision gives a lawful result
decided_is_lawful : TableLaws → (configuration : Configuration) (state : State) (request : Request) (draw : List ℕ)
    (d : Result Decision Denial)
    → IsGiven configuration request draw → IsLawful configuration state → IsSound configuration state request.client d
    → IsLawfulResult configuration state (decided configuration state request draw d)
decided_is_lawful laws configuration state request draw (Err denial) given lawful sound = record {
  reply = reject_is_reply denial request.packet given.answerable.proxy_states.1;
  session = λ accept. absurd (omega (arith, accept));
  new = lawful;
  clock = refl;
  replies = refl;
}
decided_is_lawful laws configuration state request draw (Ok (Challenged user)) given lawful sound =
    let known = user_is_known configuration user given.valid sound.0 in
    let row : User = user_at configuration user in
    record {
      reply = challenge_is_reply row state.challenges.next draw request.packet (text_fits row.challenge known.said.challenge)
          given.drawn
          given.answerable.proxy_states.1;
      session = λ accept. absurd (omega (arith, accept));
      new = record {
        clock = lawful.clock;
        spans = lawful.spans;
        window = lawful.window;
        hold = lawful.hold;
        sessions = lawful.sessions;
        replies = lawful.replies;
        owned = lawful.owned;
        shares = lawful.shares;
        repeatable = lawful.repeatable;
        addresses = lawful.addresses;
        challenges = laws.challenges.issue request.client user state.clock draw state.challenges sound.2 lawful.challenges;
        waiting = waiting_with_one configuration request.client user draw state.clock state.challenges sound.3 lawful.waiting;
        configured = All-push (IsChallengeOf configuration) state.challenges.challenges _ lawful.configured (record {
          draw = given.drawn;
          client = given.answerable.client;
          user = sound.0;
          answer = sym known.paired ∙ sound.1;
        });
      };
      clock = refl;
      replies = refl;
    }
decided_is_lawful laws configuration state request draw (Ok (Granted user grant)) given lawful sound =
    let known = user_is_known configuration user given.valid sound.0 in
    let row : User = user_at configuration user in
    let at_place : slice_get configuration.users user ≡ Some row = is_there configuration.users user _ sound.0 in
    let new = laws.sessions.grant configuration request.client request.source user state.clock grant state.sessions
    given.answerable.client sound.0 sound.1 lawful.sessions in
    let session : Session = record {
      number = grant.number;
      client = request.client;
      source = request.source;
      user = user;
      address = grant.address;
      phase = Pending;
      made = state.clock;
      seen = state.clock;
    } in
    let sessions = with_session request.client request.source user state.clock grant state.sessions in
    let is_lawful = IsLawfulSession configuration state.clock sessions.next in
    let in_pool =
    (All-contains is_lawful sessions.sessions session new.sessions (Contains-push state.sessions.sessions session)).address in
    record {
      reply = accept_is_reply row grant request.packet
          (can_be_accepted (length configuration.pools) row grant known
          (pooled configuration user row grant.address at_place in_pool)) given.answerable.proxy_states.1;
      session = accept_has_session request.client request.source user state.clock row grant request.packet state.sessions
          known.reply;
      new = record {
        clock = lawful.clock;
        spans = lawful.spans;
        window = lawful.window;
        hold = lawful.hold;
        sessions = new;
        replies = lawful.replies;
        owned = lawful.owned;
        shares = lawful.shares;
        repeatable = lawful.repeatable;
        addresses = addresses_kept state.sessions sessions state.replies.kept
            (grant_keeps request.client request.source user state.clock grant state.sessions) lawful.addresses;
        challenges = lawful.challenges;
        waiting = lawful.waiting;
        configured = lawful.configured;
      };
      clock = refl;
      replies = refl;
    }

-- a lawful state is lawful without the challenge that is answered
without_challenge_is_lawful : TableLaws → (configuration : Configuration) (client : ℕ) (value : Option (List ℕ)) (state : State)
    → IsLawful configuration state → IsLawful configuration (without_challenge client value state)
without_challenge_is_lawful laws configuration client None state lawful = lawful
without_challenge_is_lawful laws configuration client (Some value) state lawful = record {
  clock = lawful.clock;
  spans = lawful.spans;
  window = lawful.window;
  hold = lawful.hold;
  sessions = lawful.sessions;
  replies = lawful.replies;
  owned = lawful.owned;
  shares = lawful.shares;
  repeatable = lawful.repeatable;
  addresses = lawful.addresses;
  challenges = laws.challenges.answer state.clock client value state.challenges lawful.challenges;
  waiting = challenges_within configuration (λ challenge. not (has_state value client challenge)) state.challenges lawful.waiting;
  configured = All-filter (λ challenge. not (has_state value client challenge)) (IsChallengeOf configuration)
      state.challenges.challenges lawful.configured;
}

-- without it the clock and the kept replies are the same, so a lawful result there is one here
result_without_challenge : (configuration : Configuration) (client : ℕ) (value : Option (List ℕ)) (state : State)
    (result : Body × State)
    → IsLawfulResult configuration (without_challenge client value state) result → IsLawfulResult configuration state result
result_without_challenge configuration client None state result known = known
result_without_challenge configuration client (Some value) state result known =
    record { reply = known.reply; session = known.session; new = known.new; clock = known.clock; replies = known.replies }

-- the rule for Access-Requests gives a lawful result
access_is_lawful : TableLaws → (configuration : Configuration) (state : State) (request : Request) (draw : List ℕ)
    → IsGiven configuration request draw → IsLawful configuration state
    → IsLawfulResult configuration state (access configuration state request draw)
access_is_lawful laws configuration state request draw given lawful = with_result (credentials_in request.packet.attributes)
  where
    with_result : (r : Result Credentials Denial)
        → IsLawfulResult configuration state (access_with configuration state request draw r)
    with_result (Err denial) = decided_is_lawful laws configuration state request draw (Err denial) given lawful tt
    with_result (Ok credentials) =
        let value : Option (List ℕ) = credentials.state in
        let challenged : Option ℕ =
        option_map (λ challenge. challenge.user) (answered_challenge request.client value state.challenges) in
        let left : State = without_challenge request.client value state in
        let known = place_of_challenge configuration request.client value state.challenges lawful.configured in
        result_without_challenge configuration request.client value state _
        (decided_is_lawful laws configuration left request draw (decision configuration left request challenged credentials) given
        (without_challenge_is_lawful laws configuration request.client value state lawful)
        (decision_is_sound configuration left request challenged credentials known))

-- ---- accounting

-- the rule for Accounting-Requests gives a lawful result
account_is_lawful : TableLaws → (configuration : Configuration) (state : State) (request : Request)
    → IsAnswerable configuration.clients request
    → IsLawful configuration state → IsLawfulResult configuration state (account configuration state request)
account_is_lawful laws configuration state request answerable lawful =
    with_table (reported request.source state.clock (first_integer type_acct_status_type request.packet.attributes) session
    state.sessions)
    (with_status (first_integer type_acct_status_type request.packet.attributes))
  where
    session : Option ℕ
    session = session_meant configuration request state.sessions

    IsKept : Sessions → Type 0
    IsKept table =
        AreLawfulSessions configuration state.clock table × (table.spans ≡ state.sessions.spans)
        × KeepsSessions state.sessions table

    with_table : (table : Sessions) → IsKept table
        → IsLawfulResult configuration state (accounting_response request.packet, record state { sessions = table })
    with_table table kept = record {
      reply = accounting_is_reply request.packet answerable.proxy_states.1;
      session = λ accept. absurd (omega (arith, accept));
      new = record {
        clock = lawful.clock;
        spans = kept.1 ∙ lawful.spans;
        window = lawful.window;
        hold = lawful.hold;
        sessions = kept.0;
        replies = lawful.replies;
        owned = lawful.owned;
        shares = lawful.shares;
        repeatable = lawful.repeatable;
        addresses = addresses_kept state.sessions table state.replies.kept kept.2 lawful.addresses;
        challenges = lawful.challenges;
        waiting = lawful.waiting;
        configured = lawful.configured;
      };
      clock = refl;
      replies = refl;
    }

    same : IsKept state.sessions
    same = (lawful.sessions, refl, (λ session there. (session, there, record { number = refl; address = refl; made = refl })))

    renewal : (o : Option ℕ) → IsKept (changed (λ n. renewed n state.clock) o state.sessions)
    renewal None = same
    renewal (Some number) = (
      laws.sessions.renewal configuration state.clock number state.sessions lawful.sessions,
      refl,
      renewal_keeps number state.clock state.sessions,
    )

    stop : (o : Option ℕ) → IsKept (changed stopped o state.sessions)
    stop None = same
    stop (Some number) =
        (laws.sessions.stop configuration state.clock number state.sessions lawful.sessions, refl, stop_keeps number state.sessions)

    reset : IsKept (source_reset request.source state.sessions)
    reset = (
      laws.sessions.reset configuration state.clock request.source state.sessions lawful.sessions,
      refl,
      reset_keeps request.source state.sessions,
    )

    by_status : (is_session is_stop is_reset : Bool)
        → IsKept (cond is_session (changed (λ n. renewed n state.clock) session state.sessions)
        (cond is_stop (changed stopped session state.sessions)
        (cond is_reset (source_reset request.source state.sessions) state.sessions)))
    by_status true is_stop is_reset = renewal session
    by_status false true is_reset = stop session
    by_status false false true = reset
    by_status false false false = same

    with_status : (o : Option ℕ) → IsKept (reported request.source state.clock o session state.sessions)
    with_status None = same
    with_status (Some status) = by_status (shows_session status) (status == status_stop) (shows_reset status)

-- ---- the step

-- a lawful state is lawful without a reply to a request with this one's key
without_reply_is_lawful : TableLaws → (configuration : Configuration) (state : State) (request : Request)
    → IsLawful configuration state
    → IsLawful configuration (without_reply request state)
without_reply_is_lawful laws configuration state request lawful =
    let other : Kept → Bool = λ reply. not (same_key (key_of request) reply.key) in
    record {
      clock = lawful.clock;
      spans = lawful.spans;
      window = lawful.window;
      hold = lawful.hold;
      sessions = lawful.sessions;
      replies = laws.replies.removal state.clock (key_of request) state.replies lawful.replies;
      owned = All-filter other (IsOwned configuration) state.replies.kept lawful.owned;
      shares = replies_within configuration other state.replies lawful.shares;
      repeatable = All-filter other IsRepeatable state.replies.kept lawful.repeatable;
      addresses = All-filter other (HasIts state.sessions) state.replies.kept lawful.addresses;
      challenges = lawful.challenges;
      waiting = lawful.waiting;
      configured = lawful.configured;
    }

-- a reply to this request can take the place of the one with its key among these replies, of which the state has the others
record TakesPlace (configuration : Configuration) (replies : Replies) (request : Request) (state : State) : Type 0 where
  -- its client is that of its source
  place : client_place configuration.clients request.source ≡ Some request.client
  -- the request is no Status-Server
  other : (request.packet.code == code_status_server) ≡ false
  -- there is room for the reply, in the client's share too
  room : lacks_room configuration request.client (without_key (key_of request) replies) ≡ false
  -- the others are what the state has
  left : state.replies ≡ without_key (key_of request) replies
  -- the replies are lawful
  lawful : AreLawfulReplies state.clock replies

-- a lawful state is lawful with such a reply
with_reply_is_lawful : TableLaws
    → (configuration : Configuration) (replies : Replies) (state : State) (request : Request) (body : Body)
    → TakesPlace configuration replies request state → IsReply body → HasItsSession state.sessions body state.clock
    → IsLawful configuration state
    → IsLawful configuration (with_reply request body state)
with_reply_is_lawful laws configuration replies state request body place sealable its lawful =
    let reply : Kept = record {
      client = Some request.client;
      key = key_of request;
      octets = packet_octets request.packet;
      body = body;
      made = state.clock;
    } in
    let room = or_parts (is_full (without_key (key_of request) replies))
    (is_reached (replies_share configuration request.client)
    (replies_for request.client (without_key (key_of request) replies))) place.room in
    let kept = laws.replies.keeping state.clock reply replies room.0 (omega arith) place.lawful in
    let spare : is_reached (replies_share configuration request.client) (replies_for request.client state.replies) ≡ false =
    subst (λ left. is_reached (replies_share configuration request.client) (replies_for request.client left) ≡ false)
    (sym place.left) room.1 in
    record {
      clock = lawful.clock;
      spans = lawful.spans;
      window = lawful.window;
      hold = lawful.hold;
      sessions = lawful.sessions;
      replies = subst (λ left. AreLawfulReplies state.clock (recent.with_reply reply left)) (sym place.left) kept;
      owned = All-push (IsOwned configuration) state.replies.kept reply lawful.owned (sym place.place);
      shares = shares_with_one configuration request.client reply state.replies refl spare lawful.shares;
      repeatable = All-push IsRepeatable state.replies.kept reply lawful.repeatable
          (record { sealable = sealable; request = place.other });
      addresses = All-push (HasIts state.sessions) state.replies.kept reply lawful.addresses its;
      challenges = lawful.challenges;
      waiting = lawful.waiting;
      configured = lawful.configured;
    }

-- the state after a lawful result is sent and kept is lawful
kept_is_lawful : TableLaws → (configuration : Configuration) (before : State) (request : Request) (result : Body × State)
    → client_place configuration.clients request.source ≡ Some request.client
    → (request.packet.code == code_status_server) ≡ false
    → lacks_room configuration request.client (without_reply request before).replies ≡ false
    → AreLawfulReplies before.clock before.replies → IsLawfulResult configuration (without_reply request before) result
    → IsLawful configuration (sent_and_kept request result).1
kept_is_lawful laws configuration before request (body, state) place other room lawful known =
    with_reply_is_lawful laws configuration before.replies state request body (record {
      place = place;
      other = other;
      room = room;
      left = known.replies;
      lawful = subst (λ clock. AreLawfulReplies clock before.replies) (sym known.clock) lawful;
    }) known.reply known.session known.new

-- the state after an answer is lawful
answer_is_lawful : TableLaws → (configuration : Configuration) (state : State) (request : Request) (draw : List ℕ)
    → IsGiven configuration request draw → IsLawful configuration state
    → IsLawful configuration (answer configuration state request draw).1
answer_is_lawful laws configuration state request draw given lawful =
    cond_both (request.packet.code == code_status_server) _ _ Keeps (λ _. lawful)
    (λ other. with_kept other (reply_kept request state))
  where
    Keeps : Answer × State → Type 0
    Keeps result = IsLawful configuration result.1

    left : State
    left = without_reply request state

    left_lawful : IsLawful configuration left
    left_lawful = without_reply_is_lawful laws configuration state request lawful

    by_port : (door : Door) → IsLawfulResult configuration left (reply_by_port door configuration left request draw)
    by_port Auth = access_is_lawful laws configuration left request draw given left_lawful
    by_port Acct = account_is_lawful laws configuration left request given.answerable left_lawful

    with_kept : (request.packet.code == code_status_server) ≡ false → (o : Option Kept)
        → Keeps (answer_with configuration state request draw o)
    with_kept other (Some reply) = lawful
    with_kept other None =
        let result : Body × State = reply_by_port request.door configuration left request draw in
        cond_both (lacks_room configuration request.client left.replies) (Busy, left) (sent_and_kept request result) Keeps
        (λ _. left_lawful)
        (λ room. kept_is_lawful laws configuration state request result given.answerable.place other room lawful.replies
        (by_port request.door))

-- the state after a step is lawful
pub step_is_lawful : TableLaws → (configuration : Configuration) (state : State) (request : Request) (moment : ℕ) (draw : List ℕ)
    → IsGiven configuration request draw → moment ≤ moment_max → IsLawful configuration state
    → IsLawful configuration (step configuration state request moment draw).1
step_is_lawful laws configuration state request moment draw given within lawful =
    let expiry : ExpiryLaws =
    record { sessions = laws.sessions.expiry; replies = laws.replies.expiry; challenges = laws.challenges.expiry } in
    let now = at_moment_is_lawful expiry configuration state moment given.valid within lawful in
    answer_is_lawful laws configuration (at_moment moment state) request draw given now

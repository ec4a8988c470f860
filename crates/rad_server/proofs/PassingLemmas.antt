-- Time that passes: what is live at a moment was live before it, so no later step can tell.
use Rattle.std.proofs.Common.{◌≡◌, ℕ, ◌+◌, ◌≤◌, max, Bool, true, false, List, [], ◌∷◌, ◌++◌, filter, Option, Some, None, IfSome}
use Rattle.std.proofs.Common.{arith, refl, sym, ap, subst, ◌∙◌}
use Rattle.std.proofs.lemmas.Bool.{both_ways, lt-ltb, ltb-true}
use Rattle.rad_config.specs.Configurations.{Configuration}
use Rattle.rad_config.specs.Spans.{lasts, moment_max}
use Rattle.rad_config.specs.declared.spans.Spans.{Spans}
use Rattle.rad_pool.specs.Sessions.{Sessions, cut, is_live, lasts_unless_stale, lives}
use Rattle.rad_pool.specs.declared.session.Phase.{Phase}
use Rattle.rad_pool.specs.declared.session.Phase.TheVariants.{Pending, Active, Ended}
use Rattle.rad_pool.specs.declared.session.Session.{Session}
use Rattle.rad_recent.specs.Challenges.{Challenges, cut_challenges, is_challenge_live}
use Rattle.rad_recent.specs.Recent.{Replies, cut_replies, is_reply_live}
use Rattle.rad_server.specs.Runs.{HistoriesAfterTime, IsExchange, LeadsTo, Run, StepsAfterTime, not_before}
use Rattle.rad_server.specs.States.{State, at_moment, when_passed}
use Rattle.rad_server.specs.Steps.{answer, session_at}
use Rattle.rad_server.specs.declared.entry.Entry.{Entry}
use Rattle.rad_server.proofs.RunLemmas.{run_append}

-- ---- what is live

-- a test that lets more pass, made before another, changes nothing
filter_weaker : {X : Type 0} (p q : X → Bool) → ((x : X) → p x ≡ true → q x ≡ true) → (xs : List X)
    → filter p (filter q xs) ≡ filter p xs
filter_weaker p q weaker [] = refl
filter_weaker {X} p q weaker (x ∷ xs) = by_tests (q x) refl (p x) refl (filter_weaker p q weaker xs)
  where
    by_tests : (b : Bool) → q x ≡ b → (c : Bool) → p x ≡ c → filter p (filter q xs) ≡ filter p xs
        → filter p (filter q (x ∷ xs)) ≡ filter p (x ∷ xs)
    by_tests true is true also more = rw (is, also, more) refl
    by_tests true is false also more = rw (is, also) more
    by_tests false is true also more = absurd (both_ways (q x) is (weaker x also))
    by_tests false is false also more = rw (is, also) more

-- a span that isn't over at a moment wasn't before
lasts_before : (earlier later since span : ℕ) → earlier ≤ later → lasts later since span ≡ true → lasts earlier since span ≡ true
lasts_before earlier later since span le is = lt-ltb earlier (since + span) (omega (arith, le, ltb-true later (since + span) is))

session_before : (spans : Spans) (earlier later : ℕ) (session : Session) → earlier ≤ later → is_live spans later session ≡ true
    → is_live spans earlier session ≡ true
session_before spans earlier later session le = in_phase session.phase
  where
    unless_stale : (stale : Option ℕ) → lasts_unless_stale later session.seen stale ≡ true
        → lasts_unless_stale earlier session.seen stale ≡ true
    unless_stale None is = refl
    unless_stale (Some stale) is = lasts_before earlier later session.seen stale le is

    in_phase : (phase : Phase) → lives spans later phase session ≡ true → lives spans earlier phase session ≡ true
    in_phase Pending is = lasts_before earlier later session.made spans.hold le is
    in_phase Active is = unless_stale spans.stale is
    in_phase Ended is = lasts_before earlier later session.made spans.window le is

-- ---- the tables at two moments

sessions_later : (earlier later : ℕ) (table : Sessions) → earlier ≤ later → cut later (cut earlier table) ≡ cut later table
sessions_later earlier later table le =
    let same = filter_weaker (is_live table.spans later) (is_live table.spans earlier)
    (λ session is. session_before table.spans earlier later session le is) table.sessions in
    λ j. record { sessions = same j; next = table.next; spans = table.spans }

replies_later : (earlier later : ℕ) (replies : Replies) → earlier ≤ later
    → cut_replies later (cut_replies earlier replies) ≡ cut_replies later replies
replies_later earlier later replies le =
    let same = filter_weaker (is_reply_live replies.window later) (is_reply_live replies.window earlier)
    (λ reply is. lasts_before earlier later reply.made replies.window le is) replies.kept in
    λ j. record { kept = same j; window = replies.window }

challenges_later : (earlier later : ℕ) (table : Challenges) → earlier ≤ later
    → cut_challenges later (cut_challenges earlier table) ≡ cut_challenges later table
challenges_later earlier later table le =
    let same = filter_weaker (is_challenge_live table.hold later) (is_challenge_live table.hold earlier)
    (λ challenge is. lasts_before earlier later challenge.made table.hold le is) table.challenges in
    λ j. record { challenges = same j; next = table.next; hold = table.hold }

-- the state at two moments, one after the other, is the one at the later of both
pub at_both : (first second : ℕ) (state : State) → at_moment second (at_moment first state) ≡ at_moment (max first second) state
at_both first second state =
    let once : ℕ = max state.clock first in
    let twice : ℕ = max once second in
    let le : once ≤ twice = omega arith in
    let same : twice ≡ max state.clock (max first second) = omega arith in
    let sessions = sessions_later once twice state.sessions le ∙ ap (λ n. cut n state.sessions) same in
    let replies = replies_later once twice state.replies le ∙ ap (λ n. cut_replies n state.replies) same in
    let challenges = challenges_later once twice state.challenges le ∙ ap (λ n. cut_challenges n state.challenges) same in
    λ j. record { clock = same j; sessions = sessions j; replies = replies j; challenges = challenges j }

-- ---- steps and histories

pub steps_after_time : StepsAfterTime
steps_after_time configuration state request passed moment draw =
    ap (λ s. answer configuration s request draw) (at_both passed moment state)

-- an exchange after time has passed is one whose entry comes no earlier
exchange_later : (configuration : Configuration) (before : State) (passed : ℕ) (entry : Entry) (after : State) → passed ≤ moment_max
    → IsExchange configuration (at_moment passed before) entry after
    → IsExchange configuration before (record entry { moment = max passed entry.moment }) after
exchange_later configuration before passed entry after small exchange = record {
  request = exchange.request;
  asked = record {
    own = exchange.asked.own;
    admitted = exchange.asked.admitted;
    client = exchange.asked.client;
    moment = omega (arith, small, exchange.asked.moment);
    draw = exchange.asked.draw;
  };
  answered = sym (steps_after_time configuration before exchange.request passed entry.moment entry.draw) ∙ exchange.answered;
  session = exchange.session ∙ ap (λ s. session_at configuration s exchange.request) (at_both passed entry.moment before);
}

-- where a history leads from a state, though time passed before it and perhaps after it
abbrev LeadsOn : Configuration → State → List Entry → State → Type 0
LeadsOn configuration before history after =
    (state : State) × (passed : Option ℕ) × Run configuration before history state × IfSome passed (λ moment. moment ≤ moment_max)
    × (after ≡ when_passed passed state)

run_later : (configuration : Configuration) (passed : ℕ) → passed ≤ moment_max
    → (before : State) (rest : List Entry) (state : State)
    → Run configuration (at_moment passed before) rest state → (still : Option ℕ) → IfSome still (λ moment. moment ≤ moment_max)
    → LeadsOn configuration before (not_before (Some passed) rest) (when_passed still state)
run_later configuration passed small before [] state run None within = (before, Some passed, refl, small, sym run)
run_later configuration passed small before [] state run (Some moment) within = (
  before,
  Some (max passed moment),
  refl,
  omega (arith, small, within),
  ap (at_moment moment) (sym run)
      ∙ at_both passed moment before,
)
run_later configuration passed small before (entry ∷ rest) state run still within =
    (state, still, (run.0, exchange_later configuration before passed entry run.0 small run.1, run.2), within, refl)

pub histories_after_time : HistoriesAfterTime
histories_after_time opening middle after first rest leads next = by_time leads.passed leads.within leads.now
  where
    next_run : Run opening.configuration middle.state rest next.state
    next_run = subst (λ c. Run c middle.state rest next.state) leads.configuration next.run

    from : (history : List Entry) → LeadsOn opening.configuration leads.state history after.state
        → LeadsTo opening (first ++ history) after
    from history on = record {
      state = on.0;
      passed = on.1;
      configuration = next.configuration ∙ leads.configuration;
      run = run_append opening.configuration opening.state first history leads.state on.0 leads.run on.2;
      within = on.3;
      now = on.4;
    }

    by_time : (passed : Option ℕ) → IfSome passed (λ moment. moment ≤ moment_max) → middle.state ≡ when_passed passed leads.state
        → LeadsTo opening (first ++ not_before passed rest) after
    by_time None within now =
        from rest (
          next.state,
          next.passed,
          subst (λ s. Run opening.configuration s rest next.state) now next_run,
          next.within,
          next.now,
        )
    by_time (Some passed) within now =
        let on = run_later opening.configuration passed within leads.state rest next.state
        (subst (λ s. Run opening.configuration s rest next.state) now next_run) next.passed next.within in
        from (not_before (Some passed) rest) (on.0, on.1, on.2, on.3, next.now ∙ on.4)

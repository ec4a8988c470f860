-- A run with marks is one in which the marked entries lead on, and the others change nothing.
use Rattle.std.proofs.Common.{◌≡◌, ℕ, zero, suc, Bool, true, false, ◌==◌, if◌then◌else◌, max, List, [], ◌∷◌, ◌++◌, Option, Some}
use Rattle.std.proofs.Common.{None, arith, refl, sym, ap, subst, ◌∙◌}
use Rattle.std.proofs.lemmas.Bool.{cond_both}
use Rattle.std.proofs.lemmas.Option.{none-some}
use Rattle.rad_packet.specs.Bodies.{Body}
use Rattle.rad_packet.specs.Codes.{code_status_server}
use Rattle.rad_auth.specs.Clients.{Client}
use Rattle.rad_auth.specs.declared.arrival.Request.{Request}
use Rattle.rad_config.specs.Configurations.{Configuration}
use Rattle.rad_config.specs.Ranges.{IsConfiguration}
use Rattle.rad_recent.specs.declared.kept.Kept.{Kept as Recent}
use Rattle.rad_server.specs.Lawful.{IsLawful}
use Rattle.rad_server.specs.Runs.{FreshAreEnough, IsLikeFromNow, IsMarked, LeadsAlike, MarkedRun, Run, RunsAreLawful, counted}
use Rattle.rad_server.specs.Runs.{fresh_of}
use Rattle.rad_server.specs.Shares.{lacks_room}
use Rattle.rad_server.specs.States.{State, at_moment}
use Rattle.rad_server.specs.Steps.{answer, answer_with, is_fresh, reply_by_port, reply_kept, sent_and_kept, session_at}
use Rattle.rad_server.specs.Steps.{without_reply}
use Rattle.rad_server.specs.declared.answer.Answer.{Answer}
use Rattle.rad_server.specs.declared.entry.Entry.{Entry}
use Rattle.rad_server.proofs.FreshLemmas.{at_counted}
use Rattle.rad_server.proofs.RepeatLemmas.{reply_leaves}
use Rattle.rad_round.specs.Rounds.{HasEntry}
use Rattle.rad_journal.specs.Restores.{AreKept}
use Rattle.rad_journal.specs.declared.kept.Kept.{Kept}
use Rattle.rad_shell.specs.Passages.{Went}
use Rattle.rad_serve.specs.Lives.{IsReplyIn, Serves, marked_of}

-- ---- a step leaves the clock at its moment, or where it was

answer_clock : (configuration : Configuration) (current : State) (request : Request) (draw : List ℕ)
    → (answer configuration current request draw).1.clock ≡ current.clock
answer_clock configuration current request draw =
    cond_both (request.packet.code == code_status_server) _ _ (λ (r : Answer × State). r.1.clock ≡ current.clock) (λ status. refl)
    (λ other. with_kept (reply_kept request current))
  where
    sent : (result : Body × State) → result.1.clock ≡ current.clock → (sent_and_kept request result).1.clock ≡ current.clock
    sent (body, state) is = is

    with_kept : (o : Option Recent) → (answer_with configuration current request draw o).1.clock ≡ current.clock
    with_kept (Some reply) = refl
    with_kept None =
        let left = without_reply request current in
        cond_both (lacks_room configuration request.client left.replies) _ _ (λ (r : Answer × State). r.1.clock ≡ current.clock)
        (λ full. refl)
        (λ room. sent (reply_by_port request.door configuration left request draw)
        (reply_leaves request.door configuration left request draw).clock)

-- ---- a run with marks

-- each entry of a history that began when the clock showed this, at the moment at which it counted
abbrev pub all_counted : ℕ → List Entry → List Entry
all_counted clock [] = []
all_counted clock (entry ∷ rest) = counted clock entry ∷ all_counted (max clock entry.moment) rest

pub marked_counted : (clock : ℕ) (history : List Entry) (marks : List Bool) → marked_of
    (all_counted clock history) marks ≡ fresh_of clock history marks
marked_counted clock [] marks = refl
marked_counted clock (entry ∷ rest) [] = refl
marked_counted clock (entry ∷ rest) (true ∷ marks) =
    ap (λ list. counted clock entry ∷ list) (marked_counted (max clock entry.moment) rest marks)
marked_counted clock (entry ∷ rest) (false ∷ marks) = marked_counted (max clock entry.moment) rest marks

-- a history serves from a state, and leads to one that is like another from now on
pub record ServesAlike (configuration : Configuration) (other : State) (history : List Entry) (marks : List Bool)
    (after : State) : Type 0 where
  pub state : State
  pub serves : Serves configuration other history marks state
  pub like : IsLikeFromNow after state

-- a run from a state serves from each state that is like it
pub serves_counted : FreshAreEnough → RunsAreLawful
    → (configuration : Configuration) (before after other : State) (history : List Entry)
    (marks : List Bool)
    → IsConfiguration configuration → IsLawful configuration before → MarkedRun configuration before history marks after
    → IsLikeFromNow before other
    → ServesAlike configuration other (all_counted before.clock history) marks after
serves_counted enough all_lawful configuration before after other [] [] valid lawful run like =
    record { state = other; serves = refl; like = subst (λ s. IsLikeFromNow s other) run like }
serves_counted enough all_lawful configuration before after other [] (mark ∷ marks) valid lawful run like = absurd run
serves_counted enough all_lawful configuration before after other (entry ∷ rest) [] valid lawful run like = absurd run
serves_counted enough all_lawful configuration before after other (entry ∷ rest) (mark ∷ marks) valid lawful run like =
    by_mark (λ state alike. serves_counted enough all_lawful configuration next after state rest marks valid next_lawful run.2
    alike) mark refl
  where
    next : State
    next = run.0

    marked : IsMarked configuration before entry mark next
    marked = run.1

    now : ℕ
    now = max before.clock entry.moment

    next_lawful : IsLawful configuration next
    next_lawful = all_lawful configuration before (entry ∷ []) valid lawful (entry ∷ []) [] next refl (
      next,
      record {
        request = marked.request;
        asked = marked.asked;
        answered = marked.answered;
        session = marked.session;
      },
      refl,
    )

    clock : next.clock ≡ now
    clock = ap (λ (r : Answer × State). r.1.clock) (sym marked.answered)
        ∙ answer_clock configuration (at_moment entry.moment before) marked.request entry.draw

    same : at_moment now other ≡ at_moment entry.moment before
    same = like now (omega arith) ∙ at_counted entry.moment before

    exchange : IsMarked configuration other (counted before.clock entry) mark next
    exchange = record {
      request = marked.request;
      asked = record {
        own = marked.asked.own;
        admitted = marked.asked.admitted;
        client = marked.asked.client;
        moment = omega (arith, lawful.clock, marked.asked.moment);
        draw = marked.asked.draw;
      };
      answered = ap (λ s. answer configuration s marked.request entry.draw) same ∙ marked.answered;
      session = marked.session ∙ ap (λ s. session_at configuration s marked.request) (sym same);
      fresh = marked.fresh ∙ ap (λ s. is_fresh configuration s marked.request) (sym same);
    }

    marked_by : (b : Bool) → mark ≡ b → IsMarked configuration other (counted before.clock entry) b next
    marked_by b is = subst (λ m. IsMarked configuration other (counted before.clock entry) m next) is exchange

    by_mark : ((state : State) → IsLikeFromNow next state
        → ServesAlike configuration state (all_counted next.clock rest) marks after) →
        (b : Bool) → mark ≡ b
        → ServesAlike configuration other (all_counted before.clock (entry ∷ rest)) (b ∷ marks) after
    by_mark more true is =
        let on : ServesAlike configuration next (all_counted now rest) marks after =
        subst (λ c. ServesAlike configuration next (all_counted c rest) marks after) clock (more next (λ moment le. refl)) in
        record { state = on.state; serves = (next, marked_by true is, on.serves); like = on.like }
    by_mark more false is =
        let alone : MarkedRun configuration before (entry ∷ []) (false ∷ []) next =
        (next, subst (λ m. IsMarked configuration before entry m next) is marked, refl) in
        let left : LeadsAlike configuration other [] next = enough configuration before next other (entry ∷ [])
        (false ∷ []) valid lawful alone like in
        let stays : IsLikeFromNow next other = subst (IsLikeFromNow next) (sym left.run) left.like in
        let on : ServesAlike configuration other (all_counted now rest) marks after =
        subst (λ c. ServesAlike configuration other (all_counted c rest) marks after) clock (more other stays) in
        record { state = on.state; serves = (next, marked_by false is, on.serves); like = on.like }

-- the marked entries alone are a run
pub marked_run : (configuration : Configuration) (before : State) (history : List Entry) (marks : List Bool) (after : State)
    → Serves configuration before history marks after → Run configuration before (marked_of history marks) after
marked_run configuration before [] [] after serves = serves
marked_run configuration before [] (mark ∷ marks) after serves = absurd serves
marked_run configuration before (entry ∷ rest) [] after serves = absurd serves
marked_run configuration before (entry ∷ rest) (true ∷ marks) after serves = (
  serves.0,
  record { request = serves.1.request; asked = serves.1.asked; answered = serves.1.answered; session = serves.1.session },
  marked_run configuration serves.0 rest marks after serves.2,
)
marked_run configuration before (entry ∷ rest) (false ∷ marks) after serves =
    marked_run configuration before rest marks after serves.2

-- ---- one after another

pub serves_append : (configuration : Configuration) (before middle after : State) (first : List Entry) (marks : List Bool)
    (rest : List Entry)
    (others : List Bool)
    → Serves configuration before first marks middle → Serves configuration middle rest others after
    → Serves configuration before (first ++ rest) (marks ++ others) after
serves_append configuration before middle after [] [] rest others here there =
    subst (λ s. Serves configuration s rest others after) (sym here) there
serves_append configuration before middle after [] (mark ∷ marks) rest others here there = absurd here
serves_append configuration before middle after (entry ∷ first) [] rest others here there = absurd here
serves_append configuration before middle after (entry ∷ first) (mark ∷ marks) rest others here there = (
  here.0,
  here.1,
  serves_append configuration (if mark then here.0 else before) middle after first marks rest others here.2 there,
)

-- what is kept of both is what is kept of the first, and then of the rest
pub kept_append : (configuration : Configuration) (before middle : State) (first : List Entry) (marks : List Bool)
    (kept : List Kept)
    (rest : List Entry)
    (others : List Bool) (more : List Kept) → Serves configuration before first marks middle → AreKept (marked_of first marks) kept
    → AreKept (marked_of rest others) more → AreKept (marked_of (first ++ rest) (marks ++ others)) (kept ++ more)
kept_append configuration before middle [] [] [] rest others more here are last = last
kept_append configuration before middle [] [] (one ∷ kept) rest others more here are last = absurd are
kept_append configuration before middle [] (mark ∷ marks) kept rest others more here are last = absurd here
kept_append configuration before middle (entry ∷ first) [] kept rest others more here are last = absurd here
kept_append configuration before middle (entry ∷ first) (true ∷ marks) [] rest others more here are last = absurd are
kept_append configuration before middle (entry ∷ first) (true ∷ marks) (one ∷ kept) rest others more here are last =
    (are.0, kept_append configuration here.0 middle first marks kept rest others more here.2 are.1 last)
kept_append configuration before middle (entry ∷ first) (false ∷ marks) kept rest others more here are last =
    kept_append configuration before middle first marks kept rest others more here.2 are last

-- ---- the entries of a history

has_first : (first rest : List Entry) (entry : Entry) → HasEntry first entry → HasEntry (first ++ rest) entry
has_first [] rest entry (place, at) = absurd (none-some entry at)
has_first (other ∷ first) rest entry (zero, at) = (zero, at)
has_first (other ∷ first) rest entry (suc place, at) = let more = has_first first rest entry (place, at) in (suc more.0, more.1)

has_later : (first rest : List Entry) (entry : Entry) → HasEntry rest entry → HasEntry (first ++ rest) entry
has_later [] rest entry has = has
has_later (other ∷ first) rest entry has = let more = has_later first rest entry has in (suc more.0, more.1)

same_entry : (a b : Entry) → Some a ≡ Some b → a ≡ b
same_entry a b is = cc is

has_counted : (clock : ℕ) (history : List Entry) (entry : Entry) → HasEntry history entry
    → (moment : ℕ) × HasEntry (all_counted clock history) (record entry { moment = moment })
has_counted clock [] entry (place, at) = absurd (none-some entry at)
has_counted clock (first ∷ rest) entry (zero, at) =
    let now = max clock first.moment in
    (now, (zero, ap (λ (e : Entry). Some (record e { moment = now })) (same_entry first entry at)))
has_counted clock (first ∷ rest) entry (suc place, at) =
    let more = has_counted (max clock first.moment) rest entry (place, at) in
    (more.0, (suc more.1.0, more.1.1))

pub reply_in_first : (clients : List Client) (first rest : List Entry) (went : Went) → IsReplyIn clients first went
    → IsReplyIn clients
    (first ++ rest) went
reply_in_first clients first rest went (entry, has, is) = (entry, has_first first rest entry has, is)

pub reply_in_later : (clients : List Client) (first rest : List Entry) (went : Went) → IsReplyIn clients rest went
    → IsReplyIn clients
    (first ++ rest) went
reply_in_later clients first rest went (entry, has, is) = (entry, has_later first rest entry has, is)

-- the moment of an entry is nothing to its reply
pub reply_in_counted : (clients : List Client) (clock : ℕ) (history : List Entry) (went : Went) → IsReplyIn clients history went
    → IsReplyIn clients (all_counted clock history) went
reply_in_counted clients clock history went (entry, has, is) =
    let found = has_counted clock history entry has in (
      record entry { moment = found.0 },
      found.1,
      record {
        request = is.request;
        own = is.own;
        admitted = is.admitted;
        sent = is.sent;
        door = is.door;
        address = is.address;
        port = is.port;
      },
    )

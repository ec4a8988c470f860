-- Fresh requests: they are answered by a reply, and all others leave the state as time would.
use Rattle.std.proofs.Common.{◌≡◌, ◌≢◌, ◌⊎◌, ℕ, ◌+◌, ◌≤◌, ◌<◌, Bool, true, false, not, cond, ◌==◌, ◌&&◌, max, List, [], ◌∷◌, length}
use Rattle.std.proofs.Common.{filter, All, Option, Some, None, arith, inl, inr, refl, sym, ap, subst, ◌∙◌}
use Rattle.std.specs.Prelude.{count_by, nat_le}
use Rattle.std.proofs.lemmas.Bool.{both_ways, cond_both, eqb-true}
use Rattle.std.proofs.lemmas.Bool.Decides.{eqb_tells, leb_tells}
use Rattle.std.proofs.lemmas.List.Elements.{All-cons, All-head, All-nil, All-tail, All-weaker}
use Rattle.std.proofs.lemmas.List.Filters.{length-filter_both, sum_by-filter_both}
use Rattle.std.proofs.lemmas.List.Sums.{sum_by-cons}
use Rattle.rad_packet.specs.Bodies.{Body}
use Rattle.rad_packet.specs.Codes.{code_status_server}
use Rattle.rad_auth.specs.Admission.{AdmittedAreAnswerable, IsAnswerable}
use Rattle.rad_auth.specs.Clients.{client_place}
use Rattle.rad_auth.specs.declared.arrival.Request.{Request}
use Rattle.rad_config.specs.Configurations.{Configuration, is_reached}
use Rattle.rad_recent.specs.Recent.{is_client, is_of, kept_max, same_key}
use Rattle.rad_recent.specs.declared.kept.Kept.{Kept}
use Rattle.rad_server.specs.Lawful.{IsLawful, IsOwned, PassingKeepsTheLaw, StepKeepsTheLaw}
use Rattle.rad_server.specs.Runs.{FreshAreEnough, IsExchange, IsLikeFromNow, IsMarked, LeadsAlike, LikeAfterTime, counted, fresh_of}
use Rattle.rad_server.specs.Shares.{IsWithin, lacks_room, replies_share}
use Rattle.rad_server.specs.States.{State, at_moment, without_expired}
use Rattle.rad_server.specs.Steps.{answer, answer_with, is_fresh, key_of, reply_by_port, reply_kept, sent_and_kept, session_at}
use Rattle.rad_server.specs.Steps.{without_reply}
use Rattle.rad_server.specs.declared.answer.Answer.{Answer}
use Rattle.rad_server.specs.declared.answer.Answer.TheVariants.{Send}
use Rattle.rad_server.specs.declared.entry.Entry.{Entry}
use Rattle.rad_server.proofs.PassingLemmas.{at_both}
use Rattle.rad_server.proofs.RepeatLemmas.{reply_leaves}

-- ---- without room no reply is there that would go

-- all elements pass one test; or fewer are left, also of those that pass another, if whatever fails the first passes that
all_or_fewer : {X : Type 0} (p t : X → Bool) (xs : List X) → All (λ x. p x ≡ false → t x ≡ true) xs
    → (filter p xs ≡ xs) ⊎ ((length (filter p xs) < length xs) × (count_by t (filter p xs) < count_by t xs))
all_or_fewer p t [] holds = inl refl
all_or_fewer {X} p t (x ∷ xs) holds =
    at (p x) refl (All-head (λ y. p y ≡ false → t y ≡ true) x xs holds)
    (all_or_fewer p t xs (All-tail (λ y. p y ≡ false → t y ≡ true) x xs holds))
  where
    at : (b : Bool) → p x ≡ b → (p x ≡ false → t x ≡ true)
        → (filter p xs ≡ xs) ⊎ ((length (filter p xs) < length xs) × (count_by t (filter p xs) < count_by t xs))
        → (filter p (x ∷ xs) ≡ x ∷ xs)
        ⊎ ((length (filter p (x ∷ xs)) < length (x ∷ xs)) × (count_by t (filter p (x ∷ xs)) < count_by t (x ∷ xs)))
    at true is other (inl same) = inl (rw (is) (ap (λ l. x ∷ l) same))
    at true is other (inr few) =
        let one : X → ℕ = λ y. cond (t y) 1 0 in
        let filtered : filter p (x ∷ xs) ≡ x ∷ filter p xs = rw (is) refl in
        let here : count_by t (x ∷ filter p xs) ≡ one x + count_by t (filter p xs) = sum_by-cons one x (filter p xs) in
        let whole : count_by t (x ∷ xs) ≡ one x + count_by t xs = sum_by-cons one x xs in
        inr (subst (λ l. (length l < length (x ∷ xs)) × (count_by t l < count_by t (x ∷ xs))) (sym filtered)
        (omega (arith, few.0), omega (arith, few.1, here, whole)))
    at false is other rest =
        let one : X → ℕ = λ y. cond (t y) 1 0 in
        let own : t x ≡ true = other is in
        let lengths = length-filter_both p (λ y. not (p y)) (λ y. refl) xs in
        let counts = sum_by-filter_both p (λ y. not (p y)) (λ y. refl) one xs in
        let whole : count_by t (x ∷ xs) ≡ one x + count_by t xs = sum_by-cons one x xs in
        let first : one x ≡ 1 = ap (λ b. cond {A = ℕ} b 1 0) own in
        inr (rw (is) (omega (arith, lengths), omega (arith, counts, whole, first)))

-- a kept reply to a request with this one's key takes the share of this one's client
own_key : (configuration : Configuration) (request : Request) (reply : Kept)
    → client_place configuration.clients request.source ≡ Some request.client
    → IsOwned configuration reply → not (same_key (key_of request) reply.key) ≡ false → is_of request.client reply ≡ true
own_key configuration request reply place owned same =
    let source = eqb-true request.source reply.key.source (first (request.source == reply.key.source) _ _ _ same) in
    let is : reply.client ≡ Some request.client = owned ∙ ap (client_place configuration.clients) (sym source) ∙ place in
    ap (is_client request.client) is ∙ itself (eqb_tells request.client request.client)
  where
    itself : (((request.client == request.client) ≡ true) × (request.client ≡ request.client))
        ⊎ (((request.client == request.client) ≡ false) × (request.client ≢ request.client))
        → (request.client == request.client) ≡ true
    itself (inl (equal, same)) = equal
    itself (inr (unequal, other)) = absurd (other refl)

    first : (a b c d : Bool) → not (a && b && c && d) ≡ false → a ≡ true
    first true b c d e = refl
    first false b c d e = absurd cc

-- where there is no room beside a reply to a request with this one's key, there is none
none_goes : (configuration : Configuration) (state : State) (request : Request) → IsLawful configuration state
    → client_place configuration.clients request.source ≡ Some request.client
    → lacks_room configuration request.client (without_reply request state).replies ≡ true → without_reply request state ≡ state
none_goes configuration state request lawful place full =
    by (all_or_fewer other (is_of request.client) state.replies.kept
    (All-weaker (IsOwned configuration) (λ reply. other reply ≡ false → is_of request.client reply ≡ true)
    (λ reply owned. own_key configuration request reply place owned) state.replies.kept lawful.owned))
  where
    other : Kept → Bool
    other reply = not (same_key (key_of request) reply.key)

    left : List Kept
    left = filter other state.replies.kept

    not_reached : (limit : Option ℕ) (count most : ℕ) → count < most → IsWithin limit most → is_reached limit count ≡ true → ⊥
    not_reached None count most few within reached = both_ways (is_reached None count) refl reached
    not_reached (Some limit) count most few within reached = at (leb_tells limit count)
      where
        at : ((nat_le limit count ≡ true) × (limit ≤ count)) ⊎ ((nat_le limit count ≡ false) × (count < limit)) → ⊥
        at (inl (is, le)) = omega (arith, few, within, le)
        at (inr (isnt, lt)) = both_ways (is_reached (Some limit) count) isnt reached

    by : (left ≡ state.replies.kept)
        ⊎ ((length left < length state.replies.kept)
        × (count_by (is_of request.client) left < count_by (is_of request.client) state.replies.kept))
        → without_reply request state ≡ state
    by (inl same) = ap (λ kept. record state { replies = record state.replies { kept = kept } }) same
    by (inr few) = absurd (at (leb_tells kept_max (length left)))
      where
        at : ((nat_le kept_max (length left) ≡ true) × (kept_max ≤ length left))
            ⊎ ((nat_le kept_max (length left) ≡ false) × (length left < kept_max)) → ⊥
        at (inl (is, le)) = omega (arith, few.0, lawful.replies.few, le)
        at (inr (isnt, lt)) =
            not_reached (replies_share configuration request.client) (count_by (is_of request.client) left)
            (count_by (is_of request.client) state.replies.kept) few.1
            (lawful.shares request.client) (rw (isnt) at full)

-- ---- the answers

-- an answer to a request that isn't fresh leaves a lawful state as it is
stale_leaves : (configuration : Configuration) (current : State) (request : Request) (draw : List ℕ)
    → IsLawful configuration current
    → client_place configuration.clients request.source ≡ Some request.client → is_fresh configuration current request ≡ false
    → (answer configuration current request draw).1 ≡ current
stale_leaves configuration current request draw lawful place stale =
    cond_both (request.packet.code == code_status_server) _ _ (λ (r : Answer × State). r.1 ≡ current) (λ status. refl)
    (λ other. with_kept other (reply_kept request current) refl)
  where
    with_kept : (request.packet.code == code_status_server) ≡ false → (o : Option Kept) → reply_kept request current ≡ o
        → (answer_with configuration current request draw o).1 ≡ current
    with_kept other (Some reply) is = refl
    with_kept other None is =
        cond_both (lacks_room configuration request.client (without_reply request current).replies) _ _
        (λ (r : Answer × State). r.1 ≡ current)
        (λ full. none_goes configuration current request lawful place full)
        (λ room. absurd (both_ways (is_fresh configuration current request) stale (rw (other, is, room) refl)))

-- what the answer to a fresh request is: a reply, and a state with the same clock
record IsNews (current : State) (result : Answer × State) : Type 0 where
  replied : (body : Body) × (result.0 ≡ Send body)
  clock : result.1.clock ≡ current.clock

fresh_is_answered : (configuration : Configuration) (current : State) (request : Request) (draw : List ℕ)
    → is_fresh configuration current request ≡ true
    → IsNews current (answer configuration current request draw)
fresh_is_answered configuration current request draw fresh =
    cond_both (request.packet.code == code_status_server) _ _ (IsNews current)
    (λ status. absurd (both_ways (is_fresh configuration current request) (rw (status) refl) fresh))
    (λ other. with_kept other (reply_kept request current) refl)
  where
    sent : (result : Body × State) → result.1.clock ≡ current.clock → IsNews current (sent_and_kept request result)
    sent (body, state) clock = record { replied = (body, refl); clock = clock }

    with_kept : (request.packet.code == code_status_server) ≡ false → (o : Option Kept) → reply_kept request current ≡ o
        → IsNews current (answer_with configuration current request draw o)
    with_kept other (Some reply) is = absurd (both_ways (is_fresh configuration current request) (rw (other, is) refl) fresh)
    with_kept other None is =
        let left = without_reply request current in
        cond_both (lacks_room configuration request.client left.replies) _ _ (IsNews current)
        (λ full. absurd (both_ways (is_fresh configuration current request) (rw (other, is, full) refl) fresh))
        (λ room. sent (reply_by_port request.door configuration left request draw)
        (reply_leaves request.door configuration left request draw).clock)

-- ---- histories

-- the moment of an entry, or the one at which it counted: the state is the same
pub at_counted : (moment : ℕ) (state : State) → at_moment (max state.clock moment) state ≡ at_moment moment state
at_counted moment state =
    let same : max state.clock (max state.clock moment) ≡ max state.clock moment = omega arith in
    ap (λ clock. without_expired (record state { clock = clock })) same

pub like_after_time : LikeAfterTime
like_after_time state other None like = like
like_after_time state other (Some passed) like = λ moment le.
    let one : max passed moment ≡ moment = omega (arith, le) in
    like moment (omega (arith, le)) ∙ sym (at_both passed moment state ∙ ap (λ m. at_moment m state) one)

pub fresh_enough : AdmittedAreAnswerable → StepKeepsTheLaw → PassingKeepsTheLaw → FreshAreEnough
fresh_enough answerable steps passing configuration before after other [] [] valid lawful run like =
    record {
      state = other;
      run = refl;
      like = subst (λ s. IsLikeFromNow s other) run like;
      replied = All-nil (λ (e : Entry). (body : Body) × (e.answer ≡ Send body));
    }
fresh_enough answerable steps passing configuration before after other [] (mark ∷ marks) valid lawful run like = absurd run
fresh_enough answerable steps passing configuration before after other (entry ∷ rest) [] valid lawful run like = absurd run
fresh_enough answerable steps passing configuration before after other (entry ∷ rest) (mark ∷ marks) valid lawful run like =
    by_mark (λ state alike. fresh_enough answerable steps passing configuration next after state rest marks valid next_lawful run.2
    alike) mark refl
  where
    next : State
    next = run.0

    marked : IsMarked configuration before entry mark next
    marked = run.1

    now : ℕ
    now = max before.clock entry.moment

    current : State
    current = at_moment entry.moment before

    able : IsAnswerable configuration.clients marked.request
    able = answerable configuration.clients marked.request marked.asked.admitted

    next_lawful : IsLawful configuration next
    next_lawful = subst (λ (pair : Answer × State). IsLawful configuration pair.1) marked.answered
        (steps configuration before marked.request entry.moment entry.draw valid able marked.asked.moment marked.asked.draw lawful)

    by_mark : ((state : State) → IsLikeFromNow next state → LeadsAlike configuration state (fresh_of next.clock rest marks) after)
        → (b : Bool) → mark ≡ b → LeadsAlike configuration other (fresh_of before.clock (entry ∷ rest) (b ∷ marks)) after
    by_mark more true is =
        let news : IsNews current (entry.answer, next) =
        subst (IsNews current) marked.answered
        (fresh_is_answered configuration current marked.request entry.draw (sym marked.fresh ∙ is)) in
        let same = like now (omega arith) ∙ at_counted entry.moment before in
        let exchange : IsExchange configuration other (counted before.clock entry) next = record {
          request = marked.request;
          asked = record {
            own = marked.asked.own;
            admitted = marked.asked.admitted;
            client = marked.asked.client;
            moment = omega (arith, lawful.clock, marked.asked.moment);
            draw = marked.asked.draw;
          };
          answered = ap (λ s. answer configuration s marked.request entry.draw) same ∙ marked.answered;
          session = marked.session ∙ ap (λ s. session_at configuration s marked.request) (sym same);
        } in
        let on : LeadsAlike configuration next (fresh_of now rest marks) after =
        subst (λ c. LeadsAlike configuration next (fresh_of c rest marks) after) news.clock (more next (λ moment le. refl)) in
        record {
          state = on.state;
          run = (next, exchange, on.run);
          like = on.like;
          replied = All-cons (λ (e : Entry). (body : Body) × (e.answer ≡ Send body)) (counted before.clock entry)
              (fresh_of now rest marks) news.replied on.replied;
        }
    by_mark more false is =
        let stale : is_fresh configuration current marked.request ≡ false = sym marked.fresh ∙ is in
        let current_lawful = passing configuration before entry.moment valid marked.asked.moment lawful in
        let left : next ≡ current =
        ap (λ (r : Answer × State). r.1) (sym marked.answered)
        ∙ stale_leaves configuration current marked.request entry.draw current_lawful able.place stale in
        let clock : next.clock ≡ now = ap (λ (s : State). s.clock) left in
        subst (λ c. LeadsAlike configuration other (fresh_of c rest marks) after) clock
        (more other (subst (λ s. IsLikeFromNow s other) (sym left) (like_after_time before other (Some entry.moment) like)))

-- Every history that a server runs from a lawful state answers repeats again: the proof of `RunsRepeat`.
--
-- When an entry comes, the live replies that are kept are those of the sources in force, and no two have one key (`IsReady`). So
-- if a source covers the entry, the reply that the step finds is the source's; if none does, the step finds none. Either way the
-- answer is right (`IsRight`), and what held of the replies holds again when the next entry comes (`ready_again`).
use Rattle.std.proofs.Common.{◌≡◌, ◌⊎◌, ℕ, ◌+◌, ◌≤◌, ◌<◌, zero, suc, Bool, true, false, not, cond, ◌&&◌, ◌||◌, ◌==◌, max, List, []}
use Rattle.std.proofs.Common.{◌∷◌, ◌++◌, length, get_or, map, filter, find, All, AllPairs, Contains, Option, Some, None, slice_get}
use Rattle.std.proofs.Common.{arith, inl, inr, refl, sym, ap, subst, ◌∙◌}
use Rattle.std.specs.List.{list_any, position_or_len}
use Rattle.std.specs.Prelude.{Result, Ok, Err, IsTrue}
use lib.Pointwise.{pointwise}
use Rattle.std.proofs.lemmas.Bool.{and_left, and_parts, both_ways, cases_order, lt-ltb, not-true, not_from_true}
use Rattle.std.proofs.lemmas.Bool.Decides.{nat_tests}
use Rattle.std.proofs.lemmas.List.{append-nil, map-append, map-id}
use Rattle.std.proofs.lemmas.List.Elements.{All-cons, All-contains_itself, All-head, All-nil, All-tail, All-weaker, filter-append}
use Rattle.std.proofs.lemmas.List.Elements.{filter_passes}
use Rattle.std.proofs.lemmas.List.Folds.{find_at, list_all-append, list_any_at, list_any_none}
use Rattle.std.proofs.lemmas.List.Kept.{AllPairs-filter}
use Rattle.std.proofs.lemmas.List.Quantifiers.{all_pairs_push}
use Rattle.std.proofs.lemmas.List.Sums.{passes_at_first}
use Rattle.std.proofs.lemmas.Option.{get_or_from_slice_get, slice_get-get_or, slice_get_within}
use Rattle.rad_packet.specs.Bodies.{Body}
use Rattle.rad_packet.specs.Codes.{code_status_server}
use Rattle.rad_packet.specs.Packets.{packet_octets}
use Rattle.rad_auth.specs.Admission.{AdmittedAreAnswerable}
use Rattle.rad_auth.specs.Datagrams.{Datagram}
use Rattle.rad_auth.specs.declared.arrival.Door.{Door}
use Rattle.rad_auth.specs.declared.arrival.Door.TheVariants.{Auth, Acct}
use Rattle.rad_auth.specs.declared.arrival.Request.{Request}
use Rattle.rad_auth.specs.Clients.{Client, client_place}
use Rattle.rad_config.specs.Configurations.{Configuration}
use Rattle.rad_recent.specs.Lawful.{HaveDifferentKeys}
use Rattle.rad_recent.specs.Recent.{is_reply_live, is_reply_to, same_key}
use Rattle.rad_recent.specs.declared.kept.Kept.{Kept}
use Rattle.rad_recent.specs.declared.key.Key.{Key}
use Rattle.rad_server.specs.Access.{Challenged, Decision, Granted, access_with, decided, without_challenge}
use Rattle.rad_server.specs.Credentials.{Credentials, credentials_in}
use Rattle.rad_server.specs.Repeats.{AreExchanges, Exchange, RepeatsFollow, RunsRepeat, Source, covers, entry_key, first_sources}
use Rattle.rad_server.specs.Repeats.{followed_by, is_in_force, is_status_server, next_sources, source_of, spares}
use Rattle.rad_server.specs.Replies.{status_reply}
use Rattle.rad_server.specs.Runs.{IsExchange}
use Rattle.rad_server.specs.Shares.{lacks_room}
use Rattle.rad_server.specs.States.{State, at_moment}
use Rattle.rad_server.specs.Steps.{answer, answer_with, reply_by_port, reply_kept, sent_and_kept, with_reply, without_reply}
use Rattle.rad_server.specs.declared.answer.Answer.{Answer}
use Rattle.rad_server.specs.declared.answer.Answer.TheVariants.{Send, Busy}
use Rattle.rad_server.specs.declared.denial.Denial.{Denial}
use Rattle.rad_server.specs.declared.entry.Entry.{Entry}

-- ---- lists

-- of elements that are made of others, those that pass both of two tests, the later one a test of their images
filter_made : {W X Y : Type 0} (make : W → X) (image : X → Y) (earlier : W → Bool) (both : X → Bool) (later : Y → Bool)
    → ((w : W) → both (make w) ≡ (earlier w && later (image (make w)))) → (ws : List W)
    → map image (filter both (map make ws)) ≡ filter later (map (λ w. image (make w)) (filter earlier ws))
filter_made make image earlier both later agree [] = refl
filter_made {W} make image earlier both later agree (w ∷ ws) =
    rw (agree w) (at (earlier w) (later (image (make w))) refl (filter_made make image earlier both later agree ws))
  where
    at : (e l : Bool) → later (image (make w)) ≡ l
        → map image (filter both (map make ws)) ≡ filter later (map (λ (v : W). image (make v)) (filter earlier ws))
        → map image (cond (e && l) (make w ∷ filter both (map make ws)) (filter both (map make ws)))
        ≡ filter later (map (λ (v : W). image (make v)) (cond e (w ∷ filter earlier ws) (filter earlier ws)))
    at true true is rest = rw is (ap (λ ys. image (make w) ∷ ys) rest)
    at true false is rest = rw is rest
    at false l is rest = rest

-- two tests that agree on each element keep the same elements
filter_alike : {X : Type 0} (test other : X → Bool) (xs : List X) → All (λ x. test x ≡ other x) xs
    → filter test xs ≡ filter other xs
filter_alike test other [] agree = refl
filter_alike test other (x ∷ xs) agree =
    let first : test x ≡ other x = All-head (λ y. test y ≡ other y) x xs agree in
    let rest : filter test xs ≡ filter other xs = filter_alike test other xs (All-tail (λ y. test y ≡ other y) x xs agree) in
    cc

-- a test that each element passes keeps them all
filter_all : {X : Type 0} (test : X → Bool) (xs : List X) → All (λ x. test x ≡ true) xs → filter test xs ≡ xs
filter_all test [] pass = refl
filter_all test (x ∷ xs) pass =
    rw (All-head (λ y. test y ≡ true) x xs pass) (ap (λ ys. x ∷ ys) (filter_all test xs (All-tail (λ y. test y ≡ true) x xs pass)))

-- the image of an element that passes is among the images of those that pass
image_is_among : {X Y : Type 0} (image : X → Y) (test : X → Bool) (xs : List X) (x : X) → Contains xs x → test x ≡ true
    → Contains (map image (filter test xs)) (image x)
image_is_among image test [] x there passes = absurd (omega (arith, there.1))
image_is_among image test (y ∷ ys) x (zero, within, is) passes =
    let here : test y ≡ true = ap test is ∙ passes in
    rw here (zero, omega arith, ap image is)
image_is_among image test (y ∷ ys) x (suc k, within, is) passes =
    at (test y) (image_is_among image test ys x (k, omega arith, is) passes)
  where
    at : (b : Bool) → Contains (map image (filter test ys)) (image x)
        → Contains (map image (cond b (y ∷ filter test ys) (filter test ys))) (image x)
    at true (n, below, there) = (suc n, omega arith, there)
    at false rest = rest

-- an element with a first test whose image passes a second one
any_image : {X Y : Type 0} (image : X → Y) (test : X → Bool) (of_image : Y → Bool) (xs : List X)
    → list_any (λ x. of_image (image x) && test x) xs ≡ list_any of_image (map image (filter test xs))
any_image image test of_image [] = refl
any_image {X} image test of_image (x ∷ xs) = at (test x) (of_image (image x)) refl (any_image image test of_image xs)
  where
    at : (b o : Bool) → of_image (image x) ≡ o
        → list_any (λ (y : X). of_image (image y) && test y) xs ≡ list_any of_image (map image (filter test xs))
        → ((o && b) || list_any (λ (y : X). of_image (image y) && test y) xs)
        ≡ list_any of_image (map image (cond b (x ∷ filter test xs) (filter test xs)))
    at true true is rest = rw is refl
    at true false is rest = rw is rest
    at false true is rest = rest
    at false false is rest = rest

-- what is found is an element that passes
found_passes : {X : Type 0} (test : X → Bool) (xs : List X) (x : X) → find test xs ≡ Some x → Contains xs x × (test x ≡ true)
found_passes test xs x is =
    let place : ℕ = position_or_len test xs in
    let there : slice_get xs place ≡ Some x = sym (find_at test xs) ∙ is in
    let within : place < length xs = slice_get_within xs place x there in
    let read : get_or xs place x ≡ x = get_or_from_slice_get xs place x x there in
    ((place, within, read), ap test (sym read) ∙ passes_at_first test xs x within)

-- where nothing is found, nothing passes
none_passes : {X : Type 0} (test : X → Bool) (xs : List X) → find test xs ≡ None → All (λ x. test x ≡ false) xs
none_passes test [] none = All-nil (λ x. test x ≡ false)
none_passes test (x ∷ xs) none = at (test x) refl (none_passes test xs) none
  where
    at : (b : Bool) → test x ≡ b → (find test xs ≡ None → All (λ y. test y ≡ false) xs) → cond b (Some x) (find test xs) ≡ None
        → All (λ y. test y ≡ false) (x ∷ xs)
    at true is rest some = absurd (cc)
    at false is rest none = All-cons (λ y. test y ≡ false) x xs is (rest none)

-- an element that passes makes the test of any
list_any-from_Contains : {X : Type 0} (test : X → Bool) (xs : List X) (x : X) → Contains xs x → test x ≡ true
    → list_any test xs ≡ true
list_any-from_Contains test xs x there passes = list_any_at test xs there.0 x there.1 (ap test there.2 ∙ passes)

-- ---- keys

-- two keys that are the same as a third are the same
keys_meet : (key one other : Key) → same_key key one ≡ true → same_key key other ≡ true → same_key one other ≡ true
keys_meet key one other is too = grind (arith, nat_tests)

-- two keys that differ do so in either order
keys_apart : (key other : Key) → same_key key other ≡ false → same_key other key ≡ false
keys_apart key other differ = grind (arith, nat_tests)

-- of replies with different keys, only one has a given key
only_one : (kept : List Kept) (key : Key) (one other : Kept) → AllPairs HaveDifferentKeys kept → Contains kept one
    → Contains kept other
    → same_key key one.key ≡ true → same_key key other.key ≡ true → one ≡ other
only_one kept key one other keys there here is too = by_place (cases_order there.0 here.0)
  where
    at : (reply : Kept) (place : Contains kept reply) → slice_get kept place.0 ≡ Some reply
    at reply place = slice_get-get_or kept place.0 reply place.1 ∙ ap Some place.2

    apart : (first second : Kept) (i j : ℕ) → slice_get kept i ≡ Some first → slice_get kept j ≡ Some second → i < j
        → same_key first.key second.key ≡ true → ⊥
    apart first second i j at_first at_second before same =
        let one_is : get_or kept i first ≡ first = get_or_from_slice_get kept i first first at_first in
        let other_is : get_or kept j first ≡ second = get_or_from_slice_get kept j second first at_second in
        let differ = keys i j first before (slice_get_within kept j second at_second) in
        absurd (cc)

    by_place : (there.0 ≡ here.0) ⊎ ((there.0 < here.0) ⊎ (here.0 < there.0)) → one ≡ other
    by_place (inl same) =
        let joined : Some one ≡ Some other = sym (at one there) ∙ (ap (slice_get kept) same ∙ at other here) in
        cc
    by_place (inr (inl before)) =
        absurd (apart one other there.0 here.0 (at one there) (at other here) before (keys_meet key one.key other.key is too))
    by_place (inr (inr after)) =
        absurd (apart other one here.0 there.0 (at other here) (at one there) after (keys_meet key other.key one.key too is))

-- ---- sources

-- the reply of a source
abbrev reply_of : Source → Kept
reply_of source = source.reply

-- the replies of the sources in force
abbrev replies_in_force : ℕ → ℕ → List Source → List Kept
replies_in_force window now sources = map reply_of (filter (is_in_force window now) sources)

-- the first sources are in force as long as their replies live
first_in_force : (window now : ℕ) (kept : List Kept)
    → filter (is_reply_live window now) kept ≡ replies_in_force window now (first_sources kept)
first_in_force window now kept =
    sym (filter_made (λ (reply : Kept). record { reply = reply; later = [] }) reply_of (λ reply. true) (is_in_force window now)
    (is_reply_live window now)
    (λ reply. grind (arith, nat_tests)) kept
    ∙ ap (filter (is_reply_live window now)) (map-id _ ∙ filter_all (λ reply. true) kept (λ k d within. refl)))

-- what is in force at a later moment is in force now, and its reply lives then
later_in_force : (window now later : ℕ) (sources : List Source) → now ≤ later
    → replies_in_force window later sources ≡ filter (is_reply_live window later) (replies_in_force window now sources)
later_in_force window now later sources passed =
    ap (replies_in_force window later) (sym (map-id sources))
    ∙ filter_made (λ source. source) reply_of (is_in_force window now) (is_in_force window later) (is_reply_live window later)
    (λ source. grind (arith, nat_tests)) sources

-- after one more entry, what was in force and spares the entry is in force
followed_in_force : (window now : ℕ) (entry : Entry) (sources : List Source)
    → replies_in_force window now (map (followed_by entry) sources)
    ≡ filter (λ reply. spares reply entry) (replies_in_force window now sources)
followed_in_force window now entry =
    filter_made (followed_by entry) reply_of (is_in_force window now) (is_in_force window now) (λ reply. spares reply entry)
    (λ source. simp list_all-append (grind (arith, nat_tests)))

-- the replies of two lists of sources
append_in_force : (window now : ℕ) (sources more : List Source)
    → replies_in_force window now (sources ++ more) ≡ replies_in_force window now sources ++ replies_in_force window now more
append_in_force window now sources more =
    ap (map reply_of) (filter-append (is_in_force window now) sources more) ∙ map-append reply_of _ _

-- a new source is in force
new_in_force : (clients : List Client) (window now : ℕ) (entry : Entry) (answer : Answer) → 0 < window
    → replies_in_force window now (source_of clients now entry answer) ≡ map reply_of (source_of clients now entry answer)
new_in_force clients window now entry Busy lasts = refl
new_in_force clients window now entry (Send body) lasts = rw (lt-ltb now (now + window) (omega arith)) refl

-- ---- the rules

-- a rule by which a request is answered leaves the clock and the kept replies as they are
pub record LeavesReplies (before after : State) : Type 0 where
  pub clock : after.clock ≡ before.clock
  pub replies : after.replies ≡ before.replies

-- to take a challenge away leaves them
challenge_leaves : (client : ℕ) (value : Option (List ℕ)) (state : State)
    → LeavesReplies state (without_challenge client value state)
challenge_leaves client None state = record { clock = refl; replies = refl }
challenge_leaves client (Some value) state = record { clock = refl; replies = refl }

-- so does what is decided
decided_leaves : (configuration : Configuration) (before state : State) (request : Request) (draw : List ℕ)
    (decision : Result Decision Denial)
    → LeavesReplies before state → LeavesReplies before (decided configuration state request draw decision).1
decided_leaves configuration before state request draw (Err denial) left = left
decided_leaves configuration before state request draw (Ok (Challenged user)) left =
    record { clock = left.clock; replies = left.replies }
decided_leaves configuration before state request draw (Ok (Granted user grant)) left =
    record { clock = left.clock; replies = left.replies }

-- so does the rule of Access-Requests
access_leaves : (configuration : Configuration) (state : State) (request : Request) (draw : List ℕ)
    (credentials : Result Credentials Denial)
    → LeavesReplies state (access_with configuration state request draw credentials).1
access_leaves configuration state request draw (Err denial) = record { clock = refl; replies = refl }
access_leaves configuration state request draw (Ok credentials) =
    decided_leaves configuration state (without_challenge request.client credentials.state state) request draw _
    (challenge_leaves request.client credentials.state state)

-- so does the rule of each port
pub reply_leaves : (door : Door) (configuration : Configuration) (state : State) (request : Request) (draw : List ℕ)
    → LeavesReplies state (reply_by_port door configuration state request draw).1
reply_leaves Auth configuration state request draw =
    access_leaves configuration state request draw (credentials_in request.packet.attributes)
reply_leaves Acct configuration state request draw = record { clock = refl; replies = refl }

-- ---- the step

-- The state of a step, with what is live at its clock: replies live for some time, no two that are kept have one key, and they are
-- those of the sources in force.
record IsReady (state : State) (sources : List Source) : Type 0 where
  lasts : 0 < state.replies.window
  keys : AllPairs HaveDifferentKeys state.replies.kept
  kept : state.replies.kept ≡ replies_in_force state.replies.window state.clock sources

-- what the answer to an entry, and the state after it, owe to the sources: a covered entry is answered again and changes nothing,
-- and the replies that are kept are again those of the sources in force
record IsRight (clients : List Client) (state : State) (sources : List Source) (entry : Entry) (after : State) : Type 0 where
  again : (source : Source) → Contains sources source → IsTrue (covers state.replies.window state.clock entry source)
      → (entry.answer ≡ Send source.reply.body) × (after ≡ state)
  kept : after.replies.kept
      ≡ replies_in_force state.replies.window state.clock (next_sources clients state.replies.window state.clock entry sources)
  keys : AllPairs HaveDifferentKeys after.replies.kept
  clock : after.clock ≡ state.clock
  window : after.replies.window ≡ state.replies.window

-- whether a kept reply is that to an entry
abbrev answers : Entry → Kept → Bool
answers entry = is_reply_to (entry_key entry) entry.octets

-- whether a kept reply is one to a request with another key
abbrev is_other : Entry → Kept → Bool
is_other entry reply = not (same_key (entry_key entry) reply.key)

module _ (clients : List Client) (state : State) (sources : List Source) (ready : IsReady state sources) (entry : Entry) where
  -- the replies that are kept
  abbrev kept : List Kept
  kept = state.replies.kept

  -- the replies in force at the clock
  abbrev in_force : List Source → List Kept
  in_force = replies_in_force state.replies.window state.clock

  -- whether a source covers the entry
  abbrev covering : Source → Bool
  covering = covers state.replies.window state.clock entry

  -- the reply that is kept for repeats of the entry if it is answered anew
  abbrev own : Answer → List Kept
  own answer = map reply_of (source_of clients state.clock entry answer)

  -- a Status-Server leaves all as it is
  status_is_right : is_status_server entry ≡ true → IsRight clients state sources entry state
  status_is_right is = record {
    again = λ source there covered. absurd (both_ways _ (and_left _ _ (not_from_true (is_status_server entry) is)) covered);
    kept = rw is ready.kept;
    keys = ready.keys;
    clock = refl;
    window = refl;
  }

  -- another entry is covered just where a reply to it is kept
  covered_is_kept : is_status_server entry ≡ false → list_any covering sources ≡ list_any (answers entry) kept
  covered_is_kept other =
      let holds = is_in_force state.replies.window state.clock in
      ap (λ (b : Bool). list_any (λ (source : Source). not b && (answers entry source.reply && holds source)) sources) other
      ∙ (any_image reply_of holds (answers entry) sources ∙ ap (list_any (answers entry)) (sym ready.kept))

  -- after it, the replies in force are those that spare it, and its own if it is not covered
  next_in_force : (covered : Bool) → is_status_server entry ≡ false → list_any covering sources ≡ covered
      → in_force (next_sources clients state.replies.window state.clock entry sources)
      ≡ filter (λ reply. spares reply entry) kept ++ cond covered [] (own entry.answer)
  next_in_force covered other is =
      let followed = followed_in_force state.replies.window state.clock entry sources
      ∙ ap (filter (λ reply. spares reply entry)) (sym ready.kept) in
      let new = at covered in
      rw (other, is) (append_in_force state.replies.window state.clock (map (followed_by entry) sources) _ ∙ cc)
    where
      at : (b : Bool) → in_force (cond b [] (source_of clients state.clock entry entry.answer)) ≡ cond b [] (own entry.answer)
      at true = refl
      at false = new_in_force clients state.replies.window state.clock entry entry.answer ready.lasts

  -- a repeat is answered again
  repeat_is_right : (reply : Kept) → is_status_server entry ≡ false → find (answers entry) kept ≡ Some reply
      → entry.answer ≡ Send reply.body → IsRight clients state sources entry state
  repeat_is_right reply other found answered = record {
    again = λ source there covered.
        let parts = and_parts _ _ (and_parts (not (is_status_server entry)) _ covered).1 in
        let among = image_is_among reply_of (is_in_force state.replies.window state.clock) sources source there parts.1 in
        let same = is_reply source.reply (subst (λ (replies : List Kept). Contains replies source.reply) (sym ready.kept) among)
        (and_parts _ _ parts.0).0 in
        (answered ∙ ap (λ (r : Kept). Send r.body) (sym same), refl);
    kept = sym (next_in_force true other any_covers ∙ (append-nil _ ∙ filter_all (λ r. spares r entry) kept
        (All-weaker (Contains kept) (λ r. spares r entry ≡ true) spared kept (All-contains_itself kept))));
    keys = ready.keys;
    clock = refl;
    window = refl;
  }
    where
      passed : Contains kept reply × (answers entry reply ≡ true)
      passed = found_passes (answers entry) kept reply found

      same : (same_key (entry_key entry) reply.key ≡ true) × (pointwise ◌==◌ entry.octets reply.octets ≡ true)
      same = and_parts _ _ passed.1

      any_covers : list_any covering sources ≡ true
      any_covers = covered_is_kept other ∙ list_any-from_Contains (answers entry) kept reply passed.0 passed.1

      is_reply : (r : Kept) → Contains kept r → same_key (entry_key entry) r.key ≡ true → r ≡ reply
      is_reply r there own_key = only_one kept (entry_key entry) r reply ready.keys there passed.0 own_key same.0

      spared : (r : Kept) → Contains kept r → spares r entry ≡ true
      spared r there = at (same_key (entry_key entry) r.key) refl
        where
          at : (b : Bool) → same_key (entry_key entry) r.key ≡ b → (not b || pointwise ◌==◌ entry.octets r.octets) ≡ true
          at true own_key =
              subst (λ (k : Kept). pointwise ◌==◌ entry.octets k.octets ≡ true) (sym (is_reply r there own_key)) same.1
          at false other_key = refl

  -- the replies to requests with another key, and the entry's own, have different keys
  new_keys : (answer : Answer) → AllPairs HaveDifferentKeys (filter (is_other entry) kept ++ own answer)
  new_keys answer = at answer
    where
      left : AllPairs HaveDifferentKeys (filter (is_other entry) kept)
      left = AllPairs-filter HaveDifferentKeys (is_other entry) kept ready.keys

      at : (a : Answer) → AllPairs HaveDifferentKeys (filter (is_other entry) kept ++ own a)
      at Busy = rw append-nil left
      at (Send body) = all_pairs_push HaveDifferentKeys (filter (is_other entry) kept) _ left
          (λ k d within. keys_apart (entry_key entry) _ (not-true _ (filter_passes (is_other entry) kept k d within)))

  -- an entry that is no repeat ends the reply with its key, and its own is kept
  new_is_right : (after : State) → is_status_server entry ≡ false → find (answers entry) kept ≡ None
      → after.replies.kept ≡ filter (is_other entry) kept ++ own entry.answer
      → after.clock ≡ state.clock → after.replies.window ≡ state.replies.window → IsRight clients state sources entry after
  new_is_right after other none with_own clock window = record {
    again = λ source there covered. absurd (both_ways _ none_covers (list_any-from_Contains covering sources source there covered));
    kept = with_own ∙ sym (next_in_force false other none_covers
        ∙ ap (λ (replies : List Kept). replies ++ own entry.answer) spared);
    keys = rw with_own (new_keys entry.answer);
    clock = clock;
    window = window;
  }
    where
      none_answers : All (λ reply. answers entry reply ≡ false) kept
      none_answers = none_passes (answers entry) kept none

      none_covers : list_any covering sources ≡ false
      none_covers = covered_is_kept other ∙ list_any_none (answers entry) kept none_answers

      spared : filter (λ reply. spares reply entry) kept ≡ filter (is_other entry) kept
      spared = filter_alike (λ reply. spares reply entry) (is_other entry) kept
          (All-weaker (λ reply. answers entry reply ≡ false) (λ reply. spares reply entry ≡ is_other entry reply)
          (λ reply is. grind (arith, nat_tests)) kept none_answers)

-- an entry that asks what a request asks
abbrev asking : Request → Entry → Answer → Entry
asking request entry answer = record entry {
  source = request.source;
  port = request.port;
  door = request.door;
  octets = packet_octets request.packet;
  answer = answer;
}

-- the answer of a step is right
answer_is_right : (configuration : Configuration) (state : State) (sources : List Source) (request : Request) (entry : Entry)
    (draw : List ℕ) → IsReady state sources
    → client_place configuration.clients request.source ≡ Some request.client
    → IsRight configuration.clients state sources (asking request entry (answer configuration state request draw).0)
    (answer configuration state request draw).1
answer_is_right configuration state sources request entry draw ready place =
    by_code (request.packet.code == code_status_server) refl
  where
    Right : Answer × State → Type 0
    Right r = IsRight configuration.clients state sources (asking request entry r.0) r.1

    by_room : (request.packet.code == code_status_server) ≡ false → reply_kept request state ≡ None → (full : Bool)
        → Right (cond full (Busy, without_reply request state)
        (sent_and_kept request (reply_by_port request.door configuration (without_reply request state) request draw)))
    by_room other none true =
        new_is_right configuration.clients state sources ready (asking request entry Busy) (without_reply request state) other none
        (sym (append-nil _)) refl refl
    by_room other none false =
        let reply : Body × State = reply_by_port request.door configuration (without_reply request state) request draw in
        let left = reply_leaves request.door configuration (without_reply request state) request draw in
        new_is_right configuration.clients state sources ready (asking request entry (Send reply.0))
        (with_reply request reply.0 reply.1) other none
        (rw (left.clock, left.replies, place) refl) left.clock (ap (λ r. r.window) left.replies)

    by_lookup : (request.packet.code == code_status_server) ≡ false → (o : Option Kept) → reply_kept request state ≡ o
        → Right (answer_with configuration state request draw o)
    by_lookup other (Some reply) found =
        repeat_is_right configuration.clients state sources ready (asking request entry (Send reply.body)) reply other found refl
    by_lookup other None none = by_room other none (lacks_room configuration request.client (without_reply request state).replies)

    by_code : (b : Bool) → (request.packet.code == code_status_server) ≡ b
        → Right (cond b (Send (status_reply request.door request.packet), state)
        (answer_with configuration state request draw (reply_kept request state)))
    by_code true is = status_is_right configuration.clients state sources ready
        (asking request entry (Send (status_reply request.door request.packet))) is
    by_code false other = by_lookup other (reply_kept request state) refl

-- so each exchange is right: its entry asks what its request asks
exchange_is_right : AdmittedAreAnswerable
    → (configuration : Configuration) (before : State) (sources : List Source) (entry : Entry) (after : State)
    → IsReady (at_moment entry.moment before) sources
    → IsExchange configuration before entry after
    → IsRight configuration.clients (at_moment entry.moment before) sources entry after
exchange_is_right answerable configuration before sources entry after ready exchange =
    subst (λ (d : Datagram). IsRight configuration.clients state sources
    (record entry { source = d.source; port = d.port; door = d.door; octets = d.octets }) after) exchange.asked.own
    (subst (λ (r : Answer × State). IsRight configuration.clients state sources (asking exchange.request entry r.0) r.1)
    exchange.answered
    (answer_is_right configuration state sources exchange.request entry entry.draw ready
    (answerable configuration.clients exchange.request exchange.asked.admitted).place))
  where
    state : State
    state = at_moment entry.moment before

-- ---- the history

-- after an exchange, the state is ready again at any moment
ready_again : (clients : List Client) (state : State) (sources : List Source) (entry : Entry) (after : State)
    → IsReady state sources → IsRight clients state sources entry after
    → (moment : ℕ) → IsReady (at_moment moment after) (next_sources clients state.replies.window state.clock entry sources)
ready_again clients state sources entry after ready right moment = record {
  lasts = omega (arith, ready.lasts, right.window);
  keys = AllPairs-filter HaveDifferentKeys _ after.replies.kept right.keys;
  kept = rw (right.window, right.kept)
      (sym (later_in_force state.replies.window state.clock (max after.clock moment) _ (omega (arith, right.clock))));
}

-- from a state that is ready at any moment, all exchanges answer repeats again
repeats_follow : AdmittedAreAnswerable
    → (configuration : Configuration) (before : State) (sources : List Source) (exchanges : List Exchange)
    → ((moment : ℕ) → IsReady (at_moment moment before) sources) → AreExchanges configuration before exchanges
    → RepeatsFollow configuration.clients before.replies.window before.clock before sources exchanges
repeats_follow answerable configuration before sources [] ready made = tt
repeats_follow answerable configuration before sources (exchange ∷ rest) ready made =
    let state = at_moment exchange.entry.moment before in
    let next = next_sources configuration.clients state.replies.window state.clock exchange.entry sources in
    let now = ready exchange.entry.moment in
    let right = exchange_is_right answerable configuration before sources exchange.entry exchange.after now made.0 in
    let follow = repeats_follow answerable configuration exchange.after next rest
    (ready_again configuration.clients state sources exchange.entry exchange.after now right) made.1 in (
      λ source there covered.
          let again = right.again source there covered in
          record { answer = again.0; sessions = ap (λ s. s.sessions) again.1; challenges = ap (λ s. s.challenges) again.1 },
      (
        right.kept,
        subst (λ (w : ℕ). RepeatsFollow configuration.clients w state.clock exchange.after next rest) right.window
            (subst (λ (c : ℕ). RepeatsFollow configuration.clients exchange.after.replies.window c exchange.after next rest)
            right.clock follow),
      ),
    )

-- every history that a server runs from a lawful state answers repeats again
pub histories_repeat : AdmittedAreAnswerable → RunsRepeat
histories_repeat answerable configuration before history within lawful exchanges same made =
    repeats_follow answerable configuration before (first_sources before.replies.kept) exchanges (λ moment. record {
      lasts = omega (arith, lawful.window, within.window);
      keys = AllPairs-filter HaveDifferentKeys _ before.replies.kept lawful.replies.keys;
      kept = first_in_force before.replies.window (max before.clock moment) before.replies.kept;
    }) made

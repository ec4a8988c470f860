-- Serving: a round has an entry for each outcome of an exchange, and turns go on from one another.
use Rattle.std.proofs.Common.{◌≡◌, ◌≢◌, ◌⊎◌, ◌<◌, ◌≤◌, ℕ, zero, suc, ◌+◌, max, Bool, true, false, cond, List, [], ◌∷◌, ◌++◌, length}
use Rattle.std.proofs.Common.{map, take, filter, get_or, Option, IfSome, Some, None, Result, Ok, Err, IsTrue, is_err, slice_get}
use Rattle.std.proofs.Common.{arith, refl, sym, ap, subst, ◌∙◌, inl, inr}
use lib.ListN.{length-append}
use Rattle.std.proofs.lemmas.Option.{get_or_from_slice_get, none-some, slice_get-get_or, slice_get_within}
use Rattle.std.proofs.lemmas.List.{append-nil, append_assoc, take_all}
use Rattle.std.proofs.lemmas.List.Filters.{length-filter_more}
use Rattle.std.proofs.lemmas.List.Sums.{length-filter, sum_by-cons}
use Rattle.rad_auth.specs.Clients.{Client}
use Rattle.rad_config.specs.Ranges.{IsConfiguration}
use Rattle.rad_config.specs.Spans.{moment_max}
use Rattle.rad_server.specs.Lawful.{IsLawful}
use Rattle.rad_server.specs.Repeats.{RunsRepeat}
use Rattle.rad_server.specs.Runs.{HistoriesAfterTime, IsHistory, IsMarkedHistory, LeadsTo, RunsAreLawful, fresh_of, not_before}
use Rattle.rad_server.specs.Servers.{Server}
use Rattle.rad_server.specs.States.{when_passed}
use Rattle.rad_server.specs.declared.entry.Entry.{Entry}
use Rattle.rad_round.specs.Rounds.{HasArrival, HasEntry, HaveOwnTags, IsEntryOf, IsOutcome, Round, arrivals_max}
use Rattle.rad_journal.specs.Journals.{added}
use Rattle.rad_journal.specs.Kept.{kept_of}
use Rattle.rad_journal.specs.Leads.{FreshAreKept, KeptLastOverTime, KeptLeadOn}
use Rattle.rad_journal.specs.declared.journal.JournalFault.{JournalFault}
use Rattle.rad_journal.specs.declared.kept.Kept.{Kept}
use Rattle.rad_shell.specs.Passages.{Came, Fault, HavePassed, In, Out, Passage, Went, clock_told}
use Rattle.rad_shell.specs.Serving.{AddTurn, AddUp, AddsTurn, AreSent, AreTurns, AreTurnsSoFar, HasDrawn, IsAnswered, IsBetween}
use Rattle.rad_shell.specs.Serving.{IsCounted, IsLost, IsMade, IsRoundMade, IsServed, IsWithoutMemory, Outlives, Situation, Tally}
use Rattle.rad_shell.specs.Serving.{UnlessJournal, between, came_of, emptied, exchange_count, is_exchanged, is_replied, is_reply}
use Rattle.rad_shell.specs.Serving.{no_sums, no_turn, nothing_done, one_more, received_all, replied_count, replies, reply_count}
use Rattle.rad_shell.specs.Serving.{round_lost, stopped, with_turn}
use Rattle.rad_round.specs.declared.outcome.Outcome.{Outcome}
use Rattle.rad_round.specs.declared.outcome.Outcome.TheVariants.{Dropped, Busy, NoMemory, Reply}
use Rattle.rad_shell.specs.declared.ports.PortFault.{PortFault}
use Rattle.rad_shell.specs.declared.serve_fault.ServeFault.{ServeFault}
use Rattle.rad_shell.specs.declared.serve_fault.ServeFault.TheVariants as faults
use Rattle.rad_shell.proofs.KeepingLemmas.{adds_all, adds_none, adds_some, leads_by_none, leads_by_turn, leads_by_unkept}
use Rattle.rad_shell.proofs.KeepingLemmas.{leads_in_time, leads_nowhere, leads_settled, outlives_all, outlives_until}
use Rattle.rad_shell.proofs.PassageLemmas.{both_passed}
use Rattle.rad_shell.specs.declared.served.Served.{Served}
use Rattle.rad_round.specs.declared.timed.Timed.{Timed}

-- ---- outcomes, one more

pub one_more_outcome : (outcomes : List Outcome) (i : ℕ) (d : Outcome) → i < length outcomes
    → exchange_count (take (i + 1) outcomes) ≡ exchange_count (take i outcomes) + cond (is_exchanged (get_or outcomes i d)) 1 0
one_more_outcome outcomes i d lt = length-filter_more is_exchanged outcomes i d lt

pub one_more_reply : (outcomes : List Outcome) (i : ℕ) (d : Outcome) → i < length outcomes
    → replied_count (take (i + 1) outcomes) ≡ replied_count (take i outcomes) + cond (is_replied (get_or outcomes i d)) 1 0
one_more_reply outcomes i d lt = length-filter_more is_replied outcomes i d lt

-- ---- entries, counted

-- the first of a list, counted
count_cons : {A : Type 0} (p : A → Bool) (x : A) (rest : List A)
    → length (filter p (x ∷ rest)) ≡ cond (p x) 1 0 + length (filter p rest)
count_cons p x rest =
    length-filter p (x ∷ rest) ∙ sum_by-cons (λ y. cond (p y) 1 0) x rest
    ∙ ap (λ n. cond (p x) 1 0 + n) (sym (length-filter p rest))

count_append : {A : Type 0} (p : A → Bool) (first rest : List A)
    → length (filter p (first ++ rest)) ≡ length (filter p first) + length (filter p rest)
count_append p [] rest = omega arith
count_append p (x ∷ more) rest = omega (arith, count_cons p x (more ++ rest), count_cons p x more, count_append p more rest)

abbrev every : Entry → Bool
every entry = true

count_every : (history : List Entry) → length (filter every history) ≡ length history
count_every [] = refl
count_every (entry ∷ rest) = omega (arith, count_cons every entry rest, count_every rest)

-- ---- tags, counted

-- 1 for a number below another, else 0
abbrev below : ℕ → ℕ → ℕ
below tag zero = 0
below zero (suc end) = 1
below (suc tag) (suc end) = below tag end

-- 1 for a number that is another, else 0
abbrev same : ℕ → ℕ → ℕ
same zero zero = 1
same zero (suc end) = 0
same (suc tag) zero = 0
same (suc tag) (suc end) = same tag end

below_more : (tag end : ℕ) → below tag (suc end) ≡ below tag end + same tag end
below_more zero zero = omega arith
below_more zero (suc end) = omega arith
below_more (suc tag) zero = omega arith
below_more (suc tag) (suc end) = below_more tag end

below_yes : (tag end : ℕ) → tag < end → below tag end ≡ 1
below_yes tag zero lt = absurd (omega arith)
below_yes zero (suc end) lt = refl
below_yes (suc tag) (suc end) lt = below_yes tag end (omega arith)

same_yes : (tag : ℕ) → same tag tag ≡ 1
same_yes zero = refl
same_yes (suc tag) = same_yes tag

same_no : (tag end : ℕ) → tag ≢ end → same tag end ≡ 0
same_no zero zero other = absurd (other refl)
same_no zero (suc end) other = refl
same_no (suc tag) zero other = refl
same_no (suc tag) (suc end) other = same_no tag end (λ is. other (ap suc is))

differ : false ≡ true → ⊥
differ is = absurd cc

-- a number that counts if something is so
zero_if : (counts : Bool) (n : ℕ) → (counts ≡ true → n ≡ 0) → cond counts n 0 ≡ 0
zero_if true n is = is refl
zero_if false n is = refl

one_if : (counts : Bool) (n : ℕ) → counts ≡ true → n ≡ 1 → cond counts n 0 ≡ 1
one_if true n so is = is
one_if false n so is = absurd (differ so)

same_if : (counts : Bool) (n m : ℕ) → n ≡ m → cond counts n 0 ≡ cond counts m 0
same_if counts n m is = ap (λ k. cond counts k 0) is

sum_if : (counts : Bool) (n k m : ℕ) → n ≡ k + m → cond counts n 0 ≡ cond counts k 0 + cond counts m 0
sum_if true n k m is = is
sum_if false n k m is = omega arith

-- the sum of a number for the tag of each entry that counts
abbrev tally : (Entry → Bool) → (ℕ → ℕ) → List Entry → ℕ
tally counts f [] = 0
tally counts f (entry ∷ rest) = cond (counts entry) (f entry.tag) 0 + tally counts f rest

tally_more : (counts : Entry → Bool) (history : List Entry) (end : ℕ)
    → tally counts (λ tag. below tag (suc end)) history
    ≡ tally counts (λ tag. below tag end) history + tally counts (λ tag. same tag end) history
tally_more counts [] end = omega arith
tally_more counts (entry ∷ rest) end =
    let one = sum_if (counts entry) (below entry.tag (suc end)) (below entry.tag end) (same entry.tag end)
    (below_more entry.tag end) in
    omega (arith, one, tally_more counts rest end)

tally_none : (counts : Entry → Bool) (history : List Entry) → tally counts (λ tag. below tag 0) history ≡ 0
tally_none counts [] = refl
tally_none counts (entry ∷ rest) =
    let one = zero_if (counts entry) 0 (λ so. refl) in
    omega (arith, one, tally_none counts rest)

tally_all : (counts : Entry → Bool) (history : List Entry) (end : ℕ)
    → ((place : ℕ) (entry : Entry) → slice_get history place ≡ Some entry → entry.tag < end)
    → tally counts (λ tag. below tag end) history ≡ length (filter counts history)
tally_all counts [] end all = refl
tally_all counts (entry ∷ rest) end all =
    let one = same_if (counts entry) (below entry.tag end) 1 (below_yes entry.tag end (all 0 entry refl)) in
    let more = tally_all counts rest end (λ place other at. all (suc place) other at) in
    omega (arith, one, more, count_cons counts entry rest)

absent : (counts : Entry → Bool) (history : List Entry) (tag : ℕ)
    → ((place : ℕ) (entry : Entry) → slice_get history place ≡ Some entry → counts entry ≡ true → entry.tag ≢ tag)
    → tally counts (λ t. same t tag) history ≡ 0
absent counts [] tag none = refl
absent counts (entry ∷ rest) tag none =
    let one = zero_if (counts entry) (same entry.tag tag) (λ so. same_no entry.tag tag (none 0 entry refl so)) in
    let more = absent counts rest tag (λ place other at. none (suc place) other at) in
    omega (arith, one, more)

once : (counts : Entry → Bool) (history : List Entry) (tag place : ℕ) (entry : Entry) → HaveOwnTags history
    → slice_get history place ≡ Some entry → entry.tag ≡ tag → counts entry ≡ true → tally counts (λ t. same t tag) history ≡ 1
once counts [] tag place entry own at is so = absurd (none-some entry at)
once counts (first ∷ rest) tag zero entry own at is so =
    let found : first ≡ entry = get_or_from_slice_get (first ∷ rest) 0 entry first at in
    let tagged : first.tag ≡ tag = ap (λ e. e.tag) found ∙ is in
    let one = one_if (counts first) (same first.tag tag) (ap counts found ∙ so)
    (subst (λ t. same first.tag t ≡ 1) tagged (same_yes first.tag)) in
    let none = absent counts rest tag
    (λ place other there so equal. absurd (apart (own 0 (suc place) first other refl there (tagged ∙ sym equal)))) in
    omega (arith, one, none)
  where
    apart : {place : ℕ} → 0 ≡ suc place → ⊥
    apart is = absurd (omega arith)
once counts (first ∷ rest) tag (suc place) entry own at is so =
    let one = zero_if (counts first) (same first.tag tag)
    (λ counted. same_no first.tag tag (λ equal. absurd (apart (own 0 (suc place) first entry refl at (equal ∙ sym is))))) in
    let more = once counts rest tag place entry (λ p q e f there also equal. less (own (suc p) (suc q) e f there also equal)) at
    is so in
    omega (arith, one, more)
  where
    apart : {place : ℕ} → 0 ≡ suc place → ⊥
    apart is = absurd (omega arith)

    less : {p q : ℕ} → suc p ≡ suc q → p ≡ q
    less is = omega arith

-- ---- a round

same_some : {A : Type 0} (x y : A) → Some x ≡ Some y → x ≡ y
same_some x y is = grind (arith, is)

element : {A : Type 0} (list : List A) (place : ℕ) → place < length list → (x : A) × (slice_get list place ≡ Some x)
element [] place lt = absurd (omega arith)
element (x ∷ rest) zero lt = (x, refl)
element (x ∷ rest) (suc place) lt = element rest place (omega arith)

-- an outcome that counts has an entry, and both count or neither does
record AreCounted (is_counted : Outcome → Bool) (counts : Entry → Bool) : Type 0 where
  has : (outcome : Outcome) → is_counted outcome ≡ true → is_exchanged outcome ≡ true
  agree : (clients : List Client) (number : ℕ) (timed : Timed) (outcome : Outcome) (entry : Entry)
      → IsEntryOf clients number timed outcome entry → is_counted outcome ≡ counts entry

exchanges_counted : AreCounted is_exchanged every
exchanges_counted = record { has = λ outcome so. so; agree = agree }
  where
    agree : (clients : List Client) (number : ℕ) (timed : Timed) (outcome : Outcome) (entry : Entry)
        → IsEntryOf clients number timed outcome entry → is_exchanged outcome ≡ every entry
    agree clients number timed (Dropped discard) entry of = absurd of.sent
    agree clients number timed Busy entry of = refl
    agree clients number timed NoMemory entry of = absurd of.sent
    agree clients number timed (Reply frame) entry of = refl

replies_counted : AreCounted is_replied (λ entry. is_reply entry.answer)
replies_counted = record { has = has; agree = agree }
  where
    has : (outcome : Outcome) → is_replied outcome ≡ true → is_exchanged outcome ≡ true
    has (Dropped discard) so = absurd (differ so)
    has Busy so = refl
    has NoMemory so = absurd (differ so)
    has (Reply frame) so = refl

    agree : (clients : List Client) (number : ℕ) (timed : Timed) (outcome : Outcome) (entry : Entry)
        → IsEntryOf clients number timed outcome entry → is_replied outcome ≡ is_reply entry.answer
    agree clients number timed (Dropped discard) entry of = absurd of.sent
    agree clients number timed Busy entry of = sym (ap is_reply of.sent)
    agree clients number timed NoMemory entry of = absurd of.sent
    agree clients number timed (Reply frame) entry of = sym (ap is_reply of.sent.1)

-- the entry of an outcome that is that of an exchange
entry_of : (clients : List Client) (history : List Entry) (number : ℕ) (timed : Timed) (outcome : Outcome)
    → IsOutcome clients (HasEntry history) number timed outcome → is_exchanged outcome ≡ true
    → (entry : Entry) × HasEntry history entry × IsEntryOf clients number timed outcome entry
entry_of clients history number timed (Dropped discard) is exchanged = absurd (differ exchanged)
entry_of clients history number timed Busy is exchanged = is
entry_of clients history number timed NoMemory is exchanged = absurd (differ exchanged)
entry_of clients history number timed (Reply frame) is exchanged = is

-- a round has an entry that counts for each outcome that does
counted_in_round : (is_counted : Outcome → Bool) (counts : Entry → Bool) → AreCounted is_counted counts
    → (before : Server) (arrivals : List Timed) (outcomes : List Outcome) (history : List Entry) (after : Server)
    → Round before arrivals outcomes history after → length (filter counts history) ≡ length (filter is_counted outcomes)
counted_in_round is_counted counts counted before arrivals outcomes history after round =
    sym (tally_all counts history (length outcomes) within) ∙ up_to (length outcomes) (omega arith)
    ∙ ap (λ list. length (filter is_counted list)) (take_all (length outcomes) outcomes (omega arith))
  where
    clients : List Client
    clients = before.configuration.clients

    entry_at : (place : ℕ) (entry : Entry) → slice_get history place ≡ Some entry → HasArrival clients arrivals outcomes entry
    entry_at place entry at = subst (HasArrival clients arrivals outcomes) (get_or_from_slice_get history place entry entry at)
        (round.entries place entry (slice_get_within history place entry at))

    within : (place : ℕ) (entry : Entry) → slice_get history place ≡ Some entry → entry.tag < length outcomes
    within place entry at = let found = entry_at place entry at in
        slice_get_within outcomes entry.tag found.outcome found.outcome_is

    -- the entries that count, with the tag of an outcome
    tagged : (number : ℕ) (outcome : Outcome) → slice_get outcomes number ≡ Some outcome → (so : Bool) → is_counted outcome ≡ so
        → tally counts (λ tag. same tag number) history ≡ cond so 1 0
    tagged number outcome at true is =
        let short = slice_get_within outcomes number outcome at in
        let found = element arrivals number (subst (λ n. number < n) round.count short) in
        let timed = found.0 in
        let answered = round.answered number timed found.1 in
        let equal : answered.0 ≡ outcome = same_some answered.0 outcome (sym answered.1 ∙ at) in
        let entry = entry_of clients history number timed outcome
        (subst (IsOutcome clients (HasEntry history) number timed) equal answered.2)
        (counted.has outcome is) in
        once counts history number entry.1.0 entry.0 round.tags entry.1.1 entry.2.asked.has_tag
        (sym (counted.agree clients number timed outcome entry.0 entry.2) ∙ is)
    tagged number outcome at false is = absent counts history number (λ place entry there so equal.
        let found = entry_at place entry there in
        let one : outcome ≡ found.outcome =
        same_some outcome found.outcome (sym at ∙ ap (slice_get outcomes) (sym equal) ∙ found.outcome_is) in
        absurd (differ (sym is ∙ ap is_counted one ∙ counted.agree clients entry.tag found.timed found.outcome entry found.entry_of
        ∙ so)))

    up_to : (end : ℕ) → end ≤ length outcomes
        → tally counts (λ tag. below tag end) history ≡ length (filter is_counted (take end outcomes))
    up_to zero le = tally_none counts history
    up_to (suc end) le =
        let outcome = get_or outcomes end NoMemory in
        let one = tagged end outcome (slice_get-get_or outcomes end NoMemory (omega arith)) (is_counted outcome) refl in
        let next : suc end ≡ end + 1 = omega arith in
        let taken = ap (λ n. length (filter is_counted (take n outcomes))) next in
        let last = length-filter_more is_counted outcomes end NoMemory (omega arith) in
        omega (arith, tally_more counts history end, up_to end (omega arith), last, one, taken)

-- ---- turns

no_exchange : (server : Server) → IsHistory server [] server
no_exchange server = record { configuration = refl; run = refl }

-- a history is one after which no time has passed
in_time : (before : Server) (history : List Entry) (after : Server) → IsHistory before history after → LeadsTo before history after
in_time before history after is = record {
  state = after.state;
  passed = None;
  configuration = is.configuration;
  run = is.run;
  within = tt;
  now = refl;
}

-- no entry comes before a moment
none_not_before : (passed : Option ℕ) → not_before passed [] ≡ []
none_not_before None = refl
none_not_before (Some moment) = refl

-- entries that don't come before a moment are as many, and have as many replies
as_many : (passed : Option ℕ) (history : List Entry) → length (not_before passed history) ≡ length history
as_many None history = refl
as_many (Some moment) [] = refl
as_many (Some moment) (entry ∷ rest) = refl

as_many_replies : (passed : Option ℕ) (history : List Entry) → reply_count (not_before passed history) ≡ reply_count history
as_many_replies None history = refl
as_many_replies (Some moment) [] = refl
as_many_replies (Some moment) (entry ∷ rest) = by_answer (is_reply entry.answer)
  where
    others : List Entry
    others = filter (λ e. is_reply e.answer) rest

    by_answer : (b : Bool) → length (cond b (record entry { moment = max moment entry.moment } ∷ others) others)
        ≡ length (cond b (entry ∷ others) others)
    by_answer true = refl
    by_answer false = refl

-- a round was made
pub round_made : (before : Server) (came : List Came) (drawn : List (List ℕ)) (arrivals : List Timed) (outcomes : List Outcome)
    (history : List Entry) (marks : List Bool) (after : Server) → length arrivals ≤ arrivals_max → map came_of arrivals ≡ came
    → map (λ timed. timed.draw) arrivals ≡ drawn → Round before arrivals outcomes history after
    → IsMarkedHistory before history marks after → FreshAreKept → IsConfiguration before.configuration
    → IsLawful before.configuration before.state → IsRoundMade before came drawn outcomes history marks after
round_made before came drawn arrivals outcomes history marks after few arrived drawn_are round marked fresh valid lawful = record {
  arrivals = arrivals;
  arrived = arrived;
  drawn_are = drawn_are;
  round = round;
  marked = marked;
  enough = λ wall. fresh before history marks after wall valid lawful marked;
  exchanged = sym (count_every history)
      ∙ counted_in_round is_exchanged every exchanges_counted before arrivals outcomes history after round;
  replied = counted_in_round is_replied (λ entry. is_reply entry.answer) replies_counted before arrivals outcomes history after
      round;
  few = subst (λ n. n ≤ arrivals_max) (sym round.count) few;
}

-- ---- one turn

-- a turn without a round
no_round : (before after : Server) → after ≡ before → IsHistory before [] after
no_round before after is = subst (IsHistory before []) (sym is) (no_exchange before)

-- a turn, and what it did to a journal of which these facts hold if it is clean
abbrev pub IsTurnOf : {A : Type 0} → Bool → Situation → Served → Result A ServeFault → Situation → Served → Type 0 → List Kept
    → List Kept
    → (List Kept → Type 0) → (List Kept → Type 0) → Type 0
IsTurnOf keeps before served result after served_after clean kept kept_now left left_now =
    (turn : IsCounted keeps before served result after served_after)
    × (clean → AddsTurn kept turn.tally result kept_now left left_now)

lost : {A : Type 0} (keeps : Bool) (before : Situation) (served : Served) (result : A) (after : Situation) (served_after : Served)
    (clean : Type 0) (kept : List Kept) (left : List Kept → Type 0)
    → IsLost before after ⊎ IsWithoutMemory before after → after.server ≡ before.server → AddTurn 0 0 1 served served_after
    → IsTurnOf keeps before served (Ok result) after served_after clean kept kept left left
lost keeps before served result after served_after clean kept left is server sums = (
  record {
    tally = round_lost;
    turn = inr (is, refl);
    run = no_round before.server after.server server;
    enough = λ _. leads_by_none before.server round_lost after.server server refl refl;
    settled = refl;
    sums = sums;
  },
  λ _. adds_none kept round_lost (Ok result) left refl,
)

-- a turn without memory for datagrams
pub idle_turn : {A : Type 0} (keeps : Bool) (before : Situation) (served : Served) (waited : Option (List Passage)) (result : A)
    (after : Situation)
    (served_after : Served) (clean : Type 0) (kept : List Kept) (left : List Kept → Type 0)
    → HavePassed [] before.passed waited → HavePassed [] waited after.passed
    → after.random ≡ before.random → after.server ≡ before.server → AddTurn 0 0 1 served served_after
    → IsTurnOf keeps before served (Ok result) after served_after clean kept kept left left
idle_turn keeps before served waited result after served_after clean kept left first later random server sums =
    lost keeps before served result after served_after clean kept left (inr (record {
      passed = both_passed [] [] before.passed waited after.passed first later;
      random = random;
      server = server;
    })) server sums

-- a turn whose round is lost
pub lost_turn : {A : Type 0} (keeps : Bool) (before : Situation) (served : Served) (came : List Came) (drawn : List (List ℕ))
    (passed : Option (List Passage)) (result : A) (after : Situation) (served_after : Served) (clean : Type 0) (kept : List Kept)
    (left : List Kept → Type 0) → HasDrawn before came drawn after.random passed
    → HavePassed [] passed after.passed → after.server ≡ before.server
    → AddTurn 0 0 1 served served_after → IsTurnOf keeps before served (Ok result) after served_after clean kept kept left left
lost_turn keeps before served came drawn passed result after served_after clean kept left has paused server sums =
    lost keeps before served result after served_after clean kept left (inl (record {
      came = came;
      passed = both_passed (map In came ++ emptied came) [] before.passed passed after.passed has.passed_is paused;
      random = has.random_is;
      server = server;
    })) server sums

-- a turn whose round isn't made
pub cut_short : {A : Type 0} (keeps : Bool) (before : Situation) (served : Served) (came : List Came)
    (waited : Option (List Passage))
    (receiving : Result (Unit {0}) PortFault) (after : Situation) (served_after : Served) (clean : Type 0) (kept : List Kept)
    (left : List Kept → Type 0) → is_err receiving ≡ true
    → HavePassed [] before.passed waited → HavePassed (received_all receiving came) waited after.passed
    → after.random ≡ before.random → after.server ≡ before.server
    → IsTurnOf {A = A} keeps before served (Err faults.Receive) after served_after clean kept kept left left
cut_short keeps before served came waited (Ok done) after served_after clean kept left failed first later random server = absurd cc
cut_short {A} keeps before served came waited (Err fault) after served_after clean kept left failed first later random server = (
  record {
    tally = nothing_done;
    turn = (
      record {
        came = came;
        passed = both_passed [] (map In came ++ Fault ∷ []) before.passed waited after.passed first later;
        random = random;
        server = server;
      },
      refl,
    );
    run = no_round before.server after.server server;
    enough = λ _. leads_by_none before.server nothing_done after.server server refl refl;
    settled = tt;
    sums = tt;
  },
  λ _. adds_none {A = A} kept nothing_done (Err faults.Receive) left refl,
)

-- a round is made of what came, and this is to be kept of it
answered : (keeps : Bool) (before : Situation) (came : List Came) (drawn : List (List ℕ)) (outcomes : List Outcome)
    (history : List Entry)
    (marks : List Bool) (wall : ℕ) (passed : Option (List Passage)) (after : Situation)
    → HasDrawn before came drawn after.random passed
    → IsRoundMade before.server came drawn outcomes history marks after.server
    → IsAnswered keeps before came outcomes history
    (added keeps (kept_of wall (fresh_of before.server.state.clock history marks))) after
answered keeps before came drawn outcomes history marks wall passed after has round = record {
  arrivals = round.arrivals;
  marks = marks;
  wall = wall;
  arrived = round.arrived;
  drawn = round.drawn_are ∙ has.drawn_are;
  random = has.random_is;
  round = round.round;
  marked = round.marked;
  fresh = refl;
}

-- a turn whose round is made and kept
made : (keeps : Bool) (before : Situation) (came : List Came) (drawn : List (List ℕ)) (outcomes listed : List Outcome)
    (history : List Entry)
    (marks : List Bool) (wall : ℕ) (passed : Option (List Passage)) (result : Result (Unit {0}) PortFault) (after : Situation)
    → HasDrawn before came drawn after.random passed
    → IsRoundMade before.server came drawn outcomes history marks after.server → listed ≡ outcomes
    → (sent : AreSent (replies came listed) result passed after.passed)
    → IsMade keeps before history (added keeps (kept_of wall (fresh_of before.server.state.clock history marks))) sent.left after
made keeps before came drawn outcomes listed history marks wall passed result after has round is sent = record {
  came = came;
  went = sent.went;
  outcomes = outcomes;
  answered = answered keeps before came drawn outcomes history marks wall passed after has round;
  passed = both_passed (map In came ++ emptied came) (map Out sent.went ++ stopped sent.left) before.passed passed after.passed
      has.passed_is sent.passed;
  replied = sent.replied ∙ ap (replies came) is;
}

-- what a commit to a journal did, if it is clean: it added this, and a crash leaves what it left before or that
pub record IsCommitted (added : List Kept) (kept kept_now : List Kept) (left left_now : List Kept → Type 0) : Type 0 where
  pub now : kept_now ≡ kept ++ added
  pub crash : (one : List Kept) → left_now one → left one ⊎ (one ≡ kept ++ added)

-- what is kept of the same entries with the same marks since the same clock is the same
pub same_fresh : (clock now : ℕ) (listed history : List Entry) (noted marks : List Bool) → clock ≡ now → listed ≡ history
    → noted ≡ marks
    → fresh_of clock listed noted ≡ fresh_of now history marks
same_fresh clock now listed history noted marks clocks entries both =
    ap (λ n. fresh_of n listed noted) clocks ∙ ap (λ list. fresh_of now list noted) entries
    ∙ ap (λ list. fresh_of now history list) both

pub made_turn : {A : Type 0} (keeps : Bool) (before : Situation) (served : Served) (came : List Came) (drawn : List (List ℕ))
    (outcomes listed : List Outcome) (history : List Entry) (marks : List Bool) (wall : ℕ)
    (passed : Option (List Passage)) (sending : Result (Unit {0}) PortFault) (result : A) (after : Situation)
    (served_after : Served)
    (clean : Type 0) (kept kept_now : List Kept) (left left_now : List Kept → Type 0)
    → is_err sending ≡ false → HasDrawn before came drawn after.random passed
    → IsRoundMade before.server came drawn outcomes history marks after.server → listed ≡ outcomes
    → AreSent (replies came listed) sending passed after.passed
    → AddTurn (exchange_count outcomes) (replied_count outcomes) 0 served served_after
    → (clean → IsCommitted (added keeps (kept_of wall (fresh_of before.server.state.clock history marks))) kept kept_now left
    left_now)
    → IsTurnOf keeps before served (Ok result) after served_after clean kept kept_now left left_now
made_turn keeps before served came drawn outcomes listed history marks wall passed (Err fault) result after served_after clean kept
    kept_now left left_now ok has round is sent sums committed = absurd cc
made_turn keeps before served came drawn outcomes listed history marks wall passed (Ok done) result after served_after clean kept
    kept_now left left_now ok has round is sent sums committed =
    let all = kept_of wall (fresh_of before.server.state.clock history marks) in
    let tally : Tally = record { history = history; lost = 0; kept = added keeps all; unkept = [] } in (
      record {
        tally = tally;
        turn = inl (
          subst (λ left. IsMade keeps before history (added keeps all) left after) sent.none_left
              (made keeps before came drawn outcomes listed history marks wall passed (Ok done) after has round is sent),
          refl,
          refl,
        );
        run = round.round.run;
        enough = leads_by_turn keeps before.server all tally after.server (round.enough wall) refl refl;
        settled = refl;
        sums = subst (λ n. AddTurn n (reply_count history) 0 served served_after) (sym round.exchanged)
            (subst (λ n. AddTurn (exchange_count outcomes) n 0 served served_after) (sym round.replied) sums);
      },
      λ is_clean. let done = committed is_clean in adds_all kept tally (Ok result) kept_now left left_now refl done.now done.crash,
    )

-- a turn whose round is made and kept, but whose replies aren't all sent
some_left : (keeps : Bool) (before : Situation) (tally : Tally) (left : List Went) (after : Situation) → tally.lost ≡ 0
    → tally.unkept ≡ []
    → (left ≡ [] → ⊥) → IsMade keeps before tally.history tally.kept left after
    → (next : Went) × (rest : List Went) × IsMade keeps before tally.history tally.kept (next ∷ rest) after × (tally.lost ≡ 0)
    × (tally.unkept ≡ [])
some_left keeps before tally [] after none settled some is = absurd (some refl)
some_left keeps before tally (next ∷ rest) after none settled some is = (next, rest, is, none, settled)

pub unsent_turn : {A : Type 0} (keeps : Bool) (before : Situation) (served : Served) (came : List Came) (drawn : List (List ℕ))
    (outcomes listed : List Outcome) (history : List Entry) (marks : List Bool) (wall : ℕ)
    (passed : Option (List Passage)) (sending : Result (Unit {0}) PortFault) (after : Situation) (served_after : Served)
    (clean : Type 0) (kept kept_now : List Kept) (left left_now : List Kept → Type 0)
    → is_err sending ≡ true → HasDrawn before came drawn after.random passed
    → IsRoundMade before.server came drawn outcomes history marks after.server → listed ≡ outcomes
    → AreSent (replies came listed) sending passed after.passed
    → (clean → IsCommitted (added keeps (kept_of wall (fresh_of before.server.state.clock history marks))) kept kept_now left
    left_now)
    → IsTurnOf {A = A} keeps before served (Err faults.Send) after served_after clean kept kept_now left left_now
unsent_turn keeps before served came drawn outcomes listed history marks wall passed (Ok done) after served_after clean kept
    kept_now left left_now failed has round is sent committed = absurd cc
unsent_turn {A} keeps before served came drawn outcomes listed history marks wall passed (Err fault) after served_after clean kept
    kept_now left left_now failed has round is sent committed =
    let all = kept_of wall (fresh_of before.server.state.clock history marks) in
    let tally : Tally = record { history = history; lost = 0; kept = added keeps all; unkept = [] } in (
      record {
        tally = tally;
        turn = some_left keeps before tally sent.left after refl refl sent.some_left
            (made keeps before came drawn outcomes listed history marks wall passed (Err fault) after has round is sent);
        run = round.round.run;
        enough = leads_by_turn keeps before.server all tally after.server (round.enough wall) refl refl;
        settled = tt;
        sums = tt;
      },
      λ is_clean. let done = committed is_clean in
          adds_all {A = A} kept tally (Err faults.Send) kept_now left left_now refl done.now done.crash,
    )

-- a turn whose round is made, but perhaps not kept
pub unkept_turn : {A : Type 0} (keeps : Bool) (before : Situation) (served : Served) (came : List Came) (drawn : List (List ℕ))
    (outcomes : List Outcome) (history : List Entry) (marks : List Bool) (wall : ℕ)
    (fault : JournalFault) (after : Situation) (served_after : Served)
    (clean : Type 0) (kept kept_now : List Kept) (left left_now : List Kept → Type 0)
    → HasDrawn before came drawn after.random after.passed
    → IsRoundMade before.server came drawn outcomes history marks after.server → IsTrue keeps
    → (clean → (one : List Kept) → left_now one
    → left one ⊎ (one ≡ kept ++ added keeps (kept_of wall (fresh_of before.server.state.clock history marks))))
    → IsTurnOf {A = A} keeps before served (Err (faults.Journal fault)) after served_after clean kept kept_now left left_now
unkept_turn {A} keeps before served came drawn outcomes history marks wall fault after served_after clean kept kept_now left
    left_now has round fails crash =
    let all = kept_of wall (fresh_of before.server.state.clock history marks) in
    let tally : Tally = record { history = history; lost = 0; kept = []; unkept = added keeps all } in (
      record {
        tally = tally;
        turn = (
          record {
            came = came;
            outcomes = outcomes;
            answered = answered keeps before came drawn outcomes history marks wall after.passed after has round;
            passed = subst (λ list. HavePassed list before.passed after.passed) (sym (append-nil (map In came ++ emptied came)))
                has.passed_is;
            fails = fails;
          },
          refl,
          refl,
        );
        run = round.round.run;
        enough = leads_by_unkept keeps before.server all tally after.server (round.enough wall) refl refl;
        settled = tt;
        sums = tt;
      },
      λ is_clean. adds_some {A = A} kept tally fault kept_now left left_now refl (crash is_clean),
    )

-- ---- between turns

-- time passes up to a moment that the ports told
pub between_by : (before after : Server) (passed passed_after : Option (List Passage)) (moment : Option ℕ)
    → HavePassed (clock_told moment) passed passed_after → IfSome moment (λ m. m ≤ moment_max)
    → after.configuration ≡ before.configuration
    → after.state ≡ when_passed moment before.state → IsBetween before passed after passed_after
between_by before after passed passed_after moment told small same is = record {
  moment = moment;
  told = told;
  within = small;
  configuration = same;
  state = is;
}

-- nothing is done
pub none_between : (before after : Server) (passed passed_after : Option (List Passage)) → HavePassed [] passed passed_after
    → after ≡ before
    → IsBetween before passed after passed_after
none_between before after passed passed_after none is =
    between_by before after passed passed_after None none tt (ap (λ s. s.configuration) is) (ap (λ s. s.state) is)

leads_between : (before after : Server) (passed passed_after : Option (List Passage)) → IsBetween before passed after passed_after
    → LeadsTo before [] after
leads_between before after passed passed_after is = record {
  state = before.state;
  passed = is.moment;
  configuration = is.configuration;
  run = refl;
  within = is.within;
  now = is.state;
}

-- ---- turns

-- turns so far, and what they kept of a journal of which this holds if it is clean
abbrev pub AreKeptSoFar : Bool → Situation → Served → Situation → Type 0 → List Kept → List Kept → Type 0
AreKeptSoFar keeps before served after clean kept kept_now =
    (so_far : AreTurnsSoFar keeps before served after) × (clean → kept_now ≡ kept ++ so_far.tally.kept)

-- no turn yet
pub none_add_up : AddUp no_sums
none_add_up = record { rounds = omega arith; most = omega arith; once = omega arith; lost = omega arith; each = λ _. refl }

pub nothing_served : (keeps : Bool) (situation : Situation) (served : Served) (clean : Type 0) (kept : List Kept)
    → served.replies + served.busy ≡ 0 → served.failed ≡ 0 → served.rounds ≡ 0
    → AreKeptSoFar keeps situation served situation clean kept kept
nothing_served keeps situation served clean kept none no_lost no_rounds = (
  record {
    tally = nothing_done;
    turned = subst (λ n. AreTurns keeps situation n nothing_done (Ok tt) situation) (sym no_rounds) no_turn;
    run = in_time situation.server [] situation.server (no_exchange situation.server);
    enough = λ _. leads_nowhere situation.server;
    settled = refl;
    failed = no_lost;
    replied = omega (arith, none);
    exchanged = none;
  },
  λ _. sym (append-nil kept),
)

-- one more turn, and what is done after it
pub one_more_turn : {A : Type 0} (keeps : Bool) (before : Situation) (served : Served) (middle : Situation) (result : A)
    (after : Situation)
    (served_after : Served) (server : Server) (passed : Option (List Passage)) (clean : Type 0)
    (kept kept_middle kept_now : List Kept)
    (left left_now : List Kept → Type 0) → HistoriesAfterTime → KeptLeadOn → KeptLastOverTime
    → (so_far : AreTurnsSoFar keeps before served middle) → (clean → kept_middle ≡ kept ++ so_far.tally.kept)
    → IsTurnOf keeps middle served (Ok result) after served_after clean kept_middle kept_now left left_now
    → IsBetween after.server after.passed server passed
    → AreKeptSoFar keeps before served_after (record { server = server; random = after.random; passed = passed }) clean kept
    kept_now
one_more_turn {A} keeps before served middle result after served_after server passed clean kept kept_middle kept_now left left_now
    joins leads_on lasts so_far was (turn, adds) is =
    let more : List Entry = not_before so_far.run.passed turn.tally.history in
    let tally : Tally = with_turn so_far.run.passed so_far.tally turn.tally in
    let run : LeadsTo before.server tally.history after.server =
    joins before.server middle.server after.server so_far.tally.history turn.tally.history so_far.run
    (in_time middle.server turn.tally.history after.server turn.run) in
    let later : LeadsTo before.server (tally.history ++ not_before run.passed []) server =
    joins before.server after.server server tally.history [] run (leads_between after.server server after.passed passed is) in (
      record {
        tally = tally;
        turned = between server passed
            (subst (λ n. AreTurns keeps before n tally (Ok tt) after) (sym turn.sums.rounds)
            (one_more turn.tally so_far.run so_far.turned turn.turn)) is;
        run = subst (λ list. LeadsTo before.server list server)
            (ap (λ list. tally.history ++ list) (none_not_before run.passed) ∙ append-nil tally.history) later;
        enough = λ keeping. leads_in_time before.server after.server server after.passed passed tally.kept lasts
            (leads_on before.server middle.server after.server so_far.tally.kept turn.tally.kept (so_far.enough keeping)
            (leads_settled leads_on middle.server turn.tally after.server turn.settled (turn.enough keeping))) is;
        settled = turn.settled;
        failed = omega (arith, turn.sums.failed, so_far.failed);
        replied = omega (
          arith,
          turn.sums.replied,
          so_far.replied,
          as_many_replies so_far.run.passed turn.tally.history,
          count_append (λ entry. is_reply entry.answer) so_far.tally.history more,
        );
        exchanged = omega (
          arith,
          turn.sums.exchanged,
          so_far.exchanged,
          as_many so_far.run.passed turn.tally.history,
          length-append so_far.tally.history more,
        );
      },
      λ is_clean.
          let added : kept_now ≡ kept_middle ++ turn.tally.kept = (adds is_clean).now in
          added ∙ ap (λ list. list ++ turn.tally.kept) (was is_clean) ∙ append_assoc kept so_far.tally.kept turn.tally.kept,
    )

-- all turns that were made, and what they did to a journal of which these facts hold if it is clean and was open
abbrev pub IsServedOf : Bool → ℕ → Situation → Result Served ServeFault → Situation → Type 0 → Type 0 → List Kept → List Kept
    → (List Kept → Type 0) → Type 0
IsServedOf keeps turns before result after clean opened kept kept_now may_leave =
    (served : IsServed keeps turns before result after) × (clean → opened → Outlives kept served.tally result kept_now may_leave)

-- all turns
pub served_all : (keeps : Bool) (turns : ℕ) (before : Situation) (served : Served) (after : Situation) (clean opened : Type 0)
    (kept kept_now : List Kept) (may_leave : List Kept → Type 0) → RunsRepeat → RunsAreLawful
    → IsConfiguration before.server.configuration → IsLawful before.server.configuration before.server.state
    → (so_far : AreTurnsSoFar keeps before served after) → (clean → kept_now ≡ kept ++ so_far.tally.kept)
    → (clean → opened → (left : List Kept) → may_leave left → left ≡ kept_now) → AddUp served → served.rounds ≡ turns
    → IsServedOf keeps turns before (Ok served) after clean opened kept kept_now may_leave
served_all keeps turns before served after clean opened kept kept_now may_leave repeats laws valid lawful so_far was settled sums
    rounds = (
      record {
        made = served.rounds;
        tally = so_far.tally;
        turned = so_far.turned;
        most = omega (arith, rounds);
        all = rounds;
        run = so_far.run;
        repeat = repeats before.server.configuration before.server.state so_far.tally.history valid lawful;
        lawful = laws before.server.configuration before.server.state so_far.tally.history valid lawful;
        enough = λ is. leads_by_turn true before.server so_far.tally.kept so_far.tally after.server (so_far.enough is) refl
            so_far.settled refl;
        settled = so_far.settled;
        sums = record {
          rounds = rounds;
          failed = so_far.failed;
          replies = so_far.replied;
          exchanged = so_far.exchanged;
          datagrams = sums.each;
        };
      },
      λ is_clean was_open. outlives_all kept so_far.tally served kept_now may_leave (was is_clean) (settled is_clean was_open),
    )

-- turns until a fault
pub served_until : {A : Type 0} (keeps : Bool) (turns : ℕ) (before : Situation) (served : Served) (middle : Situation)
    (fault reported : ServeFault)
    (after : Situation) (served_after : Served) (clean opened : Type 0) (kept kept_middle kept_now : List Kept)
    (left left_now : List Kept → Type 0)
    → RunsRepeat → RunsAreLawful → HistoriesAfterTime → KeptLeadOn
    → IsConfiguration before.server.configuration → IsLawful before.server.configuration before.server.state
    → (so_far : AreTurnsSoFar keeps before served middle) → (clean → kept_middle ≡ kept ++ so_far.tally.kept)
    → served.rounds < turns → reported ≡ fault
    → IsTurnOf {A = A} keeps middle served (Err fault) after served_after clean kept_middle kept_now left left_now
    → (clean → opened → (one : List Kept) → left one → one ≡ kept_middle)
    → (clean → opened → UnlessJournal {A = A} (Err fault) ((one : List Kept) → left_now one → one ≡ kept_now))
    → IsServedOf keeps turns before (Err reported) after clean opened kept kept_now left_now
served_until {A} keeps turns before served middle fault reported after served_after clean opened kept kept_middle kept_now left
    left_now repeats laws joins leads_on valid lawful so_far was fewer is (turn, adds) settled still =
    let total : Tally = with_turn so_far.run.passed so_far.tally turn.tally in
    subst (λ f. IsServedOf keeps turns before (Err f) after clean opened kept kept_now left_now) (sym is) (
      record {
        made = served.rounds + 1;
        tally = total;
        turned = one_more turn.tally so_far.run so_far.turned turn.turn;
        most = omega (arith, fewer);
        all = tt;
        run = joins before.server middle.server after.server so_far.tally.history turn.tally.history so_far.run
            (in_time middle.server turn.tally.history after.server turn.run);
        repeat = repeats before.server.configuration before.server.state total.history valid lawful;
        lawful = laws before.server.configuration before.server.state total.history valid lawful;
        enough = λ keeping.
            let last = turn.enough keeping in record {
              middle = last.middle;
              kept = leads_on before.server middle.server last.middle so_far.tally.kept turn.tally.kept (so_far.enough keeping)
                  last.kept;
              unkept = last.unkept;
            };
        settled = tt;
        sums = tt;
      },
      λ is_clean was_open. outlives_until {A = A} keeps middle after kept kept_middle kept_now so_far.tally.kept turn.tally fault
          total left left_now turn.turn
          (adds is_clean) (was is_clean) refl refl (settled is_clean was_open) (still is_clean was_open),
    )

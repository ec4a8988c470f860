-- What went in turns is replies to the entries of their rounds.
use Rattle.std.proofs.Common.{◌≡◌, ℕ, suc, Bool, true, false, if◌then◌else◌, nat_lt, List, [], ◌∷◌, ◌++◌, map, drop, length, All}
use Rattle.std.proofs.Common.{Option, Some, None, slice_get, refl, sym, ap, subst, ◌∙◌}
use Rattle.std.proofs.lemmas.List.{append-nil}
use Rattle.std.proofs.lemmas.List.Elements.{All-append, All-cons, All-head, All-nil, All-tail}
use Rattle.rad_auth.specs.Clients.{Client}
use Rattle.rad_auth.specs.Datagrams.{Datagram, datagram_of}
use Rattle.rad_server.specs.declared.entry.Entry.{Entry}
use Rattle.rad_round.specs.Rounds.{AreOutcomes, HasEntry, IsOutcome, arrivals_max}
use Rattle.rad_round.specs.declared.outcome.Outcome.{Outcome}
use Rattle.rad_round.specs.declared.outcome.Outcome.TheVariants.{Dropped, Busy, NoMemory, Reply}
use Rattle.rad_round.specs.declared.timed.Timed.{Timed}
use Rattle.rad_journal.proofs.OriginLemmas.{admitted_of}
use Rattle.rad_shell.specs.Passages.{Came, Empty, Fault, HavePassed, In, Now, Out, Passage, Went, clock_told}
use Rattle.rad_shell.specs.Serving.{came_of, emptied, passages, replies, reply_to, stopped}
use Rattle.rad_serve.specs.Lives.{IsReplyIn, IsReplyOf, went_among, went_since}

-- ---- the replies of a round

abbrev AreRepliesIn : List Client → List Entry → List Went → Type 0
AreRepliesIn clients history sent = All (IsReplyIn clients history) sent

-- the reply to an arrival, if its outcome is one
reply_in : (clients : List Client) (history : List Entry) (number : ℕ) (timed : Timed) (outcome : Outcome)
    → IsOutcome clients (HasEntry history) number timed outcome → AreRepliesIn clients history (reply_to (came_of timed) outcome)
reply_in clients history number timed (Dropped discard) is = All-nil (IsReplyIn clients history)
reply_in clients history number timed Busy is = All-nil (IsReplyIn clients history)
reply_in clients history number timed NoMemory is = All-nil (IsReplyIn clients history)
reply_in clients history number timed (Reply frame) (entry, has, of) =
    let origin = admitted_of clients (datagram_of timed.arrival) of.request of.admitted in
    let went : Went =
    record { door = timed.arrival.door; address = timed.arrival.source; port = timed.arrival.port; octets = frame } in
    let is : IsReplyOf clients entry went = record {
      request = of.request;
      own = sym of.asked.has_request;
      admitted = of.own;
      sent = of.sent;
      door = sym (ap (λ (d : Datagram). d.door) of.asked.has_request ∙ origin.door);
      address = sym (ap (λ (d : Datagram). d.source) of.asked.has_request ∙ origin.source);
      port = sym (ap (λ (d : Datagram). d.port) of.asked.has_request ∙ origin.port);
    } in
    All-cons (IsReplyIn clients history) went [] (entry, has, is) (All-nil (IsReplyIn clients history))

same_outcome : (a b : Outcome) → Some a ≡ Some b → a ≡ b
same_outcome a b is = cc is

-- each arrival, which counts from a number, has an outcome
abbrev HaveOutcomes : List Client → List Entry → List Timed → List Outcome → Type 0
HaveOutcomes clients history arrivals outcomes = (place : ℕ) (timed : Timed) → slice_get arrivals place ≡ Some timed
    → (outcome : Outcome) × (slice_get outcomes place ≡ Some outcome)
    × ((number : ℕ) × IsOutcome clients (HasEntry history) number timed outcome)

replies_in_all : (clients : List Client) (history : List Entry) (arrivals : List Timed) (outcomes : List Outcome)
    → HaveOutcomes clients history arrivals outcomes → AreRepliesIn clients history (replies (map came_of arrivals) outcomes)
replies_in_all clients history [] outcomes have = All-nil (IsReplyIn clients history)
replies_in_all clients history (timed ∷ arrivals) [] have = All-nil (IsReplyIn clients history)
replies_in_all clients history (timed ∷ arrivals) (outcome ∷ outcomes) have =
    let first = have 0 timed refl in
    let same : first.0 ≡ outcome = same_outcome first.0 outcome (sym first.1) in
    All-append (IsReplyIn clients history) (reply_to (came_of timed) outcome) (replies (map came_of arrivals) outcomes)
    (reply_in clients history first.2.0 timed outcome (subst (IsOutcome clients (HasEntry history) first.2.0 timed) same first.2.1))
    (replies_in_all clients history arrivals outcomes (λ place other at. have (suc place) other at))

pub replies_in : (clients : List Client) (history : List Entry) (arrivals : List Timed) (outcomes : List Outcome)
    → AreOutcomes clients arrivals outcomes history → AreRepliesIn clients history (replies (map came_of arrivals) outcomes)
replies_in clients history arrivals outcomes answered =
    replies_in_all clients history arrivals outcomes
    (λ place timed at. let found = answered place timed at in (found.0, found.1, (place, found.2)))

-- the first ones of a list
pub all_first : {X : Type 0} (P : X → Type 0) (first rest : List X) → All P (first ++ rest) → All P first
all_first P [] rest all = All-nil P
all_first P (x ∷ first) rest all =
    All-cons P x first (All-head P x (first ++ rest) all) (all_first P first rest (All-tail P x (first ++ rest) all))

-- ---- what went, among what passed

pub among_both : (first rest : List Passage) → went_among (first ++ rest) ≡ went_among first ++ went_among rest
among_both [] rest = refl
among_both (In came ∷ first) rest = among_both first rest
among_both (Out went ∷ first) rest = ap (λ list. went ∷ list) (among_both first rest)
among_both (Empty ∷ first) rest = among_both first rest
among_both (Now moment ∷ first) rest = among_both first rest
among_both (Fault ∷ first) rest = among_both first rest

pub among_in : (came : List Came) (rest : List Passage) → went_among (map In came ++ rest) ≡ went_among rest
among_in [] rest = refl
among_in (one ∷ came) rest = among_in came rest

among_out : (went : List Went) (rest : List Passage) → went_among (map Out went ++ rest) ≡ went ++ went_among rest
among_out [] rest = refl
among_out (one ∷ went) rest = ap (λ list. one ∷ list) (among_out went rest)

among_emptied : (came : List Came) → went_among (emptied came) ≡ []
among_emptied came = by_test (nat_lt (length came) arrivals_max)
  where
    by_test : (b : Bool) → went_among (if b then Empty ∷ [] else []) ≡ []
    by_test true = refl
    by_test false = refl

among_stopped : (left : List Went) → went_among (stopped left) ≡ []
among_stopped [] = refl
among_stopped (next ∷ rest) = refl

pub among_told : (moment : Option ℕ) → went_among (clock_told moment) ≡ []
among_told None = refl
among_told (Some moment) = refl

-- in a turn
pub among_turn : (came : List Came) (went left : List Went) → went_among (passages came went left) ≡ went
among_turn came went left =
    among_both (map In came ++ emptied came) (map Out went ++ stopped left)
    ∙ ap (λ list. list ++ went_among (map Out went ++ stopped left)) (among_in came (emptied came) ∙ among_emptied came)
    ∙ among_out went (stopped left) ∙ ap (λ list. went ++ list) (among_stopped left) ∙ append-nil went

drop_first : (first rest : List Passage) → drop (length first) (first ++ rest) ≡ rest
drop_first [] rest = refl
drop_first (one ∷ first) rest = drop_first first rest

-- what passed is all that went since, if the ports can tell
pub all_since : (P : Went → Type 0) (earlier : List Went) (gone : List Passage) (before after : Option (List Passage))
    → HavePassed gone before after
    → All P (earlier ++ went_among gone) → All P (earlier ++ went_since before after)
all_since P earlier gone None after passed all =
    subst (All P) (sym (append-nil earlier)) (all_first P earlier (went_among gone) all)
all_since P earlier gone (Some before) None passed all =
    subst (All P) (sym (append-nil earlier)) (all_first P earlier (went_among gone) all)
all_since P earlier gone (Some before) (Some after) passed all =
    subst (λ list. All P (earlier ++ went_among list)) (sym (ap (drop (length before)) passed ∙ drop_first before gone)) all

-- what went since the beginning is what went up to a moment, and since
pub since_both : (gone : List Passage) (before after : Option (List Passage)) → HavePassed gone before after
    → (P : Went → Type 0) → All P (went_since (Some []) before ++ went_since before after) → All P (went_since (Some []) after)
since_both gone before None passed P all = All-nil P
since_both gone None (Some after) passed P all = absurd passed
since_both gone (Some before) (Some after) passed P all =
    let rest : went_since (Some before) (Some after) ≡ went_among gone =
    ap went_among (ap (drop (length before)) passed ∙ drop_first before gone) in
    let whole : went_among after ≡ went_among before ++ went_among gone = ap went_among passed ∙ among_both before gone in
    subst (All P) (ap (λ list. went_among before ++ list) rest ∙ sym whole) all

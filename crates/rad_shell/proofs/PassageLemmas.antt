-- Passages: datagrams one after another are as they came, each has its own draw, and replies go one after another to where they
-- came from.
use Rattle.std.proofs.Common.{◌≡◌, ◌<◌, ◌≤◌, ℕ, zero, suc, ◌+◌, Bool, true, false, if◌then◌else◌, nat_lt, is_err, List, [], ◌∷◌}
use Rattle.std.proofs.Common.{◌++◌, length, map, take, drop, get_or, Option, Result, Ok, Err, Some, None, arith, refl, sym, ap}
use Rattle.std.proofs.Common.{subst, ◌∙◌, add-one}
use Rattle.std.proofs.lemmas.Bool.{lt-ltb, ltb-true}
use Rattle.std.proofs.lemmas.List.{append-nil, append_assoc, drop-append-le, length-drop, map-append, nil_from_length}
use Rattle.std.proofs.lemmas.List.{take-append-le, take_more}
use Rattle.std.proofs.lemmas.List.Sums.{sum_by-cons, sum_by-drop_more, sum_by_push}
use Rattle.std.proofs.Math.Seq.{drop-cons, drop-length}
use Rattle.rand_core.specs.Stream.{Stream, fill_bytes}
use Rattle.rad_round.specs.declared.outcome.Outcome.{Outcome}
use Rattle.rad_round.specs.declared.outcome.Outcome.TheVariants.{Dropped, Busy, NoMemory, Reply}
use Rattle.rad_round.specs.declared.timed.Timed.{Timed}
use Rattle.rad_round.specs.Rounds.{arrivals_max}
use Rattle.rad_shell.specs.Passages.{Came, Empty, Fault, HavePassed, In, Out, Passage, Went, came_by, received}
use Rattle.rad_shell.specs.Serving.{AreSent, AreSentBefore, HasDrawn, Situation, after_draws, came_in, came_of, draws, emptied}
use Rattle.rad_shell.specs.Serving.{is_replied, octet_count, received_all, replies, reply_to, stopped}
use Rattle.rad_shell.specs.declared.ports.Got.{Got}
use Rattle.rad_shell.specs.declared.ports.PortFault.{PortFault}

-- ---- what passed

-- nothing passed
pub none_passed : (before after : Option (List Passage)) → after ≡ before → HavePassed [] before after
none_passed None after is = subst (HavePassed [] None) (sym is) tt
none_passed (Some before) after is = subst (HavePassed [] (Some before)) (sym is) (sym (append-nil before))

-- these passed, and then those
pub both_passed : (first later : List Passage) (before middle after : Option (List Passage)) → HavePassed first before middle
    → HavePassed later middle after → HavePassed (first ++ later) before after
both_passed first later before middle None one two = tt
both_passed first later before None (Some after) one two = absurd two
both_passed first later None (Some middle) (Some after) one two = absurd one
both_passed first later (Some before) (Some middle) (Some after) one two =
    two ∙ ap (λ p. p ++ later) one ∙ append_assoc before first later

-- the same passed
pub passed_as : (one other : List Passage) (before after : Option (List Passage)) → one ≡ other → HavePassed one before after
    → HavePassed other before after
passed_as one other before after is passed = subst (λ list. HavePassed list before after) is passed

-- ---- datagrams, one more

pub octets_more : (got : List Got) (one : Got) → octet_count (got ++ one ∷ []) ≡ octet_count got + one.len
octets_more got one = sum_by_push (λ g. g.len) got one

pub octets_left : (got : List Got) (i : ℕ) (d : Got) → i < length got
    → octet_count (drop i got) ≡ (get_or got i d).len + octet_count (drop (i + 1) got)
octets_left got i d lt = sum_by-drop_more (λ g. g.len) got i d lt

came_in-append : (got : List Got) (octets : List ℕ) (one : Got) (more : List ℕ) → octet_count got ≡ length octets
    → came_in (got ++ one ∷ []) (octets ++ more) ≡ came_in got octets ++ came_by one (take one.len more) ∷ []
came_in-append [] octets one more is =
    let empty = nil_from_length octets (sym is) in
    ap (λ o. came_in (one ∷ []) (o ++ more)) empty
came_in-append (first ∷ got) octets one more is =
    let sum = sum_by-cons (λ g. g.len) first got in
    let fits : first.len ≤ length octets = omega (arith, sum, is) in
    let taken = take-append-le first.len octets more fits in
    let dropped = drop-append-le first.len octets more fits in
    let left : octet_count got ≡ length (drop first.len octets) = omega (arith, sum, is, length-drop first.len octets) in
    ap (λ t. came_by first t ∷ came_in (got ++ one ∷ []) (drop first.len (octets ++ more))) taken
    ∙ ap (λ d. came_by first (take first.len octets) ∷ came_in (got ++ one ∷ []) d) dropped
    ∙ ap (λ rest. came_by first (take first.len octets) ∷ rest) (came_in-append got (drop first.len octets) one more left)

pub came_in-length : (got : List Got) (octets : List ℕ) → length (came_in got octets) ≡ length got
came_in-length [] octets = refl
came_in-length (first ∷ got) octets = ap suc (came_in-length got (drop first.len octets))

take_twice : (n : ℕ) (list : List ℕ) → take n (take n list) ≡ take n list
take_twice zero list = refl
take_twice (suc n) [] = refl
take_twice (suc n) (x ∷ rest) = ap (λ more. x ∷ more) (take_twice n rest)

-- one more received
pub received_more : (before now after : Option (List Passage)) (got : List Got) (octets buffer : List ℕ) (one : Got)
    → octet_count got ≡ length octets → HavePassed (map In (came_in got octets)) before now
    → HavePassed (received (Ok (Some one)) buffer) now after
    → HavePassed (map In (came_in (got ++ one ∷ []) (octets ++ take one.len buffer))) before after
received_more before now after got octets buffer one sum passed came =
    let same = take_twice one.len buffer in
    passed_as (map In (came_in got octets) ++ In (came_by one (take one.len buffer)) ∷ [])
    (map In (came_in (got ++ one ∷ []) (octets ++ take one.len buffer))) before after
    (ap (λ o. map In (came_in got octets) ++ In (came_by one o) ∷ []) (sym same)
    ∙ sym (map-append In (came_in got octets) (came_by one (take one.len (take one.len buffer)) ∷ []))
    ∙ ap (λ c. map In c) (sym (came_in-append got octets one (take one.len buffer) sum)))
    (both_passed (map In (came_in got octets)) (In (came_by one (take one.len buffer)) ∷ []) before now after passed came)

-- after a full turn nothing more is received
emptied_full : (came : List Came) → length came ≡ arrivals_max → emptied came ≡ []
emptied_full came is = by_test (nat_lt (length came) arrivals_max) refl
  where
    by_test : (b : Bool) → nat_lt (length came) arrivals_max ≡ b → (if b then Empty ∷ [] else []) ≡ []
    by_test false test = refl
    by_test true test = absurd (omega (arith, is, ltb-true (length came) arrivals_max test))

-- after fewer datagrams none waited
emptied_few : (came : List Came) → length came < arrivals_max → emptied came ≡ Empty ∷ []
emptied_few came lt = by_test (nat_lt (length came) arrivals_max) (lt-ltb (length came) arrivals_max lt)
  where
    by_test : (b : Bool) → b ≡ true → (if b then Empty ∷ [] else []) ≡ Empty ∷ []
    by_test true test = refl
    by_test false test = absurd cc

-- all were received, as a turn is full
pub received_full : (got : List Got) (octets : List ℕ) (before after : Option (List Passage)) → length got ≡ arrivals_max
    → HavePassed (map In (came_in got octets)) before after → HavePassed (received_all (Ok tt) (came_in got octets)) before after
received_full got octets before after full passed =
    let came = came_in got octets in
    passed_as (map In came) (map In came ++ emptied came) before after
    (sym (append-nil (map In came)) ∙ ap (λ list. map In came ++ list) (sym (emptied_full came (came_in-length got octets ∙ full))))
    passed

-- all were received, as none waits
pub received_until : (got : List Got) (octets buffer : List ℕ) (before now after : Option (List Passage))
    → length got < arrivals_max
    → HavePassed (map In (came_in got octets)) before now → HavePassed (received (Ok None) buffer) now after
    → HavePassed (received_all (Ok tt) (came_in got octets)) before after
received_until got octets buffer before now after few passed none =
    let came = came_in got octets in
    let fewer : length came < arrivals_max = subst (λ n. n < arrivals_max) (sym (came_in-length got octets)) few in
    passed_as (map In came ++ Empty ∷ []) (map In came ++ emptied came) before after
    (ap (λ list. map In came ++ list) (sym (emptied_few came fewer)))
    (both_passed (map In came) (Empty ∷ []) before now after passed none)

-- the datagrams until a fault were received
pub received_fault : (got : List Got) (octets : List ℕ) (fault : PortFault) (before now after : Option (List Passage))
    → HavePassed (map In (came_in got octets)) before now → HavePassed (Fault ∷ []) now after
    → HavePassed (received_all (Err fault) (came_in got octets)) before after
received_fault got octets fault before now after passed failed =
    both_passed (map In (came_in got octets)) (Fault ∷ []) before now after passed failed

-- ---- draws

pub draws_more : (count : ℕ) (random : Stream)
    → draws (count + 1) random ≡ draws count random ++ (fill_bytes 16 (after_draws count random)).0 ∷ []
draws_more zero random = refl
draws_more (suc count) random =
    ap (λ n. draws n random) (add-one (suc count))
    ∙ ap (λ n. (fill_bytes 16 random).0 ∷ draws n (fill_bytes 16 random).1) (sym (add-one count))
    ∙ ap (λ rest. (fill_bytes 16 random).0 ∷ rest) (draws_more count (fill_bytes 16 random).1)

pub after_draws_more : (count : ℕ) (random : Stream) → after_draws (count + 1) random ≡ (fill_bytes 16 (after_draws count random)).1
after_draws_more zero random = refl
after_draws_more (suc count) random =
    ap (λ n. after_draws n random) (add-one (suc count))
    ∙ ap (λ n. after_draws n (fill_bytes 16 random).1) (sym (add-one count))
    ∙ after_draws_more count (fill_bytes 16 random).1

-- ---- arrivals, one more

pub came_more : (arrivals : List Timed) (timed : Timed) (got : List Got) (i : ℕ) (d : Got) (rest : List ℕ) (all : List Came)
    → i < length got → came_of timed ≡ came_by (get_or got i d) (take (get_or got i d).len rest)
    → map came_of arrivals ++ came_in (drop i got) rest ≡ all
    → map came_of (arrivals ++ timed ∷ []) ++ came_in (drop (i + 1) got) (drop (get_or got i d).len rest) ≡ all
came_more arrivals timed got i d rest all lt one is =
    let next : drop i got ≡ get_or got i d ∷ drop (i + 1) got = rw add-one (drop-cons got i d lt) in
    let g = get_or got i d in
    ap (λ a. a ++ came_in (drop (i + 1) got) (drop g.len rest)) (map-append came_of arrivals (timed ∷ []))
    ∙ append_assoc (map came_of arrivals) (came_of timed ∷ []) (came_in (drop (i + 1) got) (drop g.len rest))
    ∙ ap (λ c. map came_of arrivals ++ c ∷ came_in (drop (i + 1) got) (drop g.len rest)) one
    ∙ ap (λ list. map came_of arrivals ++ came_in list rest) (sym next) ∙ is

pub drawn_more : (arrivals : List Timed) (timed : Timed) (draws : List (List ℕ)) (i : ℕ) (d : List ℕ)
    → i < length draws → timed.draw ≡ get_or draws i d
    → map (λ timed. timed.draw) arrivals ≡ take i draws
    → map (λ timed. timed.draw) (arrivals ++ timed ∷ []) ≡ take (i + 1) draws
drawn_more arrivals timed draws i d lt one is =
    map-append (λ t. t.draw) arrivals (timed ∷ []) ∙ ap (λ list. list ++ timed.draw ∷ []) is
    ∙ ap (λ draw. take i draws ++ draw ∷ []) one
    ∙ sym (take_more draws i d lt)

-- ---- replies

pub none_sent : (got : List Got) (octets : List ℕ) (outcomes : List Outcome) (passed : Option (List Passage))
    → AreSentBefore (replies (came_in got octets) outcomes) got outcomes passed passed
none_sent got octets outcomes passed =
    record { went = []; octets = octets; passed = none_passed passed passed refl; replied = refl }

-- a reply goes by the source of its datagram
reply_to_source : (got : Got) (octets : List ℕ) (outcome : Outcome)
    → reply_to (came_by got []) outcome ≡ reply_to (came_by got octets) outcome
reply_to_source got octets (Dropped discard) = refl
reply_to_source got octets Busy = refl
reply_to_source got octets NoMemory = refl
reply_to_source got octets (Reply frame) = refl

pub one_more_sent : (all : List Went) (got : List Got) (outcomes : List Outcome) (i : ℕ) (g : Got) (d : Outcome)
    (before now after : Option (List Passage))
    → i < length got → i < length outcomes → AreSentBefore all (drop i got) (drop i outcomes) before now
    → HavePassed (map Out (reply_to (came_by (get_or got i g) []) (get_or outcomes i d))) now after
    → AreSentBefore all (drop (i + 1) got) (drop (i + 1) outcomes) before after
one_more_sent all got outcomes i g d before now after lt below so_far one =
    let first = get_or got i g in
    let outcome = get_or outcomes i d in
    let rest = drop first.len so_far.octets in
    let next : drop i got ≡ first ∷ drop (i + 1) got = rw add-one (drop-cons got i g lt) in
    let others : drop i outcomes ≡ outcome ∷ drop (i + 1) outcomes = rw add-one (drop-cons outcomes i d below) in
    let reply = reply_to (came_by first []) outcome in
    let same = reply_to_source first (take first.len so_far.octets) outcome in
    record {
      went = so_far.went ++ reply;
      octets = rest;
      passed = passed_as (map Out so_far.went ++ map Out reply) (map Out (so_far.went ++ reply)) before after
          (sym (map-append Out so_far.went reply))
          (both_passed (map Out so_far.went) (map Out reply) before now after so_far.passed one);
      replied = append_assoc so_far.went reply (replies (came_in (drop (i + 1) got) rest) (drop (i + 1) outcomes))
          ∙ ap (λ r. so_far.went ++ (r ++ replies (came_in (drop (i + 1) got) rest) (drop (i + 1) outcomes))) same
          ∙ ap (λ list. so_far.went ++ replies (came_in list so_far.octets) (outcome ∷ drop (i + 1) outcomes)) (sym next)
          ∙ ap (λ list. so_far.went ++ replies (came_in (drop i got) so_far.octets) list) (sym others)
          ∙ so_far.replied;
    }

pub all_sent : (all : List Went) (got : List Got) (outcomes : List Outcome) (before after : Option (List Passage))
    → AreSentBefore all (drop (length got) got) outcomes before after → AreSent all (Ok tt) before after
all_sent all got outcomes before after so_far = record {
  went = so_far.went;
  left = [];
  passed = passed_as (map Out so_far.went) (map Out so_far.went ++ []) before after (sym (append-nil (map Out so_far.went)))
      so_far.passed;
  replied = ap (λ list. so_far.went ++ replies (came_in list so_far.octets) outcomes) (sym (drop-length got)) ∙ so_far.replied;
  none_left = refl;
  some_left = tt;
}

-- a reply is left
some_reply : (came : Came) (outcome : Outcome) (rest : List Went) → is_replied outcome ≡ true
    → reply_to came outcome ++ rest ≡ [] → ⊥
some_reply came (Dropped discard) rest replied none = absurd cc
some_reply came Busy rest replied none = absurd cc
some_reply came NoMemory rest replied none = absurd cc
some_reply came (Reply frame) rest replied none = absurd cc

stopped_some : (left : List Went) → (left ≡ [] → ⊥) → Fault ∷ [] ≡ stopped left
stopped_some [] some = absurd (some refl)
stopped_some (next ∷ rest) some = refl

pub sent_until : (all : List Went) (got : List Got) (outcomes : List Outcome) (i : ℕ) (g : Got) (d : Outcome) (fault : PortFault)
    (before now after : Option (List Passage)) → i < length got → i < length outcomes
    → AreSentBefore all (drop i got) (drop i outcomes) before now → is_replied (get_or outcomes i d) ≡ true
    → HavePassed (Fault ∷ []) now after → AreSent all (Err fault) before after
sent_until all got outcomes i g d fault before now after lt below so_far replied failed =
    let first = get_or got i g in
    let outcome = get_or outcomes i d in
    let left = replies (came_in (drop i got) so_far.octets) (drop i outcomes) in
    let next : drop i got ≡ first ∷ drop (i + 1) got = rw add-one (drop-cons got i g lt) in
    let others : drop i outcomes ≡ outcome ∷ drop (i + 1) outcomes = rw add-one (drop-cons outcomes i d below) in
    let came = came_by first (take first.len so_far.octets) in
    let rest = replies (came_in (drop (i + 1) got) (drop first.len so_far.octets)) (drop (i + 1) outcomes) in
    let is : left ≡ reply_to came outcome ++ rest =
    ap (λ list. replies (came_in list so_far.octets) (drop i outcomes)) next
    ∙ ap (λ list. replies (came_in (first ∷ drop (i + 1) got) so_far.octets) list) others in
    let some : left ≡ [] → ⊥ = λ none. some_reply came outcome rest replied (sym is ∙ none) in
    record {
      went = so_far.went;
      left = left;
      passed = passed_as (map Out so_far.went ++ Fault ∷ []) (map Out so_far.went ++ stopped left) before after
          (ap (λ list. map Out so_far.went ++ list) (stopped_some left some))
          (both_passed (map Out so_far.went) (Fault ∷ []) before now after so_far.passed failed);
      replied = so_far.replied;
      none_left = tt;
      some_left = some;
    }

-- ---- what came in a turn

pub has_drawn : (before : Situation) (waited passed : Option (List Passage)) (first random : Stream)
    (receiving : Result (Unit {0}) PortFault)
    (got got' : List Got) (octets octets' : List ℕ) (drawn : List (List ℕ)) (count : ℕ) → is_err receiving ≡ false
    → HavePassed [] before.passed waited → HavePassed (received_all receiving (came_in got octets)) waited passed
    → first ≡ before.random → got' ≡ got → octets' ≡ octets → count ≡ length got' → drawn ≡ draws count first
    → random ≡ after_draws count first → HasDrawn before (came_in got' octets') drawn random passed
has_drawn before waited passed first random (Err fault) got got' octets octets' drawn count ok none came same gots octetss counted
    drawn_are random_is =
    absurd cc
has_drawn before waited passed first random (Ok done) got got' octets octets' drawn count ok none came same gots octetss counted
    drawn_are random_is =
    let all = counted ∙ sym (came_in-length got' octets') in
    let some = came_in got' octets' in
    record {
      passed_is = both_passed [] (map In some ++ emptied some) before.passed waited passed none
          (subst (λ list. HavePassed (received_all (Ok tt) (came_in list octets')) waited passed) (sym gots)
          (subst (λ list. HavePassed (received_all (Ok tt) (came_in got list)) waited passed) (sym octetss) came));
      drawn_are = drawn_are ∙ ap (λ n. draws n first) all ∙ ap (λ r. draws (length some) r) same;
      random_is = random_is ∙ ap (λ n. after_draws n first) all ∙ ap (λ r. after_draws (length some) r) same;
    }

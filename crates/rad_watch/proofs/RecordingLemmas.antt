-- Recordings: the lines of datagrams one after another.
use Rattle.std.proofs.Common.{◌≡◌, ◌<◌, ◌≤◌, ℕ, ◌+◌, Option, List, [], ◌∷◌, ◌++◌, length, take, drop, get_or, refl, sym, ap, ◌∙◌}
use Rattle.std.proofs.Common.{add-one}
use Rattle.std.proofs.lemmas.Grind.{flat_map-append}
use Rattle.std.proofs.lemmas.Option.{slice_get-get_or, slice_get_past}
use Rattle.std.proofs.lemmas.List.{append-nil, append_assoc, take_more}
use Rattle.std.proofs.Math.Seq.{drop-cons, drop-length}
use Rattle.std.specs.List.{flat_map}
use Rattle.rad_round.specs.declared.outcome.Outcome.{Outcome}
use Rattle.rad_round.specs.declared.timed.Timed.{Timed}
use Rattle.rad_server.specs.declared.entry.Entry.{Entry}
use Rattle.rad_replay.specs.DatagramLines.{TimedDatagram}
use Rattle.rad_watch.specs.Recordings.{datagram_with, datagrams_of_entry, discarded, draw_recorded, if_discarded, if_found}
use Rattle.rad_watch.specs.Recordings.{recorded, recorded_line}

-- lines, and those of more datagrams after them
lines_more : (text old more : List ℕ) (some others : List TimedDatagram) → text ≡ old ++ flat_map recorded_line some
    → more ≡ text ++ flat_map recorded_line others → more ≡ old ++ flat_map recorded_line (some ++ others)
lines_more text old more some others is after =
    after ∙ ap (λ t. t ++ flat_map recorded_line others) is
    ∙ append_assoc old (flat_map recorded_line some) (flat_map recorded_line others)
    ∙ ap (λ t. old ++ t) (sym (flat_map-append recorded_line some others))

-- a turn's lines are those of its history and then those of its discards
pub recorded_both : (old middle new : List ℕ) (arrivals : List Timed) (outcomes : List Outcome) (history : List Entry)
    → middle ≡ old ++ flat_map recorded_line (flat_map (datagrams_of_entry arrivals) history)
    → new ≡ middle ++ flat_map recorded_line (discarded arrivals outcomes) → new ≡ old ++ recorded arrivals outcomes history
recorded_both old middle new arrivals outcomes history first rest =
    lines_more middle old new (flat_map (datagrams_of_entry arrivals) history) (discarded arrivals outcomes) first rest

-- the datagrams of one more entry
entries_more : (arrivals : List Timed) (history : List Entry) (i : ℕ) (d : Entry) → i < length history
    → flat_map (datagrams_of_entry arrivals) (take (i + 1) history)
    ≡ flat_map (datagrams_of_entry arrivals) (take i history) ++ datagrams_of_entry arrivals (get_or history i d)
entries_more arrivals history i d lt =
    let entry = get_or history i d in
    ap (flat_map (datagrams_of_entry arrivals)) (take_more history i d lt)
    ∙ flat_map-append (datagrams_of_entry arrivals) (take i history) (entry ∷ [])
    ∙ ap (λ list. flat_map (datagrams_of_entry arrivals) (take i history) ++ list) (append-nil (datagrams_of_entry arrivals entry))

-- an entry whose datagram is found
pub found_entry : (text more : List ℕ) (arrivals : List Timed) (entry : Entry) (draw : Option (List ℕ)) (d : Timed)
    → entry.tag < length arrivals → draw ≡ draw_recorded entry
    → more ≡ text ++ recorded_line (datagram_with draw (get_or arrivals entry.tag d))
    → more ≡ text ++ flat_map recorded_line (datagrams_of_entry arrivals entry)
found_entry text more arrivals entry draw d lt drawn pushed =
    let timed = get_or arrivals entry.tag d in
    let found = slice_get-get_or arrivals entry.tag d lt in
    pushed ∙ ap (λ own. text ++ recorded_line (datagram_with own timed)) drawn
    ∙ ap (λ t. text ++ t) (sym (append-nil (recorded_line (datagram_with (draw_recorded entry) timed))))
    ∙ ap (λ found. text ++ flat_map recorded_line (if_found entry found)) (sym found)

-- one whose datagram isn't found
pub absent_entry : (text : List ℕ) (arrivals : List Timed) (entry : Entry) → length arrivals ≤ entry.tag
    → text ≡ text ++ flat_map recorded_line (datagrams_of_entry arrivals entry)
absent_entry text arrivals entry le =
    let absent = slice_get_past arrivals entry.tag le in
    sym (append-nil text) ∙ ap (λ found. text ++ flat_map recorded_line (if_found entry found)) (sym absent)

-- one more entry
pub one_more_entry : (old text more : List ℕ) (arrivals : List Timed) (history : List Entry) (i : ℕ) (d : Entry)
    → i < length history
    → text ≡ old ++ flat_map recorded_line (flat_map (datagrams_of_entry arrivals) (take i history))
    → more ≡ text ++ flat_map recorded_line (datagrams_of_entry arrivals (get_or history i d))
    → more ≡ old ++ flat_map recorded_line (flat_map (datagrams_of_entry arrivals) (take (i + 1) history))
one_more_entry old text more arrivals history i d lt is pushed =
    lines_more text old more (flat_map (datagrams_of_entry arrivals) (take i history))
    (datagrams_of_entry arrivals (get_or history i d)) is pushed
    ∙ ap (λ list. old ++ flat_map recorded_line list) (sym (entries_more arrivals history i d lt))

-- ---- discards

-- without more datagrams or outcomes none is discarded
none_left : (arrivals : List Timed) → discarded arrivals [] ≡ []
none_left [] = refl
none_left (timed ∷ arrivals) = refl

-- after the last outcome nothing is to come
pub none_discarded : (text all : List ℕ) (arrivals : List Timed) (outcomes : List Outcome) (i : ℕ) → i ≡ length outcomes
    → text ++ flat_map recorded_line (discarded (drop i arrivals) (drop i outcomes)) ≡ all → text ≡ all
none_discarded text all arrivals outcomes i end is =
    let none : drop i outcomes ≡ [] = ap (λ n. drop n outcomes) end ∙ drop-length outcomes in
    sym (append-nil text)
    ∙ ap (λ list. text ++ flat_map recorded_line list) (sym (none_left (drop i arrivals)))
    ∙ ap (λ list. text ++ flat_map recorded_line (discarded (drop i arrivals) list)) (sym none)
    ∙ is

-- the next datagram is done with
pub one_less_discarded : (text more all : List ℕ) (arrivals : List Timed) (outcomes : List Outcome) (i : ℕ) (t : Timed)
    (d : Outcome)
    → i < length arrivals → i < length outcomes
    → text ++ flat_map recorded_line (discarded (drop i arrivals) (drop i outcomes)) ≡ all
    → more ≡ text ++ flat_map recorded_line (if_discarded (get_or arrivals i t) (get_or outcomes i d))
    → more ++ flat_map recorded_line (discarded (drop (i + 1) arrivals) (drop (i + 1) outcomes)) ≡ all
one_less_discarded text more all arrivals outcomes i t d lt below is pushed =
    let timed = get_or arrivals i t in
    let outcome = get_or outcomes i d in
    let rest = discarded (drop (i + 1) arrivals) (drop (i + 1) outcomes) in
    let one = if_discarded timed outcome in
    let next : drop i arrivals ≡ timed ∷ drop (i + 1) arrivals = rw add-one (drop-cons arrivals i t lt) in
    let others : drop i outcomes ≡ outcome ∷ drop (i + 1) outcomes = rw add-one (drop-cons outcomes i d below) in
    ap (λ m. m ++ flat_map recorded_line rest) pushed
    ∙ append_assoc text (flat_map recorded_line one) (flat_map recorded_line rest)
    ∙ ap (λ list. text ++ list) (sym (flat_map-append recorded_line one rest))
    ∙ ap (λ list. text ++ flat_map recorded_line (discarded list (outcome ∷ drop (i + 1) outcomes))) (sym next)
    ∙ ap (λ list. text ++ flat_map recorded_line (discarded (drop i arrivals) list)) (sym others)
    ∙ is

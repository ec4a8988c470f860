-- How what is written grows by one line.
use Rattle.std.proofs.Common.{◌≡◌, ℕ, suc, ◌+◌, ◌-◌, ◌≤◌, Bool, true, false, not, ◌||◌, eqb, List, [], ◌∷◌, ◌++◌, length, take}
use Rattle.std.proofs.Common.{drop, Option, Some, None, Err, refl, ap, sym, subst, ◌∙◌, arith, inl, inr}
use Rattle.std.specs.Io.KnownBytes.{Appends}
use Rattle.std.proofs.lemmas.Bool.{cases_Bool, eqb-true, eq-eqb, ne_eqb, or_cases}
use Rattle.std.proofs.lemmas.List.{append_assoc, append-nil, length_push, take-append-drop, take_rest}
use Rattle.std.proofs.Math.Seq.{take-append_seam}
use Rattle.rad_config.specs.Configurations.{Configuration}
use Rattle.rad_server.specs.States.{State, opening}
use Rattle.rad_replay.specs.declared.run_fault.RunFault.{RunFault}
use Rattle.rad_replay.specs.declared.run_fault.RunFault.TheVariants as run
use Rattle.rad_replay.specs.DatagramLines.{TimedDatagram, datagram_of_line}
use Rattle.rad_replay.specs.Replays.{EndsLines}
use Rattle.rad_replay.specs.Transcripts.{AnswersLines, BreaksOff, BreaksOffLines, datagrams_of, first_malformed, until_malformed}
use Rattle.rad_replay.specs.Transcripts.{number_if_malformed, is_among, line_of, replay, written}

-- ---- one more datagram

abbrev push_line : Configuration → List ℕ → ℕ → List ℕ × State → TimedDatagram → List ℕ × State
push_line configuration without number so_far timed =
    let last = line_of configuration (not (is_among number without)) number so_far.1 timed in
    (so_far.0 ++ last.0, last.1)

pub replay-push : (configuration : Configuration) (without : List ℕ) (number : ℕ) (state : State) (datagrams : List TimedDatagram)
    (timed : TimedDatagram)
    → replay configuration without number state (datagrams ++ timed ∷ [])
    ≡ push_line configuration without (number + length datagrams) (replay configuration without number state datagrams) timed
unfolding replay
replay-push configuration without number state [] timed =
    let here : number ≡ number + 0 = omega arith in
    let line : ℕ → List ℕ × State = λ n. line_of configuration (not (is_among n without)) n state timed in
    let bare : (line number).0 ++ [] ≡ (line number).0 = append-nil _ in
    ap (λ (text : List ℕ). (text, (line number).1)) bare ∙ ap (λ (n : ℕ). ((line n).0, (line n).1)) here
replay-push configuration without number state (first ∷ datagrams) timed =
    let front = line_of configuration (not (is_among number without)) number state first in
    let rest = replay configuration without (number + 1) front.1 datagrams in
    let step = replay-push configuration without (number + 1) front.1 datagrams timed in
    let there : (number + 1) + length datagrams ≡ number + suc (length datagrams) = omega arith in
    ap (λ (r : List ℕ × State). (front.0 ++ r.0, r.1)) step
    ∙ ap (λ (n : ℕ). let last = line_of configuration (not (is_among n without)) n rest.1 timed in
    (front.0 ++ (rest.0 ++ last.0), last.1)) there
    ∙ (let last = line_of configuration (not (is_among (number + suc (length datagrams)) without)) (number + suc (length datagrams))
    rest.1 timed in
    ap (λ (text : List ℕ). (text, last.1)) (sym (append_assoc front.0 rest.0 last.0)))

-- a later number that has no memory changes nothing before it
pub replay-later : (configuration : Configuration) (without : List ℕ) (later number : ℕ) (state : State)
    (datagrams : List TimedDatagram) → number + length datagrams ≤ later
    → replay configuration (later ∷ without) number state datagrams ≡ replay configuration without number state datagrams
unfolding replay
replay-later configuration without later number state [] le = refl
replay-later configuration without later number state (first ∷ datagrams) le =
    let other : eqb later number ≡ false = ne_eqb later number (λ is. absurd (omega (arith, is))) in
    let front = line_of configuration (not (is_among number without)) number state first in
    let rest = replay-later configuration without later (number + 1) front.1 datagrams (omega arith) in
    rw other (ap (λ (r : List ℕ × State). (front.0 ++ r.0, r.1)) rest)

-- ---- a run so far

-- The lines before these were answered, with this text, and led to this state.
pub record Progress (configuration : Configuration) (lines left : List (List ℕ)) (number : ℕ) (state : State) (text : List ℕ) : Type
    0 where
  pub answered : List TimedDatagram
  pub without : List ℕ
  pub before : (n : ℕ) → is_among n without ≡ true → n ≤ number
  pub count : length answered ≡ number
  pub all : datagrams_of lines ≡ answered ++ datagrams_of left
  pub first : first_malformed 1 lines ≡ first_malformed (number + 1) left
  pub replayed : replay configuration without 1 (opening configuration) answered ≡ (text, state)

pub begins : (configuration : Configuration) (lines : List (List ℕ))
    → Progress configuration lines lines 0 (opening configuration) []
unfolding replay
begins configuration lines = record {
  answered = [];
  without = [];
  before = λ n among. absurd (cc);
  count = refl;
  all = refl;
  first = ap (λ (n : ℕ). first_malformed n lines) (omega arith);
  replayed = refl;
}

pub goes_on : (configuration : Configuration) (lines left : List (List ℕ)) (line : List ℕ) (number : ℕ) (old new : State)
    (text more : List ℕ) (timed : TimedDatagram)
    → Progress configuration lines (line ∷ left) number old text → datagram_of_line line ≡ Some timed
    → (has_memory : Bool) × (line_of configuration has_memory (number + 1) old timed ≡ (more, new))
    → Progress configuration lines left (number + 1) new (text ++ more)
goes_on configuration lines left line number old new text more timed so_far found is = by_memory is.0 is.1
  where
    all : datagrams_of lines ≡ (so_far.answered ++ timed ∷ []) ++ datagrams_of left
    all = so_far.all ∙ ap (λ (o : Option TimedDatagram). so_far.answered ++ until_malformed o (datagrams_of left)) found
        ∙ sym (append_assoc so_far.answered (timed ∷ []) (datagrams_of left))

    first : first_malformed 1 lines ≡ first_malformed (number + 1 + 1) left
    first = so_far.first ∙ ap (λ (o : Option TimedDatagram). number_if_malformed (number + 1) o
        (first_malformed (number + 1 + 1) left)) found

    count : length (so_far.answered ++ timed ∷ []) ≡ number + 1
    count = length_push so_far.answered timed ∙ ap (λ (n : ℕ). n + 1) so_far.count

    place : 1 + length so_far.answered ≡ number + 1
    place = omega (arith, so_far.count)

    -- a run, with or without memory for this datagram
    replayed : (without : List ℕ) (has_memory : Bool)
        → replay configuration without 1 (opening configuration) so_far.answered ≡ (text, old)
        → not (is_among (number + 1) without) ≡ has_memory
        → line_of configuration has_memory (number + 1) old timed ≡ (more, new)
        → replay configuration without 1 (opening configuration) (so_far.answered ++ timed ∷ []) ≡ (text ++ more, new)
    replayed without has_memory before memory e =
        replay-push configuration without 1 (opening configuration) so_far.answered timed
        ∙ ap (λ (n : ℕ). push_line configuration without n (replay configuration without 1 (opening configuration) so_far.answered)
        timed) place
        ∙ ap (λ (r : List ℕ × State). push_line configuration without (number + 1) r timed) before
        ∙ ap (λ (b : Bool). (
          text ++ (line_of configuration b (number + 1) old timed).0,
          (line_of configuration b (number + 1) old timed).1,
        )) memory
        ∙ ap (λ (r : List ℕ × State). (text ++ r.0, r.1)) e

    new_number : is_among (number + 1) so_far.without ≡ false
    new_number = elim (cases_Bool (is_among (number + 1) so_far.without))
        [ inl among ↦ absurd (omega (arith, so_far.before (number + 1) among)) | inr absent ↦ absent ]

    by_memory : (has_memory : Bool) → line_of configuration has_memory (number + 1) old timed ≡ (more, new)
        → Progress configuration lines left (number + 1) new (text ++ more)
    by_memory true e = record {
      answered = so_far.answered ++ timed ∷ [];
      without = so_far.without;
      before = λ n among. omega (arith, so_far.before n among);
      count = count;
      all = all;
      first = first;
      replayed = replayed so_far.without true so_far.replayed (ap not new_number) e;
    }
    by_memory false e = record {
      answered = so_far.answered ++ timed ∷ [];
      without = (number + 1) ∷ so_far.without;
      before = λ n among. elim (or_cases (eqb (number + 1) n) (is_among n so_far.without) among)
          [ inl is ↦ omega (arith, eqb-true (number + 1) n is) | inr among ↦ omega (arith, so_far.before n among) ];
      count = count;
      all = all;
      first = first;
      replayed = replayed ((number + 1) ∷ so_far.without) false
          (replay-later configuration so_far.without (number + 1) 1 (opening configuration) so_far.answered
          (omega (arith, so_far.count)) ∙ so_far.replayed)
          (ap (λ (b : Bool). not (b || is_among (number + 1) so_far.without)) (eq-eqb (number + 1) (number + 1) refl)) e;
    }

-- ---- the end of a run

pub ends : (configuration : Configuration) (lines left : List (List ℕ)) (number : ℕ) (state : State) (text : List ℕ)
    (before now : Option (List ℕ)) → Progress configuration lines left number state text → left ≡ [] → Appends before now text
    → AnswersLines configuration lines (Appends before now) None
ends configuration lines left number state text before now so_far nothing wrote =
    let all : datagrams_of lines ≡ so_far.answered =
    so_far.all ∙ ap (λ (ls : List (List ℕ)). so_far.answered ++ datagrams_of ls) nothing ∙ append-nil so_far.answered in
    let first : first_malformed 1 lines ≡ None = so_far.first ∙ ap (first_malformed (number + 1)) nothing in
    let text_is : written configuration so_far.without (datagrams_of lines) ≡ text =
    ap (written configuration so_far.without) all ∙ ap (λ (r : List ℕ × State). r.0) so_far.replayed in
    (so_far.without, first, subst (Appends before now) (sym text_is) wrote)

pub ends_malformed : (configuration : Configuration) (lines left : List (List ℕ)) (line : List ℕ) (number : ℕ) (state : State)
    (text : List ℕ) (before now : Option (List ℕ)) → Progress configuration lines (line ∷ left) number state text
    → datagram_of_line line ≡ None → Appends before now text
    → AnswersLines configuration lines (Appends before now) (Some (number + 1))
ends_malformed configuration lines left line number state text before now so_far malformed wrote =
    let all : datagrams_of lines ≡ so_far.answered =
    so_far.all ∙ ap (λ (o : Option TimedDatagram). so_far.answered ++ until_malformed o (datagrams_of left)) malformed
    ∙ append-nil so_far.answered in
    let first : first_malformed 1 lines ≡ Some (number + 1) =
    so_far.first ∙ ap (λ (o : Option TimedDatagram). number_if_malformed (number + 1) o (first_malformed (number + 1 + 1) left))
    malformed in
    let text_is : written configuration so_far.without (datagrams_of lines) ≡ text =
    ap (written configuration so_far.without) all ∙ ap (λ (r : List ℕ × State). r.0) so_far.replayed in
    (so_far.without, first, subst (Appends before now) (sym text_is) wrote)

-- ---- what a writer holds

pub Appends-nil : (old : Option (List ℕ)) → Appends old old []
Appends-nil None = tt
Appends-nil (Some text) = sym (append-nil text)

pub Appends-then : (old mid new : Option (List ℕ)) (front back : List ℕ) → Appends old mid front → Appends mid new back
    → Appends old new (front ++ back)
Appends-then None mid new front back a b = tt
Appends-then (Some text) None new front back a b = absurd a
Appends-then (Some text) (Some next) None front back a b = absurd b
Appends-then (Some text) (Some next) (Some last) front back a b =
    b ∙ ap (λ (t : List ℕ). t ++ back) a ∙ append_assoc text front back

-- ---- a line in several writes

-- of what was left of a line, the writer took so many octets more
pub takes_more : (line front left : List ℕ) (count : ℕ) (before mid now : Option (List ℕ)) → line ≡ front ++ left
    → Appends before mid front → Appends mid now (take count left)
    → (more : List ℕ) × Appends before now more × (line ≡ more ++ take (length left - count) (drop count left))
takes_more line front left count before mid now is wrote took =
    let parts : front ++ left ≡ (front ++ take count left) ++ drop count left =
    ap (λ (t : List ℕ). front ++ t) (sym (take-append-drop count left))
    ∙ sym (append_assoc front (take count left) (drop count left)) in
    let rest : drop count left ≡ take (length left - count) (drop count left) = sym (take_rest left count) in (
      front ++ take count left,
      Appends-then before mid now front (take count left) wrote took,
      is ∙ parts ∙ ap (λ (t : List ℕ). (front ++ take count left) ++ t) rest,
    )

-- ---- a writer that fails

-- the line of the last of these datagrams broke off
pub ends_broken_off : (configuration : Configuration) (lines left : List (List ℕ)) (number : ℕ) (state : State)
    (text more line : List ℕ) (before mid now : Option (List ℕ)) → Progress configuration lines left number state (text ++ more)
    → Appends before mid text → line ≡ more → BreaksOff (Appends mid now) line
    → BreaksOffLines configuration lines (Appends before now)
ends_broken_off configuration lines left number state text more line before mid now so_far wrote same
    (front, rest, is, some, last) =
    let first : take (length so_far.answered) (datagrams_of lines) ≡ so_far.answered =
    ap (take (length so_far.answered)) so_far.all ∙ take-append_seam so_far.answered (datagrams_of left) in
    let text_is : written configuration so_far.without (take (length so_far.answered) (datagrams_of lines)) ≡ text ++ more =
    ap (written configuration so_far.without) first ∙ ap (λ (r : List ℕ × State). r.0) so_far.replayed in
    let is_front = text_is ∙ ap (λ (t : List ℕ). text ++ t) (sym same ∙ is) ∙ sym (append_assoc text front rest) in (
      so_far.without,
      length so_far.answered,
      (text ++ front, rest, is_front, some, Appends-then before mid now text front wrote last),
    )

pub ends_at_write : (configuration : Configuration) (lines : List (List ℕ)) (before now : Option (List ℕ)) (fault : RunFault)
    → fault ≡ run.Write → BreaksOffLines configuration lines (Appends before now)
    → EndsLines configuration lines (Appends before now) (Err fault)
ends_at_write configuration lines before now fault is broken =
    subst (λ (f : RunFault). EndsLines configuration lines (Appends before now) (Err f)) (sym is) broken

-- What the rules of `restore` say, and that they are the law: the proofs of the later clauses of `lawful_replies` and
-- `lawful_challenges`.
use Rattle.std.proofs.Common.{◌≡◌, ℕ, suc, ◌+◌, ◌-◌, ◌≤◌, ◌<◌, Bool, true, false, not, nat_le, nat_lt, List, [], ◌∷◌, ◌++◌, length}
use Rattle.std.proofs.Common.{filter, Ok, arith, refl, sym, ap, subst, ◌∙◌}
use Rattle.std.specs.List.{All, AllPairs, list_any}
use Rattle.std.proofs.lemmas.Bool.{both_ways, le-ltb, leb-false, lt-leb, ltb-false}
use Rattle.std.proofs.lemmas.List.{append-nil, append_assoc, get_or-append-add, get_or_append_left, length-append, length_push}
use Rattle.std.proofs.lemmas.List.Elements.{All-contains, All-head, All-tail, All-weaker, Contains-push}
use Rattle.std.proofs.lemmas.List.Folds.{list_any_at, list_any_none}
use Rattle.rad_packet.specs.Ladders.{◌>>=◌, refuse_if}
use Rattle.rad_recent.specs.Challenges.{Challenges, challenges_max}
use Rattle.rad_recent.specs.Lawful.{AreLawfulChallenges, AreLawfulReplies, HaveDifferentKeys, IsLawfulChallenge}
use Rattle.rad_recent.specs.Lawful.{RestoreRebuildsChallenges, RestoreRebuildsReplies, RestoredChallengeIsTheLaw}
use Rattle.rad_recent.specs.Lawful.{RestoredLastChallengeIsTheLaw, RestoredReplyIsTheLaw}
use Rattle.rad_recent.specs.Recent.{Replies, is_full, kept_max, same_key, with_reply, without_key}
use Rattle.rad_recent.specs.Restored.{challenge_restorable, challenges_rebuilt, challenges_restored, has_reply_to}
use Rattle.rad_recent.specs.Restored.{last_challenge_restorable, replies_restored, reply_restorable, with_challenge_row}
use Rattle.rad_recent.specs.Restored.{with_last_challenge}
use Rattle.rad_recent.specs.declared.challenge.Challenge.{Challenge}
use Rattle.rad_recent.specs.declared.kept.Kept.{Kept}
use Rattle.rad_recent.proofs.HoldLemmas.{not_full}
use Rattle.rad_recent.proofs.LawfulLemmas.{challenge_later, one_more_challenge, one_more_reply}
use Rattle.rad_recent.proofs.NumberedLemmas.{key_sym}

-- three rules, none of which refuses
three_pass : {E : Type 0} (a b c : Bool) (x y z : E) → (refuse_if a x >>= (λ _. refuse_if b y >>= (λ _. refuse_if c z))) ≡ Ok tt
    → (a ≡ false) × (b ≡ false) × (c ≡ false)
three_pass true b c x y z is = absurd (cc)
three_pass false true c x y z is = absurd (cc)
three_pass false false true x y z is = absurd (cc)
three_pass false false false x y z is = (refl, refl, refl)

-- ---- a reply

-- what no element passes, each fails
each_fails : {X : Type 0} (p : X → Bool) (xs : List X) → list_any p xs ≡ false → All (λ x. p x ≡ false) xs
each_fails p xs none = λ k d within. not_full _ (λ passes. both_ways (list_any p xs) none (list_any_at p xs k d within passes))

-- each of the earlier is so related to the one after them
related : {X : Type 0} (R : X → X → Type 0) (before : List X) (x : X) (rest : List X) → AllPairs R (before ++ x ∷ rest)
    → All (λ earlier. R earlier x) before
related R before x rest pairs = λ k d within.
    let pair = pairs k (length before + 0) d (omega arith) (omega (arith, length-append before (x ∷ rest))) in
    rw (get_or_append_left before (x ∷ rest) d k within, get_or-append-add before (x ∷ rest) 0 d) at pair

-- a reply that was not made after the clock
abbrev IsMade : ℕ → Kept → Type 0
IsMade clock reply = reply.made ≤ clock

-- one with another key than this one
abbrev IsApart : Kept → Kept → Type 0
IsApart reply other = HaveDifferentKeys other reply

-- a reply that keeps the rules is put back
reply_passes : (clock : ℕ) (reply : Kept) (table : Replies) → IsMade clock reply → All (IsApart reply) table.kept
    → length table.kept < kept_max → reply_restorable clock reply table ≡ Ok tt
unfolding reply_restorable
reply_passes clock reply table made apart few =
    let alone : has_reply_to reply.key table ≡ false = list_any_none (λ kept. same_key kept.key reply.key) table.kept apart in
    rw (le-ltb clock reply.made made, alone, lt-leb kept_max (length table.kept) few) refl

-- and one that is put back keeps them
reply_says : (clock : ℕ) (reply : Kept) (table : Replies) → reply_restorable clock reply table ≡ Ok tt
    → IsMade clock reply × All (IsApart reply) table.kept × (is_full table ≡ false)
unfolding reply_restorable
reply_says clock reply table is =
    let says = three_pass (nat_lt clock reply.made) (has_reply_to reply.key table) (is_full table) _ _ _ is in
    (ltb-false clock reply.made says.0, each_fails (λ kept. same_key kept.key reply.key) table.kept says.1, says.2)

-- it takes the place of none
pub in_no_place : (clock : ℕ) (reply : Kept) (table : Replies) → reply_restorable clock reply table ≡ Ok tt
    → without_key reply.key table ≡ table
in_no_place clock reply table is =
    λ j. record { kept = all_stay table.kept (reply_says clock reply table is).1 j; window = table.window }
  where
    all_stay : (kept : List Kept) → All (IsApart reply) kept → filter (λ other. not (same_key reply.key other.key)) kept ≡ kept
    all_stay [] apart = refl
    all_stay (other ∷ kept) apart =
        rw (key_sym reply.key other.key, All-head (IsApart reply) other kept apart)
        (ap (λ l. other ∷ l) (all_stay kept (All-tail (IsApart reply) other kept apart)))

pub restored_reply_is_the_law : RestoredReplyIsTheLaw
restored_reply_is_the_law clock reply table lawful = (so, back)
  where
    so : reply_restorable clock reply table ≡ Ok tt → AreLawfulReplies clock (with_reply reply table)
    so is =
        let says = reply_says clock reply table is in
        one_more_reply clock reply table says.2 says.0 says.1 lawful

    back : AreLawfulReplies clock (with_reply reply table) → reply_restorable clock reply table ≡ Ok tt
    back whole =
        let made = All-contains (IsMade clock) (table.kept ++ reply ∷ []) reply whole.made (Contains-push table.kept reply) in
        let apart = related HaveDifferentKeys table.kept reply [] whole.keys in
        reply_passes clock reply table made apart (omega (arith, length_push table.kept reply, whole.few))

-- the rest of the replies, after those that are back
rebuild_replies : (clock window : ℕ) (rest before : List Kept) → length before + length rest ≤ kept_max
    → AllPairs HaveDifferentKeys (before ++ rest) → All (IsMade clock) rest
    → replies_restored clock rest (record { kept = before; window = window })
    ≡ Ok (record { kept = before ++ rest; window = window })
unfolding replies_restored
rebuild_replies clock window [] before few keys made =
    ap (λ kept. Ok (record { kept = kept; window = window })) (sym (append-nil before))
rebuild_replies clock window (reply ∷ rest) before few keys made =
    let here : Replies = record { kept = before; window = window } in
    let more : List Kept = before ++ reply ∷ [] in
    let is : more ++ rest ≡ before ++ reply ∷ rest = append_assoc before (reply ∷ []) rest in
    let apart = related HaveDifferentKeys before reply rest keys in
    let fits = reply_passes clock reply here (All-head (IsMade clock) reply rest made) apart (omega arith) in
    ap (λ r. r >>= (λ done. replies_restored clock rest (with_reply reply here))) fits
    ∙ rebuild_replies clock window rest more (omega (arith, length_push before reply))
    (subst (AllPairs HaveDifferentKeys) (sym is) keys) (All-tail (IsMade clock) reply rest made)
    ∙ ap (λ kept. Ok (record { kept = kept; window = window })) is

pub restore_rebuilds_replies : RestoreRebuildsReplies
restore_rebuilds_replies clock table lawful = rebuild_replies clock table.window table.kept [] (omega arith) lawful.keys lawful.made

-- ---- a challenge

-- a challenge that keeps the rules is put back
challenge_passes : (clock : ℕ) (row : Challenge) (table : Challenges) → table.next ≤ row.number → row.made ≤ clock
    → length table.challenges < challenges_max → challenge_restorable clock row table ≡ Ok tt
unfolding challenge_restorable
challenge_passes clock row table rises made few =
    rw (le-ltb row.number table.next rises, le-ltb clock row.made made, lt-leb challenges_max (length table.challenges) few) refl

pub restored_challenge_is_the_law : RestoredChallengeIsTheLaw
unfolding challenge_restorable
restored_challenge_is_the_law clock row table last lawful = (so, back)
  where
    challenges : List Challenge
    challenges = table.challenges

    so : challenge_restorable clock row table ≡ Ok tt
        → (table.next ≤ row.number) × AreLawfulChallenges clock (with_challenge_row row table)
    so is =
        let says = three_pass (nat_lt row.number table.next) (nat_lt clock row.made) (nat_le challenges_max (length challenges)) _ _
        _ is in
        let rises = ltb-false row.number table.next says.0 in
        let few = leb-false challenges_max (length challenges) says.2 in
        (rises, one_more_challenge clock row table few rises last (ltb-false clock row.made says.1) lawful)

    back : (table.next ≤ row.number) × AreLawfulChallenges clock (with_challenge_row row table)
        → challenge_restorable clock row table ≡ Ok tt
    back given =
        let whole = given.1 in
        let is_lawful = IsLawfulChallenge clock (row.number + 1) in
        let own = All-contains is_lawful (challenges ++ row ∷ []) row whole.each (Contains-push challenges row) in
        challenge_passes clock row table given.0 own.made (omega (arith, length_push challenges row, whole.few))

pub restored_last_is_the_law : RestoredLastChallengeIsTheLaw
restored_last_is_the_law clock last table fits lawful = (so (nat_lt (last + 1) table.next) refl, back)
  where
    so : (b : Bool) → nat_lt (last + 1) table.next ≡ b → last_challenge_restorable last table ≡ Ok tt
        → (table.next ≤ last + 1) × AreLawfulChallenges clock (with_last_challenge last table)
    so true e is = absurd (cc)
    so false e is =
        let rises = ltb-false (last + 1) table.next e in (
          rises,
          record {
            next = (omega arith, omega (arith, fits));
            few = lawful.few;
            rising = lawful.rising;
            each = All-weaker (IsLawfulChallenge clock table.next) (IsLawfulChallenge clock (last + 1))
                (challenge_later clock clock table.next (last + 1) (omega arith) rises) table.challenges lawful.each;
          },
        )

    back : (table.next ≤ last + 1) × AreLawfulChallenges clock (with_last_challenge last table)
        → last_challenge_restorable last table ≡ Ok tt
    back given = rw (le-ltb (last + 1) table.next given.0) refl

-- a challenge with no lower number
abbrev IsFrom : ℕ → Challenge → Type 0
IsFrom next row = next ≤ row.number

-- the rest of the challenges, after those that are back; the next number is no greater than it was
rebuild_challenges : (clock hold top : ℕ) (rest before : List Challenge) (next : ℕ) → length before + length rest ≤ challenges_max
    → next ≤ top → AllPairs (λ (earlier later : Challenge). earlier.number < later.number) rest
    → All (IsFrom next) rest → All (IsLawfulChallenge clock top) rest
    → (last : ℕ) × (challenges_restored clock rest (record { challenges = before; next = next; hold = hold })
    ≡ Ok (record { challenges = before ++ rest; next = last; hold = hold })) × (last ≤ top)
unfolding challenges_restored
rebuild_challenges clock hold top [] before next few most rising later each =
    (next, ap (λ challenges. Ok (record { challenges = challenges; next = next; hold = hold })) (sym (append-nil before)), most)
rebuild_challenges clock hold top (row ∷ rest) before next few most rising later each =
    let here : Challenges = record { challenges = before; next = next; hold = hold } in
    let own : IsLawfulChallenge clock top row = All-head (IsLawfulChallenge clock top) row rest each in
    let fits = challenge_passes clock row here (All-head (IsFrom next) row rest later) own.made (omega arith) in
    let after : All (IsFrom (row.number + 1)) rest = λ k d within. omega (arith, rising 0 (suc k) d (omega arith) (omega arith)) in
    let more = rebuild_challenges clock hold top rest (before ++ row ∷ []) (row.number + 1) (omega (arith, length_push before row))
    (omega (arith, own.number.1)) (λ i j d less within. rising (suc i) (suc j) d (omega arith) (omega arith)) after
    (All-tail (IsLawfulChallenge clock top) row rest each) in (
      more.0,
      ap (λ r. r >>= (λ done. challenges_restored clock rest (with_challenge_row row here))) fits
          ∙ more.1
          ∙ ap (λ challenges. Ok (record { challenges = challenges; next = more.0; hold = hold }))
          (append_assoc before (row ∷ []) rest),
      more.2,
    )

pub restore_rebuilds_challenges : RestoreRebuildsChallenges
unfolding challenges_rebuilt
restore_rebuilds_challenges clock table lawful =
    let from : All (IsFrom 1) table.challenges = λ k d within. (lawful.each k d within).number.0 in
    let rows = rebuild_challenges clock table.hold table.next table.challenges [] 1 (omega arith) lawful.next.0
    lawful.rising from lawful.each in
    let same : table.next - 1 + 1 ≡ table.next = omega (arith, lawful.next.0) in
    let given : nat_lt (table.next - 1 + 1) rows.0 ≡ false = le-ltb (table.next - 1 + 1) rows.0 (omega (arith, rows.2, same)) in
    rw (rows.1, given) (λ j. Ok (record { challenges = table.challenges; next = same j; hold = table.hold }))

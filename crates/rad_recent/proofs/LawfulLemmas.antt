-- Kept replies and challenges stay lawful: the proofs of `lawful_replies` and `lawful_challenges`.
use Rattle.std.proofs.Common.{◌≡◌, ℕ, ◌+◌, ◌≤◌, ◌<◌, Bool, true, false, cond, not, ◌||◌, nat_le, List, length, filter, Ok, Err}
use Rattle.std.proofs.Common.{arith, refl, sym, ◌∙◌}
use Rattle.std.specs.Prelude.{IsOk}
use Rattle.std.specs.List.{All}
use Rattle.std.proofs.lemmas.Bool.{leb-false, leb-true, not-true}
use Rattle.std.proofs.lemmas.List.{length_push}
use Rattle.std.proofs.lemmas.List.Elements.{All-filter, All-nil, All-push, All-weaker, filter_passes}
use Rattle.std.proofs.lemmas.List.Kept.{AllPairs-filter}
use Rattle.std.proofs.lemmas.List.Quantifiers.{all_pairs_push}
use Rattle.std.proofs.lemmas.List.Sums.{count_by-le-length, length-filter}
use Rattle.rad_recent.specs.Challenges.{Challenges, challenges_max, cut_challenges, has_state, is_challenge_live, last_challenge}
use Rattle.rad_recent.specs.Challenges.{next_number, with_challenge, without_answered}
use Rattle.rad_recent.specs.Challenges as challenges
use Rattle.rad_recent.specs.Lawful.{AreLawfulChallenges, AreLawfulReplies, HaveDifferentKeys, IsLawfulChallenge}
use Rattle.rad_recent.specs.Recent.{Replies, cut_replies, is_full, is_reply_live, kept_max, same_key, with_reply, without_key}
use Rattle.rad_recent.specs.Recent as replies
use Rattle.rad_recent.specs.Restored.{with_challenge_row}
use Rattle.rad_recent.specs.declared.challenge.Challenge.{Challenge}
use Rattle.rad_recent.specs.declared.challenges.IssueFault.TheVariants.{Full}
use Rattle.rad_recent.specs.declared.kept.Kept.{Kept}
use Rattle.rad_recent.specs.declared.key.Key.{Key}
use Rattle.rad_recent.proofs.NumberedLemmas.{key_sym}

-- ---- kept replies

-- none is kept yet
pub no_replies : (clock window : ℕ) → AreLawfulReplies clock (replies.opening window)
no_replies clock window = record {
  few = omega arith;
  keys = λ i j d before within. absurd (omega arith);
  made = All-nil (λ reply. reply.made ≤ clock);
}

-- some of them go
replies_left : (clock : ℕ) (stays : Kept → Bool) (table : Replies) → AreLawfulReplies clock table
    → AreLawfulReplies clock (record table { kept = filter stays table.kept })
replies_left clock stays table lawful = record {
  few = omega (arith, length-filter stays table.kept, count_by-le-length stays table.kept, lawful.few);
  keys = AllPairs-filter HaveDifferentKeys stays table.kept lawful.keys;
  made = All-filter stays (λ reply. reply.made ≤ clock) table.kept lawful.made;
}

-- the clock goes on, and those that are no longer live go
pub live_replies : (clock now : ℕ) (table : Replies) → clock ≤ now → AreLawfulReplies clock table
    → AreLawfulReplies now (cut_replies now table)
live_replies clock now table later lawful = replies_left now (is_reply_live table.window now) table (record {
  few = lawful.few;
  keys = lawful.keys;
  made = All-weaker (λ reply. reply.made ≤ clock) (λ reply. reply.made ≤ now) (λ reply made. omega (arith, made, later)) table.kept
      lawful.made;
})

-- the reply to a key goes
pub other_replies : (clock : ℕ) (key : Key) (table : Replies) → AreLawfulReplies clock table
    → AreLawfulReplies clock (without_key key table)
other_replies clock key = replies_left clock (λ reply. not (same_key key reply.key))

-- one more, where there is room for it and no other has its key
pub one_more_reply : (clock : ℕ) (reply : Kept) (table : Replies) → is_full table ≡ false → reply.made ≤ clock
    → All (λ kept. HaveDifferentKeys kept reply) table.kept → AreLawfulReplies clock table
    → AreLawfulReplies clock (with_reply reply table)
one_more_reply clock reply table room made apart lawful = record {
  few = omega (arith, leb-false kept_max (length table.kept) room, length_push table.kept reply);
  keys = all_pairs_push HaveDifferentKeys table.kept reply lawful.keys apart;
  made = All-push (λ kept. kept.made ≤ clock) table.kept reply lawful.made made;
}

-- a reply takes the place of the one with its key
pub kept_replies : (clock : ℕ) (reply : Kept) (table : Replies) → is_full (without_key reply.key table) ≡ false → reply.made ≤ clock
    → AreLawfulReplies clock table → AreLawfulReplies clock (with_reply reply (without_key reply.key table))
kept_replies clock reply table room made lawful =
    let other : Kept → Bool = λ kept. not (same_key reply.key kept.key) in
    one_more_reply clock reply (without_key reply.key table) room made
    (λ k d within. sym (key_sym reply.key _) ∙ not-true _ (filter_passes other table.kept k d within))
    (other_replies clock reply.key table lawful)

-- ---- challenges

-- none waits yet
pub no_challenges : (clock hold : ℕ) → AreLawfulChallenges clock (challenges.opening hold)
no_challenges clock hold = record {
  next = (omega arith, omega arith);
  few = omega arith;
  rising = λ i j d before within. absurd (omega arith);
  each = All-nil (IsLawfulChallenge clock 1);
}

-- some of them go
challenges_left : (clock : ℕ) (stays : Challenge → Bool) (table : Challenges) → AreLawfulChallenges clock table
    → AreLawfulChallenges clock (record table { challenges = filter stays table.challenges })
challenges_left clock stays table lawful = record {
  next = lawful.next;
  few = omega (arith, length-filter stays table.challenges, count_by-le-length stays table.challenges, lawful.few);
  rising = AllPairs-filter (λ (earlier later : Challenge). earlier.number < later.number) stays table.challenges lawful.rising;
  each = All-filter stays (IsLawfulChallenge clock table.next) table.challenges lawful.each;
}

-- one stays lawful while the clock goes on and numbers are given
pub challenge_later : (clock now next beyond : ℕ) → clock ≤ now → next ≤ beyond → (challenge : Challenge)
    → IsLawfulChallenge clock next challenge → IsLawfulChallenge now beyond challenge
challenge_later clock now next beyond later further challenge known = record {
  number = (known.number.0, omega (arith, known.number.1, further));
  made = omega (arith, known.made, later);
}

-- the clock goes on, and those that are no longer live go
pub live_challenges : (clock now : ℕ) (table : Challenges) → clock ≤ now → AreLawfulChallenges clock table
    → AreLawfulChallenges now (cut_challenges now table)
live_challenges clock now table later lawful = challenges_left now (is_challenge_live table.hold now) table (record {
  next = lawful.next;
  few = lawful.few;
  rising = lawful.rising;
  each = All-weaker (IsLawfulChallenge clock table.next) (IsLawfulChallenge now table.next)
      (challenge_later clock now table.next table.next later (omega arith)) table.challenges lawful.each;
})

-- the one that is answered goes
pub other_challenges : (clock client : ℕ) (value : List ℕ) (table : Challenges) → AreLawfulChallenges clock table
    → AreLawfulChallenges clock (without_answered value client table)
other_challenges clock client value = challenges_left clock (λ challenge. not (has_state value client challenge))

-- one more, where there is room for it and its number was not given yet
pub one_more_challenge : (clock : ℕ) (row : Challenge) (table : Challenges) → length table.challenges < challenges_max
    → table.next ≤ row.number → row.number ≤ last_challenge → row.made ≤ clock → AreLawfulChallenges clock table
    → AreLawfulChallenges clock (with_challenge_row row table)
one_more_challenge clock row table room rises last made lawful =
    let first : 1 ≤ table.next = lawful.next.0 in
    record {
      next = (omega arith, omega (arith, last));
      few = omega (arith, length_push table.challenges row, room);
      rising = all_pairs_push (λ (earlier later : Challenge). earlier.number < later.number) table.challenges row lawful.rising
          (λ k d within. omega (arith, (lawful.each k d within).number.1, rises));
      each = All-push (IsLawfulChallenge clock (row.number + 1)) table.challenges row
          (All-weaker (IsLawfulChallenge clock table.next) (IsLawfulChallenge clock (row.number + 1))
          (challenge_later clock clock table.next (row.number + 1) (omega arith) (omega (arith, rises))) table.challenges
          lawful.each)
          (record { number = (omega (arith, first, rises), omega arith); made = made });
    }

-- one more may wait, and there is a number for it
record HasRoom (table : Challenges) : Type 0 where
  few : length table.challenges < challenges_max
  last : table.next ≤ last_challenge

-- a number is given only where there is room
next_number_says : (table : Challenges) → IsOk (next_number table) → HasRoom table
unfolding next_number
next_number_says table is = at (nat_le challenges_max (length table.challenges)) (nat_le table.next last_challenge) refl refl is
  where
    at : (many fits : Bool) → nat_le challenges_max (length table.challenges) ≡ many → nat_le table.next last_challenge ≡ fits
        → IsOk (cond (many || not fits) (Err Full) (Ok table.next)) → HasRoom table
    at true fits many_is fits_is is = absurd (cc)
    at false false many_is fits_is is = absurd (cc)
    at false true many_is fits_is is = record {
      few = leb-false challenges_max (length table.challenges) many_is;
      last = leb-true table.next last_challenge fits_is;
    }

-- one more waits
pub more_challenges : (client user now : ℕ) (draw : List ℕ) (table : Challenges) → IsOk (next_number table)
    → AreLawfulChallenges now table
    → AreLawfulChallenges now (with_challenge client user draw now table)
more_challenges client user now draw table given lawful =
    let new : Challenge = record { number = table.next; draw = draw; client = client; user = user; made = now } in
    let room : HasRoom table = next_number_says table given in
    one_more_challenge now new table room.few (omega arith) room.last (omega arith) lawful

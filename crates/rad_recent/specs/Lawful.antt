-- The laws of kept replies and of challenges: what holds of each table with no rows, and is kept when rows go and when one is added
-- where there is room, while moments don't fall. `lawful_replies` and `lawful_challenges` say so.
use Rattle.std.specs.Prelude.{◌≡◌, ◌↔◌, ℕ, ◌+◌, ◌≤◌, ◌<◌, false, List, length, All, AllPairs, IsOk, Ok}
use Rattle.std.specs.Int.{IsInRange}
use Rattle.rad_recent.specs.Challenges.{Challenges, challenges_max, cut_challenges, last_challenge, next_number, with_challenge}
use Rattle.rad_recent.specs.Challenges.{without_answered}
use Rattle.rad_recent.specs.Challenges as challenges
use Rattle.rad_recent.specs.Recent.{Replies, cut_replies, is_full, kept_max, same_key, with_reply, without_key}
use Rattle.rad_recent.specs.Recent as replies
use Rattle.rad_recent.specs.Restored.{challenge_restorable, challenges_rebuilt, last_challenge_restorable, replies_rebuilt}
use Rattle.rad_recent.specs.Restored.{reply_restorable, with_challenge_row, with_last_challenge}
use Rattle.rad_recent.specs.declared.challenge.Challenge.{Challenge}
use Rattle.rad_recent.specs.declared.kept.Kept.{Kept}
use Rattle.rad_recent.specs.declared.key.Key.{Key}

-- ---- kept replies

-- two kept replies are to requests with different keys
abbrev pub HaveDifferentKeys : Kept → Kept → Type 0
HaveDifferentKeys earlier later = same_key earlier.key later.key ≡ false

-- what holds of the kept replies when the clock shows a moment
pub record AreLawfulReplies (clock : ℕ) (table : Replies) : Type 0 where
  -- there are no more than there may be
  pub few : length table.kept ≤ kept_max
  -- no two are to requests with one key
  pub keys : AllPairs HaveDifferentKeys table.kept
  -- none was made after the clock
  pub made : All (λ reply. reply.made ≤ clock) table.kept

-- ---- challenges

-- what holds of each lawful challenge, when the number of the next one is given
pub record IsLawfulChallenge (clock next : ℕ) (challenge : Challenge) : Type 0 where
  -- its number counts from 1, and the next one is greater
  pub number : (1 ≤ challenge.number) × (challenge.number < next)
  -- it was not made after the clock
  pub made : challenge.made ≤ clock

-- what holds of the challenges when the clock shows a moment
pub record AreLawfulChallenges (clock : ℕ) (table : Challenges) : Type 0 where
  -- the next number counts from 1; after the last number there is only one more
  pub next : IsInRange 1 (last_challenge + 1) table.next
  -- there are no more than there may be
  pub few : length table.challenges ≤ challenges_max
  -- numbers rise along the list, so no two challenges have the same
  pub rising : AllPairs (λ (earlier later : Challenge). earlier.number < later.number) table.challenges
  -- each is lawful
  pub each : All (IsLawfulChallenge clock table.next) table.challenges

-- ---- what keeps the law of kept replies

abbrev pub OpeningRepliesAreLawful : Type 0
OpeningRepliesAreLawful = (clock window : ℕ) → AreLawfulReplies clock (replies.opening window)

-- moments don't fall
abbrev pub ExpiryLeavesLawfulReplies : Type 0
ExpiryLeavesLawfulReplies = (clock now : ℕ) (table : Replies) → clock ≤ now
    → AreLawfulReplies clock table → AreLawfulReplies now (cut_replies now table)

abbrev pub RemovalLeavesLawfulReplies : Type 0
RemovalLeavesLawfulReplies = (clock : ℕ) (key : Key) (table : Replies)
    → AreLawfulReplies clock table → AreLawfulReplies clock (without_key key table)

-- the reply takes the place of one with its key, there is room for it, and it was not made after the clock
abbrev pub KeepingLeavesLawfulReplies : Type 0
KeepingLeavesLawfulReplies = (clock : ℕ) (reply : Kept) (table : Replies)
    → is_full (without_key reply.key table) ≡ false → reply.made ≤ clock
    → AreLawfulReplies clock table → AreLawfulReplies clock (with_reply reply (without_key reply.key table))

-- ---- what keeps the law of challenges

abbrev pub OpeningChallengesAreLawful : Type 0
OpeningChallengesAreLawful = (clock hold : ℕ) → AreLawfulChallenges clock (challenges.opening hold)

-- moments don't fall
abbrev pub ExpiryLeavesLawfulChallenges : Type 0
ExpiryLeavesLawfulChallenges = (clock now : ℕ) (table : Challenges) → clock ≤ now
    → AreLawfulChallenges clock table → AreLawfulChallenges now (cut_challenges now table)

abbrev pub AnswerLeavesLawfulChallenges : Type 0
AnswerLeavesLawfulChallenges = (clock client : ℕ) (value : List ℕ) (table : Challenges)
    → AreLawfulChallenges clock table → AreLawfulChallenges clock (without_answered value client table)

-- one more challenge may wait, and there is a number for it
abbrev pub IssueLeavesLawfulChallenges : Type 0
IssueLeavesLawfulChallenges = (client user now : ℕ) (draw : List ℕ) (table : Challenges) → IsOk (next_number table)
    → AreLawfulChallenges now table → AreLawfulChallenges now (with_challenge client user draw now table)

-- ---- what is put back

-- a reply is put back into a lawful table exactly where the table with it is lawful
abbrev pub RestoredReplyIsTheLaw : Type 0
RestoredReplyIsTheLaw = (clock : ℕ) (reply : Kept) (table : Replies) → AreLawfulReplies clock table
    → (reply_restorable clock reply table ≡ Ok tt) ↔ AreLawfulReplies clock (with_reply reply table)

-- no lawful table of replies is refused
abbrev pub RestoreRebuildsReplies : Type 0
RestoreRebuildsReplies = (clock : ℕ) (table : Replies) → AreLawfulReplies clock table → replies_rebuilt clock table ≡ Ok table

-- a challenge is put back into a lawful table exactly where the table with it is lawful and its number was not given yet
abbrev pub RestoredChallengeIsTheLaw : Type 0
RestoredChallengeIsTheLaw = (clock : ℕ) (row : Challenge) (table : Challenges)
    → row.number ≤ last_challenge → AreLawfulChallenges clock table
    → (challenge_restorable clock row table ≡ Ok tt)
    ↔ ((table.next ≤ row.number) × AreLawfulChallenges clock (with_challenge_row row table))

-- the last number that was given, too, where no greater one was
abbrev pub RestoredLastChallengeIsTheLaw : Type 0
RestoredLastChallengeIsTheLaw = (clock last : ℕ) (table : Challenges)
    → last ≤ last_challenge → AreLawfulChallenges clock table
    → (last_challenge_restorable last table ≡ Ok tt)
    ↔ ((table.next ≤ last + 1) × AreLawfulChallenges clock (with_last_challenge last table))

-- no lawful table of challenges is refused
abbrev pub RestoreRebuildsChallenges : Type 0
RestoreRebuildsChallenges =
    (clock : ℕ) (table : Challenges) → AreLawfulChallenges clock table → challenges_rebuilt clock table ≡ Ok table

-- Rows that a table once held, put back one after the other; or which rule of its law a row breaks.
use Rattle.std.specs.Prelude.{ℕ, ◌+◌, ◌-◌, nat_le, nat_lt, Bool, List, [], ◌∷◌, ◌++◌, length, Result, Ok}
use Rattle.std.specs.List.{list_any}
use Rattle.rad_packet.specs.Ladders.{◌>>=◌, refuse_if}
use Rattle.rad_recent.specs.Challenges.{Challenges, challenges_max}
use Rattle.rad_recent.specs.Challenges as challenges
use Rattle.rad_recent.specs.Recent.{Replies, is_full, same_key, with_reply}
use Rattle.rad_recent.specs.Recent as replies
use Rattle.rad_recent.specs.declared.challenge.Challenge.{Challenge}
use Rattle.rad_recent.specs.declared.kept.Kept.{Kept}
use Rattle.rad_recent.specs.declared.key.Key.{Key}
use Rattle.rad_row_fault.specs.declared.row_fault.RowFault.{RowFault}
use Rattle.rad_row_fault.specs.declared.row_fault.RowFault.TheVariants.{Full, Key as KeyHeld, Moments, Number}

-- ---- kept replies

-- whether a reply to a request with this key is kept, live or not
abbrev pub has_reply_to : Key → Replies → Bool
has_reply_to key table = list_any (λ reply. same_key reply.key key) table.kept

-- whether a reply can be put back when the clock shows a moment, or the first rule that it breaks
unfoldable pub reply_restorable : ℕ → Kept → Replies → Result (Unit {0}) RowFault
reply_restorable clock reply table = do
  made ← refuse_if (nat_lt clock reply.made) Moments
  other ← refuse_if (has_reply_to reply.key table) KeyHeld
  refuse_if (is_full table) Full

-- the table after replies that are put back in their order, or the first refusal
unfoldable pub replies_restored : ℕ → List Kept → Replies → Result Replies RowFault
replies_restored clock [] table = Ok table
replies_restored clock (reply ∷ rest) table = do
  fits ← reply_restorable clock reply table
  replies_restored clock rest (with_reply reply table)

-- a table of which the replies are put back into one that has none
abbrev pub replies_rebuilt : ℕ → Replies → Result Replies RowFault
replies_rebuilt clock table = replies_restored clock table.kept (replies.opening table.window)

-- ---- challenges

-- the table with a challenge after the others; the next number is the one after the challenge's
abbrev pub with_challenge_row : Challenge → Challenges → Challenges
with_challenge_row row table = record table { challenges = table.challenges ++ row ∷ []; next = row.number + 1 }

-- whether a challenge can be put back when the clock shows a moment, or the first rule that it breaks
unfoldable pub challenge_restorable : ℕ → Challenge → Challenges → Result (Unit {0}) RowFault
challenge_restorable clock row table = do
  rises ← refuse_if (nat_lt row.number table.next) Number
  made ← refuse_if (nat_lt clock row.made) Moments
  refuse_if (nat_le challenges_max (length table.challenges)) Full

-- the table after which this is the last number that was given: rows don't tell it, since challenges with greater numbers may have
-- come and gone
abbrev pub with_last_challenge : ℕ → Challenges → Challenges
with_last_challenge last table = record table { next = last + 1 }

-- whether it can be put back: no greater number was given
abbrev pub last_challenge_restorable : ℕ → Challenges → Result (Unit {0}) RowFault
last_challenge_restorable last table = refuse_if (nat_lt (last + 1) table.next) Number

-- the table after challenges that are put back in their order, or the first refusal
unfoldable pub challenges_restored : ℕ → List Challenge → Challenges → Result Challenges RowFault
challenges_restored clock [] table = Ok table
challenges_restored clock (row ∷ rows) table = do
  fits ← challenge_restorable clock row table
  challenges_restored clock rows (with_challenge_row row table)

-- a table of which the challenges and then the last number are put back into one that has none
unfoldable pub challenges_rebuilt : ℕ → Challenges → Result Challenges RowFault
challenges_rebuilt clock table = do
  rows ← challenges_restored clock table.challenges (challenges.opening table.hold)
  fits ← last_challenge_restorable (table.next - 1) rows
  Ok (with_last_challenge (table.next - 1) rows)

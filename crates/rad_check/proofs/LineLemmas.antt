-- The lines of a file of users.
use Rattle.std.proofs.Common.{◌≡◌, ℕ, ◌<◌, ◌≤◌, Bool, true, false, ltb, List, length, Some, refl, sym, arith}
use Rattle.std.specs.Prelude.{not, position}
use Rattle.std.specs.List.{position_or_len}
use Rattle.std.proofs.lemmas.Bool.Decides.{nat_tests}
use Rattle.std.proofs.lemmas.Option.{cond_some}
use Rattle.std.proofs.lemmas.List.Splits.{length-slice_split}
use Rattle.std.proofs.lemmas.List.Sums.{count_by-le-length}
use Rattle.rad_check.specs.UsersLines.{begins_with_entry, ends_line, is_other_header, is_skipped, lines_of, stray_place}

position-within : {X : Type 0} (p : X → Bool) (xs : List X) (place : ℕ) → position p xs ≡ Some place → place < length xs
position-within p xs place is =
    let parts = cond_some (ltb (position_or_len p xs) (length xs)) (position_or_len p xs) place is in
    grind (arith, nat_tests)

place-within : (text : List ℕ) (p : List ℕ → Bool) (place : ℕ) → position p (lines_of text) ≡ Some place → place ≤ length text
place-within text p place is =
    let within = position-within p (lines_of text) place is in
    omega (arith, within, length-slice_split ends_line text, count_by-le-length ends_line text)

stray_step : (text : List ℕ) (place : ℕ) (b : Bool) → begins_with_entry (lines_of text) ≡ b
    → Some place ≡ stray_place (lines_of text) → place ≤ length text
stray_step text place true is found = place-within text is_other_header place (sym (rw is at found))
stray_step text place false is found = place-within text (λ line. not (is_skipped line)) place (sym (rw is at found))

-- a stray line is one of the text
pub stray_place-within : (text : List ℕ) (place : ℕ) → Some place ≡ stray_place (lines_of text) → place ≤ length text
stray_place-within text place found = stray_step text place (begins_with_entry (lines_of text)) refl found

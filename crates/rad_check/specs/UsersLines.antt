-- The lines of a file of users, and the head of a configuration that may name it. A text is a list of octets, which are numbers
-- below 256; a line has no line feed.
use Rattle.std.specs.Prelude.{ℕ, ◌+◌, ◌==◌, ◌&&◌, ◌||◌, not, Bool, true, false, if◌then◌else◌, List, [], ◌∷◌, length, drop, codes}
use Rattle.std.specs.Prelude.{position, Option, Some, None, option_map, option_and_then}
use Rattle.std.specs.List.{find, slice_split, starts_with}
use Rattle.rad_config_fault.specs.declared.config_fault.Part.{Part}
use Rattle.rad_config_fault.specs.declared.config_fault.Part.TheVariants as parts
use Rattle.rad_config_fault.specs.Faults.{part_name}

-- line feed
abbrev pub ends_line : ℕ → Bool
ends_line octet = octet == 10

-- space, tab, carriage return
abbrev pub is_blank : ℕ → Bool
is_blank octet = (octet == 32 || octet == 9) || octet == 13

abbrev pub bracket : ℕ
bracket = 91

-- ---- the head of a configuration

-- whether only blanks come before the next octet on its line, where that `starts` of this octet is known
abbrev pub goes_on : Bool → ℕ → Bool
goes_on starts octet = ends_line octet || (starts && is_blank octet)

-- what comes before the first bracket that only blanks come before on its line
abbrev pub head_from : Bool → List ℕ → List ℕ
head_from starts [] = []
head_from starts (octet ∷ text) = if starts && octet == bracket then [] else octet ∷ head_from (goes_on starts octet) text

abbrev pub head_of : List ℕ → List ℕ
head_of text = head_from true text

-- ---- the lines of a file of users

abbrev pub lines_of : List ℕ → List (List ℕ)
lines_of text = slice_split ends_line text

-- a line without the blanks at its front
abbrev pub unindented : List ℕ → List ℕ
unindented [] = []
unindented (octet ∷ line) = if is_blank octet then unindented line else octet ∷ line

-- what comes after a word, which blanks may precede
abbrev pub after_word : List ℕ → List ℕ → Option (List ℕ)
after_word word line = if starts_with ◌==◌ (unindented line) word then Some (drop (length word) (unindented line)) else None

-- empty, or a comment: 35 is #
abbrev pub is_void : List ℕ → Bool
is_void [] = true
is_void (octet ∷ line) = octet == 35

abbrev pub is_skipped : List ℕ → Bool
is_skipped line = is_void (unindented line)

-- what comes after a part's `[[..]]`
abbrev pub after_header : Part → List ℕ → Option (List ℕ)
after_header part line =
    option_and_then (after_word (codes "]]")) (option_and_then (after_word (part_name part)) (after_word (codes "[[") line))

abbrev pub is_header_end : Option (List ℕ) → Bool
is_header_end None = false
is_header_end (Some rest) = is_skipped rest

-- whether a line is the header of an entry of a part
abbrev pub is_header : Part → List ℕ → Bool
is_header part line = is_header_end (after_header part line)

-- the headers that a file of users may have
abbrev pub is_entry : List ℕ → Bool
is_entry line = is_header parts.User line || is_header parts.Group line

abbrev pub begins_with_bracket : List ℕ → Bool
begins_with_bracket line = starts_with ◌==◌ (unindented line) (bracket ∷ [])

abbrev pub is_other_header : List ℕ → Bool
is_other_header line = begins_with_bracket line && not (is_entry line)

abbrev pub is_entry_or_none : Option (List ℕ) → Bool
is_entry_or_none None = true
is_entry_or_none (Some line) = is_entry line

-- whether the first line that isn't skipped is the header of an entry, if there is one
abbrev pub begins_with_entry : List (List ℕ) → Bool
begins_with_entry lines = is_entry_or_none (find (λ line. not (is_skipped line)) lines)

-- the place of the first line that may not stand in a file of users
abbrev pub stray_place : List (List ℕ) → Option ℕ
stray_place lines =
    if begins_with_entry lines then position is_other_header lines else position (λ line. not (is_skipped line)) lines

-- the first line, from 1, that may not stand in a file of users
abbrev pub first_stray_line : List ℕ → Option ℕ
first_stray_line text = option_map (λ place. place + 1) (stray_place (lines_of text))

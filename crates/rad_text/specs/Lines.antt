-- The lines of a transcript: a configuration, a line `---`, and a line for each datagram. A text is a list of octets,
-- which are numbers below 256.
use Rattle.std.specs.Prelude.{◌≡◌, ◌⊎◌, ℕ, ◌<◌, ◌==◌, Bool, true, not, if◌then◌else◌, List, [], ◌∷◌, ◌++◌, length, codes, filter}
use Rattle.std.specs.Prelude.{map, Option, Some, None, option_map}
use Rattle.std.specs.List.{flat_map}
use lib.Pointwise.{pointwise}

abbrev pub line_feed : ℕ
line_feed = 10

abbrev pub carriage_return : ℕ
carriage_return = 13

-- an octet at the front of the first line
abbrev pub onto_first : ℕ → List (List ℕ) → List (List ℕ)
onto_first octet [] = (octet ∷ []) ∷ []
onto_first octet (line ∷ lines) = (octet ∷ line) ∷ lines

-- A line ends at a line feed, which is no part of it, or at the end of the text.
abbrev pub lines_of : List ℕ → List (List ℕ)
lines_of [] = []
lines_of (octet ∷ text) = if octet == line_feed then [] ∷ lines_of text else onto_first octet (lines_of text)

-- one carriage return at the end of a line is ignored
abbrev pub without_return : List ℕ → List ℕ
without_return [] = []
without_return (octet ∷ []) = if octet == carriage_return then [] else octet ∷ []
without_return (octet ∷ next ∷ line) = octet ∷ without_return (next ∷ line)

-- the line that parts the configuration from the datagrams
abbrev pub is_divider : List ℕ → Bool
is_divider line = pointwise ◌==◌ (without_return line) (codes "---")

-- the lines before the first divider and those after it
abbrev pub divided : List (List ℕ) → Option (List (List ℕ) × List (List ℕ))
divided [] = None
divided (line ∷ lines) =
    if is_divider line then Some ([], lines) else option_map (λ parts. (line ∷ parts.0, parts.1)) (divided lines)

-- lines as the text that they stood in, each ended by its line feed
abbrev pub text_of : List (List ℕ) → List ℕ
text_of lines = flat_map (λ line. line ++ line_feed ∷ []) lines

-- a line, without its line feed, and the text after it: the first of a text's lines
pub record IsFirstLine (text line rest : List ℕ) : Type 0 where
  pub lines : lines_of text ≡ line ∷ lines_of rest
  pub ends : (text ≡ line ++ line_feed ∷ rest) ⊎ (rest ≡ [])
  pub shorter : length rest < length text

-- the text of the lines before the first divider, and a text with the lines after it
pub record Divides (text before after : List ℕ) : Type 0 where
  pub lines_before : List (List ℕ)
  pub parts : divided (lines_of text) ≡ Some (lines_before, lines_of after)
  pub before_is : before ≡ text_of lines_before

-- empty lines and those that begin with `#` are skipped
abbrev pub is_skipped : List ℕ → Bool
is_skipped [] = true
is_skipped (octet ∷ line) = octet == 35

-- the lines that are datagrams
abbrev pub datagram_lines : List (List ℕ) → List (List ℕ)
datagram_lines lines = filter (λ line. not (is_skipped line)) (map without_return lines)

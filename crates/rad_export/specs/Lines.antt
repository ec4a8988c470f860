-- Lines of records: JSON (RFC 8259), an object on each line, and CSV (RFC 4180, with a line feed alone after each line). A text is
-- a list of octets.
use Rattle.std.specs.Prelude.{◌≡◌, ℕ, List, [], ◌∷◌, ◌++◌, map, flat_map, bytes_eq, codes, decimal, if◌then◌else◌, Option, Some}
use Rattle.std.specs.Prelude.{None}
use Rattle.std.specs.Fmt.{signed_decimal}
use Rattle.csv.specs.Writing.{default_writer, row_text}
use Rattle.hex.specs.Hex.{encode_lower}
use Rattle.json.specs.Print.{print}
use Rattle.json.specs.Token.{Token, begin_object, end_object, key, string, number}
use Rattle.sqlite_value.specs.Order.{Row, column}
use Rattle.sqlite_value.specs.declared.value.Value.{Value}
use Rattle.sqlite_value.specs.declared.value.Value.TheVariants.{Null, Int, Real, Text, Blob}
use Rattle.rad_export.specs.Columns.{Column, columns, shown}
use Rattle.rad_export.specs.declared.format.Format.{Format}
use Rattle.rad_export.specs.declared.format.Format.TheVariants.{Json, Csv}

-- the octet that ends a line
abbrev pub line_feed : ℕ
line_feed = 10

abbrev pub generation_name : List ℕ
generation_name = codes "generation"

-- what a column shows of a row whose time has this text
abbrev pub shown_in : Option (List ℕ) → Row → Column → Value
shown_in time row c = shown time c.holds (column row c.at)

-- ---- JSON

-- the member of an object with this name; none for what isn't shown
abbrev pub member : List ℕ → Value → List Token
member name Null = []
member name (Int n) = key name ∷ number (signed_decimal n) ∷ []
member name (Real x) = []
member name (Text text) = key name ∷ string text ∷ []
member name (Blob octets) = key (name ++ codes ":hex") ∷ string (encode_lower octets) ∷ []

abbrev pub json_line : Option (List ℕ) → ℕ → Row → List ℕ
json_line time generation row =
    print (begin_object ∷ key generation_name ∷ number (decimal generation)
    ∷ flat_map (λ c. member c.name (shown_in time row c)) columns
    ++ end_object ∷ [])
    ++ line_feed ∷ []

-- ---- CSV

-- a field; an empty one for what isn't shown
abbrev pub field : Value → List ℕ
field Null = []
field (Int n) = signed_decimal n
field (Real x) = []
field (Text text) = text
field (Blob octets) = codes "\\x" ++ encode_lower octets

abbrev pub csv_line : Option (List ℕ) → ℕ → Row → List ℕ
csv_line time generation row = row_text default_writer (decimal generation ∷ map (λ c. field (shown_in time row c)) columns)

-- the line of the columns' names
abbrev pub csv_head : List ℕ
csv_head = row_text default_writer (generation_name ∷ map (λ c. c.name) columns)

-- ---- both

-- the format with this name
abbrev pub format_named : List ℕ → Option Format
format_named name =
    if bytes_eq name (codes "json") then Some Json
    else if bytes_eq name (codes "csv") then Some Csv
    else None

abbrev pub head_text : Format → List ℕ
head_text Json = []
head_text Csv = csv_head

abbrev pub line_text : Format → Option (List ℕ) → ℕ → Row → List ℕ
line_text Json = json_line
line_text Csv = csv_line

-- The text is the earlier one with the line of a row after it. How the row's time is written is left open.
abbrev pub AppendsLine : Format → ℕ → Row → List ℕ → List ℕ → Type 0
AppendsLine format generation row earlier text = (time : Option (List ℕ)) × (text ≡ earlier ++ line_text format time generation row)

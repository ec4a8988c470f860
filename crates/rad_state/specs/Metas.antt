-- Metas as the rows of a table: the rowid 1, format, rules, the text of the configuration, the boot's id, what the boot clock
-- showed at moment 0, and the wall time at which the generation began, both in milliseconds.
use Rattle.std.specs.Prelude.{◌≡◌, ◌≢◌, ◌<◌, ◌^◌, ℕ, ℤ, pos, length, List, [], ◌∷◌, Option, None, Some, refl}
use Rattle.sqlite_value.specs.declared.value.Value.{Value}
use Rattle.sqlite_value.specs.declared.value.Value.TheVariants.{Null, Int, Real, Text, Blob}
use Rattle.sqlite_value.specs.Order.{Row, column}
use Rattle.rad_journal.specs.Rows.{number_of, octets_of}
use Rattle.rad_state.specs.declared.meta.Meta.{Meta}

-- the tree of the table
abbrev pub meta_table : ℕ
meta_table = 3

-- the integer of a value that is one
abbrev pub integer_of : Value → ℤ
integer_of (Int n) = n
integer_of Null = pos 0
integer_of (Real x) = pos 0
integer_of (Text t) = pos 0
integer_of (Blob b) = pos 0

-- the octets of a value that is a text
abbrev pub text_of : Value → List ℕ
text_of (Text t) = t
text_of Null = []
text_of (Int n) = []
text_of (Real x) = []
text_of (Blob b) = []

-- the row of a meta
abbrev pub meta_row : Meta → Row
meta_row meta =
    Int (pos 1)
    ∷ Int (pos meta.format)
    ∷ Int (pos meta.rules)
    ∷ Text meta.configuration
    ∷ Blob meta.boot
    ∷ Int meta.zero
    ∷ Int meta.wall
    ∷ []

-- the columns of a row, after its rowid
abbrev pub at_format : ℕ
at_format = 1

abbrev pub at_rules : ℕ
at_rules = 2

abbrev pub at_configuration : ℕ
at_configuration = 3

abbrev pub at_boot : ℕ
at_boot = 4

abbrev pub at_zero : ℕ
at_zero = 5

abbrev pub at_wall : ℕ
at_wall = 6

-- the meta of a row that is one's
abbrev pub meta_of : Row → Meta
meta_of row = record {
  format = number_of (column row at_format);
  rules = number_of (column row at_rules);
  configuration = text_of (column row at_configuration);
  boot = octets_of (column row at_boot);
  zero = integer_of (column row at_zero);
  wall = integer_of (column row at_wall);
}

-- the rows of a table with this meta, or none
abbrev pub meta_rows : Option Meta → List Row
meta_rows None = []
meta_rows (Some meta) = meta_row meta ∷ []

-- the meta of a table that has one
abbrev pub meta_held : List Row → Option Meta
meta_held [] = None
meta_held (row ∷ rows) = Some (meta_of row)

-- the rows are those of a meta, or none
abbrev pub IsMetas : List Row → Type 0
IsMetas rows = rows ≡ meta_rows (meta_held rows)

-- the numbers have 32 bits, and the boot's id has 16 octets
pub record CanBeKept (meta : Meta) : Type 0 where
  pub format : meta.format < 2 ^ 32
  pub rules : meta.rules < 2 ^ 32
  pub boot : length meta.boot ≡ 16

-- the row of no meta
abbrev pub IsNoMeta : Row → Type 0
IsNoMeta row = (meta : Meta) → CanBeKept meta → row ≢ meta_row meta

-- the rows of no table with a meta, or none
pub record AreNoMetas (rows : List Row) : Type 0 where
  pub none : rows ≢ []
  pub one : (meta : Meta) → CanBeKept meta → rows ≢ meta_row meta ∷ []

-- ---- a row is read back as its meta

pub meta_back : (meta : Meta) → meta_of (meta_row meta) ≡ meta
meta_back meta = refl

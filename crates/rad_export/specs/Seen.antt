-- What the code holds, as the definitions have it.
use Rattle.std.specs.Prelude.{ℕ, List, Option, string_bytes}
use Rattle.sqlite_value.specs.Order.{Row, column}
use Rattle.sqlite_value.specs.declared.value.Value.{Value}
use Rattle.sqlite_value.specs.declared.value.Value.TheVariants.{Null, Int, Text, Blob}
use Rattle.rad_export.specs.Columns.{shown}
use Rattle.rad_export.specs.declared.columns.Column.{Column}
use Rattle.rad_export.specs.declared.shown.Shown.{Shown}
use Rattle.rad_export.specs.declared.shown.Shown.TheVariants as code

-- what is shown
abbrev pub seen : Shown → Value
seen code.Nothing = Null
seen (code.Number n) = Int n
seen (code.Text text) = Text text.now
seen (code.Made text) = Text (string_bytes text)
seen (code.Octets octets) = Blob octets.now

-- a column's name
abbrev pub name_of : Column → List ℕ
name_of c = c.1.now

-- what a column shows of a row whose time has this text
abbrev pub shown_of : Option (List ℕ) → Row → Column → Value
shown_of time row c = shown time c.2 (column row c.0)

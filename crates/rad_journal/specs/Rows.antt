-- Entries as the rows of a table: the rowid, counted from 1, wall time and moment in milliseconds, client, source address, source
-- port, door, session, draw, request and answer.
use Rattle.std.specs.Prelude.{◌≡◌, ◌<◌, ◌^◌, ℕ, zero, suc, ℤ, pos, negsuc, List, [], ◌∷◌, map, length, Option, None, Some, IfSome}
use Rattle.std.specs.Prelude.{refl}
use Rattle.std.proofs.Common.{ap, ◌∙◌}
use Rattle.sqlite_value.specs.declared.value.Value.{Value}
use Rattle.sqlite_value.specs.declared.value.Value.TheVariants.{Null, Int, Real, Text, Blob}
use Rattle.sqlite_value.specs.Order.{Row, column}
use Rattle.rad_auth.specs.declared.arrival.Door.{Door}
use Rattle.rad_auth.specs.declared.arrival.Door.TheVariants.{Auth, Acct}
use Rattle.rad_journal.specs.declared.kept.Kept.{Kept}

-- the tree of the table
abbrev pub table : ℕ
table = 0

-- ---- values

abbrev pub magnitude : ℤ → ℕ
magnitude (pos n) = n
magnitude (negsuc n) = 0

-- the number of a value that is one, from 0 up
abbrev pub number_of : Value → ℕ
number_of (Int n) = magnitude n
number_of Null = 0
number_of (Real x) = 0
number_of (Text t) = 0
number_of (Blob b) = 0

-- the octets of a value that is a blob
abbrev pub octets_of : Value → List ℕ
octets_of (Blob b) = b
octets_of Null = []
octets_of (Int n) = []
octets_of (Real x) = []
octets_of (Text t) = []

-- the number of a door
abbrev pub door_number : Door → ℕ
door_number Auth = 0
door_number Acct = 1

-- the door of a number that is one's
abbrev pub door_of : ℕ → Door
door_of zero = Auth
door_of (suc n) = Acct

-- the number of a session, if there is one
abbrev pub session_value : Option ℕ → Value
session_value None = Null
session_value (Some number) = Int (pos number)

-- the number of the session that a value has, if it has one
abbrev pub session_of : Value → Option ℕ
session_of (Int n) = Some (magnitude n)
session_of Null = None
session_of (Real x) = None
session_of (Text t) = None
session_of (Blob b) = None

-- ---- rows

-- the row of an entry
abbrev pub row_of : ℕ → Kept → Row
row_of number entry =
    Int (pos number)
    ∷ Int (pos entry.wall)
    ∷ Int (pos entry.moment)
    ∷ Int (pos entry.client)
    ∷ Int (pos entry.source)
    ∷ Int (pos entry.port)
    ∷ Int (pos (door_number entry.door))
    ∷ session_value entry.session
    ∷ Blob entry.draw
    ∷ Blob entry.octets
    ∷ Blob entry.answer
    ∷ []

-- the numbers and the draw of an entry are such as an entry in memory has, with times and sessions below 2 ^ 63
pub record IsWithin (entry : Kept) : Type 0 where
  pub wall : entry.wall < 2 ^ 63
  pub moment : entry.moment < 2 ^ 63
  pub client : entry.client < 2 ^ 32
  pub source : entry.source < 2 ^ 32
  pub port : entry.port < 2 ^ 16
  pub session : IfSome entry.session (λ number. number < 2 ^ 63)
  pub draw : length entry.draw ≡ 16

-- the row is that of such an entry
abbrev pub IsRow : Row → Type 0
IsRow row = (number : ℕ) × (entry : Kept) × IsWithin entry × (row ≡ row_of number entry)

-- the columns of a row, after its rowid
abbrev pub at_wall : ℕ
at_wall = 1

abbrev pub at_moment : ℕ
at_moment = 2

abbrev pub at_client : ℕ
at_client = 3

abbrev pub at_source : ℕ
at_source = 4

abbrev pub at_port : ℕ
at_port = 5

abbrev pub at_door : ℕ
at_door = 6

abbrev pub at_session : ℕ
at_session = 7

abbrev pub at_draw : ℕ
at_draw = 8

abbrev pub at_octets : ℕ
at_octets = 9

abbrev pub at_answer : ℕ
at_answer = 10

-- the entry of a row that is one's
abbrev pub entry_of : Row → Kept
entry_of row = record {
  wall = number_of (column row at_wall);
  moment = number_of (column row at_moment);
  client = number_of (column row at_client);
  source = number_of (column row at_source);
  port = number_of (column row at_port);
  door = door_of (number_of (column row at_door));
  session = session_of (column row at_session);
  draw = octets_of (column row at_draw);
  octets = octets_of (column row at_octets);
  answer = octets_of (column row at_answer);
}

-- the rows of entries, numbered from here
abbrev pub rows_from : ℕ → List Kept → List Row
rows_from number [] = []
rows_from number (entry ∷ entries) = row_of number entry ∷ rows_from (suc number) entries

abbrev pub entries_of : List Row → List Kept
entries_of rows = map entry_of rows

-- the rows are those of entries, numbered from 1
abbrev pub IsLog : List Row → Type 0
IsLog rows = rows ≡ rows_from 1 (entries_of rows)

-- the rows are those of so many entries, numbered from 1
abbrev pub IsCounted : List Row → ℕ → Type 0
IsCounted rows count = IsLog rows × (length (entries_of rows) ≡ count)

-- ---- a row is read back as its entry

pub door_back : (door : Door) → door_of (door_number door) ≡ door
door_back Auth = refl
door_back Acct = refl

pub session_back : (session : Option ℕ) → session_of (session_value session) ≡ session
session_back None = refl
session_back (Some number) = refl

pub entry_back : (number : ℕ) (entry : Kept) → entry_of (row_of number entry) ≡ entry
entry_back number entry =
    ap (λ door. record entry { door = door; session = session_of (session_value entry.session) }) (door_back entry.door)
    ∙ ap (λ session. record entry { session = session }) (session_back entry.session)

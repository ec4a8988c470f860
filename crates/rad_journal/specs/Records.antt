-- What is recorded beside the entries, each record under the number of its entry: each Accounting-Request in one register, each
-- session that is granted in another.
use Rattle.std.specs.Prelude.{◌≡◌, ◌≢◌, All, ℕ, suc, ◌<◌, ◌^◌, ◌==◌, if◌then◌else◌, pos, List, [], ◌∷◌, ◌++◌, Option, None, Some}
use Rattle.std.specs.Prelude.{IfSome, option_map, option_to_list, Result, Ok, Err}
use Rattle.rad_accounting.specs.Records.{grant_row, report_row}
use Rattle.rad_accounting.specs.declared.occasion.Occasion.{Occasion}
use Rattle.rad_packet.specs.Attributes.{Attribute, attributes_of, first_integer}
use Rattle.rad_packet.specs.Bodies.{Body}
use Rattle.rad_packet.specs.Codes.{code_access_accept, code_accounting_request}
use Rattle.rad_packet.specs.Packets.{Packet, packet_of}
use Rattle.rad_packet.specs.Types.{type_framed_ip_address}
use Rattle.rad_packet.specs.declared.packet.ReadFault.{ReadFault}
use Rattle.rad_auth.specs.Clients.{Client}
use Rattle.rad_auth.specs.declared.arrival.Request.{Request}
use Rattle.rad_dictionary.specs.Meant.{IsGrantable}
use Rattle.rad_config.specs.declared.user.User.{User}
use Rattle.rad_pool.specs.declared.grant.Grant.{Grant}
use Rattle.rad_server.specs.Accounting.{class_number}
use Rattle.rad_server.specs.Replies.{access_accept}
use Rattle.rad_server.specs.Runs.{IsRequestOf}
use Rattle.rad_server.specs.declared.answer.Answer.TheVariants.{Send}
use Rattle.rad_server.specs.declared.entry.Entry.{Entry}
use Rattle.sqlite_trees.specs.Tree.{Trees, put_row}
use Rattle.sqlite_value.specs.Order.{Row}
use Rattle.rad_journal.specs.Kept.{kept_by}
use Rattle.rad_journal.specs.Rows.{IsLog, entries_of, table}
use Rattle.rad_journal.specs.declared.kept.Kept.{Kept}
use Rattle.rad_journal.specs.declared.register.Register.{Register}
use Rattle.rad_journal.specs.declared.register.Register.TheVariants.{Accounting, Grants}

-- the tree of a register's table
abbrev pub register_tree : Register → ℕ
register_tree Accounting = 1
register_tree Grants = 2

-- when and from whom the request of an entry with this number came, and the session that it names or is granted, if any
abbrev pub occasion_of : ℕ → Kept → Option ℕ → Occasion
occasion_of number entry session = record {
  entry = number;
  time = pos entry.wall;
  client = entry.client;
  source = entry.source;
  session = option_map pos session;
}

-- ---- accounting

-- the record of an entry, given what reading its request gives: of an Accounting-Request with the session that it names
abbrev pub report_read : ℕ → Kept → Result Packet ReadFault → Option Row
report_read number entry (Ok packet) =
    if packet.code == code_accounting_request then Some (report_row (occasion_of number entry entry.session) packet.attributes)
    else None
report_read number entry (Err fault) = None

abbrev pub report_of : ℕ → Kept → Option Row
report_of number entry = report_read number entry (packet_of entry.octets)

-- ---- grants

-- the attributes of an answer that is kept, if it is an Access-Accept
abbrev pub accepted : List ℕ → Option (List Attribute)
accepted [] = None
accepted (code ∷ octets) = if code == code_access_accept then attributes_of octets else None

-- the record of an entry, given what reading its request gives and the attributes of an Access-Accept: of the session in the Class,
-- with the Framed-IP-Address, if there is one
abbrev pub grant_read : ℕ → Kept → Result Packet ReadFault → Option (List Attribute) → Option Row
grant_read number entry (Ok packet) (Some reply) =
    option_map (λ session. grant_row (occasion_of number entry (Some session)) (first_integer type_framed_ip_address reply)
    packet.attributes) (class_number reply)
grant_read number entry (Ok packet) None = None
grant_read number entry (Err fault) reply = None

abbrev pub grant_of : ℕ → Kept → Option Row
grant_of number entry = grant_read number entry (packet_of entry.octets) (accepted entry.answer)

-- ---- registers

-- the record of an entry with this number in a register, if it has one there
abbrev pub record_of : Register → ℕ → Kept → Option Row
record_of Accounting number entry = report_of number entry
record_of Grants number entry = grant_of number entry

-- rows with one more, if there is one
abbrev pub with_record : Option Row → List Row → List Row
with_record None rows = rows
with_record (Some row) rows = put_row row rows

-- the records of entries that are numbered from here
abbrev pub records_from : Register → ℕ → List Kept → List Row
records_from register number [] = []
records_from register number (entry ∷ entries) =
    option_to_list (record_of register number entry) ++ records_from register (suc number) entries

-- the records of entries that are numbered from 1
abbrev pub records_of : Register → List Kept → List Row
records_of register entries = records_from register 1 entries

-- a database has entries, numbered from 1, and in each register their records, and no other
pub record IsJournal (db : Trees) : Type 0 where
  pub log : IsLog (db table)
  pub records : (register : Register) → db (register_tree register) ≡ records_of register (entries_of (db table))

-- ---- laws

-- of an admitted request that is kept: an Accounting-Request has a record, with its attributes, and no other request has one
abbrev pub AccountingIsRecorded : Type 0
AccountingIsRecorded = (clients : List Client) (request : Request) (entry : Entry) (kept : Kept) (wall number : ℕ)
    → IsRequestOf clients entry request → kept_by wall entry ≡ Some kept
    → record_of Accounting number kept
    ≡ (if request.packet.code == code_accounting_request
    then Some (report_row (occasion_of number kept kept.session) request.packet.attributes) else None)

-- numbers of a grant that fit into its attributes, as those in memory do
pub record FitsAttributes (grant : Grant) : Type 0 where
  pub number : grant.number < 2 ^ 64
  pub address : IfSome grant.address (λ address. address < 2 ^ 32)

-- the session that is granted to an admitted request that is kept has a record, with its number and its address
abbrev pub GrantsAreRecorded : Type 0
GrantsAreRecorded =
    (clients : List Client) (request : Request) (user : User) (grant : Grant) (entry : Entry) (kept : Kept) (wall number : ℕ)
    → IsRequestOf clients entry request → All IsGrantable user.reply.attributes → FitsAttributes grant
    → entry.answer ≡ Send (access_accept user grant request.packet)
    → kept_by wall entry ≡ Some kept
    → record_of Grants number kept
    ≡ Some (grant_row (occasion_of number kept (Some grant.number)) grant.address request.packet.attributes)

-- an entry with any other reply has none
abbrev pub OnlyGrantsAreRecorded : Type 0
OnlyGrantsAreRecorded = (body : Body) (entry : Entry) (kept : Kept) (wall number : ℕ) → entry.answer ≡ Send body
    → body.code ≢ code_access_accept → kept_by wall entry ≡ Some kept → record_of Grants number kept ≡ None

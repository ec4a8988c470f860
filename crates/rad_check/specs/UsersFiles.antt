-- A file of users that a configuration names, and both texts as one.
use Rattle.std.specs.Prelude.{◌≡◌, ℕ, ◌-◌, nat_lt, Bool, true, if◌then◌else◌, List, ◌∷◌, ◌++◌, length, Option, Some, None}
use Rattle.std.specs.Prelude.{option_map, Result, Ok, Err, is_some, string_bytes}
use Rattle.std.specs.Str.{is_utf8}
use Rattle.toml.specs.Data.{Data, Items, Members, as_array, get_member}
use Rattle.toml.specs.Parse.{parse_document}
use Rattle.rad_config_fault.specs.declared.config_fault.ConfigFault.{ConfigFault}
use Rattle.rad_config_fault.specs.declared.config_fault.ConfigFault.TheVariants as faults
use Rattle.rad_config_fault.specs.declared.config_fault.Key.TheVariants as keys
use Rattle.rad_config_fault.specs.declared.config_fault.Part.{Part}
use Rattle.rad_config_fault.specs.declared.config_fault.Part.TheVariants as parts
use Rattle.rad_config_fault.specs.declared.config_fault.ReplySpot.{ReplySpot}
use Rattle.rad_config_fault.specs.declared.config_fault.Spot.{Spot}
use Rattle.rad_config_fault.specs.Faults.{key_name, part_name}
use Rattle.rad_config.specs.Entries.{count_items}
use Rattle.rad_config.specs.Inputs.{text_max}
use Rattle.rad_config.specs.Keys.{text_without_zero}
use Rattle.rad_check.specs.UsersLines.{first_stray_line, head_of}
use Rattle.rad_check.specs.declared.detail.Detail.{Detail}
use Rattle.rad_check.specs.declared.detail.Detail.TheVariants as details
use Rattle.rad_check.specs.declared.named.Counts.{Counts}
use Rattle.rad_check.specs.declared.named.UsersFile.{UsersFile}
use Rattle.rad_check.specs.declared.users_fault.UsersFault.{UsersFault}
use Rattle.rad_check.specs.declared.source.SourceFault.{SourceFault}
use Rattle.rad_check.specs.declared.source.SourceFault.TheVariants.{Own, Users}
use Rattle.rad_check.specs.declared.users_fault.UsersFault.TheVariants.{TooLong, StrayLine, Apart, Config}

-- ---- which file it is

-- the document that octets are
abbrev pub document_of : List ℕ → Option Members
document_of octets = if is_utf8 octets then parse_document octets else None

abbrev pub users_at : Members → Option Data
users_at members = get_member (key_name keys.Users) members

-- the name of a file: a text of 1 to 4,096 octets, none of which is zero
abbrev pub file_name : Data → Option (List ℕ)
file_name d = text_without_zero 1 4096 d

abbrev pub count_in : Option Items → ℕ
count_in None = 0
count_in (Some ds) = count_items ds

-- how many entries a list has
abbrev pub count_of : Option Data → ℕ
count_of None = 0
count_of (Some d) = count_in (as_array d)

abbrev pub counts_of : Members → Counts
counts_of members = record {
  users = count_of (get_member (part_name parts.User) members);
  groups = count_of (get_member (part_name parts.Group) members);
}

-- a file of users: its name, and the entries of the configuration's own file, which come before those of this one
pub record Named : Type 0 where
  pub name : List ℕ
  pub before : Counts

abbrev pub named_view : UsersFile → Named
named_view file = record { name = string_bytes file.name; before = file.before }

abbrev pub named_as : Counts → Option (List ℕ) → Result (Option Named) ConfigFault
named_as before (Some name) = Ok (Some (record { name = name; before = before }))
named_as before None = Err (faults.BadValue (record { part = parts.Top; index = 0; key = keys.Users }))

abbrev pub named_at : Counts → Option Data → Result (Option Named) ConfigFault
named_at before None = Ok None
named_at before (Some d) = named_as before (file_name d)

-- what a document names; a text that is none names nothing
abbrev pub named_in : Option Members → Result (Option Named) ConfigFault
named_in None = Ok None
named_in (Some members) = named_at (counts_of members) (users_at members)

-- whether a file may be named where the head is this document, or none
abbrev pub may_name : Option Members → Bool
may_name None = true
may_name (Some members) = is_some (users_at members)

-- the file that a text names
abbrev pub users_named : List ℕ → Result (Option Named) ConfigFault
users_named text = if may_name (document_of (head_of text)) then named_in (document_of text) else Ok None

-- ---- both texts as one

-- a line feed ends the configuration's last line
abbrev pub joined : List ℕ → List ℕ → List ℕ
joined own users = own ++ 10 ∷ users

abbrev pub stray_fault : Option ℕ → Option UsersFault
stray_fault place = option_map StrayLine place

-- why a text can't be that of a file of users
abbrev pub misfit : List ℕ → List ℕ → Option UsersFault
misfit own users = if nat_lt text_max (length (joined own users)) then Some TooLong else stray_fault (first_stray_line users)

-- ---- where an entry stands

-- the index in the file of users of the entry with this index in both texts as one, if it stands there
abbrev pub index_after : ℕ → ℕ → Option ℕ
index_after before index = if nat_lt before index then Some (index - before) else None

abbrev pub index_in_users : Counts → Part → ℕ → Option ℕ
index_in_users before parts.User index = index_after before.users index
index_in_users before parts.Group index = index_after before.groups index
index_in_users before part index = None

abbrev pub spot_in_users : Counts → Spot → Option Spot
spot_in_users before at = option_map (λ index. record at { index = index }) (index_in_users before at.part at.index)

abbrev pub reply_spot_in_users : Counts → ReplySpot → Option ReplySpot
reply_spot_in_users before at = option_map (λ index. record at { index = index }) (index_in_users before at.part at.index)

-- the fault of both texts as one, seen from the file of users, if it is at an entry there
abbrev pub fault_in_users : Counts → ConfigFault → Option ConfigFault
fault_in_users before (faults.Missing at) = option_map faults.Missing (spot_in_users before at)
fault_in_users before (faults.BadValue at) = option_map faults.BadValue (spot_in_users before at)
fault_in_users before (faults.BadReply at) = option_map faults.BadReply (reply_spot_in_users before at)
fault_in_users before fault = None

abbrev pub same_in_users : Part → ℕ → Option ℕ → Detail
same_in_users part index (Some own) = details.SameAs part own
same_in_users part index None = details.SameAsInConfig part index

-- the detail of a fault of both texts as one, seen from the file of users
abbrev pub detail_in_users : Counts → Detail → Detail
detail_in_users before (details.SameAs part index) = same_in_users part index (index_in_users before part index)
detail_in_users before detail = detail

-- ---- the file in which a fault is told

-- the fault of a configuration, seen from the file of users, if it is there: what names a file is a document, so a fault of syntax
-- is
abbrev pub seen_in_users : Option UsersFile → ConfigFault → Option ConfigFault
seen_in_users None fault = None
seen_in_users (Some file) faults.Syntax = Some faults.Syntax
seen_in_users (Some file) fault = fault_in_users file.before fault

-- which fault of a configuration is told as one of the file of users
abbrev pub fault_told : UsersFault → Option ConfigFault
fault_told Apart = Some faults.Syntax
fault_told (Config fault line detail) = Some fault
fault_told other = None

-- what is seen in the file of users is told with its name, and else the fault of the configuration
abbrev pub IsTold : Option UsersFile → ConfigFault → SourceFault → Type 0
IsTold users fault (Own told detail) = (seen_in_users users fault ≡ None) × (told ≡ fault)
IsTold users fault (Users name found) =
    (told : ConfigFault) × (seen_in_users users fault ≡ Some told) × (fault_told found ≡ Some told)
    × (option_map (λ file. file.name) users ≡ Some name)

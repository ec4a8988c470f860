-- Tables of a configuration's text, the values at their keys, and lists of them. A text is a list of octets, which are numbers
-- below 256; an index counts from 1.
use Rattle.std.specs.Prelude.{ℕ, ◌+◌, nat_lt, Bool, List, [], ◌∷◌, ◌++◌, Option, Some, None, Result, Ok, ok_or, is_some}
use Rattle.toml.specs.Data.{Data, as_array, as_table, Items, no_items, item, Members, get_member}
use Rattle.rad_packet.specs.Ladders.{◌>>=◌, refuse_if}
use Rattle.rad_config_fault.specs.declared.config_fault.Key.{Key}
use Rattle.rad_config_fault.specs.declared.config_fault.Key.TheVariants as keys
use Rattle.rad_config_fault.specs.declared.config_fault.Part.{Part}
use Rattle.rad_config_fault.specs.declared.config_fault.Spot.{Spot}
use Rattle.rad_config_fault.specs.declared.config_fault.ConfigFault.{ConfigFault}
use Rattle.rad_config_fault.specs.declared.config_fault.ConfigFault.TheVariants.{Missing, BadValue, TooMany}
use Rattle.rad_config_fault.specs.Faults.{key_name, part_name}
use Rattle.rad_config.specs.Keys.{Row}

-- ---- the rule of the table

-- a table of the text: an entry of a part, an attribute of its reply, or the top with index 0
pub record EntryData : Type 0 where
  pub part : Part
  pub index : ℕ
  pub members : Members

abbrev pub spot : EntryData → Key → Spot
spot e key = record { part = e.part; index = e.index; key = key }

abbrev pub at_key : EntryData → Key → Option Data
at_key e key = get_member (key_name key) e.members

-- whether the key is present
abbrev pub has_key : EntryData → Key → Bool
has_key e key = is_some (at_key e key)

-- data that is there fits, or is a bad value; an absent key has a default, or is missing
abbrev pub value_at : {A : Type 0} → Spot → Row A → Option Data → Result A ConfigFault
value_at at row (Some d) = ok_or (row.fit d) (BadValue at)
value_at at row None = ok_or row.absent (Missing at)

unfoldable pub value : {A : Type 0} → EntryData → Row A → Result A ConfigFault
value e row = value_at (spot e row.key) row (at_key e row.key)

-- ---- lists of entries

abbrev pub count_items : Items → ℕ
count_items no_items = 0
count_items (item d ds) = count_items ds + 1

-- an entry's table
unfoldable pub entry_of : Part → ℕ → Data → Result EntryData ConfigFault
entry_of part index d = do
  members ← ok_or (as_table d) (BadValue (record { part = part; index = index; key = keys.Entry }))
  Ok (record { part = part; index = index; members = members })

-- the earlier entries, and one more
unfoldable pub and_entry : {A : Type 0} → Part → (List A → EntryData → Result A ConfigFault) → ℕ → List A → Data
    → Result (List A) ConfigFault
and_entry part read index earlier d = do
  entry ← entry_of part index d
  value ← read earlier entry
  Ok (earlier ++ value ∷ [])

-- The entries from this index on, after the earlier ones: the first fault is that of the first entry that has one.
unfoldable pub entries_from : {A : Type 0} → Part → (List A → EntryData → Result A ConfigFault) → ℕ → List A → Items
    → Result (List A) ConfigFault
entries_from part read index earlier no_items = Ok earlier
entries_from part read index earlier (item d ds) = do
  entries ← and_entry part read index earlier d
  entries_from part read (index + 1) entries ds

-- the items of a list, which is empty where it is absent
unfoldable pub items_in : Part → ℕ → Option Data → Result Items ConfigFault
items_in part most None = Ok no_items
items_in part most (Some d) = do
  ds ← ok_or (as_array d) (BadValue (record { part = part; index = 0; key = keys.List }))
  few ← refuse_if (nat_lt most (count_items ds)) (TooMany part)
  Ok ds

-- the items of a part's list
abbrev pub items_at : Part → ℕ → Members → Result Items ConfigFault
items_at part most members = items_in part most (get_member (part_name part) members)

-- a part's list of at most so many entries
unfoldable pub list_of : {A : Type 0} → Part → ℕ → (List A → EntryData → Result A ConfigFault) → Members
    → Result (List A) ConfigFault
list_of part most read members = do
  ds ← items_at part most members
  entries_from part read 1 [] ds

-- The attributes that an entry gives Access-Accepts, which its `reply` lists.
use Rattle.std.specs.Prelude.{◌≡◌, ℕ, ◌&&◌, nat_lt, Bool, if◌then◌else◌, List, [], Option, Some, None, Result, Ok, Err, ok_or}
use Rattle.toml.specs.Data.{Data, as_array, Items}
use Rattle.rad_packet.specs.Attributes.{Attribute}
use Rattle.rad_packet.specs.Ladders.{◌>>=◌, refuse_if}
use Rattle.rad_config_fault.specs.declared.config_fault.ConfigFault.{ConfigFault}
use Rattle.rad_config_fault.specs.declared.config_fault.ConfigFault.TheVariants.{BadReply, BadValue, Missing, NoMemory}
use Rattle.rad_config_fault.specs.declared.config_fault.Key.{Key}
use Rattle.rad_config_fault.specs.declared.config_fault.Key.TheVariants as keys
use Rattle.rad_config_fault.specs.declared.config_fault.Part.{Part}
use Rattle.rad_config_fault.specs.declared.config_fault.Spot.{Spot}
use Rattle.rad_dictionary.specs.Meant.{attribute_meant}
use Rattle.rad_dictionary.specs.Parts.{Giving, Naming}
use Rattle.rad_dictionary.specs.declared.named.Misfit.{Misfit}
use Rattle.rad_dictionary.specs.declared.named.Misfit.TheVariants as misfits
use Rattle.rad_config.specs.Entries.{EntryData, at_key, count_items, entries_from, has_key, spot, value}
use Rattle.rad_config.specs.Keys.{Row}
use Rattle.rad_config.specs.Keys as rows

-- the key of a part that doesn't fit; a Value was given in digits or otherwise
abbrev pub key_of : Bool → Misfit → Key
key_of in_hex misfits.Attribute = keys.Attribute
key_of in_hex misfits.Tag = keys.Tag
key_of in_hex misfits.Value = if in_hex then keys.Hex else keys.Value
key_of in_hex misfits.NoMemory = keys.Value

-- a fault is that of a part that doesn't fit, or memory ran out
abbrev pub FaultOf : EntryData → Misfit → ConfigFault → Type 0
FaultOf e misfits.NoMemory fault = fault ≡ NoMemory
FaultOf e misfit fault = fault ≡ BadValue (spot e (key_of (has_key e keys.Hex) misfit))

-- the attribute that is meant, or a fault at the key that doesn't fit
abbrev pub fitting : EntryData → Result Attribute Misfit → Result Attribute ConfigFault
fitting e (Ok attribute) = Ok attribute
fitting e (Err misfit) = Err (BadValue (spot e (key_of (has_key e keys.Hex) misfit)))

-- the key under which a Value is given
abbrev pub given_row : Bool → Row Giving
given_row in_hex = if in_hex then rows.attribute_hex else rows.attribute_value

-- what an entry names an attribute by
unfoldable pub naming_in : EntryData → Result Naming ConfigFault
naming_in e = do
  vendor ← value e rows.vendor
  value e (rows.attribute vendor)

-- an attribute of a list, whose place in it is the entry's index
unfoldable pub attribute_of : EntryData → Result Attribute ConfigFault
attribute_of e = do
  name ← naming_in e
  tag ← value e rows.tag
  one ← refuse_if (has_key e keys.Hex && has_key e keys.Value) (BadValue (spot e keys.Hex))
  given ← value e (given_row (has_key e keys.Hex))
  fitting e (attribute_meant name tag given)

abbrev pub attribute_in : List Attribute → EntryData → Result Attribute ConfigFault
attribute_in earlier e = attribute_of e

-- a fault at a place of the reply of the entry with this index
abbrev pub in_reply_spot : ℕ → Spot → ConfigFault
in_reply_spot index at = BadReply (record { part = at.part; index = index; place = at.index; key = at.key })

abbrev pub in_reply : ℕ → ConfigFault → ConfigFault
in_reply index (BadValue at) = in_reply_spot index at
in_reply index (Missing at) = in_reply_spot index at
in_reply index other = other

abbrev pub faults_in_reply : ℕ → Result (List Attribute) ConfigFault → Result (List Attribute) ConfigFault
faults_in_reply index (Ok list) = Ok list
faults_in_reply index (Err fault) = Err (in_reply index fault)

-- the attributes that items are
abbrev pub attributes_from : Part → Items → Result (List Attribute) ConfigFault
attributes_from part items = entries_from part attribute_in 1 [] items

-- more attributes than this never fit an Access-Accept: each has three octets at least
abbrev pub reply_max : ℕ
reply_max = 158

-- the attributes of an entry's reply, if it has one
abbrev pub reply_at : EntryData → Option Data → Result (List Attribute) ConfigFault
reply_at e None = Ok []
reply_at e (Some d) = do
  items ← ok_or (as_array d) (BadValue (spot e keys.Reply))
  few ← refuse_if (nat_lt reply_max (count_items items)) (BadValue (spot e keys.Reply))
  faults_in_reply e.index (attributes_from e.part items)

abbrev pub reply_in : EntryData → Result (List Attribute) ConfigFault
reply_in e = reply_at e (at_key e keys.Reply)

-- What the functions return that read keys, lists and their entries. Only the contracts of private functions use these words.
use Rattle.std.specs.Prelude.{◌≡◌, ℕ, Bool, List, [], Option, is_some, Result, IfOk}
use Rattle.std.specs.Borrow.{Bor}
use Rattle.toml.specs.Data.{Data, Items}
use Rattle.toml.specs.View.{items_view}
use Rattle.toml.specs.declared.value.Value.{Value}
use Rattle.rad_auth.specs.Clients.{Client}
use Rattle.rad_config.specs.Configurations.{client_in, group_in, pool_in, share_in, user_in}
use Rattle.rad_config.specs.Entries.{and_entry, entries_from, value}
use Rattle.rad_config_fault.specs.Faults.{Gives}
use Rattle.rad_packet.specs.Attributes.{Attribute}
use Rattle.rad_config_fault.specs.declared.config_fault.Part.{Part}
use Rattle.rad_config.specs.Profiles.{Group}
use Rattle.rad_config.specs.Replies.{attribute_in}
use Rattle.rad_config.specs.Keys.{Row}
use Rattle.rad_config.specs.Ranges.{HasLength}
use Rattle.rad_config.specs.Views.{entry_data}
use Rattle.rad_config_fault.specs.declared.config_fault.ConfigFault.{ConfigFault}
use Rattle.rad_config_fault.specs.declared.config_fault.Part.TheVariants as parts
use Rattle.rad_config.specs.declared.entry.Entry.{Entry}
use Rattle.rad_config.specs.declared.keys.TextRow.{TextRow}
use Rattle.rad_config.specs.declared.pool.Pool.{Pool}
use Rattle.rad_config.specs.declared.user.User.{User}

-- what a call returned, seen by view, is the value in an entry at a row's key, unless memory ran out
abbrev pub GivesValue : {X A : Type 0} → (X → A) → Result X ConfigFault → Entry → Row A → Type 0
GivesValue view result entry row = Gives view result (value (entry_data entry) row)

-- a call that returned without a fault found a value exactly if this is true
abbrev pub FoundIf : {X : Type 0} → Result (Option X) ConfigFault → Bool → Type 0
FoundIf result is_there = IfOk result (λ found. is_some found ≡ is_there)

-- as many octets as a row says
abbrev pub HasRowLength : TextRow → Bor (List ℕ) → Type 0
HasRowLength row text = HasLength row.least row.most text.now

-- the items that the code found
abbrev pub found_items : Bor (List Value) → Items
found_items items = items_view items.now

-- the clients, their shares, the pools, the groups beside these pools, and the users, that items are
abbrev pub clients_from : Items → Result (List Client) ConfigFault
clients_from items = entries_from parts.Client client_in 1 [] items

abbrev pub shares_from : Items → Result (List (Option ℕ)) ConfigFault
shares_from items = entries_from parts.Client share_in 1 [] items

abbrev pub pools_from : Items → Result (List Pool) ConfigFault
pools_from items = entries_from parts.Pool pool_in 1 [] items

abbrev pub groups_from : List Pool → Items → Result (List Group) ConfigFault
groups_from pools items = entries_from parts.Group (group_in pools) 1 [] items

abbrev pub users_from : List Pool → List Group → Items → Result (List User) ConfigFault
users_from pools groups items = entries_from parts.User (user_in pools groups) 1 [] items

-- the earlier clients, shares, pools, groups and users, and the one that an item is
abbrev pub and_client : ℕ → List Client → Data → Result (List Client) ConfigFault
and_client index earlier d = and_entry parts.Client client_in index earlier d

abbrev pub and_share : ℕ → List (Option ℕ) → Data → Result (List (Option ℕ)) ConfigFault
and_share index earlier d = and_entry parts.Client share_in index earlier d

abbrev pub and_pool : ℕ → List Pool → Data → Result (List Pool) ConfigFault
and_pool index earlier d = and_entry parts.Pool pool_in index earlier d

abbrev pub and_group : List Pool → ℕ → List Group → Data → Result (List Group) ConfigFault
and_group pools index earlier d = and_entry parts.Group (group_in pools) index earlier d

abbrev pub and_user : List Pool → List Group → ℕ → List User → Data → Result (List User) ConfigFault
and_user pools groups index earlier d = and_entry parts.User (user_in pools groups) index earlier d

-- the earlier attributes of a reply, and the one that an item is
abbrev pub and_attribute : Part → ℕ → List Attribute → Data → Result (List Attribute) ConfigFault
and_attribute part index earlier d = and_entry part attribute_in index earlier d

-- What the rows of the code's table, and its entries, stand for.
use Rattle.std.specs.Prelude.{ℕ, Bool, if◌then◌else◌, List, Option, option_map}
use Rattle.std.specs.Borrow.{Bor}
use Rattle.toml.specs.Data.{Data, as_bool}
use Rattle.toml.specs.View.{view, table_view}
use Rattle.toml.specs.declared.value.Value.{Value}
use Rattle.rad_config.specs.Entries.{EntryData}
use Rattle.rad_config.specs.Keys.{Row, required, with_default, optional, optional_unless, number, address, network, text}
use Rattle.rad_config.specs.Keys.{text_without_zero}
use Rattle.rad_config.specs.declared.entry.Entry.{Entry}
use Rattle.rad_config.specs.declared.keys.AddressRow.{AddressRow}
use Rattle.rad_config.specs.declared.keys.DefaultRow.{DefaultRow}
use Rattle.rad_config.specs.declared.keys.FlagRow.{FlagRow}
use Rattle.rad_config.specs.declared.keys.NetworkRow.{NetworkRow}
use Rattle.rad_config.specs.declared.keys.NumberRow.{NumberRow}
use Rattle.rad_config.specs.declared.network.Network.{Network}
use Rattle.rad_config.specs.declared.keys.TextRow.{TextRow}

abbrev pub entry_data : Entry → EntryData
entry_data entry = record { part = entry.part; index = entry.index; members = table_view entry.table.now }

-- what the code's look-up found
abbrev pub data_of : Option (Bor Value) → Option Data
data_of found = option_map (λ value. view value.now) found

-- a number whose key may be absent
abbrev pub number_row : NumberRow → Row (Option ℕ)
number_row row = optional row.key (number row.least row.most)

abbrev pub default_row : DefaultRow → Row ℕ
default_row row = with_default row.default row.number.key (number row.number.least row.number.most)

abbrev pub flag_row : FlagRow → Row Bool
flag_row row = with_default row.default row.key as_bool

-- an address whose key has to be present
abbrev pub address_row : AddressRow → Row ℕ
address_row row = required row.key (address row.least row.most)

-- an address whose key may be absent
abbrev pub optional_address_row : AddressRow → Row (Option ℕ)
optional_address_row row = optional row.key (address row.least row.most)

-- a network whose key has to be present
abbrev pub network_row : NetworkRow → Row Network
network_row row = required row.key network

-- the text that data is, where it fits a row
abbrev pub text_fit : TextRow → Data → Option (List ℕ)
text_fit row d = if row.zeros then text row.least row.most d else text_without_zero row.least row.most d

-- a text whose key has to be present
abbrev pub required_text_row : TextRow → Row (List ℕ)
required_text_row row = required row.key (text_fit row)

-- a text whose key may be absent
abbrev pub text_row : TextRow → Row (Option (List ℕ))
text_row row = optional row.key (text_fit row)

-- a text whose key may be absent unless it is needed
abbrev pub text_row_unless : Bool → TextRow → Row (Option (List ℕ))
text_row_unless needed row = optional_unless needed row.key (text_fit row)

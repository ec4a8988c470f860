-- The faults of a configuration text, its parts and its keys: numbers and names.
use Rattle.std.specs.Prelude.{◌≡◌, ◌⊎◌, ℕ, List, [], ◌∷◌, codes, Result, Ok, Err}
use Rattle.rad_config_fault.specs.declared.config_fault.ConfigFault.{ConfigFault}
use Rattle.rad_config_fault.specs.declared.config_fault.ConfigFault.TheVariants.{Syntax, Missing, BadValue, HoldBelowWindow}
use Rattle.rad_config_fault.specs.declared.config_fault.ConfigFault.TheVariants.{PoolsOverlap, TooMany, NoMemory, StaleBelowWindow}
use Rattle.rad_config_fault.specs.declared.config_fault.ConfigFault.TheVariants.{BadReply}
use Rattle.rad_config_fault.specs.declared.config_fault.Key.{Key}
use Rattle.rad_config_fault.specs.declared.config_fault.Key.TheVariants as keys
use Rattle.rad_config_fault.specs.declared.config_fault.Part.{Part}
use Rattle.rad_config_fault.specs.declared.config_fault.Part.TheVariants as parts

-- what a call returned, seen by view, is what is read, unless memory ran out
abbrev pub Gives : {X Y : Type 0} → (X → Y) → Result X ConfigFault → Result Y ConfigFault → Type 0
Gives view (Ok value) read = read ≡ Ok (view value)
Gives view (Err fault) read = (fault ≡ NoMemory) ⊎ (read ≡ Err fault)

abbrev pub fault_number : ConfigFault → ℕ
fault_number Syntax = 1
fault_number (Missing spot) = 2
fault_number (BadValue spot) = 3
fault_number HoldBelowWindow = 4
fault_number PoolsOverlap = 5
fault_number (TooMany part) = 6
fault_number NoMemory = 7
fault_number StaleBelowWindow = 8
fault_number (BadReply spot) = 9

abbrev pub fault_name : ConfigFault → List ℕ
fault_name Syntax = codes "Syntax"
fault_name (Missing spot) = codes "Missing"
fault_name (BadValue spot) = codes "BadValue"
fault_name HoldBelowWindow = codes "HoldBelowWindow"
fault_name PoolsOverlap = codes "PoolsOverlap"
fault_name (TooMany part) = codes "TooMany"
fault_name NoMemory = codes "NoMemory"
fault_name StaleBelowWindow = codes "StaleBelowWindow"
fault_name (BadReply spot) = codes "BadReply"

-- a part as it is printed; a list of entries has this key
abbrev pub part_name : Part → List ℕ
part_name parts.Top = codes "top"
part_name parts.Client = codes "client"
part_name parts.Pool = codes "pool"
part_name parts.User = codes "user"
part_name parts.Group = codes "group"

-- a key as a text spells it, and what else may be at fault in a part: its list, or an entry
abbrev pub key_name : Key → List ℕ
key_name keys.List = codes "list"
key_name keys.Entry = codes "entry"
key_name keys.Window = codes "window"
key_name keys.Hold = codes "hold"
key_name keys.Stale = codes "stale"
key_name keys.Address = codes "address"
key_name keys.Secret = codes "secret"
key_name keys.RequireMessageAuthenticator = codes "require_message_authenticator"
key_name keys.Name = codes "name"
key_name keys.First = codes "first"
key_name keys.Last = codes "last"
key_name keys.Password = codes "password"
key_name keys.Pool = codes "pool"
key_name keys.Sessions = codes "sessions"
key_name keys.Service = codes "service"
key_name keys.Protocol = codes "protocol"
key_name keys.Timeout = codes "timeout"
key_name keys.Message = codes "message"
key_name keys.Challenge = codes "challenge"
key_name keys.Answer = codes "answer"
key_name keys.Share = codes "share"
key_name keys.Challenges = codes "challenges"
key_name keys.Grants = codes "grants"
key_name keys.Group = codes "group"
key_name keys.Reply = codes "reply"
key_name keys.Attribute = codes "attribute"
key_name keys.Vendor = codes "vendor"
key_name keys.Value = codes "value"
key_name keys.Hex = codes "hex"
key_name keys.Tag = codes "tag"
key_name keys.Users = codes "users"

-- the keys that a table of a part has, but for the lists at the top
abbrev pub keys_of : Part → List Key
keys_of parts.Top = keys.Window ∷ keys.Hold ∷ keys.Stale ∷ keys.Users ∷ []
keys_of parts.Client = keys.Address ∷ keys.Secret ∷ keys.RequireMessageAuthenticator ∷ keys.Share ∷ []
keys_of parts.Pool = keys.Name ∷ keys.First ∷ keys.Last ∷ []
keys_of parts.User =
    keys.Name ∷ keys.Password ∷ keys.Pool ∷ keys.Sessions ∷ keys.Service ∷ keys.Protocol ∷ keys.Timeout ∷ keys.Message ∷
    keys.Challenge ∷ keys.Answer ∷ keys.Challenges ∷ keys.Grants ∷ keys.Address ∷ keys.Group ∷ keys.Reply ∷ []
keys_of parts.Group =
    keys.Name ∷ keys.Pool ∷ keys.Sessions ∷ keys.Service ∷ keys.Protocol ∷ keys.Timeout ∷ keys.Message ∷ keys.Challenge ∷
    keys.Answer ∷ keys.Challenges ∷ keys.Grants ∷ keys.Group ∷ keys.Reply ∷ []

-- the keys that an attribute of a reply has
abbrev pub reply_keys : List Key
reply_keys = keys.Attribute ∷ keys.Vendor ∷ keys.Value ∷ keys.Hex ∷ keys.Tag ∷ []

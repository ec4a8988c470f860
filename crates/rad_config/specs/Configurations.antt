-- What a configuration text says, or its first fault. A text is a list of octets, which are numbers below 256; an index counts
-- from 1, and a place from 0.
use Rattle.std.specs.Prelude.{ℕ, ◌+◌, ◌&&◌, ◌||◌, nat_eq, nat_le, nat_lt, Bool, false, not, if◌then◌else◌, List, [], ◌∷◌, ◌++◌}
use Rattle.std.specs.Prelude.{length, position, slice_get, Option, option_and_then, Some, None, Result, Ok, Err, ok_or, is_some}
use Rattle.std.specs.List.{list_any}
use Rattle.std.specs.Str.{bytes_eq, is_utf8}
use Rattle.toml.specs.Data.{Members}
use Rattle.toml.specs.Parse.{parse_document}
use Rattle.rad_packet.specs.Attributes.{Attribute, size}
use Rattle.rad_packet.specs.Codes.{code_access_accept}
use Rattle.rad_packet.specs.Ladders.{◌>>=◌, refuse_if}
use Rattle.rad_auth.specs.Clients.{Client, clients_max, has_network}
use Rattle.rad_config_fault.specs.declared.config_fault.Key.TheVariants as keys
use Rattle.rad_config_fault.specs.declared.config_fault.Part.TheVariants as parts
use Rattle.rad_config_fault.specs.declared.config_fault.ConfigFault.{ConfigFault}
use Rattle.rad_config_fault.specs.declared.config_fault.ConfigFault.TheVariants.{Syntax, BadValue, HoldBelowWindow, PoolsOverlap}
use Rattle.rad_config_fault.specs.declared.config_fault.ConfigFault.TheVariants.{StaleBelowWindow}
use Rattle.rad_config.specs.declared.pool.Pool.{Pool}
use Rattle.rad_config.specs.declared.spans.Times.{Times}
use Rattle.rad_config.specs.declared.user.User.{User}
use Rattle.rad_config.specs.Entries.{EntryData, at_key, has_key, list_of, spot, value}
use Rattle.rad_config.specs.Keys.{pool_place}
use Rattle.rad_config.specs.Keys as rows
use Rattle.rad_config.specs.Profiles.{Group, Profile, blank, group_at, group_place, named_group, over, profile_in, profile_of}
use Rattle.rad_config.specs.Profiles.{reply_of, user_with}
use Rattle.rad_config.specs.Replies.{reply_in}

-- how many pools, groups and users there may be
abbrev pub pools_max : ℕ
pools_max = 16

abbrev pub groups_max : ℕ
groups_max = 256

abbrev pub users_max : ℕ
users_max = 65536

-- Times are in seconds; without `stale` an active session lives on until it is stopped. Each client has a share in percent, or
-- none.
pub record Configuration : Type 0 where
  pub window : ℕ
  pub hold : ℕ
  pub stale : Option ℕ
  pub clients : List Client
  pub shares : List (Option ℕ)
  pub pools : List Pool
  pub users : List User

-- the share of the client at a place, if it has one
abbrev pub share_of : Configuration → ℕ → Option ℕ
share_of configuration client = option_and_then (λ share. share) (slice_get configuration.shares client)

-- whether a count is as much as a limit allows, if there is one
abbrev pub is_reached : Option ℕ → ℕ → Bool
is_reached None count = false
is_reached (Some most) count = nat_le most count

-- ---- parts

-- a client, whose network no earlier one has
unfoldable pub client_in : List Client → EntryData → Result Client ConfigFault
client_in earlier e = do
  network ← value e rows.client_address
  new ← refuse_if (has_network earlier network.address network.prefix) (BadValue (spot e keys.Address))
  secret ← value e rows.client_secret
  flag ← value e rows.require_message_authenticator
  Ok (record {
    address = network.address;
    prefix = network.prefix;
    secret = secret;
    require_message_authenticator = flag;
  })

-- a client's share, if it has one
abbrev pub share_in : List (Option ℕ) → EntryData → Result (Option ℕ) ConfigFault
share_in earlier e = value e rows.client_share

-- a pool, whose name no earlier one has
unfoldable pub pool_in : List Pool → EntryData → Result Pool ConfigFault
pool_in earlier e = do
  name ← value e rows.pool_name
  new ← refuse_if (is_some (pool_place earlier name)) (BadValue (spot e keys.Name))
  first ← value e rows.pool_first
  last ← value e (rows.pool_last first)
  Ok (record { name = name; first = first; last = last })

-- whether two pools share an address
abbrev pub share : Pool → Pool → Bool
share p q = nat_le p.first q.last && nat_le q.first p.last

-- whether some two pools of a list do
abbrev pub overlap : List Pool → Bool
overlap [] = false
overlap (pool ∷ pools) = list_any (share pool) pools || overlap pools

-- the group that an entry names, if there is one of that name
abbrev pub group_of : List Group → EntryData → Option Group
group_of groups e = group_at groups (option_and_then (named_group groups) (at_key e keys.Group))

-- whether an entry names a group that isn't there
abbrev pub names_no_group : List Group → EntryData → Bool
names_no_group groups e = has_key e keys.Group && not (is_some (group_of groups e))

-- what an Access-Accept has room for: 4,096 octets are the packet's header, its Message-Authenticator, this, and 3,584 of
-- Proxy-States
abbrev pub accept_max : ℕ
accept_max = 474

-- the size of an attribute of so many octets, if there is one
abbrev pub size_if_any : {A : Type 0} → ℕ → Option A → ℕ
size_if_any octets None = 0
size_if_any octets (Some one) = octets

abbrev pub text_size : Option (List ℕ) → ℕ
text_size None = 0
text_size (Some text) = length text + 2

-- the size of what an Access-Accept has: its Class, what is said of the user, and the reply
abbrev pub accept_size : Profile → List Attribute → ℕ
accept_size said reply =
    14 + size_if_any 6 said.service + size_if_any 6 said.protocol + size_if_any 6 said.pool + size_if_any 6 said.address
    + size_if_any 6 said.timeout + text_size said.message + size reply

abbrev pub is_too_long : Profile → List Attribute → Bool
is_too_long said reply = nat_lt accept_max (accept_size said reply)

-- what the group that an entry names says of its users
abbrev pub said_before : List Group → EntryData → Profile
said_before groups e = profile_of (group_of groups e)

-- an entry's own reply after that of the group that it names
abbrev pub whole_reply : List Group → EntryData → List Attribute → List Attribute
whole_reply groups e own = reply_of (group_of groups e) ++ own

-- A group, whose name no earlier one has. The group that it names is an earlier one.
unfoldable pub group_in : List Pool → List Group → EntryData → Result Group ConfigFault
group_in pools earlier e = do
  name ← value e rows.group_name
  new ← refuse_if (is_some (group_place earlier name)) (BadValue (spot e keys.Name))
  there ← refuse_if (names_no_group earlier e) (BadValue (spot e keys.Group))
  own ← profile_in pools false false e
  reply ← reply_in e
  fits ← refuse_if (is_too_long blank (whole_reply earlier e reply)) (BadValue (spot e keys.Reply))
  Ok (record {
    name = name;
    profile = over own (said_before earlier e);
    reply = record { code = code_access_accept; attributes = whole_reply earlier e reply };
  })

-- the place of the user with this name, octet for octet
abbrev pub user_place : List User → List ℕ → Option ℕ
user_place users name = position (λ user. bytes_eq name user.name) users

-- whether a challenge has to be said, and an answer: where the other is, and the group has none
abbrev pub needs_challenge : Profile → EntryData → Bool
needs_challenge group e = (has_key e keys.Answer || is_some group.answer) && not (is_some group.challenge)

abbrev pub needs_answer : Profile → EntryData → Bool
needs_answer group e = (has_key e keys.Challenge || is_some group.challenge) && not (is_some group.answer)

-- whether an address is this one
abbrev pub is_that : ℕ → Option ℕ → Bool
is_that address None = false
is_that address (Some own) = nat_eq address own

-- whether a user has the address
abbrev pub has_own : ℕ → User → Bool
has_own address user = is_that address user.address

-- whether it is one of a pool's
abbrev pub is_within : ℕ → Pool → Bool
is_within address pool = nat_le pool.first address && nat_le address pool.last

-- whether some user has it, or a pool
abbrev pub is_given : List Pool → List User → ℕ → Bool
is_given pools earlier address = list_any (has_own address) earlier || list_any (is_within address) pools

-- whether a user can't have the address of their own that the entry says, if it says one: beside a pool or a number of sessions, or
-- where it is given already
abbrev pub is_misplaced : List Pool → List User → Option ℕ → EntryData → Bool
is_misplaced pools earlier None e = false
is_misplaced pools earlier (Some address) e = has_key e keys.Pool || has_key e keys.Sessions || is_given pools earlier address

-- What a user's entry says beside what its group says, with an address of the user's own.
unfoldable pub own_in : List Pool → List User → Profile → EntryData → Result Profile ConfigFault
own_in pools earlier group e = do
  own ← profile_in pools (needs_challenge group e) (needs_answer group e) e
  address ← value e rows.user_address
  apart ← refuse_if (is_misplaced pools earlier address e) (BadValue (spot e keys.Address))
  Ok (record own { address = address })

-- A user, whose name no earlier one has. What the entry doesn't say its group says.
unfoldable pub user_in : List Pool → List Group → List User → EntryData → Result User ConfigFault
user_in pools groups earlier e = do
  name ← value e rows.user_name
  new ← refuse_if (is_some (user_place earlier name)) (BadValue (spot e keys.Name))
  password ← value e rows.password
  there ← refuse_if (names_no_group groups e) (BadValue (spot e keys.Group))
  own ← own_in pools earlier (said_before groups e) e
  reply ← reply_in e
  fits ← refuse_if (is_too_long (over own (said_before groups e)) (whole_reply groups e reply)) (BadValue (spot e keys.Reply))
  Ok (user_with name password (over own (said_before groups e)) (whole_reply groups e reply))

-- ---- the whole

-- the clients and their shares, the pools, the groups beside these, and the users
abbrev pub clients_of : Members → Result (List Client) ConfigFault
clients_of members = list_of parts.Client clients_max client_in members

abbrev pub shares_of : Members → Result (List (Option ℕ)) ConfigFault
shares_of members = list_of parts.Client clients_max share_in members

abbrev pub pools_of : Members → Result (List Pool) ConfigFault
pools_of members = list_of parts.Pool pools_max pool_in members

abbrev pub groups_of : List Pool → Members → Result (List Group) ConfigFault
groups_of pools members = list_of parts.Group groups_max (group_in pools) members

abbrev pub users_of : List Pool → List Group → Members → Result (List User) ConfigFault
users_of pools groups members = list_of parts.User users_max (user_in pools groups) members

abbrev pub top : Members → EntryData
top members = record { part = parts.Top; index = 0; members = members }

-- whether a time is there, and below the window
abbrev pub is_below : Option ℕ → ℕ → Bool
is_below None window = false
is_below (Some time) window = nat_lt time window

-- window, hold and stale; neither of the last two is below the window
unfoldable pub ordered_spans : Members → Result Times ConfigFault
ordered_spans members = do
  window ← value (top members) rows.window
  hold ← value (top members) rows.hold
  stale ← value (top members) rows.stale
  held ← refuse_if (is_below (Some hold) window) HoldBelowWindow
  heard ← refuse_if (is_below stale window) StaleBelowWindow
  Ok (record { window = window; hold = hold; stale = stale })

-- the pools, no two of which share an address
unfoldable pub separate_pools : Members → Result (List Pool) ConfigFault
separate_pools members = do
  pools ← pools_of members
  apart ← refuse_if (overlap pools) PoolsOverlap
  Ok pools

-- the order of the checks
unfoldable pub configuration_of : List ℕ → Result Configuration ConfigFault
configuration_of text = do
  members ← ok_or (parse_document text) Syntax
  spans ← ordered_spans members
  clients ← clients_of members
  shares ← shares_of members
  pools ← separate_pools members
  groups ← groups_of pools members
  users ← users_of pools groups members
  Ok (record {
    window = spans.window;
    hold = spans.hold;
    stale = spans.stale;
    clients = clients;
    shares = shares;
    pools = pools;
    users = users;
  })

-- what octets say, which are no text unless they are UTF-8
abbrev pub configuration_of_octets : List ℕ → Result Configuration ConfigFault
configuration_of_octets octets = if is_utf8 octets then configuration_of octets else Err Syntax

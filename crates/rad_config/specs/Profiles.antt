-- What is said of users: of one, or in a group of all that name it. Texts are lists of octets; a place counts from 0.
use Rattle.std.specs.Prelude.{ℕ, ◌≤◌, ◌<◌, Bool, List, [], length, position, Option, Some, None, IfSome, slice_get, option_and_then}
use Rattle.std.specs.Prelude.{unwrap_or, Result, Ok}
use Rattle.std.specs.Int.{IsInRange}
use Rattle.std.specs.Option.{option_copied, option_or}
use Rattle.std.specs.Str.{bytes_eq}
use Rattle.toml.specs.Data.{Data, as_str}
use Rattle.rad_packet.specs.Attributes.{Attribute, value_max}
use Rattle.rad_packet.specs.Bodies.{Body}
use Rattle.rad_packet.specs.Codes.{code_access_accept}
use Rattle.rad_packet.specs.Ladders.{◌>>=◌}
use Rattle.rad_auth.specs.Passwords.{password_max}
use Rattle.rad_config_fault.specs.declared.config_fault.ConfigFault.{ConfigFault}
use Rattle.rad_config.specs.Entries.{EntryData, value}
use Rattle.rad_config.specs.Keys.{address_max, number_max}
use Rattle.rad_config.specs.Keys as rows
use Rattle.rad_config.specs.declared.pool.Pool.{Pool}
use Rattle.rad_config.specs.declared.user.Profile.{Profile as ProfileOfCode}
use Rattle.rad_config.specs.declared.user.User.{User}

-- What an entry says of a user: every key but the name, the password, the group and the reply. The address is one of the user's
-- own; groups have none.
pub record Profile : Type 0 where
  pub address : Option ℕ
  pub pool : Option ℕ
  pub sessions : Option ℕ
  pub service : Option ℕ
  pub protocol : Option ℕ
  pub timeout : Option ℕ
  pub message : Option (List ℕ)
  pub challenge : Option (List ℕ)
  pub answer : Option (List ℕ)
  pub challenges : Option ℕ
  pub grants : Option ℕ

-- nothing
abbrev pub blank : Profile
blank = record {
  address = None;
  pool = None;
  sessions = None;
  service = None;
  protocol = None;
  timeout = None;
  message = None;
  challenge = None;
  answer = None;
  challenges = None;
  grants = None;
}

-- what is said, unless an address of the user's own puts something else in its place
abbrev pub unless_placed : {A : Type 0} → Option ℕ → Option A → Option A → Option A
unless_placed None said placed = said
unless_placed (Some address) said placed = placed

-- What is said, and where nothing is, what a group says. An address of the user's own stands in place of a pool, and one session at
-- a time has it.
abbrev pub over : Profile → Profile → Profile
over own group = record {
  address = own.address;
  pool = unless_placed own.address (option_or own.pool group.pool) None;
  sessions = unless_placed own.address (option_or own.sessions group.sessions) (Some 1);
  service = option_or own.service group.service;
  protocol = option_or own.protocol group.protocol;
  timeout = option_or own.timeout group.timeout;
  message = option_or own.message group.message;
  challenge = option_or own.challenge group.challenge;
  answer = option_or own.answer group.answer;
  challenges = option_or own.challenges group.challenges;
  grants = option_or own.grants group.grants;
}

-- What an entry says of users beside these pools; a challenge or an answer may be missing unless it is needed.
unfoldable pub profile_in : List Pool → Bool → Bool → EntryData → Result Profile ConfigFault
profile_in pools needs_challenge needs_answer e = do
  pool ← value e (rows.user_pool pools)
  sessions ← value e rows.sessions
  service ← value e rows.service
  protocol ← value e rows.protocol
  timeout ← value e rows.timeout
  message ← value e rows.message
  challenge ← value e (rows.challenge needs_challenge)
  answer ← value e (rows.answer needs_answer)
  challenges ← value e rows.user_challenges
  grants ← value e rows.grants
  Ok (record {
    address = None;
    pool = pool;
    sessions = sessions;
    service = service;
    protocol = protocol;
    timeout = timeout;
    message = message;
    challenge = challenge;
    answer = answer;
    challenges = challenges;
    grants = grants;
  })

-- a user of whom this is said
abbrev pub user_with : List ℕ → List ℕ → Profile → List Attribute → User
user_with name password said reply = record {
  name = name;
  password = password;
  address = said.address;
  pool = said.pool;
  sessions = unwrap_or said.sessions 1;
  service = said.service;
  protocol = said.protocol;
  timeout = said.timeout;
  message = said.message;
  challenge = said.challenge;
  answer = said.answer;
  challenges = said.challenges;
  grants = said.grants;
  reply = record { code = code_access_accept; attributes = reply };
}

-- what is said of a user
abbrev pub profile_of_user : User → Profile
profile_of_user user = record {
  address = user.address;
  pool = user.pool;
  sessions = Some user.sessions;
  service = user.service;
  protocol = user.protocol;
  timeout = user.timeout;
  message = user.message;
  challenge = user.challenge;
  answer = user.answer;
  challenges = user.challenges;
  grants = user.grants;
}

-- what is said of users, beside so many pools
pub record IsProfile (pools : ℕ) (said : Profile) : Type 0 where
  pub address : IfSome said.address (IsInRange 1 address_max)
  pub pool : IfSome said.pool (λ place. place < pools)
  pub sessions : IfSome said.sessions (IsInRange 1 4096)
  pub service : IfSome said.service (λ number. number ≤ number_max)
  pub protocol : IfSome said.protocol (λ number. number ≤ number_max)
  pub timeout : IfSome said.timeout (IsInRange 1 number_max)
  pub message : IfSome said.message (λ text. IsInRange 1 value_max (length text))
  pub challenge : IfSome said.challenge (λ text. IsInRange 1 value_max (length text))
  pub answer : IfSome said.answer (λ text. IsInRange 1 password_max (length text))
  pub challenges : IfSome said.challenges (IsInRange 1 1024)
  pub grants : IfSome said.grants (IsInRange 1 65536)

-- what the code read of users, whose octets it has borrowed from the document; only the contracts of private functions use this
-- word
abbrev pub profile_seen : ProfileOfCode → Profile
profile_seen said = record {
  address = said.address;
  pool = said.pool;
  sessions = said.sessions;
  service = said.service;
  protocol = said.protocol;
  timeout = said.timeout;
  message = option_copied said.message;
  challenge = option_copied said.challenge;
  answer = option_copied said.answer;
  challenges = said.challenges;
  grants = said.grants;
}

-- ---- groups

-- A group: its name, what it says of its users, what its own group says among that, and the reply, in the body of an Access-Accept.
pub record Group : Type 0 where
  pub name : List ℕ
  pub profile : Profile
  pub reply : Body

-- the group at a place, if there is one
abbrev pub group_at : List Group → Option ℕ → Option Group
group_at groups place = option_and_then (slice_get groups) place

-- the place of the group with this name
abbrev pub group_place : List Group → List ℕ → Option ℕ
group_place groups name = position (λ group. bytes_eq name group.name) groups

abbrev pub named_group : List Group → Data → Option ℕ
named_group groups d = option_and_then (group_place groups) (as_str d)

abbrev pub profile_of : Option Group → Profile
profile_of None = blank
profile_of (Some group) = group.profile

abbrev pub reply_of : Option Group → List Attribute
reply_of None = []
reply_of (Some group) = group.reply.attributes

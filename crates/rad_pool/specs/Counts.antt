-- Counts of sessions: of the open ones of each user and of each source, of all of each user, and of those that have each address.
use Rattle.std.specs.Prelude.{◌≡◌, ℕ, ◌+◌, ◌-◌, ◌<◌, ◌≤◌, ◌^◌, ◌==◌, ◌&&◌, not, Bool, true, List, length, slice_index, cond}
use Rattle.std.specs.Prelude.{count_by, map, All, Option, None, Some}
use Rattle.std.specs.List.{list_any}
use Rattle.indexmap.specs.IndexMap.{IndexMap, spare}
use Rattle.rad_places.specs.Places.{SeenPlaces, is_inside, place_of, uses_at, with_note, with_use, without_use}
use Rattle.rad_pool.specs.Grants.{has_address, sessions_of}
use Rattle.rad_config.specs.declared.spans.Spans.{Spans}
use Rattle.rad_rows.specs.Rows.{SeenRows}
use Rattle.rad_rows.specs.declared.hash_key.HashKey.{HashKey}
use Rattle.rad_pool.specs.Links.{HasLinkRoom, KeepsLinkRoom}
use Rattle.rad_pool.specs.Others.{uses_of}
use Rattle.rad_pool.specs.Sessions.{is_open}
use Rattle.rad_pool.specs.Sources.{HasNoZero, count_at}
use Rattle.rad_pool.specs.declared.counts.Counts.{Counts}
use Rattle.rad_pool.specs.declared.others.Uses.{Uses}
use Rattle.rad_pool.specs.declared.session.Phase.{Phase}
use Rattle.rad_pool.specs.declared.session.Session.{Session}

-- ---- open sessions by a key

-- the keys: a session's user, and its source
abbrev pub user_of : Session → ℕ
user_of session = session.user

abbrev pub source_of : Session → ℕ
source_of session = session.source

-- whether a session is open and its key is this one
abbrev pub is_open_by : (Session → ℕ) → ℕ → Session → Bool
is_open_by key n session = (key session == n) && is_open session.phase

-- how many it is of the open sessions with this key: one or none
abbrev pub one_open_by : (Session → ℕ) → ℕ → Session → ℕ
one_open_by key n session = cond (is_open_by key n session) 1 0

-- the same of a session that was perhaps found
abbrev pub found_open_by : (Session → ℕ) → ℕ → Option Session → ℕ
found_open_by key n None = 0
found_open_by key n (Some session) = one_open_by key n session

-- how many open sessions have this key
abbrev pub open_by : (Session → ℕ) → ℕ → List Session → ℕ
open_by key n sessions = count_by (is_open_by key n) sessions

-- how many it is of the sessions of this user, ended ones included: one or none
abbrev pub one_of : ℕ → Session → ℕ
one_of n session = cond (session.user == n) 1 0

-- ---- the counts of a list of sessions

-- as many as there are open sessions with each key that there is a count for
pub record CountsOpen (key : Session → ℕ) (sessions : List Session) (counts : List ℕ) : Type 0 where
  pub is : (n : ℕ) → n < length counts → slice_index counts n ≡ open_by key n sessions

-- as many as there are sessions of each user that there is a count for, ended ones included
pub record CountsAll (sessions : List Session) (counts : List ℕ) : Type 0 where
  pub is : (n : ℕ) → n < length counts → slice_index counts n ≡ sessions_of n sessions

-- as many for each source as it has open sessions, and nothing for a source that has none
pub record CountsSources (sessions : List Session) (counts : List (ℕ × ℕ)) : Type 0 where
  pub is : (source : ℕ) → count_at counts source ≡ open_by source_of source sessions
  pub only : HasNoZero counts

-- as many uses of each address of a pool as sessions have it
pub record IsCounted (sessions : List Session) (places : SeenPlaces) : Type 0 where
  pub uses : (place : ℕ) → place < length places.uses
      → uses_at place places ≡ count_by (has_address (places.first + place)) sessions

-- whether an address is of no pool
abbrev pub is_outside : List SeenPlaces → ℕ → Bool
is_outside pools address = not (list_any (is_inside address) pools)

-- as many uses of each address of no pool as sessions have it
pub record CountsOthers (sessions : List Session) (pools : List SeenPlaces) (others : List (ℕ × Uses)) : Type 0 where
  pub is : (address : ℕ) → is_outside pools address ≡ true → uses_of others address ≡ count_by (has_address address) sessions

-- the counts of all sources and all addresses, and of the users that there are counts for
pub record HoldsCounts (sessions : List Session) (counts : Counts) : Type 0 where
  pub users : CountsOpen user_of sessions counts.users.items
  pub grants : CountsAll sessions counts.grants.items
  pub sources : CountsSources sessions counts.sources.entries
  pub pools : All (IsCounted sessions) counts.pools.items
  pub others : CountsOthers sessions counts.pools.items counts.others.entries

-- there is room for one source and one address more, and to link one session more
pub record HasRoom (counts : Counts) : Type 0 where
  pub sources : 0 < spare counts.sources
  pub others : 0 < spare counts.others
  pub links : HasLinkRoom counts.links

-- there is as much room as there was
pub record KeepsRoom (old new : Counts) : Type 0 where
  pub sources : spare old.sources ≤ spare new.sources
  pub others : spare old.others ≤ spare new.others
  pub links : KeepsLinkRoom old.links new.links

-- the counts of rows, and room in them where there is room for one row more
pub record CountsRows (rows : SeenRows Session Spans) (counts : Counts) : Type 0 where
  pub holds : HoldsCounts rows.rows counts
  pub room : rows.has_room ≡ true → HasRoom counts

-- one use more of each address can be counted
pub record HasLowUses (places : SeenPlaces) : Type 0 where
  pub low : (place : ℕ) → uses_at place places + 1 < 2 ^ 64

-- ---- the addresses of a pool

-- the place in a pool of an address, if there is one and it is the pool's
abbrev pub place_in : Option ℕ → SeenPlaces → Option ℕ
place_in None places = None
place_in (Some address) places = place_of address places

-- a pool, changed at a place if there is one
abbrev pub change_at : (ℕ → SeenPlaces → SeenPlaces) → Option ℕ → SeenPlaces → SeenPlaces
change_at to None places = places
change_at to (Some place) places = to place places

-- one use more at a place, by the session of this number
abbrev pub with_holder : ℕ → ℕ → SeenPlaces → SeenPlaces
with_holder number place places = with_note place number (with_use place places)

-- a pool once a session of this number has come that has an address or none
abbrev pub places_come : Option ℕ → ℕ → SeenPlaces → SeenPlaces
places_come address number places = change_at (with_holder number) (place_in address places) places

-- a pool once a session has gone
abbrev pub places_left : Option ℕ → SeenPlaces → SeenPlaces
places_left address places = change_at without_use (place_in address places) places

-- ---- changes of the counts

-- one more at a place, where one more can be counted
pub record GainsOne (at : ℕ) (old new : List ℕ) : Type 0 where
  pub len : length new ≡ length old
  pub is : (n : ℕ) → n < length old → slice_index old n + 1 < 2 ^ 64 → slice_index new n ≡ slice_index old n + cond (at == n) 1 0

-- one less at a place
pub record LosesOne (at : ℕ) (old new : List ℕ) : Type 0 where
  pub len : length new ≡ length old
  pub is : (n : ℕ) → n < length old → slice_index new n ≡ slice_index old n - cond (at == n) 1 0

-- one less at a place, if the session whose phase it is was open
pub record LosesAt (at : ℕ) (phase : Phase) (old new : List ℕ) : Type 0 where
  pub len : length new ≡ length old
  pub is : (n : ℕ) → n < length old → slice_index new n ≡ slice_index old n - cond ((at == n) && is_open phase) 1 0

-- one less at the key of a session, if one was found and was open
pub record LosesOpen (key : Session → ℕ) (found : Option Session) (old new : List ℕ) : Type 0 where
  pub len : length new ≡ length old
  pub is : (n : ℕ) → n < length old → slice_index new n ≡ slice_index old n - found_open_by key n found

-- one more of a source, where one more can be counted
pub record GainsSource (source : ℕ) (old new : List (ℕ × ℕ)) : Type 0 where
  pub is : (n : ℕ) → count_at old source + 1 < 2 ^ 64 → count_at new n ≡ count_at old n + cond (source == n) 1 0
  pub only : HasNoZero old → HasNoZero new

-- one less of the source of a session, if one was found and was open; its memory is ready for another
pub record LosesSource (found : Option Session) (old new : IndexMap ℕ ℕ HashKey) : Type 0 where
  pub is : (n : ℕ) → count_at new.entries n ≡ count_at old.entries n - found_open_by source_of n found
  pub only : HasNoZero old.entries → HasNoZero new.entries
  pub room : spare old ≤ spare new

-- one use more of the session's address, if it is of no pool and one more can be counted
pub record GainsOther (pools : List SeenPlaces) (session : Session) (old new : List (ℕ × Uses)) : Type 0 where
  pub is : (address : ℕ) → is_outside pools address ≡ true → uses_of old address + 1 < 2 ^ 64
      → uses_of new address ≡ uses_of old address + cond (has_address address session) 1 0

-- one use less of it; its memory is ready for another
pub record LosesOther (pools : List SeenPlaces) (session : Session) (old new : IndexMap ℕ Uses HashKey) : Type 0 where
  pub is : (address : ℕ) → is_outside pools address ≡ true
      → uses_of new.entries address ≡ uses_of old.entries address - cond (has_address address session) 1 0
  pub room : spare old ≤ spare new

-- a session comes, Pending
pub record Comes (old : Counts) (session : Session) (new : Counts) : Type 0 where
  pub users : GainsOne (user_of session) old.users.items new.users.items
  pub grants : GainsOne (user_of session) old.grants.items new.grants.items
  pub sources : GainsSource session.source old.sources.entries new.sources.entries
  pub pools : new.pools.items ≡ map (places_come session.address session.number) old.pools.items
  pub others : GainsOther old.pools.items session old.others.entries new.others.entries

-- a session goes
pub record Leaves (old : Counts) (session : Session) (new : Counts) : Type 0 where
  pub users : LosesOpen user_of (Some session) old.users.items new.users.items
  pub grants : LosesOne (user_of session) old.grants.items new.grants.items
  pub sources : LosesSource (Some session) old.sources new.sources
  pub links : KeepsLinkRoom old.links new.links
  pub pools : new.pools.items ≡ map (places_left session.address) old.pools.items
  pub others : LosesOther old.pools.items session old.others new.others

-- a session that was perhaps found ends, and keeps its address
pub record Ends (old : Counts) (found : Option Session) (new : Counts) : Type 0 where
  pub users : LosesOpen user_of found old.users.items new.users.items
  pub grants : new.grants.items ≡ old.grants.items
  pub sources : LosesSource found old.sources new.sources
  pub links : KeepsLinkRoom old.links new.links
  pub pools : new.pools.items ≡ old.pools.items
  pub others : new.others ≡ old.others

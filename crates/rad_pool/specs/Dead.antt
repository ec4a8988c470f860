-- What the sessions that aren't live at a moment leave: lower counts of a user's sessions, and the addresses that they had.
use Rattle.std.specs.Prelude.{◌≡◌, ◌≢◌, ℕ, ◌+◌, ◌-◌, ◌<◌, ◌≤◌, true, false, List, filter, length}
use Rattle.rad_config.specs.declared.spans.Spans.{Spans}
use Rattle.rad_places.specs.Places.{SeenPlaces, uses_at}
use Rattle.rad_rows.specs.Rows.{is_dead}
use Rattle.rad_pool.specs.Counts.{one_of, one_open_by, user_of}
use Rattle.rad_pool.specs.Grants.{has_address, is_held, open_sessions, sessions_of}
use Rattle.rad_pool.specs.Sessions.{is_live}
use Rattle.rad_pool.specs.declared.free.LeastFreed.{LeastFreed}
use Rattle.rad_pool.specs.declared.session.Session.{Session}
use Rattle.rad_pool.specs.declared.users.UserCounts.{UserCounts}

-- the sessions of a list that aren't live
abbrev pub dead_sessions : Spans → ℕ → List Session → List Session
dead_sessions spans now sessions = filter (is_dead is_live spans now) sessions

-- one session less, and one open session less, if it is one of the user's
pub record TakesOne (old : UserCounts) (session : Session) (new : UserCounts) : Type 0 where
  pub user : new.user ≡ old.user
  pub open_count : new.open_count ≡ old.open_count - one_open_by user_of old.user session
  pub total : new.total ≡ old.total - one_of old.user session

-- as many open ones and as many in all as the user has in a list
pub record CountsUser (user : ℕ) (sessions : List Session) (counts : UserCounts) : Type 0 where
  pub open_count : counts.open_count ≡ open_sessions user sessions
  pub total : counts.total ≡ sessions_of user sessions

-- the place of the session's address, if that is the lesser one
pub record TakesLesser (old : LeastFreed) (session : Session) (new : LeastFreed) : Type 0 where
  pub first : new.first ≡ old.first
  pub lesser : new.place ≤ old.place
  pub before : (place : ℕ) → place < new.place → has_address (old.first + place) session ≡ false
  pub here : new.place ≢ old.place → has_address (old.first + new.place) session ≡ true

-- a place before which no address is free, even if the dead sessions were gone, and whose own address isn't in use or a dead
-- session has
pub record IsLeastFreed (dead : List Session) (places : SeenPlaces) (least : ℕ) : Type 0 where
  pub used : (place : ℕ) → place < least → place < length places.uses → 0 < uses_at place places
  pub before : (place : ℕ) → place < least → is_held dead (places.first + place) ≡ false
  pub here : least < length places.uses → 0 < uses_at least places → is_held dead (places.first + least) ≡ true

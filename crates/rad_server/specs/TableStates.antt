-- The tables of a server as a state, and what holds of them. No other crate cites these.
use Rattle.std.specs.Prelude.{◌≡◌, ℕ, ◌<◌, true, length, All}
use Rattle.rad_auth.specs.Sealing.{IsReply}
use Rattle.rad_auth.specs.declared.arrival.Request.{Request}
use Rattle.rad_config.specs.Configurations.{Configuration}
use Rattle.rad_pool.specs.Sessions.{AreSame as AreSameSessions, cut}
use Rattle.rad_recent.specs.Challenges.{AreSame as AreSameChallenges, cut_challenges}
use Rattle.rad_recent.specs.Recent.{cut_replies}
use Rattle.rad_server.specs.Servers.{state_with}
use Rattle.rad_server.specs.States.{State, without_expired}
use Rattle.rad_server.specs.Steps.{without_reply}
use Rattle.rad_server.specs.declared.tables.Tables.{Tables}

-- the state with what is live at a moment
abbrev pub live_state : ℕ → Tables → State
live_state now tables = without_expired (state_with now tables)

-- the same without a reply to a request with the same key: in it, a request that is no repeat is answered
abbrev pub state_for : Request → ℕ → Tables → State
state_for request now tables = without_reply request (live_state now tables)

-- what plans rest on, which each lawful state has: kept replies that can be sealed, and challenges of users of the configuration
pub record AreUsable (configuration : Configuration) (tables : Tables) : Type 0 where
  pub sealable : All (λ reply. IsReply reply.body) tables.replies.table.kept
  pub users : All (λ challenge. challenge.user < length configuration.users) tables.challenges.table.challenges

-- nothing in the tables is past its life
pub record AreLive (now : ℕ) (tables : Tables) : Type 0 where
  pub sessions : cut now tables.sessions.table ≡ tables.sessions.table
  pub replies : cut_replies now tables.replies.table ≡ tables.replies.table
  pub challenges : cut_challenges now tables.challenges.table ≡ tables.challenges.table

-- memory that was ready still is
pub record HaveRoomOf (old new : Tables) : Type 0 where
  pub sessions : old.sessions.has_room ≡ true → new.sessions.has_room ≡ true
  pub replies : new.replies.ready ≡ old.replies.ready
  pub challenges : old.challenges.has_room ≡ true → new.challenges.has_room ≡ true

-- the same rows and the same next numbers
pub record AreTheSame (tables others : Tables) : Type 0 where
  pub sessions : AreSameSessions tables.sessions.table others.sessions.table
  pub replies : tables.replies.table.kept ≡ others.replies.table.kept
  pub challenges : AreSameChallenges tables.challenges.table others.challenges.table

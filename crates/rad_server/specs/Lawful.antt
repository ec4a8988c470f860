-- The law of the state: what holds of it before the first request, and is kept by each step for a request that may be answered.
-- `lawful_steps` says so. The laws of the tables are those of `rad_pool` and `rad_recent`.
use Rattle.std.specs.Prelude.{◌≡◌, ◌↔◌, ℕ, ◌≤◌, ◌<◌, ◌==◌, false, true, is_some, List, length, slice_index_or, All, Contains, Some}
use Rattle.std.specs.Prelude.{option_map, Ok}
use Rattle.rad_packet.specs.Attributes.{first_value}
use Rattle.rad_packet.specs.Bodies.{Body}
use Rattle.rad_packet.specs.Codes.{code_access_accept, code_status_server}
use Rattle.rad_packet.specs.Types.{type_class, type_framed_ip_address}
use Rattle.rad_auth.specs.Admission.{IsAnswerable}
use Rattle.rad_auth.specs.Authenticators.{sixteen_zeros}
use Rattle.rad_auth.specs.Clients.{client_place}
use Rattle.rad_auth.specs.Sealing.{IsReply}
use Rattle.rad_auth.specs.declared.arrival.Request.{Request}
use Rattle.rad_config.specs.Configurations.{Configuration}
use Rattle.rad_config.specs.Ranges.{IsConfiguration}
use Rattle.rad_config.specs.Spans.{moment_max, spans_of}
use Rattle.rad_pool.specs.Lawful.{IsLawful as AreLawfulSessions}
use Rattle.rad_pool.specs.Sessions.{Sessions}
use Rattle.rad_pool.specs.declared.session.Session.{Session}
use Rattle.rad_recent.specs.Lawful.{AreLawfulChallenges, AreLawfulReplies}
use Rattle.rad_recent.specs.declared.challenge.Challenge.{Challenge}
use Rattle.rad_recent.specs.declared.kept.Kept.{Kept}
use Rattle.rad_server.specs.Replies.{class_value, four_octets}
use Rattle.rad_server.specs.Restored.{IsNew, IsRow, rebuilt, restorable, with_row}
use Rattle.rad_server.specs.Shares.{AreSharedChallenges, AreSharedReplies}
use Rattle.rad_server.specs.States.{State, at_moment, opening}
use Rattle.rad_server.specs.Steps.{step}
use Rattle.rad_server.specs.Users.{user_at}
use Rattle.rad_server.specs.declared.state_row.StateRow.{StateRow}

-- ---- kept replies

-- what holds of each kept reply of a lawful state, besides the law of their table
pub record IsRepeatable (reply : Kept) : Type 0 where
  -- it can be sealed
  pub sealable : IsReply reply.body
  -- its request was no Status-Server, whose Code would be the first octet
  pub request : (slice_index_or reply.octets 0 0 == code_status_server) ≡ false

-- it takes the share of the client of its source
abbrev pub IsOwned : Configuration → Kept → Type 0
IsOwned configuration reply = reply.client ≡ client_place configuration.clients reply.key.source

-- a session has an address that a reply gives, and its Class has the session's number
pub record IsSessionOf (body : Body) (value : List ℕ) (session : Session) : Type 0 where
  pub address : option_map four_octets session.address ≡ Some value
  pub number : first_value type_class body.attributes ≡ Some (class_value session.number)

-- If a reply that was made at this moment is an Access-Accept that gives an address, there is a session that has it and was granted
-- then: so long as a repeated request may get the reply again, the address is nobody else's.
abbrev pub HasItsSession : Sessions → Body → ℕ → Type 0
HasItsSession table body made = body.code ≡ code_access_accept
    → (value : List ℕ) → first_value type_framed_ip_address body.attributes ≡ Some value
    → (session : Session) × Contains table.sessions session × IsSessionOf body value session × (session.made ≡ made)

-- ---- challenges

-- what holds of each challenge of a lawful state, besides the law of their table
pub record IsChallengeOf (configuration : Configuration) (challenge : Challenge) : Type 0 where
  -- its draw has 16 octets
  pub draw : length challenge.draw ≡ length sixteen_zeros
  -- its client and its user are places of the configuration
  pub client : challenge.client < length configuration.clients
  pub user : challenge.user < length configuration.users
  -- its user has an answer
  pub answer : is_some (user_at configuration challenge.user).answer ≡ true

-- ---- the state

-- what holds of the state of a server with this configuration
pub record IsLawful (configuration : Configuration) (state : State) : Type 0 where
  -- the clock shows a moment
  pub clock : state.clock ≤ moment_max
  -- sessions, replies and challenges live as long as the configuration says
  pub spans : state.sessions.spans ≡ spans_of configuration
  pub window : state.replies.window ≡ (spans_of configuration).window
  pub hold : state.challenges.hold ≡ (spans_of configuration).hold
  -- the table of sessions is lawful: no address belongs to two of them
  pub sessions : AreLawfulSessions configuration state.clock state.sessions
  -- the table of kept replies is lawful: no two have one key
  pub replies : AreLawfulReplies state.clock state.replies
  -- each takes the share of the client of its source, and no client has more of them than its share
  pub owned : All (IsOwned configuration) state.replies.kept
  pub shares : AreSharedReplies configuration state.replies
  -- each kept reply may be sent again
  pub repeatable : All IsRepeatable state.replies.kept
  -- the address that a kept Access-Accept gives is still its session's
  pub addresses : All (λ reply. HasItsSession state.sessions reply.body reply.made) state.replies.kept
  -- the table of challenges that wait for an answer is lawful
  pub challenges : AreLawfulChallenges state.clock state.challenges
  -- no client and no user has too many of them
  pub waiting : AreSharedChallenges configuration state.challenges
  -- each challenge is one of this configuration
  pub configured : All (IsChallengeOf configuration) state.challenges.challenges

-- ---- what keeps the law

abbrev pub OpeningIsLawful : Type 0
OpeningIsLawful = (configuration : Configuration) → IsLawful configuration (opening configuration)

-- a request that may be answered, at any moment up to the last, and with any draw of 16 octets
abbrev pub StepKeepsTheLaw : Type 0
StepKeepsTheLaw = (configuration : Configuration) (state : State) (request : Request) (moment : ℕ) (draw : List ℕ)
    → IsConfiguration configuration → IsAnswerable configuration.clients request
    → moment ≤ moment_max → length draw ≡ length sixteen_zeros
    → IsLawful configuration state → IsLawful configuration (step configuration state request moment draw).1

-- time that passes, up to the last moment
abbrev pub PassingKeepsTheLaw : Type 0
PassingKeepsTheLaw = (configuration : Configuration) (state : State) (moment : ℕ)
    → IsConfiguration configuration → moment ≤ moment_max → IsLawful configuration state
    → IsLawful configuration (at_moment moment state)

-- ---- what is put back

-- a row is put back into a lawful state exactly where the state with it is lawful and no number is given twice
abbrev pub RestoreIsTheLaw : Type 0
RestoreIsTheLaw = (configuration : Configuration) (row : StateRow) (state : State) → IsRow row → IsLawful configuration state
    → (restorable configuration row state ≡ Ok tt) ↔ (IsNew row state × IsLawful configuration (with_row row state))

-- no lawful state is refused: its rows, put back into a server that remembers nothing, give that state
abbrev pub RestoreRebuilds : Type 0
RestoreRebuilds =
    (configuration : Configuration) (state : State) → IsLawful configuration state → rebuilt configuration state ≡ Ok state

-- A server: its configuration, and what it remembers.
use Rattle.std.specs.Prelude.{ℕ}
use Rattle.rad_config.specs.Configurations.{Configuration}
use Rattle.rad_server.specs.States.{State}
use Rattle.rad_server.specs.declared.tables.Tables.{Tables}

pub record Server : Type 0 where
  pub configuration : Configuration
  pub state : State

-- the state with this clock and these tables
abbrev pub state_with : ℕ → Tables → State
state_with clock tables = record {
  clock = clock;
  sessions = tables.sessions.table;
  replies = tables.replies.table;
  challenges = tables.challenges.table;
}

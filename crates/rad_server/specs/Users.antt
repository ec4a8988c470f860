-- The users of the configuration.
use Rattle.std.specs.Prelude.{ℕ, [], None, slice_get, unwrap_or}
use Rattle.rad_packet.specs.Codes.{code_access_accept}
use Rattle.rad_config.specs.Configurations.{Configuration}
use Rattle.rad_config.specs.declared.user.User.{User}

-- the user at this place; where there is none, one of whom nothing is used
abbrev pub user_at : Configuration → ℕ → User
user_at configuration place = unwrap_or (slice_get configuration.users place) (record {
  name = [];
  password = [];
  address = None;
  pool = None;
  sessions = 0;
  service = None;
  protocol = None;
  timeout = None;
  message = None;
  challenge = None;
  answer = None;
  challenges = None;
  grants = None;
  reply = record { code = code_access_accept; attributes = [] };
})

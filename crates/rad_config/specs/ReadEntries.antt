-- What entries say, whose octets the code has borrowed from the document.
use Rattle.std.specs.Prelude.{List, map}
use Rattle.rad_auth.specs.Clients.{Client}
use Rattle.rad_config.specs.declared.read_client.ClientEntry.{ClientEntry}
use Rattle.rad_config.specs.declared.user.UserEntry.{UserEntry}
use Rattle.rad_config.specs.Profiles.{Group, profile_seen, user_with}
use Rattle.rad_config.specs.declared.read_group.Group.{Group as GroupOfCode}
use Rattle.rad_config.specs.declared.user.User.{User}

abbrev pub entry_client : ClientEntry → Client
entry_client client = record {
  address = client.network.address;
  prefix = client.network.prefix;
  secret = client.secret.now;
  require_message_authenticator = client.require_message_authenticator;
}

-- a group that the code read, and groups
abbrev pub group_seen : GroupOfCode → Group
group_seen group = record { name = group.name.now; profile = profile_seen group.profile; reply = group.reply }

abbrev pub groups_seen : List GroupOfCode → List Group
groups_seen groups = map group_seen groups

-- the user that an entry says
abbrev pub entry_user : UserEntry → User
entry_user user = user_with user.name.now user.password.now (profile_seen user.profile) user.reply.attributes

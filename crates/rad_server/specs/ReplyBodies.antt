-- How the body of a reply is made. No other crate cites these.
use Rattle.std.specs.Prelude.{◌≡◌, ◌≤◌, ℕ}
use Rattle.rad_packet.specs.Attributes.{count, size}
use Rattle.rad_packet.specs.Bodies.{Body}
use Rattle.rad_packet.specs.Types.{type_message_authenticator}
use Rattle.rad_auth.specs.Authenticators.{sixteen_zeros}
use Rattle.rad_config.specs.Configurations.{accept_max}
use Rattle.rad_config.specs.declared.user.User.{User}
use Rattle.rad_pool.specs.declared.grant.Grant.{Grant}
use Rattle.rad_server.specs.Replies.{accept_attributes, attribute}

-- what a reply to an Access-Request of this Code begins with
abbrev pub access_front : ℕ → Body
access_front code = record { code = code; attributes = attribute type_message_authenticator sixteen_zeros }

-- a user's Access-Accept of a grant can be sealed: it fits a packet with as many Proxy-States as there may be, and has one
-- Message-Authenticator
pub record CanBeAccepted (user : User) (grant : Grant) : Type 0 where
  pub fits : size (accept_attributes user grant) ≤ accept_max
  pub none : count type_message_authenticator user.reply.attributes ≡ 0

-- How much of the tables one client or one user may take, where the configuration says so.
use Rattle.std.specs.Prelude.{ℕ, ◌≤◌, ◌*◌, ◌/◌, ◌||◌, Bool, Option, option_map, IfSome}
use Rattle.rad_config.specs.Configurations.{Configuration, is_reached, share_of}
use Rattle.rad_recent.specs.Challenges.{Challenges, challenges_max, waiting_with}
use Rattle.rad_recent.specs.Recent.{Replies, is_full, kept_max, replies_for}
use Rattle.rad_recent.specs.declared.challenge.Party.TheVariants.{Client, User}
use Rattle.rad_server.specs.Users.{user_at}

-- the part of so many that the client at a place has, rounded down, if it has a share
abbrev pub part_of : ℕ → Configuration → ℕ → Option ℕ
part_of whole configuration client = option_map (λ percent. whole * percent / 100) (share_of configuration client)

-- how many kept replies, and how many challenges, may be a client's
abbrev pub replies_share : Configuration → ℕ → Option ℕ
replies_share configuration client = part_of kept_max configuration client

abbrev pub challenges_share : Configuration → ℕ → Option ℕ
challenges_share configuration client = part_of challenges_max configuration client

-- how many challenges may be a user's
abbrev pub challenges_limit : Configuration → ℕ → Option ℕ
challenges_limit configuration user = (user_at configuration user).challenges

-- whether no more replies to a client's requests may be kept
abbrev pub lacks_room : Configuration → ℕ → Replies → Bool
lacks_room configuration client replies =
    is_full replies || is_reached (replies_share configuration client) (replies_for client replies)

-- a count is within a limit, if there is one
abbrev pub IsWithin : Option ℕ → ℕ → Type 0
IsWithin limit count = IfSome limit (λ most. count ≤ most)

-- no client has more kept replies than its share
abbrev pub AreSharedReplies : Configuration → Replies → Type 0
AreSharedReplies configuration replies = (client : ℕ) → IsWithin (replies_share configuration client) (replies_for client replies)

-- no client has more challenges than its share, and no user more than its limit
pub record AreSharedChallenges (configuration : Configuration) (challenges : Challenges) : Type 0 where
  pub clients : (client : ℕ) → IsWithin (challenges_share configuration client) (waiting_with (Client client) challenges)
  pub users : (user : ℕ) → IsWithin (challenges_limit configuration user) (waiting_with (User user) challenges)

-- Warnings of users: whether a configuration's `stale` fits how often clients are asked to report their sessions (RFC 2869, section
-- 5.16). Times are in seconds.
use Rattle.std.specs.Prelude.{ℕ, ◌*◌, nat_lt, not, Bool, false, Option, Some, None, is_some, option_and_then}
use Rattle.rad_packet.specs.Attributes.{first_value, integer_of}
use Rattle.rad_config.specs.declared.user.User.{User}
use Rattle.rad_check.specs.declared.user_warning.UserWarning.{UserWarning}
use Rattle.rad_check.specs.declared.user_warning.UserWarning.TheVariants.{NoInterval, ShortStale}

-- Acct-Interim-Interval (RFC 2869, section 5.16)
abbrev pub type_acct_interim_interval : ℕ
type_acct_interim_interval = 85

-- the time from one Interim-Update to the next that an Access-Accept asks for
abbrev pub interval_of : User → Option ℕ
interval_of user = option_and_then integer_of (first_value type_acct_interim_interval user.reply.attributes)

-- how many intervals `stale` should last, so that two Interim-Updates in a row may be lost
abbrev pub intervals_least : ℕ
intervals_least = 3

abbrev pub is_short : ℕ → Option ℕ → Bool
is_short stale None = false
is_short stale (Some interval) = nat_lt stale (intervals_least * interval)

-- whether a warning applies to a user, where `stale` is this
abbrev pub concerns : UserWarning → Option ℕ → User → Bool
concerns warning None user = false
concerns ShortStale (Some stale) user = is_short stale (interval_of user)
concerns NoInterval (Some stale) user = not (is_some (interval_of user))

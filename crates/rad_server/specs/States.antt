-- What the server remembers: the sessions, the replies that repeated requests get again (RFC 5080, section 2.2.2), and the
-- challenges that wait for an answer (RFC 2865, section 4.4). Moments and spans are in milliseconds.
use Rattle.std.specs.Prelude.{ℕ, max, Option, Some, None}
use Rattle.rad_config.specs.Configurations.{Configuration}
use Rattle.rad_config.specs.Spans.{spans_of}
use Rattle.rad_pool.specs.Sessions.{Sessions, cut}
use Rattle.rad_pool.specs.Sessions as sessions
use Rattle.rad_recent.specs.Challenges.{Challenges, cut_challenges}
use Rattle.rad_recent.specs.Challenges as challenges
use Rattle.rad_recent.specs.Recent.{Replies, cut_replies}
use Rattle.rad_recent.specs.Recent as replies

-- The clock is the latest moment so far. Each table has the oldest first; those of sessions and challenges have the number of the
-- next one.
pub record State : Type 0 where
  pub clock : ℕ
  pub sessions : Sessions
  pub replies : Replies
  pub challenges : Challenges

-- the state before the first request
abbrev pub opening : Configuration → State
opening configuration = record {
  clock = 0;
  sessions = sessions.opening (spans_of configuration);
  replies = replies.opening (spans_of configuration).window;
  challenges = challenges.opening (spans_of configuration).hold;
}

-- the state with only what is live by its clock
abbrev pub without_expired : State → State
without_expired state = record state {
  sessions = cut state.clock state.sessions;
  replies = cut_replies state.clock state.replies;
  challenges = cut_challenges state.clock state.challenges;
}

-- the state at a moment: the clock doesn't go back, and only what is live is left
abbrev pub at_moment : ℕ → State → State
at_moment moment state = without_expired (record state { clock = max state.clock moment })

-- the state, or if time has passed up to a moment that is no request's, the state at that moment
abbrev pub when_passed : Option ℕ → State → State
when_passed None state = state
when_passed (Some moment) state = at_moment moment state

-- Which of the two sockets is asked for the next datagram of a turn, so that neither keeps the other one waiting.
use Rattle.std.specs.Prelude.{ℕ, zero, suc, ◌-◌, ◌/◌, ◌≤◌, min, nat_lt, find, Option, Some, None, Bool, true, false, ◌&&◌, ◌||◌}
use Rattle.std.specs.Prelude.{if◌then◌else◌, List, [], ◌∷◌}
use Rattle.rad_auth.specs.declared.arrival.Door.{Door}
use Rattle.rad_auth.specs.declared.arrival.Door.TheVariants.{Auth, Acct}
use Rattle.rad_shell.specs.Rounds.{arrivals_max}
use Rattle.rad_serve.specs.declared.asking.Asking.{Asking}

-- half of a turn's datagrams
abbrev pub half_turn : ℕ
half_turn = arrivals_max / 2

-- before the first wait, when each socket may have a datagram
abbrev pub at_first : Asking
at_first = record { auth_left = half_turn; auth_may = true; acct_may = true; has_received = false }

-- which socket is asked next: that of authentication, until it has given half of a turn; and which one if that has nothing
abbrev pub asking_order : Asking → List Door
asking_order asking =
    if nat_lt 0 asking.auth_left then Auth ∷ Acct ∷ [] else Acct ∷ Auth ∷ []

-- after a datagram of a socket
abbrev pub with_one : Door → Asking → Asking
with_one Auth asking = record asking { auth_left = asking.auth_left - 1; has_received = true }
with_one Acct asking = record asking { has_received = true }

-- whether a socket may have a datagram
abbrev pub may_have : Door → Asking → Bool
may_have Auth asking = asking.auth_may
may_have Acct asking = asking.acct_may

abbrev pub with_mark : Door → Bool → Asking → Asking
with_mark Auth may asking = record asking { auth_may = may }
with_mark Acct may asking = record asking { acct_may = may }

-- whether a turn may have left a datagram, as one that took `arrivals_max` may have
abbrev pub may_be_left : Asking → Bool
may_be_left asking = asking.has_received && (asking.auth_may || asking.acct_may)

-- before the next turn
abbrev pub at_turn : Asking → Asking
at_turn asking = record asking { auth_left = half_turn; has_received = false }

-- ---- a whole turn, in which nothing else comes, and each socket is marked at which something waits

-- how many datagrams wait at the sockets
pub record Waiting : Type 0 where
  pub auth : ℕ
  pub acct : ℕ

-- whether one waits at a socket
abbrev pub waits_at : Waiting → Door → Bool
waits_at waiting Auth = nat_lt 0 waiting.auth
waits_at waiting Acct = nat_lt 0 waiting.acct

abbrev pub without_one : Door → Waiting → Waiting
without_one Auth waiting = record waiting { auth = waiting.auth - 1 }
without_one Acct waiting = record waiting { acct = waiting.acct - 1 }

-- a turn on its way
pub record Receiving : Type 0 where
  pub asking : Asking
  pub waiting : Waiting

-- after a datagram of that socket, if it is one
abbrev pub received_from : Option Door → Receiving → Receiving
received_from None turn = turn
received_from (Some door) turn =
    record { asking = with_one door turn.asking; waiting = without_one door turn.waiting }

-- after a receive, which gives a datagram of the first socket in the order at which one waits
abbrev pub received : Receiving → Receiving
received turn = received_from (find (waits_at turn.waiting) (asking_order turn.asking)) turn

unfoldable pub after_receives : ℕ → Receiving → Receiving
after_receives zero turn = turn
after_receives (suc more) turn = after_receives more (received turn)

-- how many wait after a whole turn
abbrev pub waiting_after_turn : Asking → Waiting → Waiting
waiting_after_turn asking waiting =
    (after_receives arrivals_max (record { asking = asking; waiting = waiting })).waiting

-- whatever waits, a whole turn receives half of its datagrams from each socket, or all that wait there
pub record GivesHalves (asking : Asking) : Type 0 where
  pub auth : (waiting : Waiting)
      → min half_turn waiting.auth ≤ waiting.auth - (waiting_after_turn asking waiting).auth
  pub acct : (waiting : Waiting)
      → min half_turn waiting.acct ≤ waiting.acct - (waiting_after_turn asking waiting).acct

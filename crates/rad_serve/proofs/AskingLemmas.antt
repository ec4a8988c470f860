-- What a whole turn receives from each socket.
use Rattle.std.proofs.Common.{◌≡◌, ℕ, zero, suc, ◌+◌, ◌-◌, ◌≤◌, min, Bool, true, false, if◌then◌else◌, List, [], ◌∷◌, refl, arith}
use Rattle.std.proofs.Common.{nat_lt, find}
use Rattle.std.proofs.lemmas.Bool.Decides.{nat_tests}
use Rattle.rad_auth.specs.declared.arrival.Door.{Door}
use Rattle.rad_auth.specs.declared.arrival.Door.TheVariants.{Auth, Acct}
use Rattle.rad_shell.specs.Rounds.{arrivals_max}
use Rattle.rad_serve.specs.Asking.{Receiving, GivesHalves, after_receives, received, received_from, half_turn}
use Rattle.rad_serve.specs.declared.asking.Asking.{Asking}

-- what so many receives leave, if that much is left of authentication's half
record Leaves (count : ℕ) (turn : Receiving) (after : Receiving) : Type 0 where
  pub auth : after.waiting.auth + min turn.asking.auth_left (min count turn.waiting.auth) ≤ turn.waiting.auth
  pub acct : after.waiting.acct + min (count - turn.asking.auth_left) turn.waiting.acct ≤ turn.waiting.acct

-- `asking_order` and `waits_at` by the tests that they make
abbrev order_by : Bool → List Door
order_by is_left = if is_left then Auth ∷ Acct ∷ [] else Acct ∷ Auth ∷ []

abbrev waits_by : Bool → Bool → Door → Bool
waits_by auth acct Auth = auth
waits_by auth acct Acct = acct

-- `received` by these tests
abbrev tested : Bool → Bool → Bool → Receiving → Receiving
tested is_left auth acct turn = received_from (find (waits_by auth acct) (order_by is_left)) turn

leaves-tested : (count : ℕ) (turn after : Receiving) (is_left auth acct : Bool)
    → nat_lt 0 turn.asking.auth_left ≡ is_left
    → nat_lt 0 turn.waiting.auth ≡ auth
    → nat_lt 0 turn.waiting.acct ≡ acct
    → Leaves count (tested is_left auth acct turn) after
    → Leaves (suc count) turn after
leaves-tested count turn after true true _ l a c h = record { auth = grind (arith, nat_tests); acct = grind (arith, nat_tests) }
leaves-tested count turn after true false true l a c h = record { auth = grind (arith, nat_tests); acct = grind (arith, nat_tests) }
leaves-tested count turn after true false false l a c h =
    record { auth = grind (arith, nat_tests); acct = grind (arith, nat_tests) }
leaves-tested count turn after false _ true l a c h = record { auth = grind (arith, nat_tests); acct = grind (arith, nat_tests) }
leaves-tested count turn after false true false l a c h =
    record { auth = grind (arith, nat_tests); acct = grind (arith, nat_tests) }
leaves-tested count turn after false false false l a c h =
    record { auth = grind (arith, nat_tests); acct = grind (arith, nat_tests) }

leaves : (count : ℕ) (turn : Receiving) → Leaves count turn (after_receives count turn)
unfolding after_receives
leaves zero turn = record { auth = omega arith; acct = omega arith }
leaves (suc count) turn =
    leaves-tested count turn (after_receives count (received turn)) _ _ _ refl refl refl (leaves count (received turn))

pub gives_halves : (asking : Asking) → asking.auth_left ≡ half_turn → GivesHalves asking
gives_halves asking is_half = record {
  auth = λ waiting. omega (arith, (leaves arrivals_max (record { asking = asking; waiting = waiting })).auth);
  acct = λ waiting. omega (arith, (leaves arrivals_max (record { asking = asking; waiting = waiting })).acct);
}

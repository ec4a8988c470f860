-- The numbers that texts spell.
use Rattle.std.proofs.Common.{◌≡◌, ℕ, ◌+◌, ◌-◌, ◌*◌, ◌<◌, ◌≤◌, ◌^◌, leb, Some, arith}
use Rattle.std.specs.Prelude.{◌&&◌}
use Rattle.std.proofs.Math.Nat.{pow-le-pow_right}
use Rattle.std.proofs.lemmas.Option.{cond_some}
use Rattle.std.proofs.lemmas.Bool.Decides.{nat_tests}
use Rattle.rad_text.specs.Decimals.{digit_of}

-- the value of a digit is below ten
pub digit_of_below : (octet digit : ℕ) → digit_of octet ≡ Some digit → digit < 10
digit_of_below octet digit is =
    let p = cond_some (leb 48 octet && leb octet 57) (octet - 48) digit is in
    grind (arith, nat_tests)

-- nineteen digits fit 64 bits
pub nineteen_fit : (number digit i : ℕ) → number < 10 ^ i → i < 19 → digit < 10 → 10 * number + digit < 2 ^ 64
nineteen_fit number digit i below few small =
    let bound : 10 ^ i ≤ 10 ^ 18 = pow-le-pow_right {n = 10} (omega arith) {i = i} {j = 18} (omega arith) in
    omega (arith, below, bound)

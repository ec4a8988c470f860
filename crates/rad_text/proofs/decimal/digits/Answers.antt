use Rattle.std.proofs.Common.{get_or, sym, arith}
use Rattle.rad_text.proofs.DecimalLemmas.{digit_of_below, nineteen_fit}
use Rattle.rad_text.proofs.decimal.digits.Goals as goal

pub overflow_mul-number : goal.overflow_mul-number
overflow_mul-number c = omega (
  arith,
  nineteen_fit c.loop-octet.number 0 c.loop-octet.octet-index c.loop-octet.invariant.small (omega arith) (omega arith),
)

pub overflow_add-number : goal.overflow_add-number
overflow_add-number c =
    let small = digit_of_below (get_or c.args.text.now c.loop-octet.octet-index 0) c.in_ok-number.field-0
    (sym c.in_ok-number.ensures) in
    omega (
      arith,
      nineteen_fit c.loop-octet.number c.in_ok-number.field-0 c.loop-octet.octet-index c.loop-octet.invariant.small
          (omega arith) small,
    )

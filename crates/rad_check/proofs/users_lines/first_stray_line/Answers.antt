use Rattle.std.proofs.Common.{arith}
use Rattle.rad_check.proofs.LineLemmas.{stray_place-within}
use Rattle.rad_check.proofs.users_lines.first_stray_line.Goals as goal

pub overflow_add-result : goal.overflow_add-result
overflow_add-result c = omega (arith, stray_place-within c.args.text.now c.in_ok-place.place c.in_ok-place.ensures)

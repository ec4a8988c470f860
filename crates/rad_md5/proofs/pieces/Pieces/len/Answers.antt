use Rattle.std.proofs.Common.{length, ap, ◌∙◌, sym, arith}
use Rattle.rad_md5.proofs.PieceLemmas.{length_of_five}
use Rattle.rad_md5.specs.Pieces.{message}
use Rattle.rad_md5.proofs.pieces.Pieces.len.Goals as goal

pub overflow_add-result-4 : goal.overflow_add-result-4
overflow_add-result-4 c = omega (arith, length_of_five c.self.inside.slices c.self.told, c.self.invariant)

pub returns-clause-value : goal.returns-clause-value
returns-clause-value c =
    sym (length_of_five c.self.inside.slices c.self.told) ∙ ap (λ pieces. length (message pieces)) c.self.view_is

pub returns-clause-bound : goal.returns-clause-bound
returns-clause-bound c = omega (arith, length_of_five c.self.inside.slices c.self.told, c.self.invariant)

use Rattle.std.proofs.Common.{◌∙◌, arith}
use Rattle.std.proofs.lemmas.List.{length-set}
use Rattle.std.proofs.lemmas.List.Edits.{fill_by_more}
use Rattle.rad_md5.proofs.each.in_order.Goals as goal

pub places-preserved : goal.places-preserved
places-preserved c = (
  length-set c.places.places c.places.k c.places.k ∙ c.places.invariant.0,
  fill_by_more (λ k. k) c.places.places c.places.k 0 (omega (arith, c.places-test.true, c.places.invariant.0)) c.places.invariant.1,
)

use Rattle.std.proofs.Common.{[], slice_index_or, ◌∙◌, arith}
use Rattle.rad_md5.specs.Pieces.{digest}
use Rattle.rad_md5.proofs.each.digest_group.Goals as goal

pub returns-clause-kept : goal.returns-clause-kept
returns-clause-kept c =
    c.place_digests.ensures.kept (λ i. digest (slice_index_or c.args.messages.now i [])) (λ j few.
    c.digests_in.ensures.made j (omega (arith, few, c.requires.places.0)) ∙ c.hash8.ensures j few)

pub returns-clause-placed : goal.returns-clause-placed
returns-clause-placed c =
    c.place_digests.ensures.placed (λ i. digest (slice_index_or c.args.messages.now i [])) (λ j few.
    c.digests_in.ensures.made j (omega (arith, few, c.requires.places.0)) ∙ c.hash8.ensures j few)

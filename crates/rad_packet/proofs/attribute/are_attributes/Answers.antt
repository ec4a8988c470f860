use Rattle.std.proofs.Common.{sym, ◌∙◌, arith, inl, inr}
use Rattle.std.proofs.lemmas.List.{take_rest}
use Rattle.rad_packet.proofs.AttributeLemmas.{are-at, are-not, are-short}
use Rattle.rad_packet.proofs.attribute.are_attributes.Goals as goal

pub returns-then-len-lt2 : goal.returns-then-len-lt2
returns-then-len-lt2 c =
    sym (are-not c.loop-rest.rest.now c.in-len2-up.len_at_least
    (elim c.then-len-lt2.either [ inl short ↦ inl short | inr long ↦ inr long.1 ])) ∙ c.loop-rest.invariant

pub loop-rest-preserved : goal.loop-rest-preserved
loop-rest-preserved c =
    rw take_rest (are-at c.loop-rest.rest.now c.in-len2-up.len_at_least (omega arith) (omega arith) ∙ c.loop-rest.invariant)

pub returns : goal.returns
returns c = c.is_empty.ensures ∙ sym (are-short c.loop-rest.rest.now c.in_default.len_below) ∙ c.loop-rest.invariant

use Rattle.std.proofs.Common.{rules, ℕ, ◌∙◌, None, Option, List, Bor, ap, slice_index_or}
use Rattle.std.proofs.lemmas.List.{get_or-replicate, length-replicate, length-set}
use Rattle.rad_packet.specs.Attributes.{first_value}
use Rattle.rad_accounting.proofs.FirstLemmas.{all-first, next-first}
use Rattle.rad_accounting.proofs.firsts.Firsts.of.Goals as goal

pub loop-attribute-init : goal.loop-attribute-init
loop-attribute-init c = (
  length-replicate {A = Option (Bor (List ℕ))} 256 None,
  λ kind below. rw (get_or-replicate {A = Option (Bor (List ℕ))} 256 kind None None below)
      (ap (first_value kind) c.attributes-rest.ensures.list),
)

pub loop-attribute-preserved : goal.loop-attribute-preserved
loop-attribute-preserved c =
    let attribute = c.in-Some.attribute in
    let values = c.loop-attribute.values in
    let known = c.loop-attribute.invariant in (
      length-set values attribute.kind c.or.result ∙ known.0,
      λ kind below. rw c.or.ensures (next-first values attribute.value kind attribute.kind c.loop-attribute.rest c.next.new.self
          c.args.packet.now.attributes (rw known.0 (search rules)) c.in-Some.ensures.steps (known.1 kind below)),
    )

pub invariant_of-result : goal.invariant_of-result
invariant_of-result c = record {
  firsts = λ kind below. all-first kind (slice_index_or c.loop-attribute.values kind None) c.loop-attribute.rest
      c.args.packet.now.attributes c.in_default.ensures.steps.0 (c.loop-attribute.invariant.1 kind below);
}

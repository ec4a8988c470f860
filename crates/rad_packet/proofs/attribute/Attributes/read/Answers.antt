use Rattle.std.proofs.Common.{[], length, Some, sym, ap, ◌≡◌, ◌∙◌, arith}
use Rattle.std.specs.Prelude.{unwrap_or}
use Rattle.rad_packet.specs.Attributes.{attributes_in, attributes_of}
use Rattle.rad_packet.proofs.AttributeLemmas.{none_from, some_from, within-spells}
use Rattle.rad_packet.proofs.attribute.Attributes.read.Goals as goal

pub of-requires : goal.of-requires
of-requires c =
    let octets = c.args.octets.now in
    let some = some_from (attributes_of octets) (sym c.are_attributes.ensures ∙ c.if-not-are_attributes.false) in
    let found : attributes_in octets ≡ some.0 = ap (λ o. unwrap_or o []) some.1 in
    rw found (within-spells (length octets) octets some.0 (λ i. omega (arith, c.type_inv.octets i)) some.1)

pub returns-then-not-are_attributes : goal.returns-then-not-are_attributes
returns-then-not-are_attributes c =
    sym (none_from (attributes_of c.args.octets.now) (sym c.are_attributes.ensures ∙ c.if-not-are_attributes.true))

pub returns : goal.returns
returns c =
    let some = some_from (attributes_of c.args.octets.now) (sym c.are_attributes.ensures ∙ c.if-not-are_attributes.false) in
    ap Some (c.of.ensures ∙ ap (λ o. unwrap_or o []) some.1) ∙ sym some.1

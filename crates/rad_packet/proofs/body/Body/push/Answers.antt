use Rattle.std.proofs.Common.{◌<◌, List, ap, ◌∙◌}
use Rattle.rad_packet.specs.Attributes.{Attribute, attributes_in}
use Rattle.rad_packet.specs.Bodies.{with_attribute}
use Rattle.rad_packet.proofs.AttributeLemmas.{in-push, are-push}
use Rattle.rad_packet.proofs.body.Body.push.Goals as goal

pub invariant_of-self-2 : goal.invariant_of-self-2
invariant_of-self-2 c =
    let kind : c.args.kind < 256 = c.ranges.kind.fits in
    rw c.in_ok-append_attribute.ensures.appended
    (are-push c.self.inside.octets (record { kind = c.args.kind; value = c.args.value.now }) c.self.invariant
    (record { kind = kind; value = c.requires.fits }))

pub returns-clause-appended : goal.returns-clause-appended
returns-clause-appended c =
    let a : Attribute = record { kind = c.args.kind; value = c.args.value.now } in
    let list = ap attributes_in (c.in_ok-append_attribute.ensures.appended) ∙ in-push c.self.inside.octets a c.self.invariant in
    ap (λ (list : List Attribute). record { code = c.self.inside.code; attributes = list }) list
    ∙ ap (with_attribute c.args.kind c.args.value.now) c.self.view_is

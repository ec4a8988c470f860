use Rattle.std.proofs.Common.{◌≡◌, ℕ, List, ap, ◌∙◌, append-nil, ◌++◌}
use Rattle.rad_packet.specs.Attributes.{Attribute, attributes_in}
use Rattle.rad_packet.specs.Bodies.{with_attributes}
use Rattle.rad_packet.proofs.AttributeLemmas.{in-append, are-append}
use Rattle.rad_packet.proofs.body.Body.append.Goals as goal

pub invariant_of-self-2 : goal.invariant_of-self-2
invariant_of-self-2 c =
    let own : List ℕ = c.self.inside.octets in
    let new : c.append.new.self ≡ own ++ c.other.inside.octets =
    c.in_ok-append.ensures.appended ∙ append-nil (own ++ c.octets.result.now) ∙ ap (λ o. own ++ o) c.octets.ensures in
    rw new (are-append own c.other.inside.octets c.self.invariant c.other.invariant)

pub returns-clause-appended : goal.returns-clause-appended
returns-clause-appended c =
    let own : List ℕ = c.self.inside.octets in
    let new : c.append.new.self ≡ own ++ c.other.inside.octets =
    c.in_ok-append.ensures.appended ∙ append-nil (own ++ c.octets.result.now) ∙ ap (λ o. own ++ o) c.octets.ensures in
    let list = ap attributes_in new ∙ in-append own c.other.inside.octets c.self.invariant c.other.invariant in
    ap (λ (list : List Attribute). record { code = c.self.inside.code; attributes = list }) list
    ∙ ap (with_attributes (attributes_in c.other.inside.octets)) c.self.view_is
    ∙ ap (λ body. with_attributes body.attributes c.args.self.now) c.other.view_is

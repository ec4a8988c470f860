use Rattle.std.proofs.Common.{◌≡◌, ◌∙◌, List, ap, append-nil, subst, sym}
use Rattle.std.specs.Prelude.{IfOk}
use Rattle.rad_packet.specs.Attributes.{Attribute}
use Rattle.rad_packet.specs.Bodies.{Body, with_attributes}
use Rattle.rad_config.proofs.GroupLemmas.{none-of-size}
use Rattle.rad_config.proofs.read_group.joined.Goals as goal

pub returns-then-size-eq0 : goal.returns-then-size-eq0
returns-then-size-eq0 c =
    let front = c.args.front.now in
    let none = none-of-size c.args.back.now.attributes (sym c.size.ensures ∙ c.if-size-eq0.true) in
    let same : with_attributes c.args.back.now.attributes front ≡ front =
    ap (λ list. with_attributes list front) none
    ∙ ap (λ (list : List Attribute). record front { attributes = list }) (append-nil front.attributes) in
    subst (λ (b : Body). IfOk c.copy.result (λ body. body ≡ b)) (sym same) c.copy.ensures

use Rattle.std.proofs.Common.{◌≡◌, List, [], ap, sym, ◌∙◌}
use Rattle.std.proofs.lemmas.List.{append-nil}
use Rattle.rad_packet.specs.Attributes.{Attribute, of_kind}
use Rattle.rad_server.proofs.ReplyLemmas.{no_attributes}
use Rattle.rad_server.proofs.reply.copy_proxy_states.Goals as goal

pub returns-then-request-eq0 : goal.returns-then-request-eq0
returns-then-request-eq0 c =
    let none : of_kind 33 c.args.request.now.packet.attributes ≡ [] = no_attributes _ (sym c.requires.0 ∙ c.if-request-eq0.true) in
    rw none (ap (λ (list : List Attribute). record c.args.body.now { attributes = list })
    (sym (append-nil c.args.body.now.attributes)))

use Rattle.std.proofs.Common.{ap, sym, ◌∙◌}
use Rattle.std.specs.Prelude.{option_and_then, option_copied}
use Rattle.rad_packet.specs.Attributes.{first_value}
use Rattle.rad_server.specs.Reports.{class_number_of}
use Rattle.rad_server.proofs.NamedLemmas.{named_found, named_gone, unnamed}
use Rattle.rad_server.proofs.reply_rules.has_session.Goals as goal

pub returns-in_default : goal.returns-in_default
returns-in_default c =
    let class = sym (ap (first_value 25) c.attributes.ensures) ∙ sym c.first.ensures ∙ ap option_copied c.in_default.is in
    sym (unnamed c.args.reply.now c.args.sessions.now.table c.requires (ap (option_and_then class_number_of) class))

pub returns-in_default-class_number_of : goal.returns-in_default-class_number_of
returns-in_default-class_number_of c =
    let class = sym (ap (first_value 25) c.attributes.ensures) ∙ sym c.first.ensures ∙ ap option_copied c.in-Some.is in
    let named = ap (option_and_then class_number_of) class ∙ sym c.class_number_of.ensures ∙ c.in_default-class_number_of.is in
    sym (unnamed c.args.reply.now c.args.sessions.now.table c.requires named)

pub returns-in-Some-get : goal.returns-in-Some-get
returns-in-Some-get c =
    let class = sym (ap (first_value 25) c.attributes.ensures) ∙ sym c.first.ensures ∙ ap option_copied c.in-Some.is in
    let named = ap (option_and_then class_number_of) class ∙ sym c.class_number_of.ensures ∙ c.in-Some-class_number_of.is in
    c.is_its_session.ensures
    ∙ named_found c.args.reply.now c.in-Some-class_number_of.number c.in-Some-get.session c.args.sessions.now.table c.requires named
    (sym c.get.ensures ∙ c.in-Some-get.is)

pub returns-in-None : goal.returns-in-None
returns-in-None c =
    let class = sym (ap (first_value 25) c.attributes.ensures) ∙ sym c.first.ensures ∙ ap option_copied c.in-Some.is in
    let named = ap (option_and_then class_number_of) class ∙ sym c.class_number_of.ensures ∙ c.in-Some-class_number_of.is in
    sym (named_gone c.args.reply.now c.in-Some-class_number_of.number c.args.sessions.now.table c.requires named
    (sym c.get.ensures ∙ c.in-None.is))

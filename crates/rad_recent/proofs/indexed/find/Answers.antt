use Rattle.std.proofs.Common.{◌∙◌, ap, sym}
use Rattle.rad_recent.proofs.HoldLemmas.{look_false, look_none, look_nothing, look_true, wanted}
use Rattle.rad_recent.proofs.indexed.find.Goals as goal

pub returns-in_default : goal.returns-in_default
returns-in_default c = look_nothing c.args.rows.now.spans c.args.now c.args.key.now c.args.octets.now c.args.index.now.map.entries
    c.args.rows.now.rows (sym c.in_default.ensures) c.requires.indexed

pub returns-in_default-get : goal.returns-in_default-get
returns-in_default-get c =
    look_none c.args.rows.now.spans c.args.now c.args.key.now c.args.octets.now c.args.index.now.map.entries c.in-Some.number
    c.args.rows.now.rows (sym c.in-Some.ensures) c.requires.indexed (sym c.in_default-get.ensures)

pub returns-then-not-is_reply_to : goal.returns-then-not-is_reply_to
returns-then-not-is_reply_to c =
    look_false c.args.rows.now.spans c.args.now c.args.key.now c.args.octets.now c.args.index.now.map.entries c.in-Some.number
    c.args.rows.now.rows (sym c.in-Some.ensures) c.requires.indexed
    c.in-Some-get.row.now c.numbers_rise.ensures.rising.rising (sym c.in-Some-get.ensures)
    (sym (ap (λ w. wanted w c.args.now c.args.key.now c.args.octets.now c.in-Some-get.row.now) c.spans.ensures)
    ∙ sym c.is_reply_to.ensures ∙ c.if-not-is_reply_to.true)

pub returns : goal.returns
returns c =
    look_true c.args.rows.now.spans c.args.now c.args.key.now c.args.octets.now c.args.index.now.map.entries c.in-Some.number
    c.args.rows.now.rows (sym c.in-Some.ensures) c.requires.indexed
    c.in-Some-get.row.now (sym c.in-Some-get.ensures)
    (sym (ap (λ w. wanted w c.args.now c.args.key.now c.args.octets.now c.in-Some-get.row.now) c.spans.ensures)
    ∙ sym c.is_reply_to.ensures ∙ c.if-not-is_reply_to.false)

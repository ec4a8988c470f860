use Rattle.std.proofs.Common.{◌∙◌, ap, arith, sym}
use Rattle.rad_recent.specs.Recent.{is_reply_live}
use Rattle.rad_recent.proofs.NumberedLemmas.{count_dead, count_live, count_none, count_vacant}
use Rattle.rad_recent.proofs.others.count.Goals as goal

pub returns-in_default : goal.returns-in_default
returns-in_default c =
    c.count_live-live.ensures
    ∙ sym (count_none (is_reply_live c.args.rows.now.spans c.args.now) c.args.map.now.entries c.args.key.now c.args.rows.now.rows
    c.requires.indexed (sym c.in_default.ensures))

pub returns-in_default-get : goal.returns-in_default-get
returns-in_default-get c =
    c.count_live-live.ensures
    ∙ sym (count_vacant (is_reply_live c.args.rows.now.spans c.args.now) c.args.map.now.entries c.args.key.now c.args.rows.now.rows
    c.requires.indexed c.in-Some.number (sym c.in-Some.ensures) (sym c.in_default-get.ensures))

pub returns-then-not-is_live : goal.returns-then-not-is_live
returns-then-not-is_live c =
    c.count_live-live.ensures
    ∙ sym (count_dead (is_reply_live c.args.rows.now.spans c.args.now) c.args.map.now.entries c.args.key.now c.args.rows.now.rows
    c.requires.indexed c.in-Some.number (sym c.in-Some.ensures)
    c.in-Some-get.row.now c.numbers_rise.ensures.rising.rising (sym c.in-Some-get.ensures)
    (sym (ap (λ w. is_reply_live w c.args.now c.in-Some-get.row.now.kept) c.spans.ensures) ∙ sym c.is_live.ensures
    ∙ c.if-not-is_live.true))

pub overflow_sub-result : goal.overflow_sub-result
overflow_sub-result c =
    omega (
      arith,
      c.count_live-live.ensures,
      count_live (is_reply_live c.args.rows.now.spans c.args.now) c.args.map.now.entries c.args.key.now c.args.rows.now.rows
          c.requires.indexed c.in-Some.number (sym c.in-Some.ensures)
          c.in-Some-get.row.now c.numbers_rise.ensures.rising.rising (sym c.in-Some-get.ensures)
          (sym (ap (λ w. is_reply_live w c.args.now c.in-Some-get.row.now.kept) c.spans.ensures) ∙ sym c.is_live.ensures
          ∙ c.if-not-is_live.false),
    )

pub returns : goal.returns
returns c =
    omega (
      arith,
      c.count_live-live.ensures,
      count_live (is_reply_live c.args.rows.now.spans c.args.now) c.args.map.now.entries c.args.key.now c.args.rows.now.rows
          c.requires.indexed c.in-Some.number (sym c.in-Some.ensures)
          c.in-Some-get.row.now c.numbers_rise.ensures.rising.rising (sym c.in-Some-get.ensures)
          (sym (ap (λ w. is_reply_live w c.args.now c.in-Some-get.row.now.kept) c.spans.ensures) ∙ sym c.is_live.ensures
          ∙ c.if-not-is_live.false),
    )

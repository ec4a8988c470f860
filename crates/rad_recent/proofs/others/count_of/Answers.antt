use Rattle.std.proofs.Common.{◌∙◌, ap, arith, sym}
use Rattle.rad_recent.specs.Notes.{is_live_of}
use Rattle.rad_recent.proofs.ClientLemmas.{live_none, live_other, live_own, live_vacant}
use Rattle.rad_recent.proofs.others.count_of.Goals as goal

pub returns-in_default : goal.returns-in_default
returns-in_default c =
    c.count_live-held.ensures ∙ sym
    (live_none c.args.notes.now.index.map.entries c.args.key.now c.args.rows.now.rows c.requires.indexed c.args.rows.now.spans
    c.args.now c.args.client (sym c.in_default.ensures))

pub returns-in_default-get : goal.returns-in_default-get
returns-in_default-get c =
    c.count_live-held.ensures
    ∙ sym (live_vacant c.args.notes.now.index.map.entries c.args.key.now c.args.rows.now.rows c.requires.indexed
    c.args.rows.now.spans c.args.now c.args.client c.in-Some.number (sym c.in-Some.ensures) (sym c.in_default-get.ensures))

pub returns-then-not-is_live_of : goal.returns-then-not-is_live_of
returns-then-not-is_live_of c =
    c.count_live-held.ensures
    ∙ sym (live_other c.args.notes.now.index.map.entries c.args.key.now c.args.rows.now.rows c.requires.indexed
    c.args.rows.now.spans c.args.now c.args.client c.in-Some.number c.in-Some-get.row.now (sym c.in-Some.ensures)
    c.numbers_rise.ensures.rising.rising (sym c.in-Some-get.ensures)
    (sym (ap (λ w. is_live_of w c.args.now c.args.client c.in-Some-get.row.now) c.spans.ensures) ∙ sym c.is_live_of.ensures
    ∙ c.if-not-is_live_of.true))

pub overflow_sub-result : goal.overflow_sub-result
overflow_sub-result c =
    omega (
      arith,
      c.count_live-held.ensures,
      live_own c.args.notes.now.index.map.entries c.args.key.now c.args.rows.now.rows c.requires.indexed c.args.rows.now.spans
          c.args.now c.args.client c.in-Some.number c.in-Some-get.row.now (sym c.in-Some.ensures)
          c.numbers_rise.ensures.rising.rising (sym c.in-Some-get.ensures)
          (sym (ap (λ w. is_live_of w c.args.now c.args.client c.in-Some-get.row.now) c.spans.ensures) ∙ sym c.is_live_of.ensures
          ∙ c.if-not-is_live_of.false),
    )

pub returns : goal.returns
returns c =
    omega (
      arith,
      c.count_live-held.ensures,
      live_own c.args.notes.now.index.map.entries c.args.key.now c.args.rows.now.rows c.requires.indexed c.args.rows.now.spans
          c.args.now c.args.client c.in-Some.number c.in-Some-get.row.now (sym c.in-Some.ensures)
          c.numbers_rise.ensures.rising.rising (sym c.in-Some-get.ensures)
          (sym (ap (λ w. is_live_of w c.args.now c.args.client c.in-Some-get.row.now) c.spans.ensures) ∙ sym c.is_live_of.ensures
          ∙ c.if-not-is_live_of.false),
    )

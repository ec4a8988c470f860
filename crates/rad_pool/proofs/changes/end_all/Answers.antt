use Rattle.std.proofs.Common.{◌∙◌, List, subst, sym}
use Rattle.rad_pool.specs.declared.session.Session.{Session}
use Rattle.rad_pool.proofs.CountLemmas.{IsResetTo, reset_all, reset_ended, reset_passed, reset_start}
use Rattle.rad_pool.proofs.changes.end_all.Goals as goal

pub loop-session-init : goal.loop-session-init
loop-session-init c =
    subst (λ (rest : List Session). IsResetTo c.args.source c.args.rows.now.rows rest c.args.counts.now c.args.counts.now)
    (sym (c.into_iter-session-iterator.ensures.into_iter_gives ∙ c.iter-session-items.ensures))
    (reset_start c.args.source c.args.rows.now.rows c.args.counts.now c.requires)

pub loop-session-preserved-then-session-source : goal.loop-session-preserved-then-session-source
loop-session-preserved-then-session-source c =
    reset_ended c.args.source c.args.rows.now.rows c.next.new.self c.in-Some.session.now c.args.counts.now c.loop-session.counts
    c.end.new.self
    (subst (λ (rest : List Session). IsResetTo c.args.source c.args.rows.now.rows rest c.args.counts.now c.loop-session.counts)
    c.in-Some.ensures.steps c.loop-session.invariant)
    c.if-session-source.true c.end.ensures

pub loop-session-preserved : goal.loop-session-preserved
loop-session-preserved c =
    reset_passed c.args.source c.args.rows.now.rows c.next.new.self c.in-Some.session.now c.args.counts.now c.loop-session.counts
    c.if-session-source.false
    (subst (λ (rest : List Session). IsResetTo c.args.source c.args.rows.now.rows rest c.args.counts.now c.loop-session.counts)
    c.in-Some.ensures.steps c.loop-session.invariant)

pub returns-clause-counts : goal.returns-clause-counts
returns-clause-counts c =
    reset_all c.args.source c.args.rows.now.rows c.loop-session.session-iterator c.args.counts.now c.loop-session.counts
    c.in-None.ensures.steps.0 c.loop-session.invariant

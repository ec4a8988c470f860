use Rattle.std.proofs.Common.{Some, ap}
use Rattle.rad_server.specs.Access.{user_challenged, without_challenge}
use Rattle.rad_server.specs.Decisions.{decision_answering}
use Rattle.rad_server.specs.Prepared.{fixed_reply}
use Rattle.rad_server.specs.States.{State}
use Rattle.rad_server.specs.TableStates.{live_state, state_for}
use Rattle.rad_server.proofs.DecisionLemmas.{challenged_within}
use Rattle.rad_server.proofs.PlanLemmas.{decided_is_new, fixed_is_new, is_body}
use Rattle.rad_server.proofs.plan.plan_reply.Goals as goal

pub plan_fixed-requires-clause-body : goal.plan_fixed-requires-clause-body
plan_fixed-requires-clause-body c =
    let request = c.args.prepared.now.request in
    rw (c.request-request.ensures.value)
    (is_body request (Some c.args.ruled.rule) c.in-Fixed.fixed c.args.ruled.body
    (ap (λ rule. fixed_reply request.door (Some rule)) c.in-Fixed.is) c.requires.ruled.body_is)

pub returns-in-Fixed-clause-rule : goal.returns-in-Fixed-clause-rule
returns-in-Fixed-clause-rule c =
    fixed_is_new c.args.prepared.now.configuration (live_state c.args.now c.args.tables.now) c.args.prepared.now.request
    c.args.draw.now c.in-Fixed.fixed
    c.in-Fixed.change c.plan_fixed.result (rw c.in-Fixed.is at c.requires.ruled.rule_is)
    (rw c.request-request.ensures.value at c.plan_fixed.ensures.body)
    c.plan_fixed.ensures.answered c.plan_fixed.ensures.change

pub returns-in-Answer-clause-rule : goal.returns-in-Answer-clause-rule
returns-in-Answer-clause-rule c =
    let configuration = c.args.prepared.now.configuration in
    let request = c.args.prepared.now.request in
    let draw = c.args.draw.now in
    let state : State = state_for request c.args.now c.args.tables.now in
    let answer = c.in-Answer.answer in
    let value = Some answer.state.now in
    let rule = rw c.in-Answer.is at c.requires.ruled.rule_is in
    let decided = rw (c.config-config.ensures, c.request-request.ensures.value) at c.decide_on_answer-decision.ensures.decided in
    let given = rw c.request-request.ensures.value at c.decide_on_answer-decision.ensures.given in
    decided_is_new configuration (live_state c.args.now c.args.tables.now) request draw value c.decide_on_answer-decision.result
    (decision_answering configuration (without_challenge request.client value state) (user_challenged request value state) answer)
    c.plan_decided-in-Answer.result rule.door
    (rule.says state draw (challenged_within configuration request c.args.now c.args.tables.now c.requires.usable))
    decided given c.plan_decided-in-Answer.ensures.decided c.plan_decided-in-Answer.ensures.answered

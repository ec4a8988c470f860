use Rattle.std.proofs.Common.{◌≡◌, ℕ, true, false, List, ap, sym, subst, ◌∙◌}
use Rattle.std.specs.Prelude.{Option, Result, Ok, Err, IfOk, OnErr, Bool}
use Rattle.rad_auth.specs.declared.arrival.Request.{Request}
use Rattle.rad_server.specs.Servers.{Server}
use Rattle.rad_server.specs.Steps.{step}
use Rattle.rad_server.specs.declared.answer.Answer.{Answer}
use Rattle.rad_replay.specs.Replays.{Replay, line_of_result}
use Rattle.rad_replay.specs.Transcripts.{answered, draw_of, line_of_verdict, nomemory_line}
use Rattle.rad_replay.proofs.answering.Replay.answer_request.Goals as goal

-- the line of what a step returned, and the state after it
line_is : {E : Type 0} (number moment : ℕ) (own : Option (List ℕ)) (request : Request) (draw : List ℕ) (old new : Server)
    (line : List ℕ) (result : Result Answer E)
    → draw ≡ draw_of number own → IfOk result (λ answer. step old.configuration old.state request moment draw ≡ (answer, new.state))
    → OnErr result (new ≡ old)
    → line ≡ line_of_result old.configuration number request result
    → (has_memory : Bool) × (line_of_verdict old.configuration has_memory number old.state moment own (Ok request)
    ≡ (line, new.state))
line_is number moment own request draw old new line (Ok answer) drawn stepped kept is = (
  true,
  ap (answered old.configuration number request)
      (ap (step old.configuration old.state request moment) (sym drawn) ∙ stepped) ∙ ap (λ l. (l, new.state)) (sym is),
)
line_is number moment own request draw old new line (Err refused) drawn stepped kept is =
    (false, ap (λ (s : Server). (nomemory_line number, s.state)) (sym kept) ∙ ap (λ l. (l, new.state)) (sym is))

pub returns-clause-line : goal.returns-clause-line
returns-clause-line c =
    let new = c.write_answer.new.self in
    let step = c.step-answer in
    let line = c.write_answer.ensures.line
    ∙ ap (λ configuration. line_of_result configuration c.args.number c.args.request.now step.result)
    step.ensures.configuration in
    let found = line_is c.args.number c.args.moment c.args.draw c.args.request.now c.draw_of.result c.self.inside.server
    step.new.self new.line step.result c.draw_of.ensures step.ensures.answered step.ensures.unchanged line in
    subst (λ (r : Replay). (has_memory : Bool)
    × (line_of_verdict r.configuration has_memory c.args.number r.state c.args.moment c.args.draw (Ok c.args.request.now)
    ≡ (new.line, new.state))) c.self.view_is
    (found.0, found.1 ∙ ap (λ s. (new.line, s)) (sym c.write_answer.ensures.state))

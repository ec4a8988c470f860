use Rattle.std.proofs.Common.{◌≡◌, length, rules, ap, subst, sym, ◌∙◌}
use Rattle.rad_auth.specs.Admission.{IsAnswerable}
use Rattle.rad_auth.specs.declared.arrival.Request.{Request}
use Rattle.rad_config.specs.Configurations.{Configuration}
use Rattle.rad_config.specs.Ranges.{IsConfiguration}
use Rattle.rad_server.specs.Lawful.{IsLawful}
use Rattle.rad_server.specs.TableStates.{live_state}
use Rattle.rad_server.specs.Servers.{Server, state_with}
use Rattle.rad_server.specs.States.{State, at_moment, without_expired}
use Rattle.rad_server.specs.Steps.{answer, session_at, step}
use Rattle.rad_server.proofs.server.Server.step_with_copy.Goals as goal

pub invariant_of-self-2 : goal.invariant_of-self-2
invariant_of-self-2 c =
    let configuration : Configuration = c.self.inside.config.now in
    let tables = c.self.inside.tables in
    let request = c.request-request.result.now in
    let draw = c.args.draw.now in
    let now = c.max-now.result in
    let old : State = state_with c.self.inside.clock tables in
    let answerable : IsAnswerable configuration.clients request =
    rw (c.requires.prepared, ← c.self.view_is) at c.request-request.ensures.answerable in
    let ranges : IsConfiguration configuration = rw (← c.self.view_is) at c.state_is_lawful.ensures.configuration in
    let drawn : length draw ≡ 16 = search rules in
    let stepped = c.lawful_steps.ensures.step configuration old request c.args.moment draw ranges answerable c.requires.moment drawn
    c.self.invariant in
    let is : (step configuration old request c.args.moment draw).1 ≡ state_with now c.commit-answer.new.tables =
    ap (λ n. (answer configuration (live_state n tables) request draw).1) (sym c.max-now.ensures)
    ∙ ap (λ (s : State). (answer configuration (without_expired (record s { clock = now })) request draw).1)
    (sym c.in_ok-make_room.ensures.unchanged)
    ∙ ap (λ r. r.1) c.commit-answer.ensures.answered in
    subst (IsLawful configuration) is stepped

pub returns-clause-session : goal.returns-clause-session
returns-clause-session c =
    let configuration : Configuration = c.self.inside.config.now in
    let tables = c.self.inside.tables in
    let request = c.request-request.result.now in
    let now = c.max-now.result in
    let session =
    c.commit-answer.ensures.session
    ∙ ap (λ (s : State). session_at configuration (without_expired (record s { clock = now })) request)
    c.in_ok-make_room.ensures.unchanged
    ∙ ap (λ n. session_at configuration (live_state n tables) request) c.max-now.ensures in
    subst (λ (r : Request). c.commit-answer.result.1
    ≡ session_at c.args.self.now.configuration (at_moment c.args.moment c.args.self.now.state) r)
    c.request-request.ensures.value
    (subst (λ (v : Server). c.commit-answer.result.1 ≡ session_at v.configuration (at_moment c.args.moment v.state) request)
    c.self.view_is session)

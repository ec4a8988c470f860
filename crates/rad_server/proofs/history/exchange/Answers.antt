use Rattle.std.proofs.Common.{◌≡◌, ◌∙◌, ◌++◌, ◌∷◌, [], ap, rules, sym, subst}
use Rattle.rad_config.specs.Configurations.{Configuration}
use Rattle.rad_server.specs.Runs.{IsExchange, IsMarked, IsMarkedHistory, IsRequestOf, Run, entry_of}
use Rattle.rad_server.specs.declared.answer.Answer.{Answer}
use Rattle.rad_server.specs.declared.entry.Entry.{Entry}
use Rattle.rad_server.proofs.RunLemmas.{marks_go_on, run_goes_on}
use Rattle.rad_server.proofs.history.exchange.Goals as goal

abbrev with_answer : (c : goal.After-entry-entry) → Answer → Entry
with_answer c answer =
    let ask = c.args.ask in entry_of ask.tag ask.prepared.now.request ask.moment ask.draw.now answer c.in_ok-stepped.stepped.session

abbrev entry : (c : goal.After-entry-entry) → Entry
entry c = with_answer c c.in_ok-stepped.stepped.answer

marked : (c : goal.After-entry-entry)
    → IsMarked c.args.server.now.configuration c.args.server.now.state (entry c) c.in_ok-stepped.stepped.is_fresh
    c.step_with_copy.new.self.state
marked c =
    let request = c.args.ask.prepared.now.request in
    record {
      request = request;
      asked = subst (λ e. IsRequestOf c.args.server.now.configuration.clients e request) c.entry-entry.ensures.value
          (subst (λ (configuration : Configuration). IsRequestOf configuration.clients c.entry-entry.result request) c.requires
          c.entry-entry.ensures.asked);
      answered = c.in_ok-stepped.ensures.answered;
      session = c.in_ok-stepped.ensures.session;
      fresh = c.in_ok-stepped.ensures.fresh;
    }

pub returns-clause-goes_on : goal.returns-clause-goes_on
returns-clause-goes_on c = λ opening history.
    let before = c.args.server.now in
    let after = c.step_with_copy.new.self in
    let m = marked c in
    let exchange : IsExchange before.configuration before.state (entry c) after.state =
    record { request = m.request; asked = m.asked; answered = m.answered; session = m.session } in
    let same : c.entry.result ≡ entry c = c.entry.ensures.value ∙ ap (with_answer c) c.in_ok-stepped.ensures.copy in
    let longer : c.push_reserved.new.self.items ≡ c.args.history.now.items ++ entry c ∷ [] = search rules in
    record {
      configuration = search rules;
      run = subst (λ longer. Run opening.configuration opening.state longer after.state) (sym longer)
          (run_goes_on opening.configuration opening.state c.args.history.now.items before.state (entry c) after.state history.run
          (subst (λ configuration. IsExchange configuration before.state (entry c) after.state) history.configuration exchange));
    }

pub returns-clause-marked : goal.returns-clause-marked
returns-clause-marked c = λ opening marks history.
    let before = c.args.server.now in
    let after = c.step_with_copy.new.self in
    let fresh = c.in_ok-stepped.stepped.is_fresh in
    subst (λ e. IsMarkedHistory opening (c.args.history.now.items ++ e ∷ []) (marks ++ fresh ∷ []) after)
    (sym c.entry-entry.ensures.value)
    (record {
      configuration = search rules;
      run = marks_go_on opening.configuration opening.state c.args.history.now.items marks before.state (entry c) fresh after.state
          history.run
          (subst (λ configuration. IsMarked configuration before.state (entry c) fresh after.state) history.configuration
          (marked c));
    })

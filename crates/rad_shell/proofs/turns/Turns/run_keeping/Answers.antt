use Rattle.std.proofs.Common.{◌∙◌, ◌+◌, ap, arith, refl, subst, sym}
use Rattle.std.proofs.lemmas.Result.{err_from_is_err_and}
use Rattle.rad_config.specs.Ranges.{IsConfiguration}
use Rattle.rad_server.specs.Lawful.{IsLawful}
use Rattle.rad_shell.proofs.KeepingLemmas.{unless_so}
use Rattle.rad_shell.proofs.ServingLemmas.{IsServedOf, none_add_up, nothing_served, one_more_turn, served_all, served_until}
use Rattle.rad_shell.specs.Serving.{AddUp, Situation}
use Rattle.rad_shell.specs.declared.served.Served.{Served}
use Rattle.rad_shell.specs.declared.turns.Left.{Left}
use Rattle.rad_shell.proofs.turns.Turns.run_keeping.Goals as goal

pub returns-in_err-left-clause-served : goal.returns-in_err-left-clause-served
returns-in_err-left-clause-served g c =
    let J = g.J.Journal in
    let reported = err_from_is_err_and c.from_residual.result c.from_residual.ensures.1 in
    let valid = subst (λ server. IsConfiguration server.configuration) c.server.ensures c.state_is_lawful.ensures.configuration in
    let lawful = subst (λ server. IsLawful server.configuration server.state) c.server.ensures c.state_is_lawful.ensures.state in
    let i = c.loop.invariant in
    let served = served_until g.J.Journal.keeps c.args.rounds _ c.loop.served _ c.in_err-left.field-0.0 reported.0
    _ c.make_turn.new.served (J.is_clean c.make_turn.new.journal) (J.is_open c.args.journal.now) (J.kept c.args.journal.now)
    (J.kept c.loop.journal)
    (J.kept c.make_turn.new.journal) (J.may_leave c.loop.journal) (J.may_leave c.make_turn.new.journal)
    c.runs_repeat.ensures c.runs_are_lawful.ensures c.time_passes_unseen.ensures.histories c.kept_is_enough.ensures.on valid lawful
    i.so_far (λ clean. i.kept (c.in_err-left.ensures.clean clean)) (omega (arith, i.turns, c.loop-test.true)) reported.2
    c.in_err-left.ensures.turn
    (λ clean was. g.met.J.Journal.settled c.loop.journal (i.opened (c.in_err-left.ensures.clean clean) was))
    (λ clean was. unless_so Left c.in_err-left.field-0.0 _ _
    (λ stays. g.met.J.Journal.settled c.make_turn.new.journal (stays clean (i.opened (c.in_err-left.ensures.clean clean) was)))
    c.in_err-left.ensures.open) in
    subst (λ result. IsServedOf g.J.Journal.keeps c.args.rounds
    (record {
      server = c.args.service.now;
      random = g.D.Rng.stream c.args.self.now.random.now;
      passed = g.P.Ports.passed c.args.ports.now;
    })
    result
    (record {
      server = c.make_turn.new.service;
      random = g.D.Rng.stream c.make_turn.new.self.random.now;
      passed = g.P.Ports.passed c.make_turn.new.ports;
    })
    (J.is_clean c.make_turn.new.journal) (J.is_open c.args.journal.now) (J.kept c.args.journal.now) (J.kept c.make_turn.new.journal)
    (J.may_leave c.make_turn.new.journal)) (sym reported.1) served

pub loop-init : goal.loop-init
loop-init g c =
    let J = g.J.Journal in
    let none = c.nothing-served.ensures in
    let first = nothing_served g.J.Journal.keeps _ c.nothing-served.result (J.is_clean c.args.journal.now)
    (J.kept c.args.journal.now)
    (ap (λ (s : Served). s.replies + s.busy) none) (ap (λ (s : Served). s.failed) none) (ap (λ (s : Served). s.rounds) none) in
    record {
      counted = omega arith;
      sums = subst AddUp (sym none) none_add_up;
      turns = ap (λ (s : Served). s.rounds) none;
      reported = refl;
      random = refl;
      clean = λ is. is;
      opened = λ clean is. is;
      beside = λ clean beside is. is;
      so_far = first.0;
      kept = first.1;
    }

pub loop-preserved : goal.loop-preserved
loop-preserved g c =
    let J = g.J.Journal in
    let i = c.loop.invariant in
    let middle : Situation = record {
      server = c.loop.service;
      random = g.D.Rng.stream c.loop.self.random.now;
      passed = g.P.Ports.passed c.loop.ports;
    } in
    let after : Situation = record {
      server = c.make_turn.new.service;
      random = g.D.Rng.stream c.make_turn.new.self.random.now;
      passed = g.P.Ports.passed c.make_turn.new.ports;
    } in
    let turn = c.in_ok-left.ensures.turn.0 in
    let made = one_more_turn g.J.Journal.keeps _ c.loop.served middle c.in_ok-left.left after c.make_turn.new.served
    c.do_left.new.service
    (g.P.Ports.passed c.do_left.new.ports) (J.is_clean c.make_turn.new.journal) (J.kept c.args.journal.now) (J.kept c.loop.journal)
    (J.kept c.make_turn.new.journal) (J.may_leave c.loop.journal) (J.may_leave c.make_turn.new.journal)
    c.time_passes_unseen.ensures.histories c.kept_is_enough.ensures.on c.kept_is_enough.ensures.time i.so_far
    (λ clean. i.kept (c.in_ok-left.ensures.clean clean)) c.in_ok-left.ensures.turn c.do_left.ensures.between in
    record {
      counted = omega (arith, i.counted, c.in_ok-left.ensures.counted, c.do_left.ensures.counted);
      sums = turn.sums.add_up;
      turns = omega (arith, turn.sums.rounds, i.turns);
      reported = omega (arith, i.reported, c.in_ok-left.ensures.reported, c.do_left.ensures.reported);
      random = c.in_ok-left.ensures.random ∙ i.random;
      clean = λ clean. i.clean (c.in_ok-left.ensures.clean clean);
      opened = λ clean was. c.in_ok-left.ensures.open clean (i.opened (c.in_ok-left.ensures.clean clean) was);
      beside = λ clean beside was. c.in_ok-left.ensures.beside clean beside
          (i.beside (c.in_ok-left.ensures.clean clean) beside was);
      so_far = made.0;
      kept = made.1;
    }

pub returns-clause-served : goal.returns-clause-served
returns-clause-served g c =
    let J = g.J.Journal in
    let i = c.loop.invariant in
    let valid = subst (λ server. IsConfiguration server.configuration) c.server.ensures c.state_is_lawful.ensures.configuration in
    let lawful = subst (λ server. IsLawful server.configuration server.state) c.server.ensures c.state_is_lawful.ensures.state in
    served_all g.J.Journal.keeps c.args.rounds _ c.loop.served _ (J.is_clean c.loop.journal) (J.is_open c.args.journal.now)
    (J.kept c.args.journal.now)
    (J.kept c.loop.journal) (J.may_leave c.loop.journal) c.runs_repeat.ensures c.runs_are_lawful.ensures valid lawful i.so_far
    i.kept
    (λ clean was. g.met.J.Journal.settled c.loop.journal (i.opened clean was)) i.sums (omega (arith, i.turns))

use Rattle.std.proofs.Common.{◌≡◌, ◌++◌, ◌∙◌, Err, List, Ok, IsTrue, Result, ap, arith, inl, inr, refl, subst, sym, ⊎_elim}
use Rattle.std.proofs.lemmas.Result.{err_from_is_err_and}
use Rattle.rad_config.specs.Ranges.{IsConfiguration}
use Rattle.rad_journal.specs.declared.kept.Kept.{Kept}
use Rattle.rad_server.specs.Lawful.{IsLawful}
use Rattle.rad_server.specs.Servers.{Server}
use Rattle.rad_shell.specs.Serving.{Situation, UnlessJournal, ended, port_faults}
use Rattle.rad_shell.specs.Passages.{Went}
use Rattle.rad_shell.specs.declared.serve_fault.ServeFault.{ServeFault}
use Rattle.rad_shell.specs.declared.served.Served.{Served}
use Rattle.rad_journal.specs.Restores.{IsRestored}
use Rattle.rad_state.specs.Generations.{just_begun}
use Rattle.rad_serve.specs.Lives.{IsOneRun, StaysOneRun}
use Rattle.rad_serve.proofs.CallLemmas.{none_begun, none_called, one_more_so, turned_ok}
use Rattle.rad_serve.proofs.LifeLemmas.{AreLaws, IsHere, anew_leaves, call_goes_on, call_leaves, here_anew, here_first, here_leaves}
use Rattle.rad_serve.proofs.calls.make_calls.Goals as goal

pub loop-init : goal.loop-init
loop-init g c =
    let J = g.J.Journal in
    record {
      called = none_called g.J.Journal.keeps _;
      here = λ keeps was_open base has configured first earlier restored one.
          here_first first g.K.Generations.is_alone base (J.kept c.args.keeping.now.journal) earlier _ _
          (subst (λ (s : Server). IsConfiguration s.configuration) c.server.ensures c.state_is_lawful.ensures.configuration)
          (subst (λ (s : Server). IsLawful s.configuration s.state) c.server.ensures c.state_is_lawful.ensures.state)
          configured restored one (λ clean journal_clean. (refl, was_open, has));
      same = refl;
      reported = refl;
      back = λ reaches is. is;
    }

-- a call failed
pub returns-in_err-made-clause-called : goal.returns-in_err-made-clause-called
returns-in_err-made-clause-called g c =
    let J = g.J.Journal in
    let K = g.K.Generations in
    let i = c.loop.invariant in
    let served = c.run_keeping.ensures.served in
    let before : Situation = record {
      server = c.args.service.now;
      random = g.D.Rng.stream c.args.turns.now.random.now;
      passed = g.P.Ports.passed c.args.ports.now;
    } in
    let middle : Situation = record {
      server = c.loop.service;
      random = g.D.Rng.stream c.loop.turns.random.now;
      passed = g.P.Ports.passed c.loop.ports;
    } in
    let after : Situation = record {
      server = c.run_keeping.new.service;
      random = g.D.Rng.stream c.run_keeping.new.self.random.now;
      passed = g.P.Ports.passed c.run_keeping.new.ports;
    } in
    let laws : AreLaws = record {
      fresh = c.fresh_are_enough.ensures;
      runs = c.runs_are_lawful.ensures;
      passing = c.lawful_steps.ensures.passing;
      time = c.time_passes_unseen.ensures.alike;
      replied = c.kept_are_restored.ensures;
    } in
    let reported = err_from_is_err_and c.from_residual.result c.from_residual.ensures.1 in
    let same : c.run_keeping.result ≡ c.from_residual.result = c.in_err-made.was ∙ ap Err (sym reported.2) ∙ sym reported.1 in
    one_more_so J.keeps before middle after c.unwrap_or-rounds.result c.run_keeping.result (ended c.from_residual.result)
    (λ tally. IsTrue J.keeps → K.is_clean c.loop.keeping.generations → J.is_clean c.run_keeping.new.journal
    → J.is_open c.args.keeping.now.journal → (base : Server)
    → K.has_base c.args.keeping.now.generations c.args.keeping.now.journal base
    → c.args.service.now.configuration ≡ base.configuration
    → StaysOneRun base (J.kept c.args.keeping.now.journal) c.args.service.now tally K.is_alone before.passed after.passed
    (K.may_leave c.loop.keeping.generations c.run_keeping.new.journal))
    c.time_passes_unseen.ensures.histories c.kept_is_enough.ensures.on i.called served.0 (ap ended same)
    (λ is clean journal_clean was_open base has configured first earlier restored one left may.
    let here = i.here is was_open base has configured first earlier restored one in
    let known = here.holds clean (c.run_keeping.ensures.clean journal_clean) in
    let stays = g.met.K.Generations.keeps_base c.loop.keeping.generations c.loop.keeping.journal c.run_keeping.new.journal here.base
    known.2
    (c.run_keeping.ensures.beside journal_clean) in
    let outlives = served.1 journal_clean known.1 in
    let found = g.met.K.Generations.leaves_base c.loop.keeping.generations c.run_keeping.new.journal here.base stays left may in
    call_leaves laws J.keeps first (first ++ J.kept c.args.keeping.now.journal) K.is_alone i.called.tally i.called.run.passed
    earlier before.passed
    middle _ is here served.0.made served.0.tally (ended c.run_keeping.result) after served.0.turned left found.0
    (⊎_elim
    (λ are. inl (are ∙ ap (λ (list : List Kept). list ++ served.0.tally.kept) known.0))
    (λ are. inr (are ∙ ap (λ (list : List Kept). list ++ (served.0.tally.kept ++ served.0.tally.unkept)) known.0))
    (outlives.left left.entries found.1)))

-- it was the only one
pub returns-then-is_some-clause-called : goal.returns-then-is_some-clause-called
returns-then-is_some-clause-called g c =
    let J = g.J.Journal in
    let K = g.K.Generations in
    let i = c.loop.invariant in
    let served = c.run_keeping.ensures.served in
    let before : Situation = record {
      server = c.args.service.now;
      random = g.D.Rng.stream c.args.turns.now.random.now;
      passed = g.P.Ports.passed c.args.ports.now;
    } in
    let middle : Situation = record {
      server = c.loop.service;
      random = g.D.Rng.stream c.loop.turns.random.now;
      passed = g.P.Ports.passed c.loop.ports;
    } in
    let after : Situation = record {
      server = c.run_keeping.new.service;
      random = g.D.Rng.stream c.run_keeping.new.self.random.now;
      passed = g.P.Ports.passed c.run_keeping.new.ports;
    } in
    let laws : AreLaws = record {
      fresh = c.fresh_are_enough.ensures;
      runs = c.runs_are_lawful.ensures;
      passing = c.lawful_steps.ensures.passing;
      time = c.time_passes_unseen.ensures.alike;
      replied = c.kept_are_restored.ensures;
    } in
    one_more_so J.keeps before middle after c.unwrap_or-rounds.result c.run_keeping.result (Ok tt)
    (λ tally. IsTrue J.keeps → K.is_clean c.loop.keeping.generations → J.is_clean c.run_keeping.new.journal
    → J.is_open c.args.keeping.now.journal → (base : Server)
    → K.has_base c.args.keeping.now.generations c.args.keeping.now.journal base
    → c.args.service.now.configuration ≡ base.configuration
    → StaysOneRun base (J.kept c.args.keeping.now.journal) c.args.service.now tally K.is_alone before.passed after.passed
    (K.may_leave c.loop.keeping.generations c.run_keeping.new.journal))
    c.time_passes_unseen.ensures.histories c.kept_is_enough.ensures.on i.called served.0 (ap ended c.in_ok-made.was)
    (λ is clean journal_clean was_open base has configured first earlier restored one left may.
    let here = i.here is was_open base has configured first earlier restored one in
    let known = here.holds clean (c.run_keeping.ensures.clean journal_clean) in
    let stays = g.met.K.Generations.keeps_base c.loop.keeping.generations c.loop.keeping.journal c.run_keeping.new.journal here.base
    known.2
    (c.run_keeping.ensures.beside journal_clean) in
    let outlives = served.1 journal_clean known.1 in
    let found = g.met.K.Generations.leaves_base c.loop.keeping.generations c.run_keeping.new.journal here.base stays left may in
    call_leaves laws J.keeps first (first ++ J.kept c.args.keeping.now.journal) K.is_alone i.called.tally i.called.run.passed
    earlier before.passed
    middle _ is here served.0.made served.0.tally (ended c.run_keeping.result) after served.0.turned left found.0
    (⊎_elim
    (λ are. inl (are ∙ ap (λ (list : List Kept). list ++ served.0.tally.kept) known.0))
    (λ are. inr (are ∙ ap (λ (list : List Kept). list ++ (served.0.tally.kept ++ served.0.tally.unkept)) known.0))
    (outlives.left left.entries found.1)))

-- there are no more
pub returns-clause-called : goal.returns-clause-called
returns-clause-called g c =
    let J = g.J.Journal in
    let i = c.loop.invariant in (
      i.called,
      λ is clean journal_clean was_open base has configured first earlier restored one left may.
          let here = i.here is was_open base has configured first earlier restored one in
          let known = here.holds clean journal_clean in
          let found = g.met.K.Generations.leaves_base c.loop.keeping.generations c.loop.keeping.journal here.base known.2 left
          may in
          here_leaves first (first ++ J.kept c.args.keeping.now.journal) g.K.Generations.is_alone i.called.tally earlier
          (g.P.Ports.passed c.args.ports.now) _ _ here left found.0
          (g.met.J.Journal.settled c.loop.keeping.journal known.1 left.entries found.1 ∙ known.0),
    )

-- no generation could be begun
pub returns-in-Err-clause-called : goal.returns-in-Err-clause-called
returns-in-Err-clause-called g c =
    let J = g.J.Journal in
    let K = g.K.Generations in
    let i = c.loop.invariant in
    let served = c.run_keeping.ensures.served in
    let before : Situation = record {
      server = c.args.service.now;
      random = g.D.Rng.stream c.args.turns.now.random.now;
      passed = g.P.Ports.passed c.args.ports.now;
    } in
    let middle : Situation = record {
      server = c.loop.service;
      random = g.D.Rng.stream c.loop.turns.random.now;
      passed = g.P.Ports.passed c.loop.ports;
    } in
    let after : Situation = record {
      server = c.run_keeping.new.service;
      random = g.D.Rng.stream c.run_keeping.new.self.random.now;
      passed = g.P.Ports.passed c.run_keeping.new.ports;
    } in
    let laws : AreLaws = record {
      fresh = c.fresh_are_enough.ensures;
      runs = c.runs_are_lawful.ensures;
      passing = c.lawful_steps.ensures.passing;
      time = c.time_passes_unseen.ensures.alike;
      replied = c.kept_are_restored.ensures;
    } in
    let turned = turned_ok J.keeps middle after served.0.made served.0.tally c.run_keeping.result c.in_ok-made.made c.in_ok-made.was
    served.0.turned in
    let mid_known : Server → List Kept → Type 0 =
    λ base entries. K.is_clean c.loop.keeping.generations → J.is_clean c.run_keeping.new.journal
    → (J.kept c.run_keeping.new.journal ≡ entries) × J.is_open c.run_keeping.new.journal
    × K.has_base c.loop.keeping.generations c.run_keeping.new.journal base in
    let made = one_more_so J.keeps before middle after c.unwrap_or-rounds.result c.run_keeping.result (Ok tt)
    (λ tally. IsTrue J.keeps → J.is_open c.args.keeping.now.journal → (base : Server)
    → K.has_base c.args.keeping.now.generations c.args.keeping.now.journal base
    → c.args.service.now.configuration ≡ base.configuration
    → (first : List Kept) (earlier : List Went) → IsRestored base (J.kept c.args.keeping.now.journal) c.args.service.now
    → IsOneRun first (record { base = base; entries = J.kept c.args.keeping.now.journal }) earlier
    → IsHere first ((first ++ J.kept c.args.keeping.now.journal) ++ tally.kept) K.is_alone earlier before.passed after mid_known)
    c.time_passes_unseen.ensures.histories c.kept_is_enough.ensures.on i.called served.0 (ap ended c.in_ok-made.was)
    (λ is was_open base has configured first earlier restored one.
    let here = i.here is was_open base has configured first earlier restored one in
    call_goes_on laws J.keeps first (first ++ J.kept c.args.keeping.now.journal) K.is_alone i.called.tally i.called.run.passed
    earlier before.passed
    middle _ mid_known is here served.0.made served.0.tally after
    turned (λ clean journal_clean.
    let known = here.holds clean (c.run_keeping.ensures.clean journal_clean) in (
      subst (λ (r : Result Served ServeFault). UnlessJournal r
          (J.kept c.run_keeping.new.journal ≡ J.kept c.loop.keeping.journal ++ served.0.tally.kept))
          c.in_ok-made.was (served.1 journal_clean known.1).now ∙ ap (λ (list : List Kept). list ++ served.0.tally.kept) known.0,
      c.in_ok-made.ensures.open journal_clean known.1,
      g.met.K.Generations.keeps_base c.loop.keeping.generations c.loop.keeping.journal c.run_keeping.new.journal here.base known.2
          (c.run_keeping.ensures.beside journal_clean),
    ))) in (
      none_begun J.keeps before after c.in-Err.fault c.in-Err.ensures.keeps made.0,
      λ is clean journal_clean was_open base has configured first earlier restored one left may.
          let same : c.begin_if_due.new.keeping.journal ≡ c.run_keeping.new.journal = c.in-Err.ensures.same in
          let mid_clean = subst (λ j. J.is_clean j) same journal_clean in
          let here = made.1 is was_open base has configured first earlier restored one in
          let known = here.holds (c.begin_if_due.ensures.clean clean) mid_clean in
          ⊎_elim
          (λ old. here_leaves first (first ++ J.kept c.args.keeping.now.journal) K.is_alone made.0.tally earlier before.passed after
          mid_known here left
          old.0 (g.met.J.Journal.settled c.run_keeping.new.journal known.1 left.entries old.1 ∙ known.0))
          (λ new. anew_leaves first (first ++ J.kept c.args.keeping.now.journal) K.is_alone made.0.tally earlier before.passed after
          mid_known here left
          new.0 (new.1 ∙ ap just_begun c.server-in-loop.ensures))
          (c.in-Err.ensures.crash clean journal_clean here.base known.2
          (ap (λ (server : Server). server.configuration) c.server-in-loop.ensures ∙ here.stands.configured
          ∙ g.met.K.Generations.configured c.loop.keeping.generations c.run_keeping.new.journal here.base known.2) left may),
    )

pub loop-preserved : goal.loop-preserved
loop-preserved g c =
    let J = g.J.Journal in
    let K = g.K.Generations in
    let i = c.loop.invariant in
    let served = c.run_keeping.ensures.served in
    let before : Situation = record {
      server = c.args.service.now;
      random = g.D.Rng.stream c.args.turns.now.random.now;
      passed = g.P.Ports.passed c.args.ports.now;
    } in
    let middle : Situation = record {
      server = c.loop.service;
      random = g.D.Rng.stream c.loop.turns.random.now;
      passed = g.P.Ports.passed c.loop.ports;
    } in
    let after : Situation = record {
      server = c.run_keeping.new.service;
      random = g.D.Rng.stream c.run_keeping.new.self.random.now;
      passed = g.P.Ports.passed c.run_keeping.new.ports;
    } in
    let laws : AreLaws = record {
      fresh = c.fresh_are_enough.ensures;
      runs = c.runs_are_lawful.ensures;
      passing = c.lawful_steps.ensures.passing;
      time = c.time_passes_unseen.ensures.alike;
      replied = c.kept_are_restored.ensures;
    } in
    let turned = turned_ok J.keeps middle after served.0.made served.0.tally c.run_keeping.result c.in_ok-made.made c.in_ok-made.was
    served.0.turned in
    let mid_known : Server → List Kept → Type 0 =
    λ base entries. K.is_clean c.loop.keeping.generations → J.is_clean c.run_keeping.new.journal
    → (J.kept c.run_keeping.new.journal ≡ entries) × J.is_open c.run_keeping.new.journal
    × K.has_base c.loop.keeping.generations c.run_keeping.new.journal base in
    let made = one_more_so J.keeps before middle after c.unwrap_or-rounds.result c.run_keeping.result (Ok tt)
    (λ tally. IsTrue J.keeps → J.is_open c.args.keeping.now.journal → (base : Server)
    → K.has_base c.args.keeping.now.generations c.args.keeping.now.journal base
    → c.args.service.now.configuration ≡ base.configuration
    → (first : List Kept) (earlier : List Went) → IsRestored base (J.kept c.args.keeping.now.journal) c.args.service.now
    → IsOneRun first (record { base = base; entries = J.kept c.args.keeping.now.journal }) earlier
    → IsHere first ((first ++ J.kept c.args.keeping.now.journal) ++ tally.kept) K.is_alone earlier before.passed after mid_known)
    c.time_passes_unseen.ensures.histories c.kept_is_enough.ensures.on i.called served.0 (ap ended c.in_ok-made.was)
    (λ is was_open base has configured first earlier restored one.
    let here = i.here is was_open base has configured first earlier restored one in
    call_goes_on laws J.keeps first (first ++ J.kept c.args.keeping.now.journal) K.is_alone i.called.tally i.called.run.passed
    earlier before.passed
    middle _ mid_known is here served.0.made served.0.tally after
    turned (λ clean journal_clean.
    let known = here.holds clean (c.run_keeping.ensures.clean journal_clean) in (
      subst (λ (r : Result Served ServeFault). UnlessJournal r
          (J.kept c.run_keeping.new.journal ≡ J.kept c.loop.keeping.journal ++ served.0.tally.kept))
          c.in_ok-made.was (served.1 journal_clean known.1).now ∙ ap (λ (list : List Kept). list ++ served.0.tally.kept) known.0,
      c.in_ok-made.ensures.open journal_clean known.1,
      g.met.K.Generations.keeps_base c.loop.keeping.generations c.loop.keeping.journal c.run_keeping.new.journal here.base known.2
          (c.run_keeping.ensures.beside journal_clean),
    ))) in
    let none : port_faults c.run_keeping.result ≡ 0 = ap port_faults c.in_ok-made.was in
    let now_known : Server → List Kept → Type 0 = λ base entries. K.is_clean c.begin_if_due.new.keeping.generations
    → J.is_clean c.begin_if_due.new.keeping.journal
    → (J.kept c.begin_if_due.new.keeping.journal ≡ entries) × J.is_open c.begin_if_due.new.keeping.journal
    × K.has_base c.begin_if_due.new.keeping.generations c.begin_if_due.new.keeping.journal base in
    record {
      called = made.0;
      here = λ is was_open base has configured first earlier restored one.
          let mid = made.1 is was_open base has configured first earlier restored one in
          let all_kept : List Kept = (first ++ J.kept c.args.keeping.now.journal) ++ made.0.tally.kept in
          ⊎_elim
          (λ same. subst
          (λ k. IsHere first all_kept K.is_alone earlier before.passed after
          (λ base entries. K.is_clean k.generations → J.is_clean k.journal
          → (J.kept k.journal ≡ entries) × J.is_open k.journal × K.has_base k.generations k.journal base)) (sym same) mid)
          (λ begun. here_anew first all_kept K.is_alone earlier before.passed after mid_known now_known begun.0 mid
          (λ clean journal_clean.
          let is_begun = begun.1 clean journal_clean
          (ap (λ (server : Server). server.configuration) c.server-in-loop.ensures ∙ made.0.run.configuration ∙ configured
          ∙ g.met.K.Generations.configured c.args.keeping.now.generations c.args.keeping.now.journal base has ∙ sym i.same) in (
            is_begun.none,
            is_begun.opened,
            subst (λ server. K.has_base c.begin_if_due.new.keeping.generations c.begin_if_due.new.keeping.journal server)
                c.server-in-loop.ensures is_begun.base,
          )))
          c.in_default.ensures.begun;
      same = c.begin_if_due.ensures.configuration ∙ i.same;
      reported = omega (arith, c.run_keeping.ensures.reported, none, i.reported);
      back = λ reaches is. i.back reaches (c.run_keeping.ensures.clean (c.begin_if_due.ensures.back reaches is));
    }

use Rattle.std.proofs.Common.{arith, ap, subst, sym, ◌∙◌, ◌≡◌, ◌++◌, map, take, Ok}
use Rattle.std.proofs.lemmas.Grind.{common_steps}
use Rattle.rad_shell.specs.Passages.{HavePassed, In, received}
use Rattle.rad_shell.specs.Serving.{came_in}
use Rattle.rad_shell.proofs.PassageLemmas.{octets_more, passed_as, received_full, received_more, received_until}
use Rattle.rad_shell.proofs.received.Received.receive.Goals as goal

pub loop-preserved : goal.loop-preserved
loop-preserved g c =
    let came = subst (λ r. HavePassed (received r c.receive.new.buffer) (g.P.Ports.passed c.loop.ports)
    (g.P.Ports.passed c.receive.new.self))
    (c.in_ok-got.was ∙ ap Ok c.in-Some.is) c.receive.ensures.passed in
    let one = received_more (g.P.Ports.passed c.args.ports.now) (g.P.Ports.passed c.loop.ports)
    (g.P.Ports.passed c.receive.new.self)
    c.loop.self.got.items c.loop.self.octets.items c.receive.new.buffer c.in-Some.got
    (c.loop.invariant.sum ∙ c.loop.self.octets.ok.0)
    c.loop.invariant.passed came in
    let octets : c.extend_from_slice.new.self.items ≡ c.loop.self.octets.items ++ take c.in-Some.got.len c.receive.new.buffer =
    grind (arith, common_steps) in
    record {
      counted = grind (arith, common_steps);
      used = grind (arith, common_steps);
      taken = grind (arith, common_steps);
      octets_fit = grind (arith, common_steps);
      got_fit = grind (arith, common_steps);
      draws_fit = grind (arith, common_steps);
      all = grind (arith, common_steps);
      sum = grind (arith, common_steps, octets_more);
      passed = passed_as _ _ _ _
          (ap (λ list. map In (came_in list (c.loop.self.octets.items ++ take c.in-Some.got.len c.receive.new.buffer)))
          (sym c.push_reserved.ensures.items)
          ∙ ap (λ list. map In (came_in c.push_reserved.new.self.items list)) (sym octets)) one;
      reported = grind (arith, common_steps);
    }

-- none waits
pub returns-in_default-clause-passed : goal.returns-in_default-clause-passed
returns-in_default-clause-passed g c =
    let came = subst (λ r. HavePassed (received r c.receive.new.buffer) (g.P.Ports.passed c.loop.ports)
    (g.P.Ports.passed c.receive.new.self))
    (c.in_ok-got.was ∙ ap Ok c.in_default.is) c.receive.ensures.passed in
    received_until c.loop.self.got.items c.loop.self.octets.items c.receive.new.buffer (g.P.Ports.passed c.args.ports.now)
    (g.P.Ports.passed c.loop.ports) (g.P.Ports.passed c.receive.new.self)
    (omega (arith, c.loop.self.got.ok.0, c.loop.invariant.taken, c.loop-test.true)) c.loop.invariant.passed came

-- a turn is full
pub returns-clause-passed : goal.returns-clause-passed
returns-clause-passed g c =
    received_full c.loop.self.got.items c.loop.self.octets.items (g.P.Ports.passed c.args.ports.now) (g.P.Ports.passed c.loop.ports)
    (omega (arith, c.loop.self.got.ok.0, c.loop.invariant.taken, c.loop-test.false, c.loop.auto.counter-end))
    c.loop.invariant.passed

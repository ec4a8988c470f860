use Rattle.std.proofs.Common.{◌≡◌, Err, IfErr, ℕ, Some, slice_get, take, subst, sym, rules}
use Rattle.rad_journal.specs.Restores.{CannotRestore, IsOfEntry, IsRestored, StopsAt}
use Rattle.rad_journal.proofs.RefusalLemmas.{cannot_step, refused}
use Rattle.rad_journal.proofs.restoring.restore.Goals as goal

pub returns-in_err-step_again-clause-refused : goal.returns-in_err-step_again-clause-refused
returns-in_err-step_again-clause-refused g c =
    let fault = c.in_err-step_again.field-0.0 in
    let given : c.from_residual-in_err-step_again.result ≡ Err fault = search rules in
    subst (λ r. IfErr r (λ fault. IsOfEntry fault → g.J.Journal.is_clean c.entry.new.self
    → CannotRestore c.args.server.now (g.J.Journal.kept c.args.journal.now))) (sym given)
    (λ of_entry clean.
    let before : g.J.Journal.is_clean c.loop-place.journal = search rules in
    refused c.loop-place.place (g.J.Journal.kept c.args.journal.now) c.in-Some.kept c.args.server.now c.loop-place.server
    (c.loop-place.invariant.restored before) (search rules) c.loop-place.invariant.configuration
    (cannot_step fault c.loop-place.server c.in-Some.kept c.step_again.new.server (c.in_err-step_again.ensures.reason of_entry)))

pub returns-in_err-step_again-clause-first : goal.returns-in_err-step_again-clause-first
returns-in_err-step_again-clause-first g c =
    let fault = c.in_err-step_again.field-0.0 in
    let kept = g.J.Journal.kept c.args.journal.now in
    let given : c.from_residual-in_err-step_again.result ≡ Err fault = search rules in
    subst (λ r. IfErr r (λ fault. IsOfEntry fault → g.J.Journal.is_clean c.entry.new.self
    → StopsAt fault c.args.server.now kept c.step_again.new.server)) (sym given)
    (λ of_entry clean.
    let before : g.J.Journal.is_clean c.loop-place.journal = search rules in
    let next : slice_get kept c.loop-place.place ≡ Some c.in-Some.kept = search rules in
    let place = sym (c.in_err-step_again.ensures.place of_entry) in
    record {
      reached = c.loop-place.server;
      entry = c.in-Some.kept;
      restored = subst (λ (n : ℕ). IsRestored c.args.server.now (take n kept) c.loop-place.server) place
          (c.loop-place.invariant.restored before);
      next = subst (λ (n : ℕ). slice_get kept n ≡ Some c.in-Some.kept) place next;
      reason = c.in_err-step_again.ensures.reason of_entry;
    })

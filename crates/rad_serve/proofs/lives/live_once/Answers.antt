use Rattle.std.proofs.Common.{◌≡◌, ◌∙◌, List, [], Some, ap, false, is_err, refl, subst, sym}
use Rattle.rad_journal.specs.declared.kept.Kept.{Kept}
use Rattle.rad_server.specs.Servers.{Server}
use Rattle.rad_state.specs.Generations.{fresh_server}
use Rattle.rad_serve.specs.Lives.{IsOneRun, went_since}
use Rattle.rad_serve.proofs.LifeLemmas.{left_alone, on_ok, restored_fresh, since_beginning}
use Rattle.rad_serve.proofs.lives.live_once.Goals as goal

-- restoring failed: a crash leaves what it left before
pub returns-then-is_err-2-clause-one_run : goal.returns-then-is_err-2-clause-one_run
returns-then-is_err-2-clause-one_run g c = λ clean left leaves.
    let reopened = c.restore.ensures.clean clean in
    c.requires.before (c.crash_and_reopen.ensures.clean reopened) left
    (leaves.0, c.crash_and_reopen.ensures.crash reopened left.entries (c.restore.ensures.crash clean left.entries leaves.1))

-- what the crash left is one run; it was restored, and the calls go on from it
pub returns-clause-one_run : goal.returns-clause-one_run
returns-clause-one_run g c = λ clean left leaves.
    let J = g.J.Journal in
    let config = c.args.keeping.now.generations.config.now in
    let restored = c.make_calls-ended.ensures.back tt clean in
    let reopened = c.restore.ensures.clean restored in
    let found_ok : is_err c.crash_and_reopen.result ≡ false = sym c.is_err.ensures.value ∙ c.if-is_err.false in
    let restored_ok : is_err c.restore.result ≡ false = sym c.is_err-2.ensures.value ∙ c.if-is_err-2.false in
    let found = on_ok c.crash_and_reopen.result _ found_ok c.crash_and_reopen.ensures.found reopened in
    let is_open = on_ok c.restore.result _ restored_ok c.restore.ensures.open restored
    (on_ok c.crash_and_reopen.result _ found_ok c.crash_and_reopen.ensures.open reopened) in
    let kept = J.kept c.crash_and_reopen.new.self in
    let same_kept = on_ok c.restore.result _ restored_ok c.restore.ensures.kept restored in
    let run = c.requires.before (c.crash_and_reopen.ensures.clean reopened) (record { base = fresh_server config; entries = kept })
    (refl, found) in
    let server = restored_fresh config c.in-Ok.server c.restore.new.server c.of-service.result kept (J.kept c.restore.new.journal)
    c.in-Ok.ensures.configuration c.in-Ok.ensures.state (on_ok c.restore.result _ restored_ok c.restore.ensures.restored restored)
    same_kept
    c.of-service.ensures in
    let configured = ap (λ (s : Server). s.configuration) c.of-service.ensures ∙ c.restore.ensures.configuration
    ∙ c.in-Ok.ensures.configuration in
    let made = c.make_calls-ended.ensures.called in
    let one = subst (λ (k : List Kept). IsOneRun [] (record { base = fresh_server config; entries = k })
    (went_since (Some []) (g.P.Ports.passed c.args.ports.now)))
    (sym same_kept) run in
    let left_now = made.1 c.requires.keeps tt clean is_open (fresh_server config) refl configured [] _ server one left leaves in
    since_beginning J.keeps _ _ _ [] left made.0 (left_alone [] _ made.0.tally _ left _ tt left_now)

use Rattle.std.proofs.Common.{sym, rules, arith, true, None, Some, ℕ, subst}
use Rattle.sqlite_trees.specs.View.{IsClean}
use Rattle.rad_journal.specs.Stores.{IsSound}
use Rattle.rad_journal.proofs.LogLemmas.{commit_added, commit_failed, commit_keeps, commit_leaves, commit_sound, still_open}
use Rattle.rad_journal.proofs.append.append.Goals as goal

pub returns-in_err-commit-clause-broken : goal.returns-in_err-commit-clause-broken
returns-in_err-commit-clause-broken g c =
    let S = g.S.Store in
    let failed : IsClean (S.view c.commit.new.self) → IsSound (S.view c.commit.new.self) (S.recovers c.commit.new.self) true None =
    λ clean.
    let mid : IsClean (S.view c.write.new.store) = omega (arith, c.commit.ensures.clean, clean) in
    let old : IsClean (S.view c.args.store.now) = omega (arith, c.write.ensures.clean, mid) in
    commit_failed (S.view c.args.store.now) (S.view c.write.new.store) (S.view c.commit.new.self) (S.recovers c.args.store.now)
    (S.recovers c.write.new.store) (S.recovers c.commit.new.self) c.args.count c.args.entries.now (c.requires.sound old)
    c.write.ensures.outcomes (c.in_ok-number.ensures.put mid, c.in_ok-number.ensures.recorded mid) c.commit.ensures.crash
    c.write.ensures.schema c.in_err-commit.ensures.err in
    search rules

pub returns-in_err-commit-clause-crash : goal.returns-in_err-commit-clause-crash
returns-in_err-commit-clause-crash g c clean =
    let S = g.S.Store in
    let mid : IsClean (S.view c.write.new.store) = omega (arith, c.commit.ensures.clean, clean) in
    let old : IsClean (S.view c.args.store.now) = omega (arith, c.write.ensures.clean, mid) in
    commit_leaves (S.view c.args.store.now) (S.view c.write.new.store) (S.view c.commit.new.self) (S.recovers c.args.store.now)
    (S.recovers c.write.new.store) (S.recovers c.commit.new.self) c.args.count c.args.entries.now (c.requires.sound old)
    c.write.ensures.outcomes (c.in_ok-number.ensures.put mid, c.in_ok-number.ensures.recorded mid) c.commit.ensures.crash

pub returns-clause-sound : goal.returns-clause-sound
returns-clause-sound g c clean =
    let S = g.S.Store in
    let mid : IsClean (S.view c.write.new.store) = omega (arith, c.commit.ensures.clean, clean) in
    let old : IsClean (S.view c.args.store.now) = omega (arith, c.write.ensures.clean, mid) in
    subst (λ (n : ℕ). IsSound (S.view c.commit.new.self) (S.recovers c.commit.new.self) true (Some n))
    (sym c.in_ok-number.ensures.number)
    (commit_sound (S.view c.args.store.now) (S.view c.write.new.store) (S.view c.commit.new.self) (S.recovers c.args.store.now)
    (S.recovers c.write.new.store) (S.recovers c.commit.new.self) c.args.count c.args.entries.now (c.requires.sound old)
    c.write.ensures.outcomes (c.in_ok-number.ensures.put mid, c.in_ok-number.ensures.recorded mid) c.commit.ensures.crash
    (c.in_ok-number.ensures.frame mid) (c.in_ok-commit.ensures.ok clean))

pub returns-clause-added : goal.returns-clause-added
returns-clause-added g c clean =
    let S = g.S.Store in
    let mid : IsClean (S.view c.write.new.store) = omega (arith, c.commit.ensures.clean, clean) in
    let old : IsClean (S.view c.args.store.now) = omega (arith, c.write.ensures.clean, mid) in
    let frame = c.in_ok-number.ensures.frame mid in
    let commits = c.in_ok-commit.ensures.ok clean in
    let is_open = still_open (S.view c.args.store.now) (S.view c.write.new.store) (g.met.S.Store.broken_if_shut c.args.store.now)
    frame commits.sound in
    commit_added (S.view c.args.store.now) (S.view c.write.new.store) (S.view c.commit.new.self) (S.recovers c.args.store.now)
    (S.recovers c.write.new.store) (S.recovers c.commit.new.self) c.args.count c.args.entries.now (c.requires.sound old)
    c.write.ensures.outcomes (c.in_ok-number.ensures.put mid, c.in_ok-number.ensures.recorded mid) frame commits is_open

pub returns-clause-crash : goal.returns-clause-crash
returns-clause-crash g c clean =
    let S = g.S.Store in
    let mid : IsClean (S.view c.write.new.store) = omega (arith, c.commit.ensures.clean, clean) in
    let old : IsClean (S.view c.args.store.now) = omega (arith, c.write.ensures.clean, mid) in
    commit_leaves (S.view c.args.store.now) (S.view c.write.new.store) (S.view c.commit.new.self) (S.recovers c.args.store.now)
    (S.recovers c.write.new.store) (S.recovers c.commit.new.self) c.args.count c.args.entries.now (c.requires.sound old)
    c.write.ensures.outcomes (c.in_ok-number.ensures.put mid, c.in_ok-number.ensures.recorded mid) c.commit.ensures.crash

pub returns-in_err-commit-clause-others : goal.returns-in_err-commit-clause-others
returns-in_err-commit-clause-others g c clean =
    let S = g.S.Store in
    let mid : IsClean (S.view c.write.new.store) = omega (arith, c.commit.ensures.clean, clean) in
    let old : IsClean (S.view c.args.store.now) = omega (arith, c.write.ensures.clean, mid) in
    commit_keeps (S.view c.args.store.now) (S.view c.write.new.store) (S.view c.commit.new.self) (S.recovers c.args.store.now)
    (S.recovers c.write.new.store) (S.recovers c.commit.new.self) c.args.count c.args.entries.now (c.requires.sound old)
    c.write.ensures.outcomes (c.in_ok-number.ensures.others mid) c.commit.ensures.crash
    (λ sound. g.met.S.Store.stays c.args.store.now
    (still_open (S.view c.args.store.now) (S.view c.write.new.store) (g.met.S.Store.broken_if_shut c.args.store.now)
    (c.in_ok-number.ensures.frame mid) sound))

pub returns-clause-others : goal.returns-clause-others
returns-clause-others g c clean =
    let S = g.S.Store in
    let mid : IsClean (S.view c.write.new.store) = omega (arith, c.commit.ensures.clean, clean) in
    let old : IsClean (S.view c.args.store.now) = omega (arith, c.write.ensures.clean, mid) in
    commit_keeps (S.view c.args.store.now) (S.view c.write.new.store) (S.view c.commit.new.self) (S.recovers c.args.store.now)
    (S.recovers c.write.new.store) (S.recovers c.commit.new.self) c.args.count c.args.entries.now (c.requires.sound old)
    c.write.ensures.outcomes (c.in_ok-number.ensures.others mid) c.commit.ensures.crash
    (λ sound. g.met.S.Store.stays c.args.store.now
    (still_open (S.view c.args.store.now) (S.view c.write.new.store) (g.met.S.Store.broken_if_shut c.args.store.now)
    (c.in_ok-number.ensures.frame mid) sound))

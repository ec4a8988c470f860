use Rattle.std.proofs.Common.{arith}
use Rattle.sqlite_trees.specs.View.{IsClean}
use Rattle.rad_state.proofs.BeginLemmas.{begun, commit_begins, commit_leaves}
use Rattle.rad_state.proofs.beginning.write_generation.Goals as goal

pub returns-clause-begins : goal.returns-clause-begins
returns-clause-begins g c clean =
    let S = g.S.Store in
    let put : IsClean (S.view c.put.new.store) = omega (arith, c.commit.ensures.clean, clean) in
    let mid : IsClean (S.view c.write.new.store) = omega (arith, c.put.ensures.quiet.clean, put) in
    let old : IsClean (S.view c.args.store.now) = omega (arith, c.write.ensures.clean, mid) in
    commit_begins (S.view c.put.new.store) (S.view c.commit.new.self) c.args.meta.now c.args.server.now.state
    (begun (S.view c.args.store.now) (S.view c.write.new.store) (S.view c.put.new.store) c.args.meta.now c.args.server.now.state
    (c.requires.blank old)
    (c.in_ok-write.ensures.snapshot mid) (c.in_ok-write.ensures.others mid) (c.in_ok-put.ensures.ok put))
    (c.in_ok-commit.ensures.ok clean)

pub returns-in_err-commit-clause-crash : goal.returns-in_err-commit-clause-crash
returns-in_err-commit-clause-crash g c clean =
    let S = g.S.Store in
    let put : IsClean (S.view c.put.new.store) = omega (arith, c.commit.ensures.clean, clean) in
    let mid : IsClean (S.view c.write.new.store) = omega (arith, c.put.ensures.quiet.clean, put) in
    let old : IsClean (S.view c.args.store.now) = omega (arith, c.write.ensures.clean, mid) in
    let blank = c.requires.blank old in
    commit_leaves (S.view c.args.store.now) (S.recovers c.args.store.now) c.args.meta.now c.args.server.now.state blank
    (λ db left. g.met.S.Store.settled c.args.store.now db blank.opened.fresh.is_open left)
    (S.view c.put.new.store) (S.recovers c.put.new.store) (S.recovers c.commit.new.self)
    (begun (S.view c.args.store.now) (S.view c.write.new.store) (S.view c.put.new.store) c.args.meta.now
    c.args.server.now.state blank
    (c.in_ok-write.ensures.snapshot mid) (c.in_ok-write.ensures.others mid) (c.in_ok-put.ensures.ok put))
    (λ db left. c.write.ensures.outcomes db (c.put.ensures.quiet.outcomes db left)) c.commit.ensures.crash

pub returns-clause-crash : goal.returns-clause-crash
returns-clause-crash g c clean =
    let S = g.S.Store in
    let put : IsClean (S.view c.put.new.store) = omega (arith, c.commit.ensures.clean, clean) in
    let mid : IsClean (S.view c.write.new.store) = omega (arith, c.put.ensures.quiet.clean, put) in
    let old : IsClean (S.view c.args.store.now) = omega (arith, c.write.ensures.clean, mid) in
    let blank = c.requires.blank old in
    commit_leaves (S.view c.args.store.now) (S.recovers c.args.store.now) c.args.meta.now c.args.server.now.state blank
    (λ db left. g.met.S.Store.settled c.args.store.now db blank.opened.fresh.is_open left)
    (S.view c.put.new.store) (S.recovers c.put.new.store) (S.recovers c.commit.new.self)
    (begun (S.view c.args.store.now) (S.view c.write.new.store) (S.view c.put.new.store) c.args.meta.now
    c.args.server.now.state blank
    (c.in_ok-write.ensures.snapshot mid) (c.in_ok-write.ensures.others mid) (c.in_ok-put.ensures.ok put))
    (λ db left. c.write.ensures.outcomes db (c.put.ensures.quiet.outcomes db left)) c.commit.ensures.crash

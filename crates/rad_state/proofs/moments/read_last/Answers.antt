use Rattle.std.proofs.Common.{◌≡◌, true, false, reverse, rules, arith, subst}
use Rattle.sqlite_trees.specs.View.{Advances, IsClean}
use Rattle.rad_journal.specs.Rows.{table}
use Rattle.rad_state.proofs.LastLemmas.{last_none, last_some}
use Rattle.rad_journal.proofs.CursorLemmas.{ends, gives, seeks_last}
use Rattle.rad_state.proofs.moments.read_last.Goals as goal

pub returns-then-not-branch-clause-last : goal.returns-then-not-branch-clause-last
returns-then-not-branch-clause-last g c clean =
    let S = g.S.Store in
    let none : c.in_ok-next.field-0 ≡ false = search rules in
    let before : IsClean (S.view c.seek.new.self) = omega (arith, c.next.ensures.quiet.clean, clean) in
    let sought = seeks_last (S.view c.args.store.now) (S.view c.seek.new.self) table _ c.new-key.ensures
    (c.in_ok-seek.ensures.ok before) in
    let advances = subst (λ b. Advances (S.view c.seek.new.self) (S.view c.next.new.self) 0 c.next.new.row b) none
    (c.in_ok-next.ensures.ok clean) in
    last_none ((S.view c.args.store.now).trees table)
    (ends (S.view c.seek.new.self) (S.view c.next.new.self) (reverse ((S.view c.args.store.now).trees table)) c.next.new.row
    advances sought.0).0

pub returns-clause-last : goal.returns-clause-last
returns-clause-last g c clean =
    let S = g.S.Store in
    let some : c.in_ok-next.field-0 ≡ true = search rules in
    let before : IsClean (S.view c.seek.new.self) = omega (arith, c.next.ensures.quiet.clean, clean) in
    let sought = seeks_last (S.view c.args.store.now) (S.view c.seek.new.self) table _ c.new-key.ensures
    (c.in_ok-seek.ensures.ok before) in
    let advances = subst (λ b. Advances (S.view c.seek.new.self) (S.view c.next.new.self) 0 c.next.new.row b) some
    (c.in_ok-next.ensures.ok clean) in
    let first = gives (S.view c.seek.new.self) (S.view c.next.new.self) (reverse ((S.view c.args.store.now).trees table))
    c.next.new.row advances sought.0 in
    last_some ((S.view c.args.store.now).trees table) first.0 c.next.new.row c.in_ok-last.last first.1 c.in_ok-last.ensures.wall
    c.in_ok-last.ensures.moment

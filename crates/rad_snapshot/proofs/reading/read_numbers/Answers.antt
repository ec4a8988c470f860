use Rattle.std.proofs.Common.{◌≡◌, ◌≢◌, ◌⊎◌, inr, Err, IfErr, Some, ◌∙◌, true, false, arith, rules, subst, sym}
use Rattle.sqlite_disk.specs.Disk.{MoreFaults}
use Rattle.sqlite_trees.specs.View.{Advances, IsClean}
use Rattle.rad_snapshot.specs.Faults.{IsOfRows, reported}
use Rattle.rad_snapshot.specs.Restoring.{numbers_rows}
use Rattle.rad_snapshot.specs.Rows.{numbers_row}
use Rattle.rad_snapshot.specs.Snapshots.{tree_of}
use Rattle.rad_snapshot.specs.declared.numbers.Numbers.{Numbers}
use Rattle.rad_snapshot.specs.declared.snapshot_table.SnapshotTable.TheVariants as tables
use Rattle.rad_snapshot.proofs.StoreLemmas.{damage_is, only_row, other_rows, sought_all}
use Rattle.rad_snapshot.proofs.reading.read_numbers.Goals as goal

pub returns-in_err-numbers-clause-refused : goal.returns-in_err-numbers-clause-refused
returns-in_err-numbers-clause-refused g c =
    let S = g.S.Store in
    let first = S.view c.args.store.now in
    let fault = c.in_err-numbers.field-0.0 in
    let given : c.from_residual-in_err-numbers.result ≡ Err (reported fault) = search rules in
    subst (λ r. IfErr r (λ fault. IsOfRows fault → IsClean (S.view c.next.new.self)
    → MoreFaults (S.faults c.args.store.now) (S.faults c.next.new.self)
    ⊎ ((numbers : Numbers) → first.trees (tree_of tables.Numbers) ≢ numbers_rows numbers))) (sym given)
    (λ of clean.
    let sought : IsClean (S.view c.seek.new.self) = omega (arith, c.next.ensures.quiet.clean, clean) in
    let found : c.in_ok-next.field-0 ≡ true = search rules in
    let cursor = subst (λ t. (S.view c.seek.new.self).cursors 0 ≡ Some (first.trees t)) c.tree.ensures
    (sought_all first (S.view c.seek.new.self) c.tree.result _ c.new-key.ensures (c.in_ok-seek.ensures.ok sought)).0 in
    let step = subst (λ b. Advances (S.view c.seek.new.self) (S.view c.next.new.self) 0 c.next.new.row b) found
    (c.in_ok-next.ensures.ok clean) in
    inr (λ numbers is. c.in_err-numbers.ensures.damaged (damage_is fault of) numbers
    (other_rows first (S.view c.seek.new.self) (S.view c.next.new.self) (tree_of tables.Numbers) c.next.new.row
    (numbers_row numbers.clock numbers.last_session numbers.last_challenge) cursor step is)))

pub returns-clause-found : goal.returns-clause-found
returns-clause-found g c clean =
    let S = g.S.Store in
    let first = S.view c.args.store.now in
    let once : IsClean (S.view c.next.new.self) = omega (arith, c.next-2.ensures.quiet.clean, clean) in
    let sought : IsClean (S.view c.seek.new.self) = omega (arith, c.next.ensures.quiet.clean, once) in
    let found : c.in_ok-next.field-0 ≡ true = search rules in
    let none : c.in_ok-next-2.field-0 ≡ false = search rules in
    let cursor = subst (λ t. (S.view c.seek.new.self).cursors 0 ≡ Some (first.trees t)) c.tree.ensures
    (sought_all first (S.view c.seek.new.self) c.tree.result _ c.new-key.ensures (c.in_ok-seek.ensures.ok sought)).0 in
    let step = subst (λ b. Advances (S.view c.seek.new.self) (S.view c.next.new.self) 0 c.next.new.row b) found
    (c.in_ok-next.ensures.ok once) in
    let last = subst (λ b. Advances (S.view c.next.new.self) (S.view c.next-2.new.self) 0 c.next-2.new.row b) none
    (c.in_ok-next-2.ensures.ok clean) in
    only_row first (S.view c.seek.new.self) (S.view c.next.new.self) (tree_of tables.Numbers) c.next.new.row c.next-2.new.row cursor
    step last.0 ∙ c.in_ok-numbers.ensures.found

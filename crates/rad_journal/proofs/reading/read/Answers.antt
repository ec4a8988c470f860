use Rattle.std.proofs.Common.{◌≡◌, ◌∙◌, ◌+◌, true, false, pos, ap, sym, subst, arith, Err, IfErr, IfSome, Some, slice_get, SFits}
use Rattle.std.proofs.Common.{w64, rules, to_z-of_z}
use Rattle.sqlite_trees.specs.View.{Finds, IsClean}
use Rattle.rad_journal.specs.Rows.{table}
use Rattle.rad_journal.proofs.RowLemmas.{read_none, read_row, read_some}
use Rattle.rad_journal.proofs.DamageLemmas.{damage_has_cause, row_within}
use Rattle.rad_journal.specs.Faults.{fault_of}
use Rattle.rad_journal.specs.Rows.{IsWithin, entries_of}
use Rattle.rad_journal.specs.declared.journal.JournalFault.TheVariants.{Damaged}
use Rattle.sqlite_disk.specs.Disk.{MoreFaults}
use Rattle.rad_journal.proofs.reading.read.Goals as goal

pub returns-then-not-branch-clause-found : goal.returns-then-not-branch-clause-found
returns-then-not-branch-clause-found g c clean =
    let rows = (g.S.Store.view c.args.store.now).trees table in
    let was : IsClean (g.S.Store.view c.args.store.now) = omega (arith, c.get.ensures.quiet.clean, clean) in
    let fits : SFits w64 c.rowid.result = search rules in
    let none : c.in_ok-get.field-0 ≡ false = search rules in
    let finds = subst (λ b. Finds rows (pos (1 + c.args.place)) c.get.new.row b) none
    (subst (λ z. Finds rows z c.get.new.row c.in_ok-get.field-0) c.rowid.ensures
    (simp to_z-of_z at (c.in_ok-get.ensures.ok clean))) in
    read_none (1 + c.args.place) c.args.place rows c.get.new.row (c.requires.log was) (omega arith) finds

pub returns-clause-found : goal.returns-clause-found
returns-clause-found g c clean =
    let rows = (g.S.Store.view c.args.store.now).trees table in
    let was : IsClean (g.S.Store.view c.args.store.now) = omega (arith, c.get.ensures.quiet.clean, clean) in
    let fits : SFits w64 c.rowid.result = search rules in
    let one : c.in_ok-get.field-0 ≡ true = search rules in
    let finds = subst (λ b. Finds rows (pos (1 + c.args.place)) c.get.new.row b) one
    (subst (λ z. Finds rows z c.get.new.row c.in_ok-get.field-0) c.rowid.ensures
    (simp to_z-of_z at (c.in_ok-get.ensures.ok clean))) in
    ap (λ e. Some e) c.in_ok-entry.ensures.entry
    ∙ read_some (1 + c.args.place) c.args.place rows c.get.new.row (c.requires.log was) (omega arith) finds

pub returns-in_err-get-clause-damaged : goal.returns-in_err-get-clause-damaged
returns-in_err-get-clause-damaged g c =
    let S = g.S.Store in
    let error = c.in_err-get.field-0.0 in
    let given : c.from_residual.result ≡ Err (fault_of error) = search rules in
    subst (λ r. IfErr r (λ fault. fault ≡ Damaged → IsClean (S.view c.get.new.self)
    → IfSome (slice_get (entries_of ((S.view c.args.store.now).trees table)) c.args.place) IsWithin
    → MoreFaults (S.faults c.args.store.now) (S.faults c.get.new.self))) (sym given)
    (λ is clean within. damage_has_cause (S.view c.args.store.now) _ _ error is (c.in_err-get.ensures.cause clean))

pub returns-in_err-entry-clause-damaged : goal.returns-in_err-entry-clause-damaged
returns-in_err-entry-clause-damaged g c =
    let S = g.S.Store in
    let rows = (S.view c.args.store.now).trees table in
    let fault = c.in_err-entry.field-0.0 in
    let given : c.from_residual-in_err-entry.result ≡ Err fault = search rules in
    subst (λ r. IfErr r (λ fault. fault ≡ Damaged → IsClean (S.view c.get.new.self)
    → IfSome (slice_get (entries_of rows) c.args.place) IsWithin
    → MoreFaults (S.faults c.args.store.now) (S.faults c.get.new.self))) (sym given)
    (λ is clean within.
    let was : IsClean (S.view c.args.store.now) = omega (arith, c.get.ensures.quiet.clean, clean) in
    let fits : SFits w64 c.rowid.result = search rules in
    let one : c.in_ok-get.field-0 ≡ true = search rules in
    let finds = subst (λ b. Finds rows (pos (1 + c.args.place)) c.get.new.row b) one
    (subst (λ z. Finds rows z c.get.new.row c.in_ok-get.field-0) c.rowid.ensures
    (simp to_z-of_z at (c.in_ok-get.ensures.ok clean))) in
    let (entry, has, same) = read_row (1 + c.args.place) c.args.place rows c.get.new.row (c.requires.log was) (omega arith) finds in
    absurd (c.in_err-entry.ensures.damaged is
    (row_within (1 + c.args.place) c.get.new.row entry (slice_get (entries_of rows) c.args.place) has within same)))

use Rattle.std.proofs.Common.{◌≡◌, ◌⊎◌, inl, inr, ⊎_elim, Err, IfErr, ap, arith, rules, subst, sym}
use Rattle.sqlite_disk.specs.Disk.{MoreFaults}
use Rattle.sqlite_trees.specs.View.{IsClean, View}
use Rattle.rad_snapshot.specs.Faults.{IsOfRows}
use Rattle.rad_snapshot.specs.Snapshots.{IsNoSnapshot}
use Rattle.rad_snapshot.specs.declared.snapshot_table.SnapshotTable.TheVariants as tables
use Rattle.rad_snapshot.proofs.SnapshotLemmas.{all_put_there, cannot_all_there, lead_to, no_numbers, no_rows, too_late}
use Rattle.rad_snapshot.proofs.StoreLemmas.{more_later}
use Rattle.rad_snapshot.proofs.reading.read.Goals as goal

pub read_numbers-requires : goal.read_numbers-requires
read_numbers-requires g c = record { shape = λ clean. c.requires.tables clean tables.Numbers }

pub returns-in_err-numbers-clause-refused : goal.returns-in_err-numbers-clause-refused
returns-in_err-numbers-clause-refused g c =
    let S = g.S.Store in
    let configuration = c.args.config.now in
    let trees = (S.view c.args.store.now).trees in
    let fault = c.in_err-numbers.field-0.0 in
    let given : c.from_residual.result ≡ Err fault = search rules in
    subst (λ r. IfErr r (λ fault. IsOfRows fault → IsClean (S.view c.read_numbers.new.store)
    → MoreFaults (S.faults c.args.store.now) (S.faults c.read_numbers.new.store) ⊎ IsNoSnapshot configuration trees))
    (sym given)
    (λ of clean.
    ⊎_elim (λ more. inl more) (λ none. inr (no_numbers configuration trees none)) (c.in_err-numbers.ensures.refused of clean))

pub returns-in_err-server-clause-refused : goal.returns-in_err-server-clause-refused
returns-in_err-server-clause-refused g c =
    let S = g.S.Store in
    let configuration = c.args.config.now in
    let trees = (S.view c.args.store.now).trees in
    let fault = c.in_err-server.field-0.0 in
    let given : c.from_residual-in_err-server.result ≡ Err fault = search rules in
    subst (λ r. IfErr r (λ fault. IsOfRows fault → IsClean (S.view c.read_numbers.new.store)
    → MoreFaults (S.faults c.args.store.now) (S.faults c.read_numbers.new.store) ⊎ IsNoSnapshot configuration trees))
    (sym given)
    (λ of clean.
    inr (too_late configuration trees c.in_ok-numbers.numbers (c.in_ok-numbers.ensures.found clean)
    (c.in_err-server.ensures.refused of)))

pub returns-in_err-restore_all-clause-refused : goal.returns-in_err-restore_all-clause-refused
returns-in_err-restore_all-clause-refused g c =
    let S = g.S.Store in
    let configuration = c.args.config.now in
    let trees = (S.view c.args.store.now).trees in
    let fault = c.in_err-restore_all.field-0.0 in
    let given : c.from_residual-in_err-restore_all.result ≡ Err fault = search rules in
    subst (λ r. IfErr r (λ fault. IsOfRows fault → IsClean (S.view c.restore_all.new.store)
    → MoreFaults (S.faults c.args.store.now) (S.faults c.restore_all.new.store) ⊎ IsNoSnapshot configuration trees)) (sym given)
    (λ of clean.
    let first : IsClean (S.view c.read_numbers.new.store) = omega (arith, c.restore_all.ensures.clean, clean) in
    let same : (S.view c.read_numbers.new.store).trees ≡ trees = ap (λ (v : View). v.trees) (c.in_ok-numbers.ensures.same first) in
    ⊎_elim (λ more. inl (more_later _ _ _ c.read_numbers.ensures.counts more))
    (λ cannot. inr (no_rows configuration trees c.rows_rebuild.ensures.rebuilt c.in_ok-numbers.numbers
    (c.in_ok-numbers.ensures.found first)
    (cannot_all_there configuration _ trees _ c.in_ok-numbers.numbers _ _ c.in_ok-server.ensures.configuration same
    c.in_ok-server.ensures.state cannot)))
    (c.in_err-restore_all.ensures.refused of clean))

pub returns-clause-snapshot : goal.returns-clause-snapshot
returns-clause-snapshot g c clean =
    let S = g.S.Store in
    let configuration = c.args.config.now in
    let trees = (S.view c.args.store.now).trees in
    let first : IsClean (S.view c.read_numbers.new.store) = omega (arith, c.restore_all.ensures.clean, clean) in
    let same : (S.view c.read_numbers.new.store).trees ≡ trees = ap (λ (v : View). v.trees) (c.in_ok-numbers.ensures.same first) in
    lead_to configuration trees c.in_ok-numbers.numbers c.restore_all.new.server.state (c.in_ok-numbers.ensures.found first)
    (all_put_there configuration _ trees _ c.in_ok-numbers.numbers _ _ c.restore_all.new.server.state
    c.in_ok-server.ensures.configuration same c.in_ok-server.ensures.state (c.in_ok-restore_all.ensures.restored clean))

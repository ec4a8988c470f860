use Rattle.std.proofs.Common.{◌≡◌, ◌≢◌, ◌≤◌, ◌⊎◌, inl, inr, ⊎_elim, Ok, Err, IfErr, [], ◌∷◌, ◌∙◌, ap, arith, rules, subst, sym}
use Rattle.sqlite_disk.specs.Disk.{MoreFaults}
use Rattle.sqlite_trees.specs.View.{IsClean, View}
use Rattle.rad_config.specs.Configurations.{Configuration}
use Rattle.rad_server.specs.Restored.{restored}
use Rattle.rad_server.specs.States.{State}
use Rattle.rad_server.specs.declared.state_row.StateRow.TheVariants as rows
use Rattle.rad_snapshot.specs.Faults.{IsOfRows}
use Rattle.rad_snapshot.specs.Restoring.{CannotAllPutBack}
use Rattle.rad_snapshot.specs.Snapshots.{tree_of}
use Rattle.rad_snapshot.specs.declared.snapshot_table.SnapshotTable.TheVariants as tables
use Rattle.rad_snapshot.proofs.SnapshotLemmas.{no_challenges, no_last_challenge, no_last_session, no_replies, no_sessions}
use Rattle.rad_snapshot.proofs.StoreLemmas.{cannot_there, more_later, put_there}
use Rattle.rad_snapshot.proofs.restoring.restore_all.Goals as goal

pub restore_table-requires : goal.restore_table-requires
restore_table-requires g c = record { shape = λ clean. c.requires.tables clean tables.Sessions }

pub restore_table-requires-2 : goal.restore_table-requires-2
restore_table-requires-2 g c = record {
  shape = λ clean.
      let first : IsClean (g.S.Store.view c.args.store.now) = omega (arith, c.restore_table.ensures.clean, clean) in
      ap (λ (v : View). v.shape (tree_of tables.Replies)) (c.in_ok-restore_table.ensures.same clean)
      ∙ c.requires.tables first tables.Replies;
}

pub restore_table-requires-3 : goal.restore_table-requires-3
restore_table-requires-3 g c = record {
  shape = λ clean.
      let second : IsClean (g.S.Store.view c.restore_table.new.store) = omega (arith, c.restore_table-2.ensures.clean, clean) in
      let first : IsClean (g.S.Store.view c.args.store.now) = omega (arith, c.restore_table.ensures.clean, second) in
      ap (λ (v : View). v.shape (tree_of tables.Challenges)) (c.in_ok-restore_table-2.ensures.same clean)
      ∙ ap (λ (v : View). v.shape (tree_of tables.Challenges)) (c.in_ok-restore_table.ensures.same second)
      ∙ c.requires.tables first tables.Challenges;
}

pub returns-in_err-restore_table-clause-refused : goal.returns-in_err-restore_table-clause-refused
returns-in_err-restore_table-clause-refused g c =
    let S = g.S.Store in
    let configuration = c.args.server.now.configuration in
    let trees = (S.view c.args.store.now).trees in
    let numbers = c.args.numbers.now in
    let before = c.args.server.now.state in
    let fault = c.in_err-restore_table.field-0.0 in
    let given : c.from_residual.result ≡ Err fault = search rules in
    subst (λ r. IfErr r (λ fault. IsOfRows fault → IsClean (S.view c.restore_table.new.store)
    → MoreFaults (S.faults c.args.store.now) (S.faults c.restore_table.new.store)
    ⊎ CannotAllPutBack configuration trees numbers before)) (sym given)
    (λ of clean.
    ⊎_elim (λ more. inl more) (λ cannot. inr (no_sessions configuration trees numbers before cannot))
    (c.in_err-restore_table.ensures.refused of clean))

pub returns-in_err-restore_row-clause-refused : goal.returns-in_err-restore_row-clause-refused
returns-in_err-restore_row-clause-refused g c =
    let S = g.S.Store in
    let configuration = c.args.server.now.configuration in
    let trees = (S.view c.args.store.now).trees in
    let numbers = c.args.numbers.now in
    let before = c.args.server.now.state in
    let fault = c.in_err-restore_row.field-0.0 in
    let given : c.from_residual-in_err-restore_row.result ≡ Err fault = search rules in
    subst (λ r. IfErr r (λ fault. IsOfRows fault → IsClean (S.view c.restore_table.new.store)
    → MoreFaults (S.faults c.args.store.now) (S.faults c.restore_table.new.store)
    ⊎ CannotAllPutBack configuration trees numbers before)) (sym given)
    (λ of clean.
    let granted = c.restore_table.new.server.state in
    let one = c.in_ok-restore_table.ensures.restored clean in
    let never = subst (λ (k : Configuration). (after : State)
    → restored k (rows.LastSession numbers.last_session ∷ []) granted ≢ Ok after) c.restore_table.ensures.configuration
    (c.in_err-restore_row.ensures.refused of) in
    inr (no_last_session configuration trees numbers before granted one never))

pub returns-in_err-restore_table-2-clause-refused : goal.returns-in_err-restore_table-2-clause-refused
returns-in_err-restore_table-2-clause-refused g c =
    let S = g.S.Store in
    let configuration = c.args.server.now.configuration in
    let trees = (S.view c.args.store.now).trees in
    let numbers = c.args.numbers.now in
    let before = c.args.server.now.state in
    let fault = c.in_err-restore_table-2.field-0.0 in
    let given : c.from_residual-in_err-restore_table-2.result ≡ Err fault = search rules in
    subst (λ r. IfErr r (λ fault. IsOfRows fault → IsClean (S.view c.restore_table-2.new.store)
    → MoreFaults (S.faults c.args.store.now) (S.faults c.restore_table-2.new.store)
    ⊎ CannotAllPutBack configuration trees numbers before)) (sym given)
    (λ of clean.
    let second : IsClean (S.view c.restore_table.new.store) = omega (arith, c.restore_table-2.ensures.clean, clean) in
    let granted = c.restore_table.new.server.state in
    let one = c.in_ok-restore_table.ensures.restored second in
    let numbered = c.restore_row.new.server.state in
    let two = subst (λ (k : Configuration). restored k (rows.LastSession numbers.last_session ∷ []) granted ≡ Ok numbered)
    c.restore_table.ensures.configuration c.in_ok-restore_row.ensures.restored in
    let same1 : c.restore_row.new.server.configuration ≡ configuration =
    c.restore_row.ensures.configuration ∙ c.restore_table.ensures.configuration in
    let there1 : (S.view c.restore_table.new.store).trees (tree_of tables.Replies) ≡ trees (tree_of tables.Replies) =
    ap (λ (v : View). v.trees (tree_of tables.Replies)) (c.in_ok-restore_table.ensures.same second) in
    ⊎_elim (λ more. inl (more_later _ _ _ c.restore_table.ensures.counts more))
    (λ cannot. inr (no_replies configuration trees numbers before granted one numbered two
    (cannot_there configuration _ tables.Replies _ _ numbered same1 there1 cannot)))
    (c.in_err-restore_table-2.ensures.refused of clean))

pub returns-in_err-restore_table-3-clause-refused : goal.returns-in_err-restore_table-3-clause-refused
returns-in_err-restore_table-3-clause-refused g c =
    let S = g.S.Store in
    let configuration = c.args.server.now.configuration in
    let trees = (S.view c.args.store.now).trees in
    let numbers = c.args.numbers.now in
    let before = c.args.server.now.state in
    let fault = c.in_err-restore_table-3.field-0.0 in
    let given : c.from_residual-in_err-restore_table-3.result ≡ Err fault = search rules in
    subst (λ r. IfErr r (λ fault. IsOfRows fault → IsClean (S.view c.restore_table-3.new.store)
    → MoreFaults (S.faults c.args.store.now) (S.faults c.restore_table-3.new.store)
    ⊎ CannotAllPutBack configuration trees numbers before)) (sym given)
    (λ of clean.
    let third : IsClean (S.view c.restore_table-2.new.store) = omega (arith, c.restore_table-3.ensures.clean, clean) in
    let second : IsClean (S.view c.restore_table.new.store) = omega (arith, c.restore_table-2.ensures.clean, third) in
    let granted = c.restore_table.new.server.state in
    let one = c.in_ok-restore_table.ensures.restored second in
    let numbered = c.restore_row.new.server.state in
    let two = subst (λ (k : Configuration). restored k (rows.LastSession numbers.last_session ∷ []) granted ≡ Ok numbered)
    c.restore_table.ensures.configuration c.in_ok-restore_row.ensures.restored in
    let same1 : c.restore_row.new.server.configuration ≡ configuration =
    c.restore_row.ensures.configuration ∙ c.restore_table.ensures.configuration in
    let there1 : (S.view c.restore_table.new.store).trees (tree_of tables.Replies) ≡ trees (tree_of tables.Replies) =
    ap (λ (v : View). v.trees (tree_of tables.Replies)) (c.in_ok-restore_table.ensures.same second) in
    let replied = c.restore_table-2.new.server.state in
    let three = put_there configuration _ tables.Replies (trees (tree_of tables.Replies)) _ numbered replied same1 there1
    (c.in_ok-restore_table-2.ensures.restored third) in
    let same2 : c.restore_table-2.new.server.configuration ≡ configuration = c.restore_table-2.ensures.configuration ∙ same1 in
    let there2 : (S.view c.restore_table-2.new.store).trees (tree_of tables.Challenges) ≡ trees (tree_of tables.Challenges) =
    ap (λ (v : View). v.trees (tree_of tables.Challenges)) (c.in_ok-restore_table-2.ensures.same third)
    ∙ ap (λ (v : View). v.trees (tree_of tables.Challenges)) (c.in_ok-restore_table.ensures.same second) in
    let counts : S.faults c.args.store.now ≤ S.faults c.restore_table-2.new.store =
    omega (arith, c.restore_table.ensures.counts, c.restore_table-2.ensures.counts) in
    ⊎_elim (λ more. inl (more_later (S.faults c.args.store.now) (S.faults c.restore_table-2.new.store) _ counts more))
    (λ cannot. inr (no_challenges configuration trees numbers before granted one numbered two replied three
    (cannot_there configuration _ tables.Challenges _ _ replied same2 there2 cannot)))
    (c.in_err-restore_table-3.ensures.refused of clean))

pub returns-in_err-restore_row-2-clause-refused : goal.returns-in_err-restore_row-2-clause-refused
returns-in_err-restore_row-2-clause-refused g c =
    let S = g.S.Store in
    let configuration = c.args.server.now.configuration in
    let trees = (S.view c.args.store.now).trees in
    let numbers = c.args.numbers.now in
    let before = c.args.server.now.state in
    let fault = c.in_err-restore_row-2.field-0.0 in
    let given : c.from_residual-in_err-restore_row-2.result ≡ Err fault = search rules in
    subst (λ r. IfErr r (λ fault. IsOfRows fault → IsClean (S.view c.restore_table-3.new.store)
    → MoreFaults (S.faults c.args.store.now) (S.faults c.restore_table-3.new.store)
    ⊎ CannotAllPutBack configuration trees numbers before)) (sym given)
    (λ of clean.
    let third : IsClean (S.view c.restore_table-2.new.store) = omega (arith, c.restore_table-3.ensures.clean, clean) in
    let second : IsClean (S.view c.restore_table.new.store) = omega (arith, c.restore_table-2.ensures.clean, third) in
    let granted = c.restore_table.new.server.state in
    let one = c.in_ok-restore_table.ensures.restored second in
    let numbered = c.restore_row.new.server.state in
    let two = subst (λ (k : Configuration). restored k (rows.LastSession numbers.last_session ∷ []) granted ≡ Ok numbered)
    c.restore_table.ensures.configuration c.in_ok-restore_row.ensures.restored in
    let same1 : c.restore_row.new.server.configuration ≡ configuration =
    c.restore_row.ensures.configuration ∙ c.restore_table.ensures.configuration in
    let there1 : (S.view c.restore_table.new.store).trees (tree_of tables.Replies) ≡ trees (tree_of tables.Replies) =
    ap (λ (v : View). v.trees (tree_of tables.Replies)) (c.in_ok-restore_table.ensures.same second) in
    let replied = c.restore_table-2.new.server.state in
    let three = put_there configuration _ tables.Replies (trees (tree_of tables.Replies)) _ numbered replied same1 there1
    (c.in_ok-restore_table-2.ensures.restored third) in
    let same2 : c.restore_table-2.new.server.configuration ≡ configuration = c.restore_table-2.ensures.configuration ∙ same1 in
    let there2 : (S.view c.restore_table-2.new.store).trees (tree_of tables.Challenges) ≡ trees (tree_of tables.Challenges) =
    ap (λ (v : View). v.trees (tree_of tables.Challenges)) (c.in_ok-restore_table-2.ensures.same third)
    ∙ ap (λ (v : View). v.trees (tree_of tables.Challenges)) (c.in_ok-restore_table.ensures.same second) in
    let challenged = c.restore_table-3.new.server.state in
    let four = put_there configuration _ tables.Challenges (trees (tree_of tables.Challenges)) _ replied challenged same2 there2
    (c.in_ok-restore_table-3.ensures.restored clean) in
    let same3 : c.restore_table-3.new.server.configuration ≡ configuration = c.restore_table-3.ensures.configuration ∙ same2 in
    let never = subst (λ (k : Configuration). (after : State)
    → restored k (rows.LastChallenge numbers.last_challenge ∷ []) challenged ≢ Ok after) same3
    (c.in_err-restore_row-2.ensures.refused of) in
    inr (no_last_challenge configuration trees numbers before granted one numbered two replied three challenged four never))

pub returns-clause-restored : goal.returns-clause-restored
returns-clause-restored g c clean =
    let S = g.S.Store in
    let configuration = c.args.server.now.configuration in
    let trees = (S.view c.args.store.now).trees in
    let numbers = c.args.numbers.now in
    let before = c.args.server.now.state in
    let third : IsClean (S.view c.restore_table-2.new.store) = omega (arith, c.restore_table-3.ensures.clean, clean) in
    let second : IsClean (S.view c.restore_table.new.store) = omega (arith, c.restore_table-2.ensures.clean, third) in
    let granted = c.restore_table.new.server.state in
    let one = c.in_ok-restore_table.ensures.restored second in
    let numbered = c.restore_row.new.server.state in
    let two = subst (λ (k : Configuration). restored k (rows.LastSession numbers.last_session ∷ []) granted ≡ Ok numbered)
    c.restore_table.ensures.configuration c.in_ok-restore_row.ensures.restored in
    let same1 : c.restore_row.new.server.configuration ≡ configuration =
    c.restore_row.ensures.configuration ∙ c.restore_table.ensures.configuration in
    let there1 : (S.view c.restore_table.new.store).trees (tree_of tables.Replies) ≡ trees (tree_of tables.Replies) =
    ap (λ (v : View). v.trees (tree_of tables.Replies)) (c.in_ok-restore_table.ensures.same second) in
    let replied = c.restore_table-2.new.server.state in
    let three = put_there configuration _ tables.Replies (trees (tree_of tables.Replies)) _ numbered replied same1 there1
    (c.in_ok-restore_table-2.ensures.restored third) in
    let same2 : c.restore_table-2.new.server.configuration ≡ configuration = c.restore_table-2.ensures.configuration ∙ same1 in
    let there2 : (S.view c.restore_table-2.new.store).trees (tree_of tables.Challenges) ≡ trees (tree_of tables.Challenges) =
    ap (λ (v : View). v.trees (tree_of tables.Challenges)) (c.in_ok-restore_table-2.ensures.same third)
    ∙ ap (λ (v : View). v.trees (tree_of tables.Challenges)) (c.in_ok-restore_table.ensures.same second) in
    let challenged = c.restore_table-3.new.server.state in
    let four = put_there configuration _ tables.Challenges (trees (tree_of tables.Challenges)) _ replied challenged same2 there2
    (c.in_ok-restore_table-3.ensures.restored clean) in
    let same3 : c.restore_table-3.new.server.configuration ≡ configuration = c.restore_table-3.ensures.configuration ∙ same2 in
    record {
      granted = granted;
      numbered = numbered;
      replied = replied;
      challenged = challenged;
      sessions = one;
      last_session = two;
      replies = three;
      challenges = four;
      last_challenge = subst (λ (k : Configuration). restored k (rows.LastChallenge numbers.last_challenge ∷ []) challenged
          ≡ Ok c.restore_row-2.new.server.state) same3 c.in_ok-restore_row-2.ensures.restored;
    }

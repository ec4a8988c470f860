use Rattle.std.proofs.Common.{◌∙◌, ap, arith, ℕ}
use Rattle.sqlite_trees.specs.View.{IsClean}
use Rattle.sqlite_trees.specs.declared.store.Shape.{Shape}
use Rattle.rad_snapshot.specs.Snapshots.{tree_of}
use Rattle.rad_snapshot.specs.declared.snapshot_table.SnapshotTable.TheVariants as tables
use Rattle.rad_snapshot.proofs.WriteLemmas.{others_kept}
use Rattle.rad_snapshot.proofs.writing.write.Goals as goal

pub put_rows-requires-clause-shape : goal.put_rows-requires-clause-shape
put_rows-requires-clause-shape g c clean = c.requires.tables clean tables.Sessions

pub put_rows-requires-clause-empty : goal.put_rows-requires-clause-empty
put_rows-requires-clause-empty g c clean = c.requires.empty clean tables.Sessions

pub put_rows-requires-2-clause-shape : goal.put_rows-requires-2-clause-shape
put_rows-requires-2-clause-shape g c clean =
    let first : IsClean (g.S.Store.view c.args.store.now) = omega (arith, c.put_rows.ensures.clean, clean) in
    ap (λ (f : ℕ → Shape). f (tree_of tables.Replies)) c.put_rows.ensures.schema.shape ∙ c.requires.tables first tables.Replies

pub put_rows-requires-2-clause-empty : goal.put_rows-requires-2-clause-empty
put_rows-requires-2-clause-empty g c clean =
    let first : IsClean (g.S.Store.view c.args.store.now) = omega (arith, c.put_rows.ensures.clean, clean) in
    (c.in_ok-put_rows.ensures.put clean).others (tree_of tables.Replies) (λ e. omega (arith, e))
    ∙ c.requires.empty first tables.Replies

pub put_rows-requires-3-clause-shape : goal.put_rows-requires-3-clause-shape
put_rows-requires-3-clause-shape g c clean =
    let first : IsClean (g.S.Store.view c.args.store.now) =
    omega (arith, c.put_rows.ensures.clean, c.put_rows-2.ensures.clean, clean) in
    ap (λ (f : ℕ → Shape). f (tree_of tables.Challenges)) (c.put_rows-2.ensures.schema.shape ∙ c.put_rows.ensures.schema.shape)
    ∙ c.requires.tables first tables.Challenges

pub put_rows-requires-3-clause-empty : goal.put_rows-requires-3-clause-empty
put_rows-requires-3-clause-empty g c clean =
    let second : IsClean (g.S.Store.view c.put_rows.new.store) = omega (arith, c.put_rows-2.ensures.clean, clean) in
    let first : IsClean (g.S.Store.view c.args.store.now) = omega (arith, c.put_rows.ensures.clean, second) in
    (c.in_ok-put_rows-2.ensures.put clean).others (tree_of tables.Challenges) (λ e. omega (arith, e))
    ∙ (c.in_ok-put_rows.ensures.put second).others (tree_of tables.Challenges) (λ e. omega (arith, e))
    ∙ c.requires.empty first tables.Challenges

pub put_numbers-requires-clause-shape : goal.put_numbers-requires-clause-shape
put_numbers-requires-clause-shape g c clean =
    let first : IsClean (g.S.Store.view c.args.store.now) =
    omega (arith, c.put_rows.ensures.clean, c.put_rows-2.ensures.clean, c.put_rows-3.ensures.clean, clean) in
    ap (λ (f : ℕ → Shape). f (tree_of tables.Numbers))
    (c.put_rows-3.ensures.schema.shape ∙ c.put_rows-2.ensures.schema.shape ∙ c.put_rows.ensures.schema.shape)
    ∙ c.requires.tables first tables.Numbers

pub put_numbers-requires-clause-empty : goal.put_numbers-requires-clause-empty
put_numbers-requires-clause-empty g c clean =
    let third : IsClean (g.S.Store.view c.put_rows-2.new.store) = omega (arith, c.put_rows-3.ensures.clean, clean) in
    let second : IsClean (g.S.Store.view c.put_rows.new.store) = omega (arith, c.put_rows-2.ensures.clean, third) in
    let first : IsClean (g.S.Store.view c.args.store.now) = omega (arith, c.put_rows.ensures.clean, second) in
    (c.in_ok-put_rows-3.ensures.put clean).others (tree_of tables.Numbers) (λ e. omega (arith, e))
    ∙ (c.in_ok-put_rows-2.ensures.put third).others (tree_of tables.Numbers) (λ e. omega (arith, e))
    ∙ (c.in_ok-put_rows.ensures.put second).others (tree_of tables.Numbers) (λ e. omega (arith, e))
    ∙ c.requires.empty first tables.Numbers

pub returns-clause-others : goal.returns-clause-others
returns-clause-others g c clean =
    let fourth : IsClean (g.S.Store.view c.put_rows-3.new.store) = omega (arith, c.put_numbers.ensures.clean, clean) in
    let third : IsClean (g.S.Store.view c.put_rows-2.new.store) = omega (arith, c.put_rows-3.ensures.clean, fourth) in
    let second : IsClean (g.S.Store.view c.put_rows.new.store) = omega (arith, c.put_rows-2.ensures.clean, third) in
    others_kept _ _ _ _ _ _ _ _ _ (c.in_ok-put_rows.ensures.put second) (c.in_ok-put_rows-2.ensures.put third)
    (c.in_ok-put_rows-3.ensures.put fourth)
    (c.in_ok-put_numbers.ensures.put clean)

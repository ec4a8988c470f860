use Rattle.std.proofs.Common.{◌∙◌, ap, arith}
use Rattle.sqlite_trees.specs.View.{IsClean}
use Rattle.rad_journal.specs.Records.{register_tree}
use Rattle.rad_journal.specs.declared.register.Register.TheVariants.{Accounting, Grants}
use Rattle.rad_journal.proofs.append.write.Goals as goal

pub record_all-requires-clause-shape : goal.record_all-requires-clause-shape
record_all-requires-clause-shape g c clean =
    let old : IsClean (g.S.Store.view c.args.store.now) = omega (arith, c.put_all.ensures.clean, clean) in
    ap (λ f. f (register_tree Accounting)) c.put_all.ensures.schema.shape ∙ (c.requires.shapes old).records Accounting

pub record_all-requires-2-clause-shape : goal.record_all-requires-2-clause-shape
record_all-requires-2-clause-shape g c clean =
    let put : IsClean (g.S.Store.view c.put_all.new.store) = omega (arith, c.record_all.ensures.clean, clean) in
    let old : IsClean (g.S.Store.view c.args.store.now) = omega (arith, c.put_all.ensures.clean, put) in
    ap (λ f. f (register_tree Grants)) (c.record_all.ensures.schema.shape ∙ c.put_all.ensures.schema.shape)
    ∙ (c.requires.shapes old).records Grants

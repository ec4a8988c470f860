use Rattle.std.proofs.Common.{◌∙◌, arith}
use Rattle.std.proofs.lemmas.Grind.{get_or_default_zero}
use Rattle.rad_pool.proofs.users.count.Goals as goal

pub returns-clause-counts : goal.returns-clause-counts
returns-clause-counts c = record {
  open_count = c.index.ensures
      ∙ get_or_default_zero c.args.counts.now.users.items c.args.user c.index.result.now (omega (arith, c.if-len-place.false))
      ∙ c.requires.users.is c.args.user (omega (arith, c.if-len-place.false));
  total = c.index-2.ensures
      ∙ get_or_default_zero c.args.counts.now.grants.items c.args.user c.index-2.result.now (omega (arith, c.if-len-place.false))
      ∙ c.requires.grants.is c.args.user (omega (arith, c.if-len-place.false));
}

use Rattle.std.proofs.Common.{refl}
use Rattle.rad_text.proofs.LineLemmas.{stripped}
use Rattle.rad_text.proofs.lines.without_return.Goals as goal

pub returns : goal.returns
returns c = rw c.unwrap_or.ensures
    (stripped (λ x. x.now) c.strip_suffix.result c.args.line c.args.line.now refl c.strip_suffix.ensures.cases)

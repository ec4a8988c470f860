use Rattle.std.proofs.Common.{sym}
use Rattle.rad_text.proofs.LineLemmas.{passes_one}
use Rattle.rad_text.proofs.lines.divide.Goals as goal

pub loop-line-preserved : goal.loop-line-preserved
loop-line-preserved c = passes_one c.args.text.now c.loop-line.rest.now c.in-Some.line.now c.in-Some.after.now c.loop-line.invariant
    c.in-Some.ensures (sym c.if-is_divider.ensures)

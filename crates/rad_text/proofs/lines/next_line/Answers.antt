use Rattle.std.proofs.Common.{refl}
use Rattle.rad_text.proofs.LineLemmas.{first_or_whole, not_empty}
use Rattle.rad_text.proofs.lines.next_line.Goals as goal

pub returns : goal.returns
returns c = rw c.or.ensures (first_or_whole (λ parts. (parts.0.now, parts.1.now)) c.split_once.result _ c.args.text.now
    c.split_once.ensures (not_empty c.args.text.now c.if-is_empty.ensures) refl)

use Rattle.std.proofs.Common.{◌≡◌, rules}
use Rattle.rad_snapshot.specs.Rows.{row_of}
use Rattle.rad_snapshot.proofs.RowLemmas.{row_unlike}
use Rattle.rad_snapshot.proofs.rows.row_in.Goals as goal

pub returns-then-not-is_same-clause-damaged : goal.returns-then-not-is_same-clause-damaged
returns-then-not-is_same-clause-damaged c is =
    let filled : c.fill.new.row ≡ row_of c.args.place c.in_ok-item.item = search rules in
    row_unlike c.args.table c.args.place c.args.row.now c.fill.new.row c.in_ok-item.item c.in_ok-item.ensures.is filled
    (λ same. absurd (cc (c.if-not-is_same.ensures.1 same)))

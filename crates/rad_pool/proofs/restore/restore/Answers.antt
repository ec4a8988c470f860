use Rattle.std.proofs.Common.{rules, ◌≡◌, ◌+◌, ◌<◌, ◌^◌, length, subst, Some}
use Rattle.rad_pool.specs.Counts.{Ends, HoldsCounts}
use Rattle.rad_pool.specs.declared.session.Session.{Session}
use Rattle.rad_pool.specs.declared.session.Phase.TheVariants.{Ended}
use Rattle.rad_pool.proofs.CountLemmas.{rows_back_ended, rows_back_open}
use Rattle.rad_pool.proofs.restore.restore.Goals as goal

pub returns-then-eq-clause-counts : goal.returns-then-eq-clause-counts
returns-then-eq-clause-counts c =
    let ready : HoldsCounts c.args.rows.now.rows c.room.new.self = search rules in
    let ended : c.args.session.phase ≡ Ended = search rules in
    let few : length c.args.rows.now.rows + 1 < 2 ^ 64 = search rules in
    rows_back_ended c.args.rows.now c.restore.new.self c.args.session c.room.new.self c.come.new.self c.end.new.self ready ended few
    c.in_ok-restore.ensures.rows c.in_ok-restore.ensures.room c.come.ensures
    (subst (λ (s : Session). Ends c.come.new.self (Some s) c.end.new.self) c.opened.ensures c.end.ensures)

pub returns-else-eq-clause-counts : goal.returns-else-eq-clause-counts
returns-else-eq-clause-counts c =
    let ready : HoldsCounts c.args.rows.now.rows c.room.new.self = search rules in
    let other : c.args.session.phase ≡ Ended → ⊥ = search rules in
    let few : length c.args.rows.now.rows + 1 < 2 ^ 64 = search rules in
    rows_back_open c.args.rows.now c.restore.new.self c.args.session c.room.new.self c.come.new.self ready other few
    c.in_ok-restore.ensures.rows c.in_ok-restore.ensures.room c.come.ensures

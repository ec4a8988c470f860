use Rattle.std.proofs.Common.{sym}
use Rattle.rad_recent.proofs.ClientLemmas.{all_found, all_none, all_vacant}
use Rattle.rad_recent.proofs.indexed.client_of.Goals as goal

pub returns-in_default : goal.returns-in_default
returns-in_default c =
    λ client. all_none c.args.index.now.map.entries c.args.key.now c.args.rows.now.rows c.requires client (sym c.in_default.ensures)

pub returns-in_default-get : goal.returns-in_default-get
returns-in_default-get c = λ client. all_vacant c.args.index.now.map.entries c.args.key.now c.args.rows.now.rows c.requires client
    c.in-Some.number (sym c.in-Some.ensures) (sym c.in_default-get.ensures)

pub returns : goal.returns
returns c = λ client.
    all_found c.args.index.now.map.entries c.args.key.now c.args.rows.now.rows c.requires client c.in-Some.number
    c.in-Some-get.row.now (sym c.in-Some.ensures) c.numbers_rise.ensures.rising.rising (sym c.in-Some-get.ensures)

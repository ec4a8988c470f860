use Rattle.std.proofs.Common.{ap, rules}
use Rattle.std.proofs.lemmas.Bool.Decides.{Decides-like}
use Rattle.rad_auth.specs.ClientRows.{row_clients}
use Rattle.rad_auth.proofs.ClientRowsLemmas.{row_clients-injective}
use Rattle.rad_auth.proofs.client.Clients.same.Goals as goal

pub returns : goal.returns
returns c =
    let rows = c.self.inside.rows.items in
    let others = c.other.inside.rows.items in
    rw (← c.self.view_is, ← c.other.view_is)
    (Decides-like c.same_rows.result (ap row_clients) (row_clients-injective rows others) (search rules))

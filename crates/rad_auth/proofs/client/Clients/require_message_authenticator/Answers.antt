use Rattle.std.proofs.Common.{◌<◌, length, ap, arith}
use Rattle.std.proofs.lemmas.List.{length-map}
use Rattle.rad_auth.specs.Clients.{Client}
use Rattle.rad_auth.specs.ClientRows.{row_client}
use Rattle.rad_auth.proofs.ClientRowsLemmas.{client-at_row}
use Rattle.rad_auth.proofs.client.Clients.require_message_authenticator.Goals as goal

pub returns : goal.returns
returns c =
    let within : c.args.place < length c.self.inside.rows.items =
    omega (arith, rw (← c.self.view_is, length-map c.self.inside.rows.items row_client) at c.requires) in
    rw (← c.self.view_is) (ap (λ (client : Client). client.require_message_authenticator)
    (client-at_row c.self.inside.rows.items c.args.place c.index.result.now within c.index.ensures))

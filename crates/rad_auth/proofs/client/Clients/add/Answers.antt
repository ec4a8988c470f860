use Rattle.std.proofs.Common.{◌≡◌, ◌<◌, ◌∷◌, ◌++◌, [], length, nat_eq, false, ap, arith, rules}
use Rattle.indexmap.specs.IndexSet.{insert_key}
use Rattle.rad_auth.specs.Clients.{clients_max, has_network}
use Rattle.rad_auth.specs.declared.client.ClientRow.{ClientRow}
use Rattle.rad_auth.specs.ClientRows.{HasNetwork, network_key, row_client, row_clients}
use Rattle.rad_auth.proofs.ClientRowsLemmas.{keeps-push, map-push}
use Rattle.rad_auth.proofs.client.Clients.add.Goals as goal

pub invariant_of-self-2 : goal.invariant_of-self-2
invariant_of-self-2 c =
    let rows = c.self.inside.rows.items in
    let row : ClientRow = record {
      address = c.args.address;
      prefix = c.args.prefix;
      secret = c.args.secret.now;
      require_message_authenticator = c.args.require_message_authenticator;
    } in
    let network : HasNetwork (row_client row) = record { below = search rules; fits = c.requires.fits } in
    let pushed : c.push.new.self.items ≡ rows ++ row ∷ [] = search rules in
    let new : has_network (row_clients rows) c.args.address c.args.prefix ≡ false = search rules in
    let inserted : c.insert.new.self.keys
    ≡ insert_key nat_eq c.self.inside.networks.keys (network_key c.args.address c.args.prefix) = search rules in
    let room : length (row_clients rows) < clients_max = omega (arith, c.requires.room, ap length c.self.view_is) in
    rw (pushed, map-push row_client rows row)
    (keeps-push c.self.inside.networks.keys c.insert.new.self.keys c.self.inside.prefixes.items c.add_prefix.new.prefixes.items
    (row_clients rows) (row_client row)
    c.self.invariant network new room inserted c.add_prefix.ensures.added
    (rw c.reserve-2.ensures.items at c.add_prefix.ensures.kept) c.add_prefix.ensures.greatest_first)

use Rattle.std.proofs.Common.{ℕ, ◌<◌, ◌^◌, nat_eq, ap, ◌∙◌, rules}
use Rattle.std.specs.List.{list_any}
use Rattle.rad_auth.proofs.ClientRowsLemmas.{has_network-key}
use Rattle.rad_auth.proofs.client.Clients.has_network.Goals as goal

pub returns : goal.returns
returns c =
    let networks = c.self.inside.networks.keys in
    let below : c.args.address < 2 ^ 32 = search rules in
    rw (← c.self.view_is)
    (c.contains.ensures ∙ ap (λ (key : ℕ). list_any (nat_eq key) networks) c.network_key.ensures
    ∙ has_network-key networks c.self.inside.prefixes.items _ c.args.address c.args.prefix c.self.invariant below c.requires)

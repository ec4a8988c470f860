use Rattle.std.proofs.Common.{◌≡◌, ℕ, ◌<◌, nat_eq, get_or, None}
use Rattle.std.specs.List.{position}
use Rattle.rad_auth.specs.ClientRows.{network_key}
use Rattle.rad_auth.proofs.client.Clients.find.Given as goal

-- no client was found at the prefixes so far
abbrev pub invariant-loop-prefix : goal.invariant-loop-prefix
invariant-loop-prefix l =
    (j : ℕ) → j < l.prefix-index → position (nat_eq (network_key l.source (get_or l.self-inside.prefixes.items j 0)))
    l.self-inside.networks.keys ≡ None

use Rattle.std.proofs.Common.{◌≡◌, ℕ, ◌<◌, ◌≤◌, ◌^◌, nat_eq, length, get_or, None, ap, sym, ◌∙◌, arith, rules, below_more}
use Rattle.std.specs.List.{position}
use Rattle.rad_auth.specs.ClientRows.{network_key, row_clients}
use Rattle.rad_auth.proofs.ClientRowsLemmas.{place_at, place_nowhere}
use Rattle.rad_auth.proofs.client.Clients.find.Goals as goal

pub returns-in-Some-clause-value : goal.returns-in-Some-clause-value
returns-in-Some-clause-value c =
    let networks = c.self.inside.networks.keys in
    let prefixes = c.self.inside.prefixes.items in
    let place = c.loop-prefix.prefix-index in
    let below : c.args.source < 2 ^ 32 = search rules in
    let within : place < length prefixes = omega (arith, ap length c.deref-prefix-items.ensures.value) in
    let keyed : c.network_key-key.result ≡ network_key c.args.source (get_or prefixes place 0) =
    rw c.deref-prefix-items.ensures.value at c.network_key-key.ensures in
    let found = ap (λ (key : ℕ). position (nat_eq key) networks) (sym keyed) ∙ sym c.in-Some.ensures.index in
    rw (← c.self.view_is)
    (sym (place_at networks prefixes (row_clients c.self.inside.rows.items) c.args.source place c.in-Some.place c.self.invariant
    below within c.loop-prefix.invariant found))

pub loop-prefix-preserved : goal.loop-prefix-preserved
loop-prefix-preserved c =
    let prefixes = c.self.inside.prefixes.items in
    let place = c.loop-prefix.prefix-index in
    let keyed : c.network_key-key.result ≡ network_key c.args.source (get_or prefixes place 0) =
    rw c.deref-prefix-items.ensures.value at c.network_key-key.ensures in
    let none : position (nat_eq c.network_key-key.result) c.self.inside.networks.keys ≡ None =
    sym c.get_index_of.ensures.index ∙ c.in_default.is in
    below_more _ _ c.loop-prefix.invariant (ap (λ (key : ℕ). position (nat_eq key) c.self.inside.networks.keys) (sym keyed) ∙ none)

pub returns-clause-value : goal.returns-clause-value
returns-clause-value c =
    let prefixes = c.self.inside.prefixes.items in
    let all : length prefixes ≤ c.loop-prefix.prefix-index = omega (arith, ap length c.deref-prefix-items.ensures.value) in
    rw (← c.self.view_is)
    (sym (place_nowhere c.self.inside.networks.keys prefixes (row_clients c.self.inside.rows.items) c.args.source c.self.invariant
    (λ j before. c.loop-prefix.invariant j (omega (arith, before, all)))))

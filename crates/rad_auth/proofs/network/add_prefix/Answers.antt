use Rattle.std.proofs.Common.{◌≡◌, ℕ, nat_lt, List, rules, of_calls}
use Rattle.std.specs.Prelude.{insert}
use Rattle.std.proofs.lemmas.List.Sorted.{IsPartitionPoint-from_clause}
use Rattle.rad_auth.proofs.NetworkLemmas.{greatest_first-insert, partitioned}
use Rattle.rad_auth.proofs.network.add_prefix.Goals as goal

pub returns-then-ne-clause-greatest_first : goal.returns-then-ne-clause-greatest_first
returns-then-ne-clause-greatest_first c =
    let prefixes : List ℕ = c.deref.result.now in
    let place = c.partition_point-place.result in
    let first = rw (← c.deref.ensures.value) at c.requires.greatest_first in
    let point = IsPartitionPoint-from_clause (nat_lt c.args.prefix) prefixes place c.partition_point-place.ensures.partitioned
    (partitioned prefixes c.args.prefix first) (λ a r f k. search (rules, of_calls)) in
    let inserted : c.insert.new.self.items ≡ insert c.args.prefixes.now.items place c.args.prefix = search rules in
    rw (inserted, ← c.deref.ensures.value)
    (greatest_first-insert prefixes place c.args.prefix first c.requires.within c.partition_point-place.ensures.bound point)

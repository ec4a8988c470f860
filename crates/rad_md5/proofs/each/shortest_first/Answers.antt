use Rattle.std.proofs.Common.{◌≡◌, length, arith, ◌∙◌}
use Rattle.std.proofs.lemmas.List.{length-take-le}
use Rattle.rad_md5.proofs.DigestLemmas.{IsCount, each_is_below, each_is_there}
use Rattle.rad_md5.proofs.each.shortest_first.Goals as goal
use Rattle.rad_md5.proofs.each.shortest_first.Goals.{After-sort_unstable_by_key}

-- before they are sorted, the places are the numbers in order
numbers : (c : After-sort_unstable_by_key) → IsCount c.in_order-places.result (length c.args.messages.now)
numbers c = (
  omega (arith, c.requires, c.in_order-places.ensures.all),
  λ k below. c.in_order-places.ensures.each k (omega (arith, below, c.requires)),
)

-- as many are sorted as there are messages
count_sorted : (c : After-sort_unstable_by_key) → length c.sort_unstable_by_key.new.self ≡ length c.args.messages.now
count_sorted c =
    c.sort_unstable_by_key.ensures.len
    ∙ length-take-le (length c.args.messages.now) c.in_order-places.result
    (omega (arith, c.requires, c.in_order-places.ensures.all))

pub returns-clause-every : goal.returns-clause-every
returns-clause-every c =
    let sorted = (goal.at.returns-clause-every c).After-sort_unstable_by_key in
    each_is_there c.in_order-places.result c.sort_unstable_by_key.new.self _ (length c.args.messages.now)
    (numbers sorted) c.sort_unstable_by_key.ensures.permutation (count_sorted sorted)

pub returns-clause-inside : goal.returns-clause-inside
returns-clause-inside c =
    let sorted = (goal.at.returns-clause-inside c).After-sort_unstable_by_key in
    each_is_below c.in_order-places.result c.sort_unstable_by_key.new.self _ (length c.args.messages.now)
    (numbers sorted) c.sort_unstable_by_key.ensures.permutation (count_sorted sorted)

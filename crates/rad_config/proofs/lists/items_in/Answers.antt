use Rattle.std.proofs.Common.{◌≡◌, ◌<◌, ◌≤◌, length, Some, inr, sym, ap, ◌∙◌, arith}
use Rattle.std.specs.Result.{result_ok}
use Rattle.toml.specs.Data.{as_array}
use Rattle.toml.specs.View.{view, items_view}
use Rattle.rad_config.proofs.EntryLemmas.{items_in-many, items_in-few}
use Rattle.rad_config.proofs.lists.items_in.Goals as goal
use Rattle.rad_config.proofs.lists.items_in.Goals.{In_ok-items}

-- the list is an array of the entries
is_array : (c : In_ok-items) → as_array (view c.in-Some.list.now) ≡ Some (items_view c.in_ok-items.items.now.items)
is_array c =
    let found = c.ok_or.ensures.ok_part ∙ ap result_ok c.in_ok-items.was in
    sym (rw found at c.as_array.ensures)

pub returns-then-len-most-clause-read : goal.returns-then-len-most-clause-read
returns-then-len-most-clause-read c =
    let many : c.args.most < length c.in_ok-items.items.now.items = omega (arith, c.in_ok-items.items.now.ok.0) in
    let array = is_array (goal.at.returns-then-len-most-clause-read c).In_ok-items in
    let refused = items_in-many c.args.part c.args.most (view c.in-Some.list.now) c.in_ok-items.items.now.items array many in
    inr (rw (← c.list_at.ensures, c.in-Some.is) refused)

pub returns-clause-read : goal.returns-clause-read
returns-clause-read c =
    let few : length c.in_ok-items.items.now.items ≤ c.args.most = omega (arith, c.in_ok-items.items.now.ok.0) in
    let array = is_array (goal.at.returns-clause-read c).In_ok-items in
    let read = items_in-few c.args.part c.args.most (view c.in-Some.list.now) c.in_ok-items.items.now.items array few in
    rw (← c.list_at.ensures, c.in-Some.is, c.as_slice.ensures.value) read

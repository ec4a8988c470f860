use Rattle.std.proofs.Common.{sym, ◌∙◌}
use Rattle.rad_config.proofs.EntryLemmas.{count_items-view}
use Rattle.rad_check.proofs.named.count_of.Goals as goal

pub returns-in-Some-as_array : goal.returns-in-Some-as_array
returns-in-Some-as_array c =
    rw (c.in-Some.is, ← c.as_array.ensures, c.in-Some-as_array.is, c.len.ensures)
    (c.in-Some-as_array.items.now.ok.0 ∙ sym (count_items-view c.in-Some-as_array.items.now.items))

use Rattle.std.proofs.Common.{◌≡◌, ◌<◌, ◌≤◌, length, Some, inl, inr, refl, sym, ap, ◌∙◌, arith}
use Rattle.std.specs.Result.{result_ok}
use Rattle.std.proofs.lemmas.Bool.{le-ltb, lt-ltb}
use Rattle.toml.specs.Data.{as_array}
use Rattle.toml.specs.View.{view, items_view}
use Rattle.rad_config.specs.Replies.{in_reply}
use Rattle.rad_config.proofs.EntryLemmas.{count_items-view}
use Rattle.rad_config.proofs.read_reply.read_reply.Goals as goal
use Rattle.rad_config.proofs.read_reply.read_reply.Goals.{In_ok-ok_or}

-- the value is an array of the attributes
is_array : (c : In_ok-ok_or) → as_array (view c.in-Some.value.now) ≡ Some (items_view c.in_ok-ok_or.field-0.now.items)
is_array c =
    let found = c.ok_or.ensures.ok_part ∙ ap result_ok c.in_ok-ok_or.was in
    sym (rw found at c.as_array.ensures)

pub returns-then-items-gt-REPLY_MAX-clause-read : goal.returns-then-items-gt-REPLY_MAX-clause-read
returns-then-items-gt-REPLY_MAX-clause-read c =
    let items = c.in_ok-ok_or.field-0.now.items in
    let many : 158 < length items = omega (arith, c.if-items-gt-REPLY_MAX.true, c.as_slice-items.ensures.len) in
    let array = is_array (goal.at.returns-then-items-gt-REPLY_MAX-clause-read c).In_ok-ok_or in
    inr (rw (
      ← c.get.ensures,
      c.in-Some.is,
      array,
      count_items-view items,
      lt-ltb _ _ many,
      c.bad-then-items-gt-REPLY_MAX.ensures,
    ) refl)

pub returns-in-Ok-clause-read : goal.returns-in-Ok-clause-read
returns-in-Ok-clause-read c =
    let items = c.in_ok-ok_or.field-0.now.items in
    let few : length items ≤ 158 = omega (arith, c.if-items-gt-REPLY_MAX.false, c.as_slice-items.ensures.len) in
    let array = is_array (goal.at.returns-in-Ok-clause-read c).In_ok-ok_or in
    rw (
      ← c.get.ensures,
      c.in-Some.is,
      array,
      count_items-view items,
      le-ltb _ _ few,
      ← c.as_slice-items.ensures.value,
      c.in-Ok.ensures.read,
    ) refl

pub returns-in-Err-clause-read : goal.returns-in-Err-clause-read
returns-in-Err-clause-read c =
    let items = c.in_ok-ok_or.field-0.now.items in
    let few : length items ≤ 158 = omega (arith, c.if-items-gt-REPLY_MAX.false, c.as_slice-items.ensures.len) in
    let array = is_array (goal.at.returns-in-Err-clause-read c).In_ok-ok_or in
    elim c.in-Err.ensures.read [
      | inl memory ↦ inl (c.in_reply.ensures ∙ ap (in_reply c.args.entry.now.index) memory)
      | inr refused ↦ inr (rw (
        ← c.get.ensures,
        c.in-Some.is,
        array,
        count_items-view items,
        le-ltb _ _ few,
        ← c.as_slice-items.ensures.value,
        refused,
        c.in_reply.ensures,
      ) refl)
    ]

use Rattle.std.proofs.Common.{rules, tests, sym}
use Rattle.std.specs.Prelude.{not}
use Rattle.std.proofs.lemmas.Iterator.Search.{position_from_yields_List}
use Rattle.std.proofs.lemmas.Iterator.Splits.{YieldsList-from_slice_split}
use Rattle.rad_check.specs.UsersLines.{ends_line, is_other_header, is_skipped}
use Rattle.rad_check.proofs.users_lines.stray_place.Goals as goal

pub returns-then-begins_with_entry : goal.returns-then-begins_with_entry
returns-then-begins_with_entry c =
    rw (sym c.if-begins_with_entry.ensures)
    (position_from_yields_List is_other_header _ _ _ c.position.ensures.ran
    (YieldsList-from_slice_split _ ends_line c.args.text.now c.split.ensures.rest c.split.ensures.done c.split.ensures.closure
    (λ x r q k. search (rules, tests)))
    (λ x b q k. search (rules, tests)))

pub returns-else-begins_with_entry : goal.returns-else-begins_with_entry
returns-else-begins_with_entry c =
    rw (sym c.if-begins_with_entry.ensures)
    (position_from_yields_List (λ line. not (is_skipped line)) _ _ _ c.position-else-begins_with_entry.ensures.ran
    (YieldsList-from_slice_split _ ends_line c.args.text.now c.split-else-begins_with_entry.ensures.rest
    c.split-else-begins_with_entry.ensures.done
    c.split-else-begins_with_entry.ensures.closure (λ x r q k. search (rules, tests)))
    (λ x b q k. search (rules, tests)))

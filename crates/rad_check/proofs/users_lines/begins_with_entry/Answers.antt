use Rattle.std.proofs.Common.{rules, tests, sym}
use Rattle.std.specs.Prelude.{not}
use Rattle.std.proofs.lemmas.Iterator.Search.{find_from_yields_List}
use Rattle.std.proofs.lemmas.Iterator.Splits.{YieldsList-from_slice_split}
use Rattle.rad_check.specs.UsersLines.{ends_line, is_skipped}
use Rattle.rad_check.proofs.users_lines.begins_with_entry.Goals as goal

pub returns-in-Some : goal.returns-in-Some
returns-in-Some c =
    let found = find_from_yields_List (λ line. not (is_skipped line)) _ _ c.find-first.result c.find-first.ensures.ran
    (YieldsList-from_slice_split _ ends_line c.args.text.now c.split.ensures.rest c.split.ensures.done c.split.ensures.closure
    (λ x r q k. search (rules, tests)))
    (λ x b q k. search (rules, tests)) in
    rw (sym found, c.in-Some.is) c.is_entry.ensures

pub returns-in-None : goal.returns-in-None
returns-in-None c =
    let found = find_from_yields_List (λ line. not (is_skipped line)) _ _ c.find-first.result c.find-first.ensures.ran
    (YieldsList-from_slice_split _ ends_line c.args.text.now c.split.ensures.rest c.split.ensures.done c.split.ensures.closure
    (λ x r q k. search (rules, tests)))
    (λ x b q k. search (rules, tests)) in
    rw (sym found, c.in-None.is) (search rules)

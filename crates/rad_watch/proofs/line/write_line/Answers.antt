use Rattle.std.proofs.Common.{◌≡◌, ◌++◌, OnOk, codes}
use Rattle.std.proofs.lemmas.Result.{on_ok_weaker}
use Rattle.rad_watch.specs.Events.{Event, seen}
use Rattle.rad_watch.specs.LogLines.{line_head, log_line, origin_fields, repeat_fields, session_fields}
use Rattle.rad_watch.proofs.LineLemmas.{five_parts}
use Rattle.rad_watch.proofs.line.write_line.Goals as goal

pub returns : goal.returns
returns c =
    let event : Event = seen c.args.event.now in
    let before = c.args.text.now.items in
    let counted = c.write_repeat.new.text.items in
    let after = c.push_octets.new.text.items in
    let ended : OnOk c.push_octets.result (after ≡ counted ++ codes "\n") = c.push_octets.ensures in
    on_ok_weaker {P = after ≡ counted ++ codes "\n"} {Q = after ≡ before ++ log_line c.args.time.now event} c.push_octets.result
    (five_parts before (line_head c.args.time.now event) (origin_fields event) (session_fields event) (repeat_fields event)
    (codes "\n")
    _ _ _ _ _ c.in_ok-write_head.ensures c.in_ok-write_origin.ensures c.in_ok-write_session.ensures
    c.in_ok-write_repeat.ensures) ended

use Rattle.std.proofs.Common.{length, ap, arith}
use Rattle.rad_text.specs.Lines.{datagram_lines, lines_of}
use Rattle.rad_replay.proofs.RunLemmas.{few_lines, read_all, is_all_read, is_input, ends_run, ends_config, for_input}
use Rattle.rad_replay.proofs.replay.run_replay.Goals as goal

pub returns-in-Err-clause-ends : goal.returns-in-Err-clause-ends
returns-in-Err-clause-ends g c =
    let read = read_all _ _ c.in_ok-text.text.items c.in_ok-text.ensures.read c.in_ok-text.ensures.end in
    for_input _ c.in_ok-text.text.items _ read
    (ends_config c.in_ok-text.text.items c.deref.result.now c.in-Some.configuration.now c.in-Some.datagrams.now c.in-Err.fault _
    c.in_ok-text.ensures.short c.deref.ensures.value c.in-Some.ensures c.in-Err.ensures)

pub answer_lines-requires : goal.answer_lines-requires
answer_lines-requires g c = omega (
  arith,
  few_lines c.deref.result.now c.in-Some.configuration.now c.in-Some.datagrams.now c.in-Some.ensures,
  c.in_ok-text.ensures.short,
  ap length c.deref.ensures.value,
)

pub returns-clause-ends : goal.returns-clause-ends
returns-clause-ends g c =
    let read = read_all _ _ c.in_ok-text.text.items c.in_ok-text.ensures.read c.in_ok-text.ensures.end in
    let parts = rw c.deref.ensures.value at c.in-Some.ensures in
    let input = is_input c.in_ok-text.text.items c.in-Some.configuration.now c.in-Some.datagrams.now c.in-Ok.config
    c.in_ok-text.ensures.short parts c.in-Ok.ensures in
    for_input _ c.in_ok-text.text.items _ read
    (ends_run c.in_ok-text.text.items c.in-Ok.config (datagram_lines (lines_of c.in-Some.datagrams.now)) _ _ c.answer_lines.result
    input c.answer_lines.ensures)

pub returns-in-Err-clause-all_read : goal.returns-in-Err-clause-all_read
returns-in-Err-clause-all_read g c =
    λ after. is_all_read _ _ c.in_ok-text.text.items c.in_ok-text.ensures.read c.in_ok-text.ensures.end

pub returns-clause-all_read : goal.returns-clause-all_read
returns-clause-all_read g c = λ after. is_all_read _ _ c.in_ok-text.text.items c.in_ok-text.ensures.read c.in_ok-text.ensures.end

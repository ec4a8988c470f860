use Rattle.std.proofs.Common.{[], ◌++◌, length, refl, ap, ◌∙◌, arith}
use Rattle.std.proofs.lemmas.Result.{err_from_is_err_and}
use Rattle.rad_replay.proofs.TranscriptLemmas.{begins, goes_on, ends, ends_at_write, ends_broken_off, ends_malformed, Appends-nil}
use Rattle.rad_replay.proofs.TranscriptLemmas.{Appends-then}
use Rattle.rad_replay.proofs.replay.answer_lines.Goals as goal

pub loop-line-init : goal.loop-line-init
loop-line-init g c = (
  [],
  rw (c.new-lines.ensures, c.in-Ok.ensures.state) (begins c.args.config.now _),
  Appends-nil _,
  c.in-Ok.ensures.configuration,
  refl,
  omega (arith, ap length c.new-lines.ensures),
)

pub returns-in_default-read_datagram_line : goal.returns-in_default-read_datagram_line
returns-in_default-read_datagram_line g c =
    let inv = c.loop-line.invariant in
    let so_far = rw c.in-Some.ensures.steps at inv.1 in
    ends_malformed c.args.config.now _ c.next.new.self c.in-Some.line.now c.loop-line.number c.loop-line.replay.state inv.0 _ _
    so_far c.in_default-read_datagram_line.ensures.datagram inv.2

pub loop-line-preserved : goal.loop-line-preserved
loop-line-preserved g c =
    let inv = c.loop-line.invariant in
    let so_far = rw c.in-Some.ensures.steps at inv.1 in
    let answered = rw inv.3 at c.answer.ensures.line in
    let text = goes_on c.args.config.now _ c.next.new.self c.in-Some.line.now c.loop-line.number c.loop-line.replay.state
    c.answer.new.self.state inv.0 c.answer.new.self.line _ so_far c.in-Some-read_datagram_line.ensures.datagram answered in
    let written = rw c.line.ensures at c.in_ok-write_line.ensures.written in (
      inv.0 ++ c.answer.new.self.line,
      text,
      Appends-then _ _ _ inv.0 c.answer.new.self.line inv.2 written,
      c.answer.ensures.configuration ∙ inv.3,
      omega (arith, c.read_datagram_line.auto.octets, inv.4),
      omega (arith, inv.5, ap length c.in-Some.ensures.steps),
    )

pub returns : goal.returns
returns g c =
    let inv = c.loop-line.invariant in
    ends c.args.config.now _ c.loop-line.lines c.loop-line.number c.loop-line.replay.state inv.0 _ _ inv.1
    c.in_default.ensures.steps.0 inv.2

pub returns-in_err-write_line : goal.returns-in_err-write_line
returns-in_err-write_line g c =
    let inv = c.loop-line.invariant in
    let so_far = rw c.in-Some.ensures.steps at inv.1 in
    let answered = rw inv.3 at c.answer.ensures.line in
    let text = goes_on c.args.config.now _ c.next.new.self c.in-Some.line.now c.loop-line.number c.loop-line.replay.state
    c.answer.new.self.state inv.0 c.answer.new.self.line _ so_far c.in-Some-read_datagram_line.ensures.datagram answered in
    let broken = ends_broken_off c.args.config.now _ c.next.new.self _ c.answer.new.self.state inv.0 c.answer.new.self.line _ _ _ _
    text inv.2 c.line.ensures c.in_err-write_line.ensures.broken_off in
    let p = err_from_is_err_and c.from_residual.result c.from_residual.ensures.1 in
    rw (p.1, p.2) (ends_at_write _ _ _ _ _ c.in_err-write_line.ensures.fault broken)

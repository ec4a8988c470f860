use Rattle.std.proofs.Common.{◌≡◌, ◌⊎◌, ◌++◌, ◌∙◌, List, refl, subst, sym, ap}
use Rattle.rad_server.specs.Runs.{fresh_of}
use Rattle.rad_server.specs.Servers.{Server}
use Rattle.rad_journal.specs.Journals.{added}
use Rattle.rad_journal.specs.Kept.{kept_of}
use Rattle.rad_journal.specs.declared.kept.Kept.{Kept}
use Rattle.rad_shell.proofs.PassageLemmas.{has_drawn}
use Rattle.rad_shell.proofs.ServingLemmas.{IsCommitted, cut_short, idle_turn, lost_turn, made_turn, same_fresh, unkept_turn}
use Rattle.rad_shell.proofs.ServingLemmas.{unsent_turn}
use Rattle.rad_shell.specs.Serving.{AddTurn, IsRoundMade, came_in, exchange_count, replied_count}
use Rattle.rad_shell.proofs.turns.Turns.make_turn.Goals as goal

pub returns-in_default-clause-turn : goal.returns-in_default-clause-turn
returns-in_default-clause-turn g c =
    idle_turn _ _ _ _ _ _ _ _ _ _ c.wait.ensures.passed c.pause.ensures.passed (ap (λ r. g.D.Rng.stream r.now) c.take_room.ensures)
    refl c.add_lost.ensures

pub returns-then-is_err-clause-turn : goal.returns-then-is_err-clause-turn
returns-then-is_err-clause-turn g c =
    cut_short _ _ _ _ _ c.receive.result _ _ _ _ _ (sym c.if-is_err.ensures.value) c.wait.ensures.passed c.receive.ensures.passed
    (ap (λ r. g.D.Rng.stream r.now) c.take_room.ensures) refl

pub returns-in_default-answer-clause-turn : goal.returns-in_default-answer-clause-turn
returns-in_default-answer-clause-turn g c =
    let has = has_drawn _ _ _ _ _ c.receive.result _ _ _ _ _ _ (sym c.if-is_err.ensures.value) c.wait.ensures.passed
    c.receive.ensures.passed (ap (λ r. g.D.Rng.stream r.now) c.take_room.ensures)
    c.draw.ensures.got c.draw.ensures.octets c.draw.new.self.got.ok.0 c.draw.ensures.drawn c.draw.ensures.rest in
    lost_turn _ _ _ _ _ _ _ _ _ _ _ _ has c.pause-in_default-answer.ensures.passed c.in_default-answer.ensures.lost
    c.add_lost-in_default-answer.ensures

pub returns-clause-turn : goal.returns-clause-turn
returns-clause-turn g c =
    let has = has_drawn _ _ _ _ _ c.receive.result _ _ _ _ _ _ (sym c.if-is_err.ensures.value) c.wait.ensures.passed
    c.receive.ensures.passed (ap (λ r. g.D.Rng.stream r.now) c.take_room.ensures)
    c.draw.ensures.got c.draw.ensures.octets c.draw.new.self.got.ok.0 c.draw.ensures.drawn c.draw.ensures.rest in
    let made = c.in-Some-answer.made in
    let J = g.J.Journal in
    let fresh = same_fresh c.clock-clock.result c.args.service.now.state.clock c.deref-2.result.now made.done.history.items
    c.deref-3.result.now made.marks.items
    (c.clock-clock.ensures ∙ ap (λ (s : Server). s.state.clock) c.server.ensures) c.deref-2.ensures.value c.deref-3.ensures.value in
    let committed : J.is_clean c.commit.new.journal
    → IsCommitted (added J.keeps (kept_of c.wall-wall.result
    (fresh_of c.args.service.now.state.clock made.done.history.items made.marks.items)))
    (J.kept c.args.journal.now) (J.kept c.commit.new.journal) (J.may_leave c.args.journal.now) (J.may_leave c.commit.new.journal) =
    λ is_clean. subst
    (λ list. IsCommitted (added J.keeps (kept_of c.wall-wall.result list)) (J.kept c.args.journal.now) (J.kept c.commit.new.journal)
    (J.may_leave c.args.journal.now) (J.may_leave c.commit.new.journal)) fresh
    (record { now = c.in_default-commit.ensures.kept is_clean; crash = c.in_default-commit.ensures.crash is_clean }) in
    made_turn _ _ _ _ _ made.done.outcomes.items c.deref-4.result.now made.done.history.items made.marks.items c.wall-wall.result _
    c.reply-sent.result _ _ _ _ _ _ _ _
    (sym c.if-is_err-2.ensures.value) has
    (subst (λ server. IsRoundMade c.args.service.now (came_in c.draw.new.self.got.items c.draw.new.self.octets.items)
    c.draw.new.self.draws.items
    made.done.outcomes.items made.done.history.items made.marks.items server) (sym c.reuse.ensures) c.in-Some-answer.ensures.made)
    c.deref-4.ensures.value c.reply-sent.ensures.sent
    (subst (λ list. AddTurn (exchange_count list) (replied_count list) 0 c.args.served.now c.add_outcomes.new.self)
    c.deref.ensures.value c.add_outcomes.ensures)
    committed

pub returns-then-is_err-2-clause-turn : goal.returns-then-is_err-2-clause-turn
returns-then-is_err-2-clause-turn g c =
    let has = has_drawn _ _ _ _ _ c.receive.result _ _ _ _ _ _ (sym c.if-is_err.ensures.value) c.wait.ensures.passed
    c.receive.ensures.passed (ap (λ r. g.D.Rng.stream r.now) c.take_room.ensures)
    c.draw.ensures.got c.draw.ensures.octets c.draw.new.self.got.ok.0 c.draw.ensures.drawn c.draw.ensures.rest in
    let made = c.in-Some-answer.made in
    let J = g.J.Journal in
    let fresh = same_fresh c.clock-clock.result c.args.service.now.state.clock c.deref-2.result.now made.done.history.items
    c.deref-3.result.now made.marks.items
    (c.clock-clock.ensures ∙ ap (λ (s : Server). s.state.clock) c.server.ensures) c.deref-2.ensures.value c.deref-3.ensures.value in
    let committed : J.is_clean c.commit.new.journal
    → IsCommitted (added J.keeps (kept_of c.wall-wall.result
    (fresh_of c.args.service.now.state.clock made.done.history.items made.marks.items)))
    (J.kept c.args.journal.now) (J.kept c.commit.new.journal) (J.may_leave c.args.journal.now) (J.may_leave c.commit.new.journal) =
    λ is_clean. subst
    (λ list. IsCommitted (added J.keeps (kept_of c.wall-wall.result list)) (J.kept c.args.journal.now) (J.kept c.commit.new.journal)
    (J.may_leave c.args.journal.now) (J.may_leave c.commit.new.journal)) fresh
    (record { now = c.in_default-commit.ensures.kept is_clean; crash = c.in_default-commit.ensures.crash is_clean }) in
    unsent_turn _ _ _ _ _ made.done.outcomes.items c.deref-4.result.now made.done.history.items made.marks.items c.wall-wall.result
    _ c.reply-sent.result _ _ _ _ _ _ _
    (sym c.if-is_err-2.ensures.value) has c.in-Some-answer.ensures.made c.deref-4.ensures.value c.reply-sent.ensures.sent committed

pub returns-in-Err-clause-turn : goal.returns-in-Err-clause-turn
returns-in-Err-clause-turn g c =
    let has = has_drawn _ _ _ _ _ c.receive.result _ _ _ _ _ _ (sym c.if-is_err.ensures.value) c.wait.ensures.passed
    c.receive.ensures.passed (ap (λ r. g.D.Rng.stream r.now) c.take_room.ensures)
    c.draw.ensures.got c.draw.ensures.octets c.draw.new.self.got.ok.0 c.draw.ensures.drawn c.draw.ensures.rest in
    let made = c.in-Some-answer.made in
    let J = g.J.Journal in
    let fresh = same_fresh c.clock-clock.result c.args.service.now.state.clock c.deref-2.result.now made.done.history.items
    c.deref-3.result.now made.marks.items
    (c.clock-clock.ensures ∙ ap (λ (s : Server). s.state.clock) c.server.ensures) c.deref-2.ensures.value c.deref-3.ensures.value in
    let crash : J.is_clean c.commit.new.journal → (left : List Kept) → J.may_leave c.commit.new.journal left
    → J.may_leave c.args.journal.now left
    ⊎ (left ≡ J.kept c.args.journal.now
    ++ added J.keeps (kept_of c.wall-wall.result
    (fresh_of c.args.service.now.state.clock made.done.history.items made.marks.items))) =
    λ is_clean. subst
    (λ list. (left : List Kept) → J.may_leave c.commit.new.journal left
    → J.may_leave c.args.journal.now left
    ⊎ (left ≡ J.kept c.args.journal.now ++ added J.keeps (kept_of c.wall-wall.result list))) fresh
    (c.in-Err.ensures.crash is_clean) in
    unkept_turn _ _ _ _ _ made.done.outcomes.items made.done.history.items made.marks.items c.wall-wall.result c.in-Err.fault _ _ _
    _ _ _ _
    has c.in-Some-answer.ensures.made c.in-Err.ensures.keeps crash

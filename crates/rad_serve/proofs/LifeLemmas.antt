-- A life, from the server that was restored to what a crash leaves of it, goes on with the one run.
use Rattle.std.proofs.Common.{◌≡◌, ◌≤◌, ◌⊎◌, ℕ, Bool, false, List, [], ◌∷◌, ◌++◌, map, All, Contains, Option, Some, None, IfSome}
use Rattle.std.proofs.Common.{OnOk, Result, Ok, Err, IsTrue, is_err, inl, inr, refl, sym, ap, subst, ◌∙◌, ⊎_elim}
use Rattle.std.proofs.lemmas.List.{append-nil, append_assoc}
use Rattle.std.proofs.lemmas.List.Elements.{All-append, All-contains_itself, All-nil, All-weaker, Contains-append_left}
use Rattle.std.proofs.lemmas.List.Elements.{Contains-append_right}
use Rattle.rad_config.specs.Configurations.{Configuration}
use Rattle.rad_config.specs.Ranges.{IsConfiguration}
use Rattle.rad_config.specs.Spans.{moment_max}
use Rattle.rad_server.specs.Lawful.{IsLawful, PassingKeepsTheLaw}
use Rattle.rad_server.specs.Runs.{FreshAreEnough, IsLikeFromNow, LikeAfterTime, MarkedRun, Run, RunsAreLawful, fresh_of}
use Rattle.rad_server.specs.Servers.{Server}
use Rattle.rad_server.specs.States.{State, opening, when_passed}
use Rattle.rad_server.specs.declared.entry.Entry.{Entry}
use Rattle.rad_round.specs.declared.outcome.Outcome.{Outcome}
use Rattle.rad_journal.specs.Kept.{kept_of}
use Rattle.rad_journal.specs.Restores.{AreKept, IsRestored, RepliedAreKept}
use Rattle.rad_journal.specs.declared.kept.Kept.{Kept}
use Rattle.rad_journal.proofs.RefusalLemmas.{one_next}
use Rattle.rad_shell.specs.Passages.{Came, Fault, HavePassed, In, Passage, Went, clock_told}
use Rattle.rad_shell.specs.Serving.{AreTurns, IsAnswered, IsBetween, IsMade, IsTurn, Situation, Tally, between, came_of, ended}
use Rattle.rad_shell.specs.Serving.{no_turn, nothing_done, one_more, passages, replies, with_turn}
use Rattle.rad_shell.specs.declared.serve_fault.ServeFault.{ServeFault}
use Rattle.rad_shell.specs.declared.serve_fault.ServeFault.TheVariants as faults
use Rattle.rad_shell.proofs.KeepingLemmas.{all_added}
use Rattle.rad_shell.proofs.PassageLemmas.{both_passed, none_passed}
use Rattle.rad_serve.specs.Calls.{AreCalls, MadeCalls, cannot_begin, next_call, no_call}
use Rattle.rad_state.specs.Generations.{Generation, fresh_server, just_begun}
use Rattle.rad_serve.specs.Lives.{IsLeft, IsOneRun, IsReached, IsReplyIn, IsRunFrom, LivesAreOneRun, by_carrying, by_run, fresh}
use Rattle.rad_serve.specs.Lives.{marked_of, went_among, went_since}
use Rattle.rad_serve.proofs.RepliedLemmas.{all_first, all_since, among_both, among_in, among_told, among_turn, replies_in}
use Rattle.rad_serve.proofs.RepliedLemmas.{since_both}
use Rattle.rad_serve.proofs.ServesLemmas.{all_counted, kept_append, marked_counted, marked_run, reply_in_counted, reply_in_first}
use Rattle.rad_serve.proofs.ServesLemmas.{reply_in_later, serves_append, serves_counted}

-- the laws that this rests on
pub record AreLaws : Type 0 where
  pub fresh : FreshAreEnough
  pub runs : RunsAreLawful
  pub passing : PassingKeepsTheLaw
  pub time : LikeAfterTime
  pub replied : RepliedAreKept

-- ---- what is kept leads to one state

one_state : (configuration : Configuration) (before : State) (kept : List Kept) (first second : List Entry) (one two : State)
    → Run configuration before first one → AreKept first kept → Run configuration before second two → AreKept second kept
    → one ≡ two
one_state configuration before kept [] [] one two here a_are there b_are = sym here ∙ there
one_state configuration before [] [] (entry ∷ second) one two here a_are there b_are = absurd b_are
one_state configuration before (this ∷ kept) [] (entry ∷ second) one two here a_are there b_are = absurd a_are
one_state configuration before [] (entry ∷ first) second one two here a_are there b_are = absurd a_are
one_state configuration before (this ∷ kept) (entry ∷ first) [] one two here a_are there b_are = absurd b_are
one_state configuration before (this ∷ kept) (a ∷ first) (b ∷ second) one two here a_are there b_are =
    let same : there.0 ≡ here.0 = one_next configuration before this b a there.0 here.0 there.1 b_are.0 here.1 a_are.0 in
    one_state configuration here.0 kept first second one two here.2 a_are.1
    (subst (λ s. Run configuration s second two) same there.2) b_are.1

-- ---- where a life stands

-- All that was kept and sent is one run, and the server's state is like the one that it leads to, from now on.
pub record StandsAt (base : Server) (kept : List Kept) (sent : List Went) (server : Server) : Type 0 where
  pub run : IsRunFrom base kept sent
  pub like : IsLikeFromNow server.state run.state
  pub configured : server.configuration ≡ base.configuration
  pub lawful : IsLawful base.configuration server.state

-- the same kept and sent, otherwise written
run_as : (base : Server) (kept kept_now : List Kept) (sent sent_now : List Went) → kept ≡ kept_now → sent ≡ sent_now
    → IsRunFrom base kept sent → IsRunFrom base kept_now sent_now
run_as base kept kept_now sent sent_now same as_well run =
    subst (λ s. IsRunFrom base kept_now s) as_well (subst (λ k. IsRunFrom base k sent) same run)

stands_as : (base : Server) (kept kept_now : List Kept) (sent sent_now : List Went) (server : Server) → kept ≡ kept_now
    → sent ≡ sent_now
    → StandsAt base kept sent server → StandsAt base kept_now sent_now server
stands_as base kept kept_now sent sent_now server same as_well stands =
    subst (λ s. StandsAt base kept_now s server) as_well (subst (λ k. StandsAt base k sent server) same stands)

-- a server that was restored has the state of the run
restored_like : (base server : Server) (kept : List Kept) (sent : List Went) → IsRestored base kept server
    → (run : IsRunFrom base kept sent)
    → IsLikeFromNow server.state run.state
restored_like base server kept sent restored run =
    let marked = marked_run base.configuration base.state run.history run.marks run.state run.serves in
    let same : server.state ≡ run.state =
    one_state base.configuration base.state kept restored.history (marked_of run.history run.marks) server.state run.state
    restored.run restored.are_kept marked run.kept in
    subst (IsLikeFromNow server.state) same (λ moment le. refl)

-- a server that was restored
restored_stands : (base server : Server) (kept : List Kept) (sent : List Went) → server.configuration ≡ base.configuration
    → IsLawful server.configuration server.state → IsRestored base kept server → IsRunFrom base kept sent
    → StandsAt base kept sent server
restored_stands base server kept sent configured lawful restored run =
    record {
      run = run;
      like = restored_like base server kept sent restored run;
      configured = configured;
      lawful = subst (λ c. IsLawful c server.state) configured lawful;
    }

-- ---- a round

-- a marked run from where a life stands, of which some replies went
run_stands : AreLaws → (base : Server) (kept : List Kept) (sent : List Went) (before : Server) (history : List Entry)
    (marks : List Bool)
    (wall : ℕ) (went : List Went) (after : Server) → IsConfiguration base.configuration → StandsAt base kept sent before
    → MarkedRun base.configuration before.state history marks after.state → after.configuration ≡ base.configuration
    → All (IsReplyIn base.configuration.clients history) went
    → StandsAt base (kept ++ kept_of wall (fresh_of before.state.clock history marks)) (sent ++ went) after
run_stands laws base kept sent before history marks wall went after valid stands marked configured replied =
    let so_far = stands.run in
    let clock : ℕ = before.state.clock in
    let more = serves_counted laws.fresh laws.runs base.configuration before.state after.state so_far.state history marks valid
    stands.lawful marked
    stands.like in
    let fresh : List Entry = fresh_of clock history marks in
    let alike = laws.fresh base.configuration before.state after.state before.state history marks valid stands.lawful marked
    (λ moment le. refl) in
    let are_fresh : AreKept fresh (kept_of wall fresh) = laws.replied wall fresh alike.replied in
    let are_marked : AreKept (marked_of (all_counted clock history) marks) (kept_of wall fresh) =
    subst (λ list. AreKept list (kept_of wall fresh)) (sym (marked_counted clock history marks)) are_fresh in
    let whole : List Entry = so_far.history ++ all_counted clock history in
    record {
      run = record {
        history = whole;
        marks = so_far.marks ++ marks;
        state = more.state;
        serves = serves_append base.configuration base.state so_far.state more.state so_far.history so_far.marks
            (all_counted clock history) marks so_far.serves more.serves;
        kept = kept_append base.configuration base.state so_far.state so_far.history so_far.marks kept
            (all_counted clock history) marks
            (kept_of wall fresh) so_far.serves so_far.kept are_marked;
        replied = All-append (IsReplyIn base.configuration.clients whole) sent went
            (All-weaker (IsReplyIn base.configuration.clients so_far.history) (IsReplyIn base.configuration.clients whole)
            (λ one is. reply_in_first base.configuration.clients so_far.history (all_counted clock history) one is) sent
            so_far.replied)
            (All-weaker (IsReplyIn base.configuration.clients history) (IsReplyIn base.configuration.clients whole)
            (λ one is. reply_in_later base.configuration.clients so_far.history (all_counted clock history) one
            (reply_in_counted base.configuration.clients clock history one is))
            went replied);
      };
      like = more.like;
      configured = configured;
      lawful = lawful_after base.configuration before.state history marks after.state valid stands.lawful marked;
    }
  where
    plain : (configuration : Configuration) (before : State) (history : List Entry) (marks : List Bool) (after : State)
        → MarkedRun configuration before history marks after → Run configuration before history after
    plain configuration before [] [] after run = run
    plain configuration before [] (mark ∷ marks) after run = absurd run
    plain configuration before (entry ∷ rest) [] after run = absurd run
    plain configuration before (entry ∷ rest) (mark ∷ marks) after run = (
      run.0,
      record { request = run.1.request; asked = run.1.asked; answered = run.1.answered; session = run.1.session },
      plain configuration run.0 rest marks after run.2,
    )

    lawful_after : (configuration : Configuration) (before : State) (history : List Entry) (marks : List Bool) (after : State)
        → IsConfiguration configuration
        → IsLawful configuration before → MarkedRun configuration before history marks after → IsLawful configuration after
    lawful_after configuration before history marks after valid lawful run =
        laws.runs configuration before history valid lawful history [] after (append-nil history)
        (plain configuration before history marks after run)

-- a round from where a life stands, of which the first replies went
round_stands : AreLaws → (keeps : Bool) (base : Server) (kept : List Kept) (sent : List Went) (before after : Situation)
    (came : List Came)
    (outcomes : List Outcome) (history : List Entry) (more : List Kept) (went left : List Went) → IsTrue keeps
    → IsConfiguration base.configuration
    → StandsAt base kept sent before.server → IsAnswered keeps before came outcomes history more after
    → went ++ left ≡ replies came outcomes
    → StandsAt base (kept ++ more) (sent ++ went) after.server
round_stands laws keeps base kept sent before after came outcomes history more went left is valid stands answered replied =
    let all : All (IsReplyIn before.server.configuration.clients history) (replies (map came_of answered.arrivals) outcomes) =
    replies_in before.server.configuration.clients history answered.arrivals outcomes answered.round.answered in
    let some : All (IsReplyIn before.server.configuration.clients history) went =
    all_first (IsReplyIn before.server.configuration.clients history) went left
    (subst (All (IsReplyIn before.server.configuration.clients history))
    (ap (λ list. replies list outcomes) answered.arrived ∙ sym replied) all) in
    let same : kept_of answered.wall (fresh_of before.server.state.clock history answered.marks) ≡ more =
    sym (answered.fresh ∙ all_added keeps _ is) in
    stands_as base (kept ++ kept_of answered.wall (fresh_of before.server.state.clock history answered.marks)) (kept ++ more)
    (sent ++ went)
    (sent ++ went) after.server (ap (λ list. kept ++ list) same) refl
    (run_stands laws base kept sent before.server history answered.marks answered.wall went after.server valid stands
    (subst (λ c. MarkedRun c before.server.state history answered.marks after.server.state) stands.configured answered.marked.run)
    (answered.marked.configuration ∙ stands.configured)
    (subst (λ c. All (IsReplyIn c.clients history) went) stands.configured some))

-- ---- turns

-- Turns came to this without a failure of the journal: all that they kept and sent is in the run.
record GoesOn (base : Server) (kept : List Kept) (sent : List Went) (passed : Option (List Passage)) (tally : Tally)
    (after : Situation)
    : Type 0 where
  gone : List Passage
  have_passed : HavePassed gone passed after.passed
  stands : StandsAt base (kept ++ tally.kept) (sent ++ went_among gone) after.server
  settled : tally.unkept ≡ []

-- Turns came to this, whether or not the journal failed: whatever a crash leaves is one run with all that they sent.
record LeavesOneRun (base : Server) (kept : List Kept) (sent : List Went) (passed : Option (List Passage)) (tally : Tally)
    (passed_after : Option (List Passage)) : Type 0 where
  gone : List Passage
  have_passed : HavePassed gone passed passed_after
  without : IsRunFrom base (kept ++ tally.kept) (sent ++ went_among gone)
  with_last : IsRunFrom base (kept ++ (tally.kept ++ tally.unkept)) (sent ++ went_among gone)

leaves_settled : (base : Server) (kept : List Kept) (sent : List Went) (passed : Option (List Passage)) (tally : Tally)
    (after : Situation)
    → GoesOn base kept sent passed tally after → LeavesOneRun base kept sent passed tally after.passed
leaves_settled base kept sent passed tally after on = record {
  gone = on.gone;
  have_passed = on.have_passed;
  without = on.stands.run;
  with_last = run_as base (kept ++ tally.kept) (kept ++ (tally.kept ++ tally.unkept)) (sent ++ went_among on.gone)
      (sent ++ went_among on.gone)
      (ap (λ list. kept ++ list) (sym (append-nil tally.kept) ∙ ap (λ list. tally.kept ++ list) (sym on.settled))) refl
      on.stands.run;
}

-- how turns end, by their result
abbrev Ends : Server → List Kept → List Went → Option (List Passage) → Tally → Result (Unit {0}) ServeFault → Situation → Type 0
Ends base kept sent passed tally (Ok done) after = GoesOn base kept sent passed tally after
Ends base kept sent passed tally (Err fault) after = LeavesOneRun base kept sent passed tally after.passed

ends_one_run : (base : Server) (kept : List Kept) (sent : List Went) (passed : Option (List Passage)) (tally : Tally)
    (result : Result (Unit {0}) ServeFault) (after : Situation) → Ends base kept sent passed tally result after
    → LeavesOneRun base kept sent passed tally after.passed
ends_one_run base kept sent passed tally (Ok done) after ends = leaves_settled base kept sent passed tally after ends
ends_one_run base kept sent passed tally (Err fault) after ends = ends

-- nothing is sent, and the server is as it was
idle_goes_on : (base : Server) (kept : List Kept) (sent : List Went) (before : Situation) (gone : List Passage) (tally : Tally)
    (after : Situation)
    → StandsAt base kept sent before.server → HavePassed gone before.passed after.passed → went_among gone ≡ []
    → after.server ≡ before.server
    → tally.kept ≡ [] → tally.unkept ≡ [] → GoesOn base kept sent before.passed tally after
idle_goes_on base kept sent before gone tally after stands passed none same kept_none unkept_none = record {
  gone = gone;
  have_passed = passed;
  stands = subst (StandsAt base (kept ++ tally.kept) (sent ++ went_among gone)) (sym same)
      (stands_as base kept (kept ++ tally.kept) sent (sent ++ went_among gone) before.server
      (sym (append-nil kept) ∙ ap (λ list. kept ++ list) (sym kept_none))
      (sym (append-nil sent) ∙ ap (λ list. sent ++ list) (sym none)) stands);
  settled = unkept_none;
}

-- a round is made and kept, and some replies of it went
made_goes_on : AreLaws → (keeps : Bool) (base : Server) (kept : List Kept) (sent : List Went) (before : Situation) (tally : Tally)
    (left : List Went) (after : Situation) → IsTrue keeps → IsConfiguration base.configuration
    → StandsAt base kept sent before.server
    → IsMade keeps before tally.history tally.kept left after → tally.unkept ≡ [] → GoesOn base kept sent before.passed tally after
made_goes_on laws keeps base kept sent before tally left after is valid stands made none = record {
  gone = passages made.came made.went left;
  have_passed = made.passed;
  stands = stands_as base (kept ++ tally.kept) (kept ++ tally.kept) (sent ++ made.went)
      (sent ++ went_among (passages made.came made.went left)) after.server refl
      (ap (λ list. sent ++ list) (sym (among_turn made.came made.went left)))
      (round_stands laws keeps base kept sent before after made.came made.outcomes tally.history tally.kept made.went left is valid
      stands made.answered made.replied);
  settled = none;
}

turn_ends : AreLaws → (keeps : Bool) (base : Server) (kept : List Kept) (sent : List Went) (before : Situation) (tally : Tally)
    (result : Result (Unit {0}) ServeFault) (after : Situation) → IsTrue keeps → IsConfiguration base.configuration
    → StandsAt base kept sent before.server
    → IsTurn keeps before tally result after → Ends base kept sent before.passed tally result after
turn_ends laws keeps base kept sent before tally (Ok done) after is valid stands turn = ⊎_elim
    (λ made. made_goes_on laws keeps base kept sent before tally [] after is valid stands made.0 made.2)
    (λ lost. ⊎_elim
    (λ one. idle_goes_on base kept sent before (passages one.came [] []) tally after stands one.passed
    (among_turn one.came [] []) one.server
    (ap (λ (t : Tally). t.kept) lost.1) (ap (λ (t : Tally). t.unkept) lost.1))
    (λ one. idle_goes_on base kept sent before [] tally after stands one.passed refl one.server
    (ap (λ (t : Tally). t.kept) lost.1) (ap (λ (t : Tally). t.unkept) lost.1))
    lost.0)
    turn
turn_ends laws keeps base kept sent before tally (Err faults.Receive) after is valid stands turn =
    leaves_settled base kept sent before.passed tally after
    (idle_goes_on base kept sent before (map In turn.0.came ++ Fault ∷ []) tally after stands turn.0.passed (among_in turn.0.came
    (Fault ∷ []))
    turn.0.server (ap (λ (t : Tally). t.kept) turn.1) (ap (λ (t : Tally). t.unkept) turn.1))
turn_ends laws keeps base kept sent before tally (Err faults.Send) after is valid stands turn =
    leaves_settled base kept sent before.passed tally after
    (made_goes_on laws keeps base kept sent before tally (turn.0 ∷ turn.1) after is valid stands turn.2 turn.4)
turn_ends laws keeps base kept sent before tally (Err faults.Mismatch) after is valid stands turn = absurd turn
turn_ends laws keeps base kept sent before tally (Err (faults.Journal fault)) after is valid stands turn =
    let unkept = turn.0 in
    let none : went_among (passages unkept.came [] []) ≡ [] = among_turn unkept.came [] [] in
    let same : sent ≡ sent ++ went_among (passages unkept.came [] []) =
    sym (append-nil sent) ∙ ap (λ list. sent ++ list) (sym none) in
    let lasts = round_stands laws keeps base kept sent before after unkept.came unkept.outcomes tally.history tally.unkept []
    (replies unkept.came unkept.outcomes) is valid stands unkept.answered refl in
    record {
      gone = passages unkept.came [] [];
      have_passed = unkept.passed;
      without = run_as base kept (kept ++ tally.kept) sent (sent ++ went_among (passages unkept.came [] []))
          (sym (append-nil kept) ∙ ap (λ list. kept ++ list) (sym turn.2)) same stands.run;
      with_last = run_as base (kept ++ tally.unkept) (kept ++ (tally.kept ++ tally.unkept)) (sent ++ [])
          (sent ++ went_among (passages unkept.came [] []))
          (ap (λ list. kept ++ (list ++ tally.unkept)) (sym turn.2)) (ap (λ list. sent ++ list) (sym none)) lasts.run;
    }

-- ---- one after another

-- turns that went well, and what follows them
then_ends : (base : Server) (kept : List Kept) (sent : List Went) (passed : Option (List Passage)) (leads : Option ℕ)
    (tally more : Tally)
    (middle : Situation) (result : Result (Unit {0}) ServeFault) (after : Situation)
    → (first : GoesOn base kept sent passed tally middle)
    → Ends base (kept ++ tally.kept) (sent ++ went_among first.gone) middle.passed more result after
    → Ends base kept sent passed (with_turn leads tally more) result after
then_ends base kept sent passed leads tally more middle (Ok done) after first next = record {
  gone = first.gone ++ next.gone;
  have_passed = both_passed first.gone next.gone passed middle.passed after.passed first.have_passed next.have_passed;
  stands = stands_as base ((kept ++ tally.kept) ++ more.kept) (kept ++ (tally.kept ++ more.kept))
      ((sent ++ went_among first.gone) ++ went_among next.gone) (sent ++ went_among (first.gone ++ next.gone)) after.server
      (append_assoc kept tally.kept more.kept)
      (append_assoc sent (went_among first.gone) (went_among next.gone) ∙ ap (λ list. sent ++ list) (sym
      (among_both first.gone next.gone))) next.stands;
  settled = next.settled;
}
then_ends base kept sent passed leads tally more middle (Err fault) after first next =
    let went : (sent ++ went_among first.gone) ++ went_among next.gone ≡ sent ++ went_among (first.gone ++ next.gone) =
    append_assoc sent (went_among first.gone) (went_among next.gone)
    ∙ ap (λ list. sent ++ list) (sym (among_both first.gone next.gone)) in
    record {
      gone = first.gone ++ next.gone;
      have_passed = both_passed first.gone next.gone passed middle.passed after.passed first.have_passed next.have_passed;
      without = run_as base ((kept ++ tally.kept) ++ more.kept) (kept ++ (tally.kept ++ more.kept)) _ _
          (append_assoc kept tally.kept more.kept) went next.without;
      with_last = run_as base ((kept ++ tally.kept) ++ (more.kept ++ more.unkept))
          (kept ++ ((tally.kept ++ more.kept) ++ more.unkept)) _ _
          (append_assoc kept tally.kept (more.kept ++ more.unkept) ∙ ap (λ list. kept ++ list) (sym
          (append_assoc tally.kept more.kept more.unkept))) went next.with_last;
    }

-- time passes
stands_in_time : AreLaws → (base : Server) (kept : List Kept) (sent : List Went) (before : Server)
    (passed passed_after : Option (List Passage))
    (after : Server) → IsConfiguration base.configuration → StandsAt base kept sent before
    → IsBetween before passed after passed_after
    → StandsAt base kept sent after
stands_in_time laws base kept sent before passed passed_after after valid stands is = record {
  run = stands.run;
  like = subst (λ s. IsLikeFromNow s stands.run.state) (sym is.state)
      (laws.time before.state stands.run.state is.moment stands.like);
  configured = is.configuration ∙ stands.configured;
  lawful = subst (IsLawful base.configuration) (sym is.state) (by_moment is.moment is.within);
}
  where
    by_moment : (moment : Option ℕ) → IfSome moment (λ m. m ≤ moment_max)
        → IsLawful base.configuration (when_passed moment before.state)
    by_moment None within = stands.lawful
    by_moment (Some moment) within = laws.passing base.configuration before.state moment valid within stands.lawful

nothing_goes_on : (base : Server) (kept : List Kept) (sent : List Went) (now : Situation)
    → StandsAt base kept sent now.server
    → GoesOn base kept sent now.passed nothing_done now
nothing_goes_on base kept sent now stands =
    idle_goes_on base kept sent now [] nothing_done now stands (none_passed now.passed now.passed refl) refl refl refl refl

turns_end : AreLaws → (keeps : Bool) (before : Situation) (base : Server) (kept : List Kept) (sent : List Went) → IsTrue keeps
    → IsConfiguration base.configuration → StandsAt base kept sent before.server
    → {turns : ℕ} {tally : Tally} {result : Result (Unit {0}) ServeFault} {after : Situation}
    → AreTurns keeps before turns tally result after
    → Ends base kept sent before.passed tally result after
turns_end laws keeps before base kept sent is valid stands no_turn = nothing_goes_on base kept sent before stands
turns_end laws keeps before base kept sent is valid stands
    (one_more {tally = tally} {middle = middle} more {result = result} {after = after} leads turned turn) =
    let first = turns_end laws keeps before base kept sent is valid stands turned in
    then_ends base kept sent before.passed leads.passed tally more middle result after first
    (turn_ends laws keeps base (kept ++ tally.kept) (sent ++ went_among first.gone) middle more result after is valid
    first.stands turn)
turns_end laws keeps before base kept sent is valid stands
    (between {tally = tally} {middle = middle} server passed turned is_between) =
    let first = turns_end laws keeps before base kept sent is valid stands turned in
    let told : List Passage = clock_told is_between.moment in
    let went : sent ++ went_among first.gone ≡ sent ++ went_among (first.gone ++ told) =
    ap (λ list. sent ++ list)
    (sym (among_both first.gone told ∙ ap (λ list. went_among first.gone ++ list) (among_told is_between.moment)
    ∙ append-nil (went_among first.gone))) in
    record {
      gone = first.gone ++ told;
      have_passed = both_passed first.gone told before.passed middle.passed passed first.have_passed is_between.told;
      stands = stands_as base (kept ++ tally.kept) (kept ++ tally.kept) _ _ server refl went
          (stands_in_time laws base (kept ++ tally.kept)
          (sent ++ went_among first.gone) middle.server middle.passed passed server valid first.stands is_between);
      settled = first.settled;
    }

-- ---- calls, over generations

-- before anything is kept since, nothing is a run from there
begun : (base : Server) → IsRunFrom base [] []
begun base = record {
  history = [];
  marks = [];
  state = base.state;
  serves = refl;
  kept = tt;
  replied = All-nil (IsReplyIn base.configuration.clients []);
}

-- Where calls stand: a base was reached, what was kept since is a run from there, and all that was kept and sent, before the calls
-- and in them, is of these. Where no generation begins, no more have ended than at first. `Holds` is what is known of the base and
-- of what was kept since.
pub record IsHere (first all_kept : List Kept) (alone : Type 0) (sent : List Went) (passed : Option (List Passage))
    (now : Situation)
    (Holds : Server → List Kept → Type 0) : Type 0 where
  pub base : Server
  pub kept : List Kept
  pub ended : List Kept
  pub earlier : List Went
  pub later : List Went
  pub gone : List Passage
  pub have_passed : HavePassed gone passed now.passed
  pub all : ended ++ kept ≡ all_kept
  pub same : alone → ended ≡ first
  pub reached : IsReached base ended earlier
  pub stands : StandsAt base kept later now.server
  pub among : All (Contains (earlier ++ later)) (sent ++ went_among gone)
  pub valid : IsConfiguration base.configuration
  pub holds : Holds base kept

-- before the first call
pub here_first : (first : List Kept) (alone : Type 0) (base : Server) (kept : List Kept) (sent : List Went) (now : Situation)
    (Holds : Server → List Kept → Type 0)
    → IsConfiguration now.server.configuration → IsLawful now.server.configuration now.server.state
    → now.server.configuration ≡ base.configuration
    → IsRestored base kept now.server → IsOneRun first (record { base = base; entries = kept }) sent → Holds base kept
    → IsHere first ((first ++ kept) ++ []) alone sent now.passed now Holds
here_first first alone base kept sent now Holds valid lawful configured restored one holds = record {
  base = base;
  kept = kept;
  ended = first;
  earlier = one.earlier;
  later = one.later;
  gone = [];
  have_passed = none_passed now.passed now.passed refl;
  all = sym (append-nil (first ++ kept));
  same = λ is. refl;
  reached = one.reached;
  stands = restored_stands base now.server kept one.later configured lawful restored one.run;
  among = subst (All (Contains (one.earlier ++ one.later))) (sym (append-nil sent)) one.among;
  valid = subst IsConfiguration configured valid;
  holds = holds;
}

-- what is sent since is of the run since
among_more : (earlier later sent more : List Went) (gone gone_now : List Passage) → went_among gone_now ≡ more
    → All (Contains (earlier ++ later)) (sent ++ went_among gone)
    → All (Contains (earlier ++ (later ++ more))) (sent ++ went_among (gone ++ gone_now))
among_more earlier later sent more gone gone_now is among =
    let whole : List Went = earlier ++ (later ++ more) in
    let first : All (Contains whole) (sent ++ went_among gone) =
    All-weaker (Contains (earlier ++ later)) (Contains whole)
    (λ one has. subst (λ list. Contains list one) (append_assoc earlier later more)
    (Contains-append_left (earlier ++ later) more one has))
    (sent ++ went_among gone) among in
    let last : All (Contains whole) more =
    All-weaker (Contains more) (Contains whole)
    (λ one has. Contains-append_right earlier (later ++ more) one (Contains-append_right later more one has)) more
    (All-contains_itself more) in
    subst (All (Contains whole))
    (append_assoc sent (went_among gone) more
    ∙ ap (λ list. sent ++ list) (ap (λ list. went_among gone ++ list) (sym is) ∙ sym (among_both gone gone_now)))
    (All-append (Contains whole) (sent ++ went_among gone) more first last)

-- a generation begins at the server as it stands
pub here_anew : (first all_kept : List Kept) (alone : Type 0) (sent : List Went) (passed : Option (List Passage)) (now : Situation)
    (Holds HoldsNow : Server → List Kept → Type 0) → (alone → ⊥)
    → IsHere first all_kept alone sent passed now Holds → HoldsNow now.server []
    → IsHere first all_kept alone sent passed now HoldsNow
unfolding begun
here_anew first all_kept alone sent passed now Holds HoldsNow other here holds = record {
  base = now.server;
  kept = [];
  ended = here.ended ++ here.kept;
  earlier = here.earlier ++ here.later;
  later = [];
  gone = here.gone;
  have_passed = here.have_passed;
  all = append-nil (here.ended ++ here.kept) ∙ here.all;
  same = λ is. absurd (other is);
  reached = subst
      (λ c. IsReached (record { configuration = c; state = now.server.state }) (here.ended ++ here.kept)
      (here.earlier ++ here.later))
      (sym here.stands.configured)
      (by_run here.kept here.later now.server.state here.reached here.stands.run here.stands.like here.stands.lawful);
  stands = record {
    run = begun now.server;
    like = λ moment le. refl;
    configured = refl;
    lawful = subst (λ c. IsLawful c now.server.state) (sym here.stands.configured) here.stands.lawful;
  };
  among = subst (λ list. All (Contains list) (sent ++ went_among here.gone)) (sym (append-nil (here.earlier ++ here.later)))
      here.among;
  valid = subst IsConfiguration (sym here.stands.configured) here.valid;
  holds = holds;
}

-- where calls went after one more
pub call_goes_on : AreLaws → (keeps : Bool) (first kept : List Kept) (alone : Type 0) (so_far : Tally) (leads : Option ℕ)
    (sent : List Went)
    (passed : Option (List Passage)) (middle : Situation) (Holds HoldsNow : Server → List Kept → Type 0) → IsTrue keeps
    → (here : IsHere first (kept ++ so_far.kept) alone sent passed middle Holds)
    → (turns : ℕ) (tally : Tally) (after : Situation) → AreTurns keeps middle turns tally (Ok tt) after
    → HoldsNow here.base (here.kept ++ tally.kept)
    → IsHere first (kept ++ (with_turn leads so_far tally).kept) alone sent passed after HoldsNow
call_goes_on laws keeps first kept alone so_far leads sent passed middle Holds HoldsNow is here turns tally after turned holds =
    let on = turns_end laws keeps middle here.base here.kept here.later is here.valid here.stands turned in
    record {
      base = here.base;
      kept = here.kept ++ tally.kept;
      ended = here.ended;
      earlier = here.earlier;
      later = here.later ++ went_among on.gone;
      gone = here.gone ++ on.gone;
      have_passed = both_passed here.gone on.gone passed middle.passed after.passed here.have_passed on.have_passed;
      all = sym (append_assoc here.ended here.kept tally.kept) ∙ ap (λ (list : List Kept). list ++ tally.kept) here.all
          ∙ append_assoc kept so_far.kept tally.kept;
      same = here.same;
      reached = here.reached;
      stands = on.stands;
      among = among_more here.earlier here.later sent (went_among on.gone) here.gone on.gone refl here.among;
      valid = here.valid;
      holds = holds;
    }

-- ---- what a crash leaves

pub same_generation : (left : Generation) (base : Server) (kept : List Kept) → left.base ≡ base → left.entries ≡ kept
    → record { base = base; entries = kept } ≡ left
same_generation left base kept is are =
    sym (ap (λ (b : Server). record { base = b; entries = left.entries }) is
    ∙ ap (λ (k : List Kept). record { base = base; entries = k }) are)

-- what one more call leaves, however it ends
pub call_leaves : AreLaws → (keeps : Bool) (first kept : List Kept) (alone : Type 0) (so_far : Tally) (leads : Option ℕ)
    (sent : List Went)
    (passed : Option (List Passage)) (middle : Situation) (Holds : Server → List Kept → Type 0) → IsTrue keeps
    → (here : IsHere first (kept ++ so_far.kept) alone sent passed middle Holds)
    → (turns : ℕ) (tally : Tally) (result : Result (Unit {0}) ServeFault) (after : Situation)
    → AreTurns keeps middle turns tally result after
    → (left : Generation) → left.base ≡ here.base
    → (left.entries ≡ here.kept ++ tally.kept) ⊎ (left.entries ≡ here.kept ++ (tally.kept ++ tally.unkept))
    → IsLeft first kept (with_turn leads so_far tally) alone left (sent ++ went_since passed after.passed)
call_leaves laws keeps first kept alone so_far leads sent passed middle Holds is here turns tally result after turned left of_base
    entries =
    let ends = ends_one_run here.base here.kept here.later middle.passed tally result after
    (turns_end laws keeps middle here.base here.kept here.later is here.valid here.stands turned) in
    let one : (more : List Kept) → left.entries ≡ here.kept ++ more
    → IsRunFrom here.base (here.kept ++ more) (here.later ++ went_among ends.gone)
    → IsOneRun here.ended left (sent ++ went_since passed after.passed) =
    λ more are run. subst (λ g. IsOneRun here.ended g (sent ++ went_since passed after.passed))
    (same_generation left here.base (here.kept ++ more) of_base are)
    (record {
      earlier = here.earlier;
      later = here.later ++ went_among ends.gone;
      reached = here.reached;
      run = run;
      among = all_since (Contains (here.earlier ++ (here.later ++ went_among ends.gone))) sent (here.gone ++ ends.gone) passed
          after.passed
          (both_passed here.gone ends.gone passed middle.passed after.passed here.have_passed ends.have_passed)
          (among_more here.earlier here.later sent (went_among ends.gone) here.gone ends.gone refl here.among);
    }) in
    let whole : (more : List Kept) → left.entries ≡ here.kept ++ more → here.ended ++ left.entries ≡ kept ++ (so_far.kept ++ more) =
    λ more are. ap (λ (list : List Kept). here.ended ++ list) are ∙ sym (append_assoc here.ended here.kept more)
    ∙ ap (λ (list : List Kept). list ++ more) here.all ∙ append_assoc kept so_far.kept more in
    ⊎_elim
    (λ are. record {
      ended_now = here.ended;
      one = one tally.kept are ends.without;
      all = inl (whole tally.kept are);
      same = here.same;
    })
    (λ are. record {
      ended_now = here.ended;
      one = one (tally.kept ++ tally.unkept) are ends.with_last;
      all = inr (whole (tally.kept ++ tally.unkept) are
          ∙ ap (λ (list : List Kept). kept ++ list) (sym (append_assoc so_far.kept tally.kept tally.unkept)));
      same = here.same;
    })
    entries

-- what is left where calls stand
pub here_leaves : (first kept : List Kept) (alone : Type 0) (tally : Tally) (sent : List Went) (passed : Option (List Passage))
    (now : Situation)
    (Holds : Server → List Kept → Type 0) → (here : IsHere first (kept ++ tally.kept) alone sent passed now Holds)
    → (left : Generation) → left.base ≡ here.base → left.entries ≡ here.kept
    → IsLeft first kept tally alone left (sent ++ went_since passed now.passed)
here_leaves first kept alone tally sent passed now Holds here left is are = record {
  ended_now = here.ended;
  one = subst (λ g. IsOneRun here.ended g (sent ++ went_since passed now.passed)) (same_generation left here.base here.kept is are)
      (record {
        earlier = here.earlier;
        later = here.later;
        reached = here.reached;
        run = here.stands.run;
        among = all_since (Contains (here.earlier ++ here.later)) sent here.gone passed now.passed here.have_passed here.among;
      });
  all = inl (ap (λ (list : List Kept). here.ended ++ list) are ∙ here.all);
  same = here.same;
}

-- and what is left where a generation may have begun
pub anew_leaves : (first kept : List Kept) (alone : Type 0) (tally : Tally) (sent : List Went) (passed : Option (List Passage))
    (now : Situation)
    (Holds : Server → List Kept → Type 0) → (here : IsHere first (kept ++ tally.kept) alone sent passed now Holds)
    → (left : Generation) → (alone → ⊥) → left ≡ just_begun now.server
    → IsLeft first kept tally alone left (sent ++ went_since passed now.passed)
unfolding here_anew
anew_leaves first kept alone tally sent passed now Holds here left other is =
    here_leaves first kept alone tally sent passed now (λ base entries. Unit {0})
    (here_anew first (kept ++ tally.kept) alone sent passed now Holds (λ base entries. Unit {0}) other here tt) left
    (ap (λ (g : Generation). g.base) is) (ap (λ (g : Generation). g.entries) is)

-- ---- what passes

-- ports tell of more than before, or of nothing from now on
abbrev HaveMore : Option (List Passage) → Option (List Passage) → Type 0
HaveMore before after = (gone : List Passage) × HavePassed gone before after

then_more : (before middle after : Option (List Passage)) → HaveMore before middle → HaveMore middle after → HaveMore before after
then_more before middle after first next = (first.0 ++ next.0, both_passed first.0 next.0 before middle after first.1 next.1)

turn_passed : (keeps : Bool) (before : Situation) (tally : Tally) (result : Result (Unit {0}) ServeFault) (after : Situation)
    → IsTurn keeps before tally result after → HaveMore before.passed after.passed
turn_passed keeps before tally (Ok done) after turn = ⊎_elim
    (λ made. (passages made.0.came made.0.went [], made.0.passed))
    (λ lost. ⊎_elim (λ one. (passages one.came [] [], one.passed)) (λ one. ([], one.passed)) lost.0)
    turn
turn_passed keeps before tally (Err faults.Receive) after turn = (map In turn.0.came ++ Fault ∷ [], turn.0.passed)
turn_passed keeps before tally (Err faults.Send) after turn = (passages turn.2.came turn.2.went (turn.0 ∷ turn.1), turn.2.passed)
turn_passed keeps before tally (Err faults.Mismatch) after turn = absurd turn
turn_passed keeps before tally (Err (faults.Journal fault)) after turn = (passages turn.0.came [] [], turn.0.passed)

turns_passed : (keeps : Bool) (before : Situation) {turns : ℕ} {tally : Tally} {result : Result (Unit {0}) ServeFault}
    {after : Situation}
    → AreTurns keeps before turns tally result after → HaveMore before.passed after.passed
turns_passed keeps before no_turn = ([], none_passed before.passed before.passed refl)
turns_passed keeps before (one_more {tally = tally} {middle = middle} more {result = result} {after = after} leads turned turn) =
    then_more before.passed middle.passed after.passed (turns_passed keeps before turned)
    (turn_passed keeps middle more result after turn)
turns_passed keeps before (between {middle = middle} server passed turned is_between) =
    then_more before.passed middle.passed passed (turns_passed keeps before turned) (clock_told is_between.moment, is_between.told)

calls_passed : (keeps : Bool) (before : Situation) {tally : Tally} {ending : Result (Unit {0}) ServeFault} {after : Situation}
    → AreCalls keeps before tally ending after → HaveMore before.passed after.passed
calls_passed keeps before no_call = ([], none_passed before.passed before.passed refl)
calls_passed keeps before (next_call {middle = middle} {after = after} turns result leads called served) =
    then_more before.passed middle.passed after.passed (calls_passed keeps before called) (turns_passed keeps middle served.turned)
calls_passed keeps before (cannot_begin fault fails called) = calls_passed keeps before called

-- ---- a life after a crash

-- all that went since the beginning is what went up to a life, and since
pub since_beginning : (keeps : Bool) (before after : Situation) (ending : Result (Unit {0}) ServeFault) (ended : List Kept)
    (left : Generation)
    → MadeCalls keeps before ending after
    → IsOneRun ended left (went_since (Some []) before.passed ++ went_since before.passed after.passed)
    → IsOneRun ended left (went_since (Some []) after.passed)
since_beginning keeps before after ending ended left made one =
    let more = calls_passed keeps before made.called in
    record {
      earlier = one.earlier;
      later = one.later;
      reached = one.reached;
      run = one.run;
      among = since_both more.0 before.passed after.passed more.1 (Contains (one.earlier ++ one.later)) one.among;
    }

-- where no other begins, no generation has ended
pub left_alone : (ended kept : List Kept) (tally : Tally) (alone : Type 0) (left : Generation) (sent : List Went) → alone
    → IsLeft ended kept tally alone left sent → IsOneRun ended left sent
left_alone ended kept tally alone left sent is left_now = subst (λ list. IsOneRun list left sent) (left_now.same is) left_now.one

-- a server that was just opened
pub is_fresh : (configuration : Configuration) (first : Server) → first.configuration ≡ configuration
    → first.state ≡ opening configuration
    → first ≡ fresh_server configuration
is_fresh configuration first configured opens =
    ap (λ (c : Configuration). record { configuration = c; state = first.state }) configured
    ∙ ap (λ (s : State). record { configuration = configuration; state = s }) opens

-- a server was restored from a fresh one
pub restored_fresh : (configuration : Configuration) (first restored server : Server) (kept kept_now : List Kept)
    → first.configuration ≡ configuration
    → first.state ≡ opening configuration → IsRestored first kept restored → kept_now ≡ kept → server ≡ restored
    → IsRestored (fresh_server configuration) kept_now server
restored_fresh configuration first restored server kept kept_now configured opens found same_kept same =
    subst (λ s. IsRestored (fresh_server configuration) kept_now s) (sym same)
    (subst (λ k. IsRestored (fresh_server configuration) k restored) (sym same_kept)
    (subst (λ f. IsRestored f kept restored) (is_fresh configuration first configured opens) found))

-- what holds at `Ok` holds where there is no error
pub on_ok : {A E : Type 0} (result : Result A E) (P : Type 0) → is_err result ≡ false → OnOk result P → P
on_ok (Ok value) P ok p = p
on_ok (Err error) P ok p = absurd cc

-- ---- before the first life

-- nothing is one run from a fresh server
pub nothing_yet : (configuration : Configuration) → IsConfiguration configuration
    → IsOneRun [] (just_begun (fresh_server configuration)) []
nothing_yet configuration valid = record {
  earlier = [];
  later = [];
  reached = fresh configuration valid;
  run = begun (fresh_server configuration);
  among = All-nil (Contains []);
}

-- ---- the next life

-- a life that goes on from a generation is one run with all that came before it
pub lives_are_one_run : LikeAfterTime → LivesAreOneRun
lives_are_one_run time ended left sent configuration server one valid on =
    let before = on.before in
    let led = on.led in
    let then_server : Server = record { configuration = before.configuration; state = led.state } in
    let like : IsLikeFromNow before.state one.run.state = subst (λ s. IsLikeFromNow s one.run.state) (sym led.passed)
    (time led.state one.run.state (Some led.moment)
    (restored_like left.base then_server left.entries one.later led.restored one.run)) in
    let sent_before : List Went = one.earlier ++ one.later in
    let reached : IsReached before (ended ++ left.entries) sent_before = subst
    (λ c. IsReached (record { configuration = c; state = before.state }) (ended ++ left.entries) sent_before)
    (sym led.configured)
    (by_run left.entries one.later before.state one.reached one.run like
    (subst (λ c. IsLawful c before.state) led.configured led.lawful)) in
    record {
      earlier = sent_before;
      later = [];
      reached = subst (λ s. IsReached s (ended ++ left.entries) sent_before) (sym on.carried)
          (by_carrying configuration valid reached);
      run = begun server;
      among = subst (λ list. All (Contains list) sent) (sym (append-nil sent_before)) one.among;
    }

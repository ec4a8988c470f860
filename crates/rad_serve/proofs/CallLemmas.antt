-- Calls of turns follow one another, and lead from one server to another.
use Rattle.std.proofs.Common.{◌≡◌, ℕ, Bool, List, [], ◌++◌, Option, None, OnOk, IsTrue, Result, Ok, Err, refl, subst}
use Rattle.std.proofs.lemmas.List.{append-nil}
use Rattle.rad_server.specs.Runs.{HistoriesAfterTime, LeadsTo}
use Rattle.rad_server.specs.Servers.{Server}
use Rattle.rad_journal.specs.Leads.{KeptLeadOn, LeadKept}
use Rattle.rad_journal.specs.declared.journal.JournalFault.{JournalFault}
use Rattle.rad_journal.specs.declared.kept.Kept.{Kept}
use Rattle.rad_shell.specs.Serving.{AreTurns, IsServed, LeadsByKept, Situation, Tally, ended, nothing_done, with_turn}
use Rattle.rad_shell.specs.declared.serve_fault.ServeFault.{ServeFault}
use Rattle.rad_shell.specs.declared.serve_fault.ServeFault.TheVariants.{Journal}
use Rattle.rad_shell.specs.declared.served.Served.{Served}
use Rattle.rad_shell.proofs.KeepingLemmas.{leads_nowhere}
use Rattle.rad_serve.specs.Calls.{MadeCalls, cannot_begin, next_call, no_call}

abbrev none_led : (server : Server) → LeadsTo server [] server
none_led server = record { state = server.state; passed = None; configuration = refl; run = refl; within = tt; now = refl }

-- what calls so far kept, and what one more did
both_kept : (before middle after : Server) (tally more : Tally) (passed : Option ℕ) → KeptLeadOn → LeadsByKept before tally middle
    → tally.unkept ≡ []
    → LeadsByKept middle more after → LeadsByKept before (with_turn passed tally more) after
both_kept before middle after tally more passed leads_on first none last =
    let all : LeadKept before (tally.kept ++ []) middle =
    leads_on before first.middle middle tally.kept [] first.kept
    (subst (λ list. LeadKept first.middle list middle) none first.unkept) in
    record {
      middle = last.middle;
      kept = leads_on before middle last.middle tally.kept more.kept
          (subst (λ list. LeadKept before list middle) (append-nil tally.kept) all) last.kept;
      unkept = last.unkept;
    }

settled_by : (result : Result Served ServeFault) (unkept : List Kept) → OnOk result (unkept ≡ [])
    → OnOk (ended result) (unkept ≡ [])
settled_by (Ok served) unkept is = is
settled_by (Err fault) unkept is = tt

-- no call yet
abbrev pub none_called : (keeps : Bool) (situation : Situation) → MadeCalls keeps situation (Ok tt) situation
none_called keeps situation = record {
  tally = nothing_done;
  called = no_call;
  run = none_led situation.server;
  enough = λ _. record {
    middle = situation.server;
    kept = leads_nowhere situation.server;
    unkept = leads_nowhere situation.server;
  };
  settled = refl;
}

-- calls, and what holds of what they came to
abbrev pub CallsWith : Bool → Situation → Result (Unit {0}) ServeFault → Situation → (Tally → Type 0) → Type 0
CallsWith keeps before ending after P = (made : MadeCalls keeps before ending after) × P made.tally

-- one more call
pub one_more_call : (keeps : Bool) (before middle after : Situation) (turns : ℕ) (result : Result Served ServeFault)
    (P : Tally → Type 0)
    → HistoriesAfterTime → KeptLeadOn → (so_far : MadeCalls keeps before (Ok tt) middle)
    → (served : IsServed keeps turns middle result after)
    → P (with_turn so_far.run.passed so_far.tally served.tally) → CallsWith keeps before (ended result) after P
one_more_call keeps before middle after turns result P joins leads_on so_far served holds = (
  record {
    tally = with_turn so_far.run.passed so_far.tally served.tally;
    called = next_call turns result so_far.run so_far.called served;
    run = joins before.server middle.server after.server so_far.tally.history served.tally.history so_far.run served.run;
    enough = λ is. both_kept before.server middle.server after.server so_far.tally served.tally so_far.run.passed leads_on
        (so_far.enough is) so_far.settled
        (served.enough is);
    settled = settled_by result served.tally.unkept served.settled;
  },
  holds,
)

-- one more call that ended so
pub one_more_so : (keeps : Bool) (before middle after : Situation) (turns : ℕ) (result : Result Served ServeFault)
    (ending : Result (Unit {0}) ServeFault) (P : Tally → Type 0) → HistoriesAfterTime → KeptLeadOn
    → (so_far : MadeCalls keeps before (Ok tt) middle) → (served : IsServed keeps turns middle result after) → ended result ≡ ending
    → P (with_turn so_far.run.passed so_far.tally served.tally) → CallsWith keeps before ending after P
one_more_so keeps before middle after turns result ending P joins leads_on so_far served is holds =
    subst (λ r. CallsWith keeps before r after P) is
    (one_more_call keeps before middle after turns result P joins leads_on so_far served holds)

-- turns without a fault
pub turned_ok : (keeps : Bool) (before after : Situation) (turns : ℕ) (tally : Tally) (result : Result Served ServeFault)
    (served : Served)
    → result ≡ Ok served → AreTurns keeps before turns tally (ended result) after → AreTurns keeps before turns tally (Ok tt) after
turned_ok keeps before after turns tally result served ok turned =
    subst (λ r. AreTurns keeps before turns tally (ended r) after) ok turned

-- calls after which no generation could be begun
abbrev pub none_begun : (keeps : Bool) (before after : Situation) (fault : JournalFault) → IsTrue keeps
    → MadeCalls keeps before (Ok tt) after
    → MadeCalls keeps before (Err (Journal fault)) after
none_begun keeps before after fault fails made = record {
  tally = made.tally;
  called = cannot_begin fault fails made.called;
  run = made.run;
  enough = made.enough;
  settled = tt;
}

-- Calls of turns, one after another.
use Rattle.std.specs.Prelude.{◌≡◌, ℕ, List, [], Bool, IsTrue, OnOk, Result, Ok, Err}
use Rattle.rad_server.specs.Runs.{LeadsTo}
use Rattle.rad_shell.specs.Serving.{IsServed, LeadsByKept, Situation, Tally, ended, nothing_done, with_turn}
use Rattle.rad_journal.specs.declared.journal.JournalFault.{JournalFault}
use Rattle.rad_journal.specs.declared.kept.Kept.{Kept}
use Rattle.rad_shell.specs.declared.serve_fault.ServeFault.{ServeFault}
use Rattle.rad_shell.specs.declared.serve_fault.ServeFault.TheVariants.{Journal}
use Rattle.rad_shell.specs.declared.served.Served.{Served}

-- calls up to the first fault, each of which begins as the one before it ended, and what all came to; or up to one after which no
-- generation could be begun
pub data AreCalls (keeps : Bool) (before : Situation) : Tally → Result (Unit {0}) ServeFault → Situation → Type 0 where
  no_call : AreCalls keeps before nothing_done (Ok tt) before
  next_call : {tally : Tally} {middle after : Situation} (turns : ℕ) (result : Result Served ServeFault)
      (leads : LeadsTo before.server tally.history middle.server) → AreCalls keeps before tally (Ok tt) middle
      → (served : IsServed keeps turns middle result after)
      → AreCalls keeps before (with_turn leads.passed tally served.tally) (ended result) after
  cannot_begin : {tally : Tally} {after : Situation} (fault : JournalFault) → IsTrue keeps
      → AreCalls keeps before tally (Ok tt) after
      → AreCalls keeps before tally (Err (Journal fault)) after

-- what calls made, however the last one ended: their exchanges lead from the server before to the one after, but for time that may
-- have passed since, and what is kept of them is enough
pub record MadeCalls (keeps : Bool) (before : Situation) (ending : Result (Unit {0}) ServeFault) (after : Situation) : Type 0 where
  pub tally : Tally
  pub called : AreCalls keeps before tally ending after
  pub run : LeadsTo before.server tally.history after.server
  pub enough : IsTrue keeps → LeadsByKept before.server tally after.server
  pub settled : OnOk ending (tally.unkept ≡ [])

-- a generation has begun: nothing is kept since, the journal is open, and it begins at a server, as these say
pub record HasBegun (kept : List Kept) (is_open begins : Type 0) : Type 0 where
  pub none : kept ≡ []
  pub opened : is_open
  pub base : begins

-- Where what is kept leads to.
use Rattle.std.specs.Prelude.{◌≡◌, ℕ, Bool, List, ◌++◌, Option}
use Rattle.rad_config.specs.Ranges.{IsConfiguration}
use Rattle.rad_server.specs.Lawful.{IsLawful}
use Rattle.rad_server.specs.Runs.{IsLikeFromNow, IsMarkedHistory, LeadsAlike, fresh_of}
use Rattle.rad_server.specs.Servers.{Server}
use Rattle.rad_server.specs.States.{State, when_passed}
use Rattle.rad_server.specs.declared.entry.Entry.{Entry}
use Rattle.rad_journal.specs.Kept.{kept_of}
use Rattle.rad_journal.specs.Restores.{AreKept}
use Rattle.rad_journal.specs.declared.kept.Kept.{Kept}

-- these are kept of entries that lead from each state that is like one server's from now on to one that is like another's from now
-- on
pub record LeadKept (before : Server) (kept : List Kept) (after : Server) : Type 0 where
  pub entries : List Entry
  pub are_kept : AreKept entries kept
  pub configuration : after.configuration ≡ before.configuration
  pub alike : (other : State) → IsLikeFromNow before.state other → LeadsAlike before.configuration other entries after.state

-- ---- the laws

-- what is kept of the fresh entries of a history leads where the history does
abbrev pub FreshAreKept : Type 0
FreshAreKept = (before : Server) (history : List Entry) (marks : List Bool) (after : Server) (wall : ℕ)
    → IsConfiguration before.configuration → IsLawful before.configuration before.state → IsMarkedHistory before history marks after
    → LeadKept before (kept_of wall (fresh_of before.state.clock history marks)) after

-- what is kept of a second history leads on
abbrev pub KeptLeadOn : Type 0
KeptLeadOn = (before middle after : Server) (kept more : List Kept) → LeadKept before kept middle → LeadKept middle more after
    → LeadKept before (kept ++ more) after

-- time that passes changes nothing
abbrev pub KeptLastOverTime : Type 0
KeptLastOverTime = (before middle after : Server) (kept : List Kept) (passed : Option ℕ) → LeadKept before kept middle
    → after.configuration ≡ middle.configuration → after.state ≡ when_passed passed middle.state → LeadKept before kept after

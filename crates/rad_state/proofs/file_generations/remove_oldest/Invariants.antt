use Rattle.std.proofs.Common.{◌≤◌, ◌-◌, ℕ}
use Rattle.rad_state.proofs.file_generations.remove_oldest.Given as goal

abbrev pub invariant-loop-removed : goal.invariant-loop-removed
invariant-loop-removed g l =
    record {
      kept : (other : ℕ) → l.number - 1 ≤ other → g.F.Folder.has l.fn.folder other → g.F.Folder.has l.folder other;
      only : (other : ℕ) → g.F.Folder.has l.folder other → g.F.Folder.has l.fn.folder other;
    }

-- Faults: the numbers under which faults of rounds are reported.
use Rattle.std.specs.Prelude.{ℕ}
use Rattle.rad_round.specs.declared.round_fault.RoundFault.{RoundFault}
use Rattle.rad_round.specs.declared.round_fault.RoundFault.TheVariants.{Mismatch, NoMemory, NoThread}

abbrev pub round_fault_number : RoundFault → ℕ
round_fault_number (Mismatch mismatch) = 1
round_fault_number NoMemory = 2
round_fault_number NoThread = 3

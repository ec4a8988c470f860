-- Rules for rows that are put back, and what is answered.
use Rattle.std.specs.Prelude.{◌≡◌, ◌⊎◌, Result, Ok, Err}
use Rattle.rad_row_fault.specs.declared.row_fault.RowFault.{RowFault}
use Rattle.rad_row_fault.specs.declared.row_fault.RowFault.TheVariants.{NoMemory}

-- an answer is the one that the rules give; or, where they refuse nothing, that memory was refused
abbrev pub FollowsRules : (rules answer : Result (Unit {0}) RowFault) → Type 0
FollowsRules rules answer = (answer ≡ rules) ⊎ ((rules ≡ Ok tt) × (answer ≡ Err NoMemory))

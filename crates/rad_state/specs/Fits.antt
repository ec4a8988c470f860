-- Whether what was kept can be gone on from.
use Rattle.std.specs.Prelude.{◌≡◌, ◌≢◌, Bool, IsTrue}
use Rattle.rad_state.specs.declared.meta.Meta.{Meta}
use Rattle.rad_state.specs.declared.open_fault.OpenFault.{OpenFault}
use Rattle.rad_state.specs.declared.open_fault.OpenFault.TheVariants.{OtherFormat, OtherRules}

-- the format is the program's, and the rules are, unless there is no entry
pub record Fits (meta : Meta) (has_entries : Bool) : Type 0 where
  pub format : meta.format ≡ 1
  pub rules : IsTrue has_entries → meta.rules ≡ 2

-- this is the first that doesn't fit
abbrev pub IsMisfit : Meta → Bool → OpenFault → Type 0
IsMisfit meta has_entries OtherFormat = meta.format ≢ 1
IsMisfit meta has_entries OtherRules = (meta.format ≡ 1) × IsTrue has_entries × (meta.rules ≢ 2)
IsMisfit meta has_entries _ = ⊥

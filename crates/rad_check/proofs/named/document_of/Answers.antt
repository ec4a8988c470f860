use Rattle.std.proofs.Common.{Ok, ap, refl, inl, inr}
use Rattle.std.proofs.lemmas.Bool.{cases_Bool}
use Rattle.std.proofs.lemmas.Str.{IsUtf8-from_is_utf8, is_utf8-from_IsUtf8}
use Rattle.std.specs.Str.{is_utf8}
use Rattle.rad_check.proofs.named.document_of.Goals as goal

pub returns-in-Ok-table_from_str : goal.returns-in-Ok-table_from_str
returns-in-Ok-table_from_str c =
    rw (is_utf8-from_IsUtf8 c.args.octets.now c.in-Ok.ensures.cases.1, ← c.in-Ok.ensures.cases.0)
    (ap Ok c.in-Ok-table_from_str.ensures.ok)

pub returns-in-Err : goal.returns-in-Err
returns-in-Err c =
    elim (cases_Bool (is_utf8 c.args.octets.now)) [
      | inl whole ↦ absurd (c.in-Err.ensures.cases.0 (IsUtf8-from_is_utf8 c.args.octets.now whole))
      | inr other ↦ rw other refl
    ]

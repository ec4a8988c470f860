use Rattle.std.proofs.Common.{◌∙◌, cond, sym, ap}
use Rattle.std.specs.Prelude.{option_copied}
use Rattle.rad_accounting.specs.Records.{text_value}
use Rattle.std.proofs.lemmas.Bool.{false_from_ne_true}
use Rattle.std.proofs.lemmas.Str.{IsUtf8-from_is_utf8, is_utf8-from_IsUtf8}
use Rattle.sqlite_value.specs.declared.value.Value.TheVariants.{Text, Blob}
use Rattle.rad_accounting.proofs.record_row.text.Goals as goal

pub returns-in-Ok : goal.returns-in-Ok
returns-in-Ok c = let octets = c.in-Some.octets.now in
    sym (ap (λ b. cond b (Text octets) (Blob octets)) (is_utf8-from_IsUtf8 octets c.in-Ok.ensures.cases.1))
    ∙ ap (λ o. text_value (option_copied o)) (sym c.in-Some.is)

pub returns-in-Err : goal.returns-in-Err
returns-in-Err c = let octets = c.in-Some.octets.now in
    sym (ap (λ b. cond b (Text octets) (Blob octets))
    (false_from_ne_true _ (λ e. c.in-Err.ensures.cases.0 (IsUtf8-from_is_utf8 octets e))))
    ∙ ap (λ o. text_value (option_copied o)) (sym c.in-Some.is)

use Rattle.std.proofs.Common.{◌∙◌, cond, sym, ap}
use Rattle.std.proofs.lemmas.Bool.{false_from_ne_true}
use Rattle.std.proofs.lemmas.Str.{IsUtf8-from_is_utf8, is_utf8-from_IsUtf8}
use Rattle.sqlite_value.specs.declared.value.Value.TheVariants.{Text, Blob}
use Rattle.sqlite_value.specs.Value.{owned}
use Rattle.rad_export.specs.Columns.{shown_text}
use Rattle.rad_export.proofs.shown.shown_text.Goals as goal

pub returns-in-Ok : goal.returns-in-Ok
returns-in-Ok c = let octets = c.in-Text.octets.now in
    ap Text c.in-Ok.ensures.cases.0
    ∙ sym (ap (λ b. cond b (Text octets) (Blob octets)) (is_utf8-from_IsUtf8 octets c.in-Ok.ensures.cases.1))
    ∙ ap (λ v. shown_text (owned v)) (sym c.in-Text.is)

pub returns-in-Err : goal.returns-in-Err
returns-in-Err c = let octets = c.in-Text.octets.now in
    sym (ap (λ b. cond b (Text octets) (Blob octets))
    (false_from_ne_true _ (λ e. c.in-Err.ensures.cases.0 (IsUtf8-from_is_utf8 octets e))))
    ∙ ap (λ v. shown_text (owned v)) (sym c.in-Text.is)

use Rattle.std.proofs.Common.{ap, ◌∙◌}
use Rattle.std.proofs.lemmas.Result.{IfOk-weaker}
use Rattle.csv.specs.Writing.{default_writer, row_text}
use Rattle.rad_export.specs.Lines.{generation_name}
use Rattle.rad_export.proofs.LineLemmas.{first-field}
use Rattle.rad_export.proofs.csv_line.csv_head.Goals as goal

pub returns : goal.returns
returns c =
    IfOk-weaker c.line_of.result _ _
    (λ line is. is ∙ ap (row_text default_writer)
    (first-field _ _ _ _ _ _ generation_name c.new-fields.ensures.fields c.new-fields.ensures.partial c.as_bytes.ensures.value
    c.in_ok-push_field.ensures.fields c.in_ok-push_names.ensures))
    c.line_of.ensures

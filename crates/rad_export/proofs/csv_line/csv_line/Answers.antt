use Rattle.std.proofs.Common.{ap, ◌∙◌}
use Rattle.std.specs.Prelude.{decimal, option_copied}
use Rattle.std.proofs.lemmas.Result.{IfOk-weaker}
use Rattle.csv.specs.Writing.{default_writer, row_text}
use Rattle.rad_export.proofs.LineLemmas.{first-field}
use Rattle.rad_export.proofs.csv_line.csv_line.Goals as goal

pub returns : goal.returns
returns c =
    IfOk-weaker c.line_of.result _ _
    (λ line is. (
      option_copied c.as_deref.result,
      is ∙ ap (row_text default_writer)
          (first-field _ _ _ _ _ _ (decimal c.args.generation) c.new-fields.ensures.fields c.new-fields.ensures.partial
          (c.as_bytes.ensures.value ∙ c.in_ok-format.ensures.ok) c.in_ok-push_field.ensures.fields
          c.in_ok-push_columns.ensures),
    ))
    c.line_of.ensures

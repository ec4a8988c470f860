use Rattle.std.proofs.Common.{ap, ◌∙◌, ◌++◌, ◌∷◌, []}
use Rattle.std.specs.Prelude.{decimal, option_copied}
use Rattle.json.specs.Print.{print}
use Rattle.json.specs.Token.{number}
use Rattle.rad_export.specs.Lines.{line_feed}
use Rattle.rad_export.proofs.LineLemmas.{object-tokens}
use Rattle.rad_export.proofs.json_line.json_line.Goals as goal

pub returns : goal.returns
returns c =
    let before = c.end_object.ensures.room.0 ∙ c.in_ok-write_members.ensures.before ∙ c.u64.ensures.room.0 ∙ c.key.ensures.room.0
    ∙ c.begin_object.ensures.room.0
    ∙ c.new-out.ensures.before ∙ c.in_ok-with_capacity.ensures.items in
    let tokens = object-tokens _ _ _ _ _ _ _ _ _ (number (decimal c.args.generation)) _ _
    c.new-out.ensures.tokens c.in_ok-begin_object.ensures.ok c.in_ok-key.ensures.ok (ap (λ n. number (decimal n)) c.from.ensures)
    c.in_ok-u64.ensures.ok
    c.in_ok-write_members.ensures.tokens c.in_ok-end_object.ensures.ok in (
      option_copied c.as_deref.result,
      c.in_ok-push.ensures.items ∙ ap (λ text. text ++ line_feed ∷ [])
          (c.into_inner-line.ensures.items ∙ ap (λ text. text ++ print c.end_object.new.self.tokens) before ∙ ap print tokens),
    )

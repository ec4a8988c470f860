use Rattle.std.proofs.Common.{◌≡◌, ◌∙◌, Bor, Option, None, Some, ap, is_some, refl, sym}
use Rattle.std.specs.Option.{option_copied}
use Rattle.rad_recent.specs.declared.numbered.Numbered.{Numbered}
use Rattle.rad_recent.proofs.NumberedLemmas.{has_key_is, none_has_key}
use Rattle.rad_recent.proofs.indexed.has_row.Goals as goal

is_there : (row : Option (Bor Numbered)) → is_some row ≡ is_some (option_copied row)
is_there None = refl
is_there (Some row) = refl

pub returns-in_default : goal.returns-in_default
returns-in_default c =
    sym (none_has_key c.args.index.now.map.entries c.args.key.now c.args.rows.now.rows (sym c.in_default.ensures) c.requires)

pub returns : goal.returns
returns c =
    c.is_some.ensures
    ∙ is_there c.get.result
    ∙ ap is_some c.get.ensures
    ∙ sym (has_key_is c.args.index.now.map.entries c.args.key.now c.in-Some.number c.args.rows.now.rows (sym c.in-Some.ensures)
    c.requires)

use Rattle.std.proofs.Common.{ap, sym, ◌∙◌, w32, w64}
use Rattle.std.specs.Int.{to_be_bytes}
use Rattle.std.specs.Net.Text.{ipv4_text}
use Rattle.std.proofs.lemmas.Int.{to_z-of_z}
use Rattle.sqlite_value.specs.declared.value.Value.TheVariants.{Text}
use Rattle.rad_export.specs.Columns.{shown_address}
use Rattle.rad_export.proofs.LineLemmas.{address-shown, octets-of}
use Rattle.rad_export.proofs.shown.shown_address.Goals as goal

pub returns : goal.returns
returns c =
    ap Text (c.in_ok-format.ensures.ok
    ∙ ap ipv4_text (octets-of c.from_bits-address.result c.in-Ok.address c.from_bits-address.ensures
    ∙ ap (to_be_bytes w32) c.in-Ok.ensures.1))
    ∙ sym (address-shown _ c.in-Ok.ensures.0)
    ∙ ap shown_address (to_z-of_z w64 c.args.address c.ranges.address)

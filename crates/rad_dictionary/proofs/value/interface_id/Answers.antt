use Rattle.std.proofs.Common.{◌≡◌, ◌∙◌, ◌++◌, Some, ap, sym}
use Rattle.std.specs.Prelude.{codes, option_map}
use Rattle.rad_dictionary.specs.Ipv6.{ipv6_of}
use Rattle.rad_dictionary.specs.Values.{last_eight}
use Rattle.rad_dictionary.proofs.value.interface_id.Goals as goal

pub returns-in-Some-clause-value : goal.returns-in-Some-clause-value
returns-in-Some-clause-value c =
    let whole : c.deref.result.now ≡ codes "0:0:0:0:" ++ c.args.text.now =
    c.deref.ensures.value ∙ c.in_ok-extend_from_slice.ensures.items ∙ ap (λ o. o ++ c.args.text.now) c.in_ok-whole.ensures.items in
    ap Some c.in_ok-from_slice-in-Some.ensures.items
    ∙ ap (option_map last_eight) (sym c.in-Some.is ∙ c.ipv6.ensures ∙ ap ipv6_of whole)

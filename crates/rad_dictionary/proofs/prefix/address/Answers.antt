use Rattle.std.proofs.Common.{ap, sym}
use Rattle.std.specs.Prelude.{option_map}
use Rattle.std.specs.Net.Addr.{octets_of}
use Rattle.rad_dictionary.proofs.Ipv6Lemmas.{whole-spelled, whole-unspelled}
use Rattle.rad_dictionary.proofs.prefix.address.Goals as goal

pub returns-in-Ok : goal.returns-in-Ok
returns-in-Ok c = sym (ap (option_map octets_of) (whole-spelled c.args.text.now c.in-Ok.address.segments c.in-Ok.ensures))

pub returns-in-Err : goal.returns-in-Err
returns-in-Err c =
    sym (ap (option_map octets_of)
    (whole-unspelled c.args.text.now (λ segments. c.in-Err.ensures (record { segments = segments }))))

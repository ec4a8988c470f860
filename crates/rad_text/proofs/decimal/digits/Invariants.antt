use Rattle.std.proofs.Common.{◌≡◌, ◌<◌, ◌^◌, drop}
use Rattle.rad_text.specs.Decimals.{digits_from}
use Rattle.rad_text.proofs.decimal.digits.Given as goal

abbrev pub invariant-loop-octet : goal.invariant-loop-octet
invariant-loop-octet l =
    record { small : l.number < 10 ^ l.octet-index; same : digits_from l.number (drop l.octet-index l.text) ≡ digits_from 0 l.text }

-- The table of discards: number and name.
use Rattle.std.specs.Prelude.{◌≡◌, ℕ, ◌+◌, ◌↔◌, List, codes, slice_get, Some}
use Rattle.rad_packet.specs.declared.packet.ReadFault.{ReadFault}
use Rattle.rad_packet.specs.declared.packet.ReadFault.TheVariants as fault
use Rattle.rad_auth.specs.declared.discard.Discard.{Discard}
use Rattle.rad_auth.specs.declared.discard.Discard.TheVariants.{UnknownClient, Short, BadLength, Truncated, BadAttributes}
use Rattle.rad_auth.specs.declared.discard.Discard.TheVariants.{WrongCode, BadAuthenticator, BadMessageAuthenticator}
use Rattle.rad_auth.specs.declared.discard.Discard.TheVariants.{NoMessageAuthenticator, NoStatusType, ProxyStateTooLong}

abbrev pub discard_number : Discard → ℕ
discard_number UnknownClient = 1
discard_number Short = 2
discard_number BadLength = 3
discard_number Truncated = 4
discard_number BadAttributes = 5
discard_number WrongCode = 6
discard_number BadAuthenticator = 7
discard_number BadMessageAuthenticator = 8
discard_number NoMessageAuthenticator = 9
discard_number NoStatusType = 10
discard_number ProxyStateTooLong = 11

abbrev pub discard_name : Discard → List ℕ
discard_name UnknownClient = codes "UnknownClient"
discard_name Short = codes "Short"
discard_name BadLength = codes "BadLength"
discard_name Truncated = codes "Truncated"
discard_name BadAttributes = codes "BadAttributes"
discard_name WrongCode = codes "WrongCode"
discard_name BadAuthenticator = codes "BadAuthenticator"
discard_name BadMessageAuthenticator = codes "BadMessageAuthenticator"
discard_name NoMessageAuthenticator = codes "NoMessageAuthenticator"
discard_name NoStatusType = codes "NoStatusType"
discard_name ProxyStateTooLong = codes "ProxyStateTooLong"

-- every discard stands in the list, at the place before its number, and nothing else does
abbrev pub AreAllDiscards : List Discard → Type 0
AreAllDiscards discards =
    (discard : Discard) (place : ℕ) → (slice_get discards place ≡ Some discard) ↔ (place + 1 ≡ discard_number discard)

-- a datagram that holds no packet
abbrev pub discard_of_fault : ReadFault → Discard
discard_of_fault fault.Short = Short
discard_of_fault fault.BadLength = BadLength
discard_of_fault fault.Truncated = Truncated
discard_of_fault fault.BadAttributes = BadAttributes

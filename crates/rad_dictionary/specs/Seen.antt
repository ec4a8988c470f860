-- What the code holds, as the definitions have it.
use Rattle.std.specs.Prelude.{◌≡◌, ◌⊎◌, ◌≤◌, ℕ, List, ◌∷◌, Option, option_map, Result, Ok, Err, IfOk, IfSome, Vec, length}
use Rattle.std.specs.declared.alloc.AllocError.{AllocError}
use Rattle.std.specs.Global.{Global}
use Rattle.std.specs.Net.Addr.{ipv6_octets}
use Rattle.rad_packet.specs.Attributes.{Attribute, value_max}
use Rattle.rad_dictionary.specs.Dictionary.{Choice, Row, choice, row}
use Rattle.rad_dictionary.specs.declared.attribute.Meant.{Meant}
use Rattle.rad_dictionary.specs.declared.dictionary.Definition.{Definition}
use Rattle.rad_dictionary.specs.declared.enumeration.Choice.{Choice as ChoiceOfCode}
use Rattle.rad_dictionary.specs.Parts.{Giving, Naming}
use Rattle.rad_dictionary.specs.Parts as parts
use Rattle.rad_dictionary.specs.declared.named.Given.{Given}
use Rattle.rad_dictionary.specs.declared.named.Given.TheVariants as given
use Rattle.rad_dictionary.specs.declared.named.Named.{Named}
use Rattle.rad_dictionary.specs.declared.named.Named.TheVariants as named
use Rattle.rad_dictionary.specs.declared.prefix.Prefix.{Prefix}
use Rattle.rad_dictionary.specs.declared.named.Misfit.{Misfit}
use Rattle.rad_dictionary.specs.declared.named.Misfit.TheVariants.{NoMemory}

abbrev pub choice_seen : ChoiceOfCode → Choice
choice_seen one = choice one.0 one.1.now

abbrev pub row_seen : Definition → Row
row_seen one = row one.0.now one.1 one.2

-- an attribute that was made
abbrev pub attribute_seen : Meant → Attribute
attribute_seen meant = record { kind = meant.kind; value = meant.value.items }

-- what a call returned is the attribute or the refusal, unless memory ran out
abbrev pub Gives : Result Meant Misfit → Result Attribute Misfit → Type 0
Gives (Ok meant) is = is ≡ Ok (attribute_seen meant)
Gives (Err misfit) is = (misfit ≡ NoMemory) ⊎ (is ≡ Err misfit)

-- the Value that a call made, if it returned one, is this
abbrev pub Makes : Result (Option (Vec ℕ Global)) AllocError → Option (List ℕ) → Type 0
Makes result value = IfOk result (λ made. option_map (λ value. value.items) made ≡ value)

-- the Value of a prefix
abbrev pub prefix_octets : Prefix → List ℕ
prefix_octets prefix = 0 ∷ prefix.length ∷ ipv6_octets prefix.address

-- what names an attribute, and what is given
abbrev pub naming : Named → Naming
naming (named.Name name) = parts.name name.now
naming (named.Type number) = parts.kind number
naming (named.OfVendor vendor number) = parts.of_vendor vendor number

abbrev pub giving : Given → Giving
giving (given.Number number) = parts.number number
giving (given.Text text) = parts.text text.now
giving (given.Hex text) = parts.hex text.now

-- one to so many octets
abbrev pub IsSized : ℕ → List ℕ → Type 0
IsSized most octets = (1 ≤ length octets) × (length octets ≤ most)

-- and it has 1 to 253 octets
abbrev pub IsShort : Result (Option (Vec ℕ Global)) AllocError → Type 0
IsShort result = IfOk result (λ made. IfSome made (λ value. IsSized value_max value.items))

-- Attributes as a configuration says them: which one is meant, and its Value.
use Rattle.std.specs.Prelude.{◌≡◌, ◌≤◌, ℕ, ◌&&◌, nat_le, Bool, true, not, is_some, if◌then◌else◌, Option, option_and_then, Some}
use Rattle.std.specs.Prelude.{None, Result, Ok, ok_or, length}
use Rattle.rad_packet.specs.Attributes.{Attribute, value_max}
use Rattle.rad_packet.specs.Ladders.{◌>>=◌, refuse_if}
use Rattle.rad_dictionary.specs.Dictionary.{dictionary, kind_of, may_be_granted, type_named}
use Rattle.rad_dictionary.specs.Values.{takes_tag, written}
use Rattle.rad_dictionary.specs.declared.kind.Kind.{Kind}
use Rattle.rad_dictionary.specs.declared.kind.Kind.TheVariants.{OfVendor}
use Rattle.rad_dictionary.specs.Parts.{Giving, Naming}
use Rattle.rad_dictionary.specs.Parts as named
use Rattle.rad_dictionary.specs.declared.named.Misfit.{Misfit}
use Rattle.rad_dictionary.specs.declared.named.Misfit.TheVariants as misfits

-- the Vendor-Specific's Type (RFC 2865, section 5.26)
abbrev pub type_vendor_specific : ℕ
type_vendor_specific = 26

-- a Type, if an Access-Accept can be given it
abbrev pub granted_type : ℕ → Option ℕ
granted_type number = if may_be_granted number then Some number else None

abbrev pub is_between : ℕ → ℕ → ℕ → Bool
is_between least most number = nat_le least number && nat_le number most

-- which Type is meant, if there is such an attribute; the high octet of a vendor's number is zero
abbrev pub type_meant : Naming → Option ℕ
type_meant (named.name name) = option_and_then granted_type (type_named dictionary name)
type_meant (named.kind number) = granted_type number
type_meant (named.of_vendor vendor number) =
    if is_between 1 16777215 vendor && is_between 1 255 number then Some type_vendor_specific else None

-- what its Value is
abbrev pub kind_meant : Naming → ℕ → Kind
kind_meant (named.of_vendor vendor number) kind = OfVendor vendor number
kind_meant other kind = kind_of dictionary kind

-- the attribute that is meant, or the first part that doesn't fit
unfoldable pub attribute_meant : Naming → Option ℕ → Giving → Result Attribute Misfit
attribute_meant naming tag how = do
  kind ← ok_or (type_meant naming) misfits.Attribute
  fits ← refuse_if (is_some tag && not (takes_tag (kind_meant naming kind) how)) misfits.Tag
  value ← ok_or (written (kind_meant naming kind) tag how) misfits.Value
  Ok (record { kind = kind; value = value })

-- an attribute that an Access-Accept can be given, with a Value of 1 to 253 octets
pub record IsGrantable (attribute : Attribute) : Type 0 where
  pub kind : may_be_granted attribute.kind ≡ true
  pub least : 1 ≤ length attribute.value
  pub most : length attribute.value ≤ value_max

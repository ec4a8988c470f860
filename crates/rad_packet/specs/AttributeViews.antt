-- What contracts see of an attribute of the code.
use Rattle.rad_packet.specs.Attributes.{Attribute}
use Rattle.rad_packet.specs.declared.attribute.Attribute.{Attribute as AttributeOfCode}

-- the attribute without where its Value is in memory
abbrev pub attribute_of : AttributeOfCode → Attribute
attribute_of a = record { kind = a.kind; value = a.value.now }

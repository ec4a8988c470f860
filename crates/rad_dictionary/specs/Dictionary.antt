-- The attributes of the RFCs that an Access-Accept can be given: their names, their Types and what their Values are. A text is a
-- list of octets, which are numbers below 256.
use Rattle.std.specs.Prelude.{ℕ, ◌==◌, Bool, not, List, [], ◌∷◌, ◌++◌, codes, Option, find, option_map, unwrap_or}
use Rattle.std.specs.List.{list_any}
use Rattle.std.specs.Str.{str_eq_ignore_ascii_case}
use Rattle.rad_dictionary.specs.declared.enumeration.Enumeration.{Enumeration}
use Rattle.rad_dictionary.specs.declared.enumeration.Enumeration.TheVariants as names
use Rattle.rad_dictionary.specs.declared.kind.Kind.{Kind}
use Rattle.rad_dictionary.specs.declared.kind.Kind.TheVariants as kinds

-- whether a name is this one, in whichever case
unfoldable pub is_named : List ℕ → List ℕ → Bool
is_named own name = str_eq_ignore_ascii_case own name

-- ---- names of numbers

-- a number, and its name
pub record Choice : Type 0 where
  pub number : ℕ
  pub name : List ℕ

abbrev pub choice : ℕ → List ℕ → Choice
choice number name = record { number = number; name = name }

abbrev pub choices : Enumeration → List Choice
-- RFC 2865, section 5.10.
choices names.FramedRouting =
    choice 0 (codes "None")
    ∷ choice 1 (codes "Send routing packets")
    ∷ choice 2 (codes "Listen for routing packets")
    ∷ choice 3 (codes "Send and Listen")
    ∷ []
-- RFC 2865, section 5.13.
choices names.FramedCompression =
    choice 0 (codes "None")
    ∷ choice 1 (codes "VJ TCP/IP header compression")
    ∷ choice 2 (codes "IPX header compression")
    ∷ choice 3 (codes "Stac-LZS compression")
    ∷ []
-- RFC 2865, section 5.15.
choices names.LoginService =
    choice 0 (codes "Telnet")
    ∷ choice 1 (codes "Rlogin")
    ∷ choice 2 (codes "TCP Clear")
    ∷ choice 3 (codes "PortMaster")
    ∷ choice 4 (codes "LAT")
    ∷ choice 5 (codes "X25-PAD")
    ∷ choice 6 (codes "X25-T3POS")
    ∷ choice 8 (codes "TCP Clear Quiet")
    ∷ []
-- RFC 2865, section 5.29.
choices names.TerminationAction =
    choice 0 (codes "Default")
    ∷ choice 1 (codes "RADIUS-Request")
    ∷ []
-- RFC 2869, section 5.6.
choices names.ArapZoneAccess =
    choice 1 (codes "Only allow access to default zone")
    ∷ choice 2 (codes "Use zone filter inclusively")
    ∷ choice 4 (codes "Use zone filter exclusively")
    ∷ []
-- RFC 2868, section 3.1, and RFC 3580, section 3.31.
choices names.TunnelType =
    choice 1 (codes "PPTP")
    ∷ choice 2 (codes "L2F")
    ∷ choice 3 (codes "L2TP")
    ∷ choice 4 (codes "ATMP")
    ∷ choice 5 (codes "VTP")
    ∷ choice 6 (codes "AH")
    ∷ choice 7 (codes "IP-IP")
    ∷ choice 8 (codes "MIN-IP-IP")
    ∷ choice 9 (codes "ESP")
    ∷ choice 10 (codes "GRE")
    ∷ choice 11 (codes "DVS")
    ∷ choice 12 (codes "IP-in-IP Tunneling")
    ∷ choice 13 (codes "VLAN")
    ∷ []
-- RFC 2868, section 3.2.
choices names.TunnelMediumType =
    choice 1 (codes "IPv4")
    ∷ choice 2 (codes "IPv6")
    ∷ choice 3 (codes "NSAP")
    ∷ choice 4 (codes "HDLC")
    ∷ choice 5 (codes "BBN 1822")
    ∷ choice 6 (codes "802")
    ∷ choice 7 (codes "E.163")
    ∷ choice 8 (codes "E.164")
    ∷ choice 9 (codes "F.69")
    ∷ choice 10 (codes "X.121")
    ∷ choice 11 (codes "IPX")
    ∷ choice 12 (codes "Appletalk")
    ∷ choice 13 (codes "Decnet IV")
    ∷ choice 14 (codes "Banyan Vines")
    ∷ choice 15 (codes "E.164 with NSAP format subaddress")
    ∷ []

-- the number with this name, in whichever case
abbrev pub number_named : List Choice → List ℕ → Option ℕ
number_named choices name = option_map (λ choice. choice.number) (find (λ choice. is_named choice.name name) choices)

-- whether a number has a name
abbrev pub has_name : List Choice → ℕ → Bool
has_name choices number = list_any (λ choice. choice.number == number) choices

-- ---- attributes

-- an attribute: its name, its Type, and what its Value is
pub record Row : Type 0 where
  pub name : List ℕ
  pub number : ℕ
  pub kind : Kind

abbrev pub row : List ℕ → ℕ → Kind → Row
row name number kind = record { name = name; number = number; kind = kind }

-- the greatest number of four octets
abbrev pub number_max : ℕ
number_max = 4294967295

-- any integer, and one that fits two octets
abbrev pub integer : Kind
integer = kinds.Integer 0 number_max

abbrev pub short : Kind
short = kinds.Integer 0 65535

-- RFC 2865, section 5, RFC 2868, section 3, RFC 2869, section 5, RFC 3162, section 2, RFC 4372, section 2.2, RFC 4818, section 3,
-- and RFC 6911, section 3
abbrev pub dictionary : List Row
dictionary =
    row (codes "Framed-IP-Netmask") 9 kinds.Address
    ∷ row (codes "Framed-Routing") 10 (kinds.Enumerated names.FramedRouting)
    ∷ row (codes "Filter-Id") 11 kinds.Text
    ∷ row (codes "Framed-MTU") 12 (kinds.Integer 64 65535)
    ∷ row (codes "Framed-Compression") 13 (kinds.Enumerated names.FramedCompression)
    ∷ row (codes "Login-IP-Host") 14 kinds.Address
    ∷ row (codes "Login-Service") 15 (kinds.Enumerated names.LoginService)
    ∷ row (codes "Login-TCP-Port") 16 short
    ∷ row (codes "Callback-Number") 19 kinds.Text
    ∷ row (codes "Callback-Id") 20 kinds.Text
    ∷ row (codes "Framed-Route") 22 kinds.Text
    ∷ row (codes "Framed-IPX-Network") 23 integer
    ∷ row (codes "Vendor-Specific") 26 kinds.VendorSpecific
    ∷ row (codes "Idle-Timeout") 28 integer
    ∷ row (codes "Termination-Action") 29 (kinds.Enumerated names.TerminationAction)
    ∷ row (codes "Login-LAT-Service") 34 kinds.Text
    ∷ row (codes "Login-LAT-Node") 35 kinds.Text
    ∷ row (codes "Login-LAT-Group") 36 kinds.Unknown
    ∷ row (codes "Framed-AppleTalk-Link") 37 short
    ∷ row (codes "Framed-AppleTalk-Network") 38 short
    ∷ row (codes "Framed-AppleTalk-Zone") 39 kinds.Text
    ∷ row (codes "Port-Limit") 62 integer
    ∷ row (codes "Login-LAT-Port") 63 kinds.Text
    ∷ row (codes "Tunnel-Type") 64 (kinds.TaggedEnumerated names.TunnelType)
    ∷ row (codes "Tunnel-Medium-Type") 65 (kinds.TaggedEnumerated names.TunnelMediumType)
    ∷ row (codes "Tunnel-Client-Endpoint") 66 kinds.TaggedText
    ∷ row (codes "Tunnel-Server-Endpoint") 67 kinds.TaggedText
    ∷ row (codes "ARAP-Zone-Access") 72 (kinds.Enumerated names.ArapZoneAccess)
    ∷ row (codes "Configuration-Token") 78 kinds.Text
    ∷ row (codes "Tunnel-Private-Group-ID") 81 kinds.TaggedText
    ∷ row (codes "Tunnel-Assignment-ID") 82 kinds.TaggedText
    ∷ row (codes "Tunnel-Preference") 83 kinds.TaggedInteger
    ∷ row (codes "Acct-Interim-Interval") 85 (kinds.Integer 60 number_max)
    ∷ row (codes "Framed-Pool") 88 kinds.Text
    ∷ row (codes "Chargeable-User-Identity") 89 kinds.Text
    ∷ row (codes "Tunnel-Client-Auth-ID") 90 kinds.TaggedText
    ∷ row (codes "Tunnel-Server-Auth-ID") 91 kinds.TaggedText
    ∷ row (codes "Framed-Interface-Id") 96 kinds.InterfaceId
    ∷ row (codes "Framed-IPv6-Prefix") 97 kinds.Ipv6Prefix
    ∷ row (codes "Login-IPv6-Host") 98 kinds.Ipv6Address
    ∷ row (codes "Framed-IPv6-Route") 99 kinds.Text
    ∷ row (codes "Framed-IPv6-Pool") 100 kinds.Text
    ∷ row (codes "Delegated-IPv6-Prefix") 123 kinds.Ipv6Prefix
    ∷ row (codes "Framed-IPv6-Address") 168 kinds.Ipv6Address
    ∷ row (codes "DNS-Server-IPv6-Address") 169 kinds.Ipv6Address
    ∷ row (codes "Route-IPv6-Information") 170 kinds.Ipv6Prefix
    ∷ row (codes "Delegated-IPv6-Prefix-Pool") 171 kinds.Text
    ∷ row (codes "Stateful-IPv6-Address-Pool") 172 kinds.Text
    ∷ []

-- the Type of the attribute with this name, in whichever case
abbrev pub type_named : List Row → List ℕ → Option ℕ
type_named rows name = option_map (λ row. row.number) (find (λ row. is_named row.name name) rows)

-- what the Value of an attribute of this Type is
abbrev pub kind_of : List Row → ℕ → Kind
kind_of rows number = unwrap_or (option_map (λ row. row.kind) (find (λ row. row.number == number) rows)) kinds.Unknown

-- ---- which an Access-Accept can be given

-- 0, which is no Type; those that the server writes by keys of their own, and those that it copies or computes
abbrev pub written_types : List ℕ
written_types = 0 ∷ 6 ∷ 7 ∷ 8 ∷ 18 ∷ 24 ∷ 25 ∷ 27 ∷ 33 ∷ 79 ∷ 80 ∷ []

-- The User-Name; those that other packets have (RFC 2865, section 5.44, RFC 2866, section 5.13, RFC 2867, section 5, RFC 2869,
-- section 5.19, RFC 3162, section 3, RFC 5176, section 3.5, and RFC 7155, section 4.4.10.7); and those whose Value differs in each
-- reply: Tunnel-Password (RFC 2868, section 3.5), ARAP-Features and ARAP-Challenge-Response (RFC 2869, sections 5.5 and 5.15).
abbrev pub others_types : List ℕ
others_types =
    1 ∷ 2 ∷ 3 ∷ 4 ∷ 5 ∷ 30 ∷ 31 ∷ 32 ∷ 40 ∷ 41 ∷ 42 ∷ 43 ∷ 44 ∷ 45 ∷ 46 ∷ 47 ∷ 48 ∷ 49 ∷ 50 ∷ 51 ∷ 52 ∷ 53 ∷ 55 ∷ 60 ∷ 61 ∷ 68 ∷ 69
    ∷ 70 ∷ 71 ∷ 73 ∷ 74 ∷ 75 ∷ 76 ∷ 77 ∷ 84 ∷ 86 ∷ 87 ∷ 94 ∷ 95 ∷ 101 ∷ []

abbrev pub is_among : List ℕ → ℕ → Bool
is_among types number = list_any (λ one. one == number) types

abbrev pub may_be_granted : ℕ → Bool
may_be_granted number = not (is_among (written_types ++ others_types) number)

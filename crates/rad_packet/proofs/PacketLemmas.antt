-- Datagrams and the packets that they hold.
use Rattle.std.proofs.Common.{◌≡◌, ℕ, ◌+◌, ◌-◌, ◌<◌, ◌≤◌, false, cond, ltb, ◌||◌, ◌⊎◌, List, [], ◌∷◌, ◌++◌, length, take, drop}
use Rattle.std.proofs.Common.{get_or, Option, Some, None, Result, Ok, Err, refl, sym, ap, ◌∙◌, arith, inl, inr}
use Rattle.std.specs.Prelude.{unwrap_or, IfOk, IfErr}
use Rattle.std.specs.Int.{w16, to_be_bytes}
use Rattle.std.proofs.lemmas.Bool.{cases_lt, le-ltb, lt-ltb}
use Rattle.std.proofs.lemmas.List.{take_at, drop_at, take-append-drop, length-append, length-take, length-drop, length-take-le}
use Rattle.std.proofs.lemmas.List.{get_or-take, get_or_past, append_assoc, drop-take, take-take, drop-drop, append-nil}
use Rattle.std.proofs.lemmas.Nat.{be_bytes_2, from_be_bytes-to_be_bytes_2}
use Rattle.rad_packet.specs.declared.packet.ReadFault.{ReadFault}
use Rattle.rad_packet.specs.declared.packet.ReadFault.TheVariants.{Short, BadLength, Truncated, BadAttributes}
use Rattle.rad_packet.specs.Attributes.{Attribute, attributes_octets, attributes_of, attributes_in}
use Rattle.rad_packet.specs.Packets.{Packet, IsPacket, IsWhole, IsFault, HasLength, header_size, length_max, packet_length}
use Rattle.rad_packet.specs.Packets.{packet_octets, packet_of, packet_with, packet_in, length_field, attributes_field}
use Rattle.rad_packet.proofs.AttributeLemmas.{IsOctets, IsOctets-drop, of-spelled, within-spells}

IsOctets-take : (n : ℕ) (octets : List ℕ) → IsOctets octets → IsOctets (take n octets)
IsOctets-take n octets h i =
    elim (cases_lt i n) [
      | inl lt ↦ rw (get_or-take n octets i 0 lt) (h i)
      | inr le ↦ rw (get_or_past (take n octets) i 0 (omega (arith, length-take n octets))) (omega arith)
    ]

-- ---- which packet or fault a datagram holds

abbrev pub packet_fields : List ℕ → List Attribute → Packet
packet_fields datagram list = record {
  code = get_or datagram 0 0;
  identifier = get_or datagram 1 0;
  authenticator = take 16 (drop 4 datagram);
  attributes = list;
}

pub data Reads (datagram : List ℕ) : Result Packet ReadFault → Type 0 where
  short : length datagram < header_size → Reads datagram (Err Short)
  bad : header_size ≤ length datagram → (length_field datagram < header_size) ⊎ (length_max < length_field datagram)
      → Reads datagram (Err BadLength)
  cut : HasLength datagram → length datagram < length_field datagram → Reads datagram (Err Truncated)
  odd : HasLength datagram → length_field datagram ≤ length datagram → attributes_of (attributes_field datagram) ≡ None
      → Reads datagram (Err BadAttributes)
  whole : (list : List Attribute) → HasLength datagram → length_field datagram ≤ length datagram
      → attributes_of (attributes_field datagram) ≡ Some list → Reads datagram (Ok (packet_fields datagram list))

abbrev after_header : List ℕ → Result Packet ReadFault
after_header d =
    cond (ltb (length_field d) header_size || ltb length_max (length_field d)) (Err BadLength)
    (cond (ltb (length d) (length_field d)) (Err Truncated) (packet_with d (attributes_of (attributes_field d))))

reads_attributes : (d : List ℕ) → HasLength d → length_field d ≤ length d → (found : Option (List Attribute))
    → attributes_of (attributes_field d) ≡ found → Reads d (packet_with d found)
reads_attributes d has long None e = odd has long e
reads_attributes d has long (Some list) e = whole list has long e

reads_length : (d : List ℕ) → HasLength d
    → Reads d (cond (ltb (length d) (length_field d)) (Err Truncated) (packet_with d (attributes_of (attributes_field d))))
reads_length d has =
    elim (cases_lt (length d) (length_field d)) [
      | inl lt ↦ rw (lt-ltb (length d) (length_field d) lt) (cut has lt)
      | inr le ↦ rw (le-ltb (length d) (length_field d) le) (reads_attributes d has le (attributes_of (attributes_field d)) refl)
    ]

reads_header : (d : List ℕ) → header_size ≤ length d → Reads d (after_header d)
reads_header d le =
    elim (cases_lt (length_field d) header_size) [
      | inl low ↦ rw (lt-ltb (length_field d) header_size low) (bad le (inl low))
      | inr low ↦ rw (le-ltb (length_field d) header_size low)
          (elim (cases_lt length_max (length_field d)) [
            | inl high ↦ rw (lt-ltb length_max (length_field d) high) (bad le (inr high))
            | inr high ↦ rw (le-ltb length_max (length_field d) high)
                (reads_length d (record { header = le; low = low; high = high }))
          ])
    ]

pub reads : (d : List ℕ) → Reads d (packet_of d)
unfolding packet_of
reads d =
    elim (cases_lt (length d) header_size) [
      | inl lt ↦ rw (lt-ltb (length d) header_size lt) (short lt)
      | inr le ↦ rw (le-ltb (length d) header_size le) (reads_header d le)
    ]

-- what packet_of gives in each case
pub reads-short : (d : List ℕ) → length d < header_size → packet_of d ≡ Err Short
unfolding packet_of
reads-short d lt = rw (lt-ltb (length d) header_size lt) refl

pub reads-bad : (d : List ℕ) → header_size ≤ length d → (length_field d < header_size) ⊎ (length_max < length_field d)
    → packet_of d ≡ Err BadLength
unfolding packet_of
reads-bad d le (inl low) = rw (le-ltb (length d) header_size le, lt-ltb (length_field d) header_size low) refl
reads-bad d le (inr high) =
    let low : ltb (length_field d) header_size ≡ false = le-ltb (length_field d) header_size (omega arith) in
    rw (le-ltb (length d) header_size le, low, lt-ltb length_max (length_field d) high) refl

has_length : (d : List ℕ) → HasLength d
    → packet_of d ≡ cond (ltb (length d) (length_field d)) (Err Truncated) (packet_with d (attributes_of (attributes_field d)))
unfolding packet_of
has_length d has =
    rw (
      le-ltb (length d) header_size has.header,
      le-ltb (length_field d) header_size has.low,
      le-ltb length_max (length_field d) has.high,
    ) refl

pub reads-cut : (d : List ℕ) → HasLength d → length d < length_field d → packet_of d ≡ Err Truncated
reads-cut d has lt = has_length d has ∙ rw (lt-ltb (length d) (length_field d) lt) refl

pub reads-attributes : (d : List ℕ) (found : Option (List Attribute)) → HasLength d → length_field d ≤ length d
    → attributes_of (attributes_field d) ≡ found → packet_of d ≡ packet_with d found
reads-attributes d found has le e = has_length d has ∙ rw (le-ltb (length d) (length_field d) le, e) refl

-- ---- a packet, whole

pub fields_spelled : (o : List ℕ) (list : List Attribute) → header_size ≤ length o → take 2 (drop 2 o) ≡ to_be_bytes w16 (length o)
    → drop header_size o ≡ attributes_octets list → o ≡ packet_octets (packet_fields o list)
fields_spelled [] list le field e = absurd (omega arith)
fields_spelled (code ∷ []) list le field e = absurd (omega arith)
fields_spelled (code ∷ identifier ∷ rest) list le field e =
    let octets_after : drop 18 rest ≡ attributes_octets list = e in
    let len : length (code ∷ identifier ∷ rest) ≡ 20 + length (attributes_octets list) =
    omega (arith, ap length octets_after, length-drop 18 rest) in
    let parts : rest ≡ take 2 rest ++ (take 16 (drop 2 rest) ++ drop 16 (drop 2 rest)) =
    sym (take-append-drop 2 rest) ∙ ap (λ (xs : List ℕ). take 2 rest ++ xs) (sym (take-append-drop 16 (drop 2 rest))) in
    let last : drop 16 (drop 2 rest) ≡ attributes_octets list = drop-drop 16 2 rest ∙ octets_after in
    let length_is : take 2 rest ≡ to_be_bytes w16 (20 + length (attributes_octets list)) = field ∙ ap (to_be_bytes w16) len in
    ap (λ (xs : List ℕ). code ∷ identifier ∷ xs)
    (parts ∙ ap (λ (xs : List ℕ). xs ++ (take 16 (drop 2 rest) ++ drop 16 (drop 2 rest))) length_is
    ∙ ap (λ (xs : List ℕ). to_be_bytes w16 (20 + length (attributes_octets list)) ++ (take 16 (drop 2 rest) ++ xs)) last
    ∙ sym (append_assoc (to_be_bytes w16 (20 + length (attributes_octets list))) (take 16 (drop 2 rest)) (attributes_octets list)))

-- the front of a datagram, up to Length
pub front_length : (d : List ℕ) → length_field d ≤ length d → length (take (length_field d) d) ≡ length_field d
front_length d le = length-take-le (length_field d) d le

front_take : (d : List ℕ) (n k : ℕ) → n + k ≤ length_field d → take k (drop n (take (length_field d) d)) ≡ take k (drop n d)
front_take d n k le =
    let sum : length_field d ≡ n + (length_field d - n) = omega arith in
    ap (λ (m : ℕ). take k (drop n (take m d))) sum ∙ ap (take k) (drop-take n (length_field d - n) d)
    ∙ take-take k (length_field d - n) (drop n d) (omega arith)

pub front_field : (d : List ℕ) → IsOctets d → HasLength d → length_field d ≤ length d
    → take 2 (drop 2 (take (length_field d) d)) ≡ to_be_bytes w16 (length (take (length_field d) d))
front_field d fits has le =
    let len : length (take 2 (drop 2 d)) ≡ 2 = length-take-le 2 (drop 2 d) (omega (arith, length-drop 2 d, has.header)) in
    let spelled = be_bytes_2 (take 2 (drop 2 d)) (length_field d) len (IsOctets-take 2 (drop 2 d) (IsOctets-drop 2 d fits)) refl in
    front_take d 2 2 (omega (arith, has.low)) ∙ sym spelled ∙ ap (to_be_bytes w16) (sym (front_length d le))

pub front_fields : (d : List ℕ) (list : List Attribute) → HasLength d
    → packet_fields (take (length_field d) d) list ≡ packet_fields d list
front_fields d list has =
    let code : get_or (take (length_field d) d) 0 0 ≡ get_or d 0 0 = get_or-take (length_field d) d 0 0 (omega (arith, has.low)) in
    let identifier : get_or (take (length_field d) d) 1 0 ≡ get_or d 1 0 =
    get_or-take (length_field d) d 1 0 (omega (arith, has.low)) in
    let authenticator : take 16 (drop 4 (take (length_field d) d)) ≡ take 16 (drop 4 d) =
    front_take d 4 16 (omega (arith, has.low)) in
    rw (code, identifier, authenticator) refl

pub front_whole : (d : List ℕ) (list : List Attribute) → IsOctets d → HasLength d → length_field d ≤ length d
    → attributes_of (attributes_field d) ≡ Some list
    → IsWhole (take (length_field d) d) × (packet_in (take (length_field d) d) ≡ packet_fields d list)
front_whole d list fits has le e =
    let are = within-spells _ (attributes_field d) list
    (IsOctets-drop header_size (take (length_field d) d) (IsOctets-take (length_field d) d fits)) e in
    let found : attributes_in (attributes_field d) ≡ list = ap (λ o. unwrap_or o []) e in (
      record {
        header = omega (arith, front_length d le, has.low);
        fits = omega (arith, front_length d le, has.high);
        field = front_field d fits has le;
        attributes = rw found are;
      },
      ap (packet_fields (take (length_field d) d)) found ∙ front_fields d list has,
    )

-- ---- what was read is there, and what is there is read

pub found : (d : List ℕ) (r : Result Packet ReadFault) → IsOctets d → Reads d r → IfOk r (IsPacket d)
found d (Err Short) fits (short lt) = tt
found d (Err BadLength) fits (bad le out) = tt
found d (Err Truncated) fits (cut has lt) = tt
found d (Err BadAttributes) fits (odd has le e) = tt
found d (Ok _) fits (whole list has le e) =
    let are = within-spells _ (attributes_field d) list
    (IsOctets-drop header_size (take (length_field d) d) (IsOctets-take (length_field d) d fits)) e in
    let o = take (length_field d) d in
    let spelled : o ≡ packet_octets (packet_fields o list) =
    fields_spelled o list (omega (arith, front_length d le, has.low)) (front_field d fits has le) are.spelled in
    let len : 20 + length (attributes_octets list) ≡ length_field d =
    omega (arith, ap length are.spelled, length-drop header_size o, front_length d le, has.low) in
    record {
      fits = omega (arith, has.high);
      authenticator = length-take-le 16 (drop 4 d) (omega (arith, length-drop 4 d, has.header));
      each = are.each;
      spelled = (
        drop (length_field d) d,
        sym (take-append-drop (length_field d) d)
            ∙ ap (λ (xs : List ℕ). xs ++ drop (length_field d) d) (spelled ∙ ap packet_octets (front_fields d list has)),
      );
    }

pub refused : (d : List ℕ) (r : Result Packet ReadFault) → Reads d r → IfErr r (IsFault d)
refused d (Err Short) (short lt) = lt
refused d (Err BadLength) (bad le out) = (le, out)
refused d (Err Truncated) (cut has lt) = (has, lt)
refused d (Err BadAttributes) (odd has le e) =
    (has, le, λ list are. none list (sym e ∙ ap attributes_of are.spelled ∙ of-spelled list))
  where
    none : (list : List Attribute) → None ≡ Some list → ⊥
    none list e = cc
refused d (Ok _) (whole list has le e) = tt

-- a packet's octets, part by part
module _ (p : Packet) (padding : List ℕ) (authenticator : length p.authenticator ≡ 16) (fits : packet_length p ≤ length_max) where
  after_length : drop 4 (packet_octets p ++ padding) ≡ p.authenticator ++ (attributes_octets p.attributes ++ padding)
  after_length = append_assoc p.authenticator (attributes_octets p.attributes) padding

  datagram_field : length_field (packet_octets p ++ padding) ≡ packet_length p
  datagram_field = from_be_bytes-to_be_bytes_2 (packet_length p) (omega arith)

  datagram_long : packet_length p + length padding ≡ length (packet_octets p ++ padding)
  datagram_long =
      omega (arith, length-append (packet_octets p) padding, length-append p.authenticator (attributes_octets p.attributes))

  datagram_authenticator : take 16 (drop 4 (packet_octets p ++ padding)) ≡ p.authenticator
  datagram_authenticator =
      ap (take 16) after_length ∙ take_at p.authenticator (attributes_octets p.attributes ++ padding) 16 authenticator

  datagram_attributes : attributes_field (packet_octets p ++ padding) ≡ attributes_octets p.attributes
  datagram_attributes =
      let front : take (packet_length p) (packet_octets p ++ padding) ≡ packet_octets p =
      take_at (packet_octets p) padding (packet_length p)
      (omega (arith, length-append p.authenticator (attributes_octets p.attributes))) in
      ap (λ (n : ℕ). drop header_size (take n (packet_octets p ++ padding))) datagram_field ∙ ap (drop header_size) front
      ∙ drop_at p.authenticator (attributes_octets p.attributes) 16 authenticator

pub again : (d : List ℕ) (p : Packet) → IsPacket d p → packet_of d ≡ Ok p
again d p is =
    let padding = is.spelled.0 in
    let e = is.spelled.1 in
    let field = datagram_field p padding is.authenticator is.fits in
    let long = datagram_long p padding is.authenticator is.fits in
    let has : HasLength (packet_octets p ++ padding) =
    record { header = omega arith; low = omega arith; high = omega (arith, is.fits) } in
    let list : attributes_of (attributes_field (packet_octets p ++ padding)) ≡ Some p.attributes =
    ap attributes_of (datagram_attributes p padding is.authenticator is.fits) ∙ of-spelled p.attributes in
    ap packet_of e ∙ reads-attributes (packet_octets p ++ padding) (Some p.attributes) has (omega arith) list
    ∙ ap (λ (a : List ℕ). Ok (record { code = p.code; identifier = p.identifier; authenticator = a; attributes = p.attributes }))
    (datagram_authenticator p padding is.authenticator is.fits)

-- a packet is read again from its octets alone
pub unpadded : (d : List ℕ) (p : Packet) → IsPacket d p → packet_of (packet_octets p) ≡ Ok p
unpadded d p is =
    again (packet_octets p) p (record {
      fits = is.fits;
      authenticator = is.authenticator;
      each = is.each;
      spelled = ([], sym (append-nil (packet_octets p)));
    })

-- what was read is read again from its octets alone
pub found_unpadded : (d : List ℕ) (r : Result Packet ReadFault) → IfOk r (IsPacket d)
    → IfOk r (λ p. packet_of (packet_octets p) ≡ Ok p)
found_unpadded d (Err fault) is = tt
found_unpadded d (Ok p) is = unpadded d p is

-- octets that are a packet hold it, with no padding
pub whole_packet : (o : List ℕ) → IsWhole o → IsPacket o (packet_in o)
whole_packet o is =
    let list = attributes_in (drop header_size o) in
    let spelled = fields_spelled o list is.header is.field is.attributes.spelled in
    let len : header_size + length (attributes_octets list) ≡ length o =
    omega (arith, ap length is.attributes.spelled, length-drop header_size o, is.header) in
    record {
      fits = omega (arith, is.fits);
      authenticator = length-take-le 16 (drop 4 o) (omega (arith, length-drop 4 o, is.header));
      each = is.attributes.each;
      spelled = ([], spelled ∙ sym (append-nil (packet_octets (packet_in o))));
    }

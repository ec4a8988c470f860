-- A datagram's text is read as that datagram.
use Rattle.std.proofs.Common.{◌≡◌, ℕ, suc, ◌+◌, ◌-◌, ◌*◌, ◌/◌, ◌%◌, ◌<◌, ◌≤◌, ◌^◌, ◌⊎◌, inl, inr, false, eqb, List, [], ◌∷◌, ◌++◌}
use Rattle.std.proofs.Common.{length, drop, get_or, Option, Some, None, Ok, refl, sym, ap, subst, ◌∙◌, arith, add-one, append_assoc}
use Rattle.std.proofs.Common.{drop-cons}
use Rattle.std.specs.Prelude.{◌==◌, codes, decimal, slice_index, IfSome}
use Rattle.std.specs.Char.{digit_value}
use Rattle.std.specs.Int.{IsInRange}
use Rattle.std.specs.List.{AllByRecursion}
use Rattle.std.specs.Result.{result_ok}
use Rattle.std.specs.Net.Text.{dotted_text}
use Rattle.std.specs.Str.Parse.{AllDigits, digits_value_after}
use Rattle.std.proofs.lemmas.Bool.{eq-eqb, false_from_ne_true, le-leb, le-ltb, ne_eqb, cases_lt}
use Rattle.std.proofs.lemmas.Fmt.{decimal_digit, decimal_is_IsNumeral, decimal_nonempty, first_decimal, length-decimal-le}
use Rattle.std.proofs.lemmas.List.{append-nil, drop_all}
use Rattle.std.proofs.lemmas.Str.{digit_value_digit}
use Rattle.std.proofs.lemmas.Str.Parse.{digit_from_value}
use lib.Pointwise.{pointwise, pointwise_long}
use Rattle.hex.specs.Hex.{IsBytes, decode_of, encode_lower, encode_with, hex_digit_value, lower_digits}
use Rattle.hex.proofs.HexLemmas.{IsDigits-lower_digits, decode_of-encode_lower, decode_sized-encode_lower, length-encode_with}
use Rattle.rad_packet.specs.Packets.{length_max}
use Rattle.rad_auth.specs.declared.arrival.Door.{Door}
use Rattle.rad_auth.specs.declared.arrival.Door.TheVariants.{Auth, Acct}
use Rattle.rad_text.specs.Decimals.{digit_of, digits_from, number_of, has_leading_zero, address_part_of, address_of}
use Rattle.rad_text.specs.Splits.{split_once}
use Rattle.rad_config.specs.Spans.{moment_max}
use Rattle.rad_replay.specs.DatagramLines.{TimedDatagram, moment_of, port_of, door_of, octets_of, draw_in, content_of}
use Rattle.rad_replay.specs.DatagramLines.{datagram_of_line}
use Rattle.rad_replay.specs.DatagramTexts.{door_name, address_text, octets_text, content_text, datagram_text, IsDraw}
use Rattle.rad_replay.specs.DatagramTexts.{DatagramTextsAreRead}

-- ---- a text with no separator in it is the part before the first one

-- no octet is this one
abbrev Lacks : ℕ → List ℕ → Type 0
Lacks separator text = AllByRecursion (λ octet. (octet == separator) ≡ false) text

split_once-first : (separator : ℕ) (front rest : List ℕ) → Lacks separator front
    → split_once separator (front ++ separator ∷ rest) ≡ Some (front, rest)
split_once-first separator [] rest lacks = rw (eq-eqb separator separator refl) refl
split_once-first separator (octet ∷ front) rest lacks = rw (lacks.0, split_once-first separator front rest lacks.1) refl

split_once-none : (separator : ℕ) (text : List ℕ) → Lacks separator text → split_once separator text ≡ None
split_once-none separator [] lacks = refl
split_once-none separator (octet ∷ text) lacks = rw (lacks.0, split_once-none separator text lacks.1) refl

Lacks-append : (separator : ℕ) (front rest : List ℕ) → Lacks separator front → Lacks separator rest
    → Lacks separator (front ++ rest)
Lacks-append separator [] rest lacks others = others
Lacks-append separator (octet ∷ front) rest lacks others = (lacks.0, Lacks-append separator front rest lacks.1 others)

Lacks-digits : (separator : ℕ) (text : List ℕ) → (separator < 48) ⊎ (57 < separator) → AllDigits 10 text → Lacks separator text
Lacks-digits separator [] other digits = tt
Lacks-digits separator (octet ∷ text) other digits =
    let is = digit_from_value octet digits.0 in (
      ne_eqb octet separator (λ e. elim other [ inl below ↦ omega arith | inr above ↦ omega arith ]),
      Lacks-digits separator text other digits.1,
    )

Lacks-decimal : (separator number : ℕ) → (separator < 48) ⊎ (57 < separator) → number < 2 ^ 64 → Lacks separator (decimal number)
Lacks-decimal separator number other small = Lacks-digits separator (decimal number) other (decimal_is_IsNumeral number small).0.1

-- ---- a number's digits are read as that number

digit_of-digit : (octet : ℕ) → IsInRange 48 57 octet → digit_of octet ≡ Some (octet - 48)
digit_of-digit octet is = rw (le-leb 48 octet (omega arith), le-leb octet 57 (omega arith)) refl

digits_from-digits : (number : ℕ) (text : List ℕ) → AllDigits 10 text
    → digits_from number text ≡ Some (digits_value_after 10 number text)
digits_from-digits number [] digits = refl
digits_from-digits number (octet ∷ text) digits =
    let is = digit_from_value octet digits.0 in
    let same : 10 * number + (octet - 48) ≡ number * 10 + digit_value octet = omega (arith, digit_value_digit octet is) in
    rw (digit_of-digit octet is) (ap (λ (n : ℕ). digits_from n text) same
    ∙ digits_from-digits (number * 10 + digit_value octet) text digits.1)

number_of-decimal : (most greatest number : ℕ) → number < 2 ^ 64 → number ≤ greatest → length (decimal number) ≤ most
    → number_of most greatest (decimal number) ≡ Some number
unfolding number_of
number_of-decimal most greatest number small fits short =
    let numeral = decimal_is_IsNumeral number small in
    let some : eqb (length (decimal number)) 0 ≡ false =
    ne_eqb (length (decimal number)) 0 (λ none. omega (arith, decimal_nonempty number small)) in
    let read : digits_from 0 (decimal number) ≡ Some number =
    digits_from-digits 0 (decimal number) numeral.0.1 ∙ ap (λ (n : ℕ). Some n) numeral.1 in
    rw (some, le-ltb most (length (decimal number)) short, read, le-leb number greatest fits) refl

-- ---- an address

has_leading_zero-first : (text : List ℕ) → 48 < get_or text 0 0 → has_leading_zero text ≡ false
has_leading_zero-first [] first = refl
has_leading_zero-first (octet ∷ []) first = refl
has_leading_zero-first (octet ∷ next ∷ text) first = ne_eqb octet 48 (λ e. omega arith)

has_leading_zero-decimal : (number : ℕ) → number < 2 ^ 64 → has_leading_zero (decimal number) ≡ false
has_leading_zero-decimal number small =
    elim (cases_lt 0 number) [
      | inl some ↦ has_leading_zero-first (decimal number) (first_decimal number some small)
      | inr none ↦ ap has_leading_zero (decimal_digit number (omega arith))
    ]

address_part_of-decimal : (number : ℕ) → number < 256 → address_part_of (decimal number) ≡ Some number
unfolding address_part_of
address_part_of-decimal number small =
    rw (
      has_leading_zero-decimal number (omega arith),
      number_of-decimal 3 255 number (omega arith) (omega arith)
          (length-decimal-le 3 number (omega arith) (omega arith) (omega arith)),
    ) refl

dotted_text-parts : (a b c d : ℕ) → dotted_text a b c d ≡ decimal a ++ 46 ∷ (decimal b ++ 46 ∷ (decimal c ++ 46 ∷ decimal d))
dotted_text-parts a b c d = simp append_assoc

address_of-dotted_text : (a b c d : ℕ) → a < 256 → b < 256 → c < 256 → d < 256
    → address_of (dotted_text a b c d) ≡ Some (((a * 256 + b) * 256 + c) * 256 + d)
unfolding address_of
address_of-dotted_text a b c d la lb lc ld = ap address_of (dotted_text-parts a b c d) ∙ of_parts
  where
    of_parts : address_of (decimal a ++ 46 ∷ (decimal b ++ 46 ∷ (decimal c ++ 46 ∷ decimal d)))
        ≡ Some (((a * 256 + b) * 256 + c) * 256 + d)
    of_parts =
        rw (
          split_once-first 46 (decimal a) (decimal b ++ 46 ∷ (decimal c ++ 46 ∷ decimal d))
              (Lacks-decimal 46 a (inl (omega arith)) (omega arith)),
          split_once-first 46 (decimal b) (decimal c ++ 46 ∷ decimal d) (Lacks-decimal 46 b (inl (omega arith)) (omega arith)),
          split_once-first 46 (decimal c) (decimal d) (Lacks-decimal 46 c (inl (omega arith)) (omega arith)),
          address_part_of-decimal a la,
          address_part_of-decimal b lb,
          address_part_of-decimal c lc,
          address_part_of-decimal d ld,
        )
        refl

address_of-text : (address : ℕ) → address < 2 ^ 32 → address_of (address_text address) ≡ Some address
address_of-text address small =
    let whole : ((address / 2 ^ 24 * 256 + address / 2 ^ 16 % 256) * 256 + address / 2 ^ 8 % 256) * 256 + address % 256 ≡ address =
    omega arith in
    address_of-dotted_text (address / 2 ^ 24) (address / 2 ^ 16 % 256) (address / 2 ^ 8 % 256) (address % 256) (omega arith)
    (omega arith) (omega arith) (omega arith) ∙ ap (λ (n : ℕ). Some n) whole

Lacks-dotted_text : (separator a b c d : ℕ) → (separator < 46) ⊎ (57 < separator) → a < 256 → b < 256 → c < 256 → d < 256
    → Lacks separator (dotted_text a b c d)
Lacks-dotted_text separator a b c d other la lb lc ld =
    subst (Lacks separator) (sym (dotted_text-parts a b c d)) (followed a _ la (followed b _ lb (followed c _ lc (part d ld))))
  where
    part : (number : ℕ) → number < 256 → Lacks separator (decimal number)
    part number few =
        Lacks-decimal separator number (elim other [ inl below ↦ inl (omega arith) | inr above ↦ inr above ]) (omega arith)

    no_point : (46 == separator) ≡ false
    no_point = ne_eqb 46 separator (λ e. elim other [ inl below ↦ omega arith | inr above ↦ omega arith ])

    followed : (number : ℕ) (rest : List ℕ) → number < 256 → Lacks separator rest → Lacks separator (decimal number ++ 46 ∷ rest)
    followed number rest few lacks = Lacks-append separator (decimal number) (46 ∷ rest) (part number few) (no_point, lacks)

Lacks-address : (separator address : ℕ) → (separator < 46) ⊎ (57 < separator) → address < 2 ^ 32
    → Lacks separator (address_text address)
Lacks-address separator address other small =
    Lacks-dotted_text separator (address / 2 ^ 24) (address / 2 ^ 16 % 256) (address / 2 ^ 8 % 256) (address % 256) other
    (omega arith) (omega arith) (omega arith) (omega arith)

-- ---- octets and doors

-- the digits of one octet more
pub hexadecimal_one_more : (text octets : List ℕ) (i d : ℕ) → i < length octets
    → (text ++ slice_index lower_digits (get_or octets i d / 16) ∷ slice_index lower_digits (get_or octets i d % 16) ∷ [])
    ++ encode_lower (drop (i + 1) octets) ≡ text ++ encode_lower (drop i octets)
unfolding encode_with
hexadecimal_one_more text octets i d lt = rw (append_assoc, add-one, drop-cons octets i d lt) refl

-- no octets are left
pub hexadecimal_done : (text octets : List ℕ) (i : ℕ) → length octets ≤ i → text ++ encode_lower (drop i octets) ≡ text
unfolding encode_with
hexadecimal_done text octets i all = rw (drop_all i octets all) (append-nil text)

pub ruleset hexadecimal_steps = (hexadecimal_one_more, hexadecimal_done)

octets_of-digits : (text octets : List ℕ) → 0 < length octets → length octets ≤ length_max → length text ≡ 2 * length octets
    → decode_of text ≡ Ok octets → octets_of text ≡ Some octets
unfolding octets_of
octets_of-digits text octets some short twice is =
    let other : pointwise ◌==◌ text (codes "-") ≡ false =
    false_from_ne_true (pointwise ◌==◌ text (codes "-"))
    (λ same. let one : length text ≡ 1 = pointwise_long ◌==◌ text (codes "-") same in omega arith) in
    rw (other, le-ltb (length text) 2 (omega arith), le-ltb (2 * length_max) (length text) (omega arith), is) refl

octets_text-digits : (octet : ℕ) (octets : List ℕ) → octets_text (octet ∷ octets) ≡ encode_lower (octet ∷ octets)
octets_text-digits octet octets =
    let some : eqb (length (octet ∷ octets)) 0 ≡ false = ne_eqb (length (octet ∷ octets)) 0 (λ none. omega arith) in
    rw some refl

octets_of-text : (octets : List ℕ) → IsBytes octets → length octets ≤ length_max → octets_of (octets_text octets) ≡ Some octets
unfolding octets_of
octets_of-text [] bytes short = refl
octets_of-text (octet ∷ octets) bytes short =
    ap octets_of (octets_text-digits octet octets)
    ∙ octets_of-digits (encode_lower (octet ∷ octets)) (octet ∷ octets) (omega arith) short
    (length-encode_with lower_digits (octet ∷ octets)) (decode_of-encode_lower (octet ∷ octets) bytes)

-- a hexadecimal digit is no space
digit-no_space : (digit : ℕ) → digit < 16 → (slice_index lower_digits digit == 32) ≡ false
digit-no_space digit small =
    ne_eqb (slice_index lower_digits digit) 32
    (λ is. let none : None ≡ Some digit = ap hex_digit_value (sym is) ∙ IsDigits-lower_digits digit small in cc)

Lacks-hexadecimal : (octets : List ℕ) → IsBytes octets → Lacks 32 (encode_lower octets)
unfolding encode_with
Lacks-hexadecimal [] bytes = tt
Lacks-hexadecimal (octet ∷ octets) bytes =
    let small : octet < 256 = bytes 0 in (
      digit-no_space (octet / 16) (omega arith),
      (digit-no_space (octet % 16) (omega arith), Lacks-hexadecimal octets (λ i. bytes (suc i))),
    )

Lacks-octets : (octets : List ℕ) → IsBytes octets → Lacks 32 (octets_text octets)
Lacks-octets [] bytes = (refl, tt)
Lacks-octets (octet ∷ octets) bytes =
    subst (Lacks 32) (sym (octets_text-digits octet octets)) (Lacks-hexadecimal (octet ∷ octets) bytes)

draw_in-digits : (draw : List ℕ) → IsDraw draw → draw_in (encode_lower draw) ≡ Some draw
unfolding draw_in
draw_in-digits draw (bytes, long) = ap result_ok (decode_sized-encode_lower draw 16 long bytes)

content_of-octets : (text octets : List ℕ) → Lacks 32 text → octets_of text ≡ Some octets → content_of text ≡ Some (octets, None)
unfolding content_of
content_of-octets text octets lacks octets_is = rw (split_once-none 32 text lacks, octets_is) refl

content_of-both : (text digits octets draw : List ℕ) → Lacks 32 text → octets_of text ≡ Some octets → draw_in digits ≡ Some draw
    → content_of (text ++ 32 ∷ digits) ≡ Some (octets, Some draw)
unfolding content_of
content_of-both text digits octets draw lacks octets_is draw_is =
    rw (split_once-first 32 text digits lacks, octets_is, draw_is) refl

content_of-text : (octets : List ℕ) (draw : Option (List ℕ)) → IsBytes octets → length octets ≤ length_max → IfSome draw IsDraw
    → content_of (content_text octets draw) ≡ Some (octets, draw)
content_of-text octets None bytes short fits =
    ap content_of (append-nil (octets_text octets))
    ∙ content_of-octets (octets_text octets) octets (Lacks-octets octets bytes) (octets_of-text octets bytes short)
content_of-text octets (Some draw) bytes short fits =
    content_of-both (octets_text octets) (encode_lower draw) octets draw (Lacks-octets octets bytes)
    (octets_of-text octets bytes short) (draw_in-digits draw fits)

door_of-name : (door : Door) → door_of (door_name door) ≡ Some door
unfolding door_of
door_of-name Auth = refl
door_of-name Acct = refl

Lacks-door : (door : Door) → Lacks 32 (door_name door)
Lacks-door Auth = (refl, (refl, (refl, (refl, tt))))
Lacks-door Acct = (refl, (refl, (refl, (refl, tt))))

-- ---- a whole line

line_of_parts : (moment_text door_text address port_text content : List ℕ) (moment : ℕ) (door : Door) (source port : ℕ)
    (octets : List ℕ) (draw : Option (List ℕ)) → Lacks 32 moment_text → Lacks 32 door_text → Lacks 58 address
    → Lacks 32 (address ++ 58 ∷ port_text)
    → moment_of moment_text ≡ Some moment → door_of door_text ≡ Some door → address_of address ≡ Some source
    → port_of port_text ≡ Some port → content_of content ≡ Some (octets, draw)
    → datagram_of_line (moment_text ++ 32 ∷ (door_text ++ 32 ∷ ((address ++ 58 ∷ port_text) ++ 32 ∷ content)))
    ≡ Some (record {
      moment = moment;
      datagram = record { source = source; port = port; door = door; octets = octets };
      draw = draw;
    })
unfolding datagram_of_line
line_of_parts moment_text door_text address port_text content moment door source port octets draw moment_lacks door_lacks
    address_lacks source_lacks moment_is door_is source_is port_is content_is =
    rw (
      split_once-first 32 moment_text (door_text ++ 32 ∷ ((address ++ 58 ∷ port_text) ++ 32 ∷ content)) moment_lacks,
      split_once-first 32 door_text ((address ++ 58 ∷ port_text) ++ 32 ∷ content) door_lacks,
      split_once-first 32 (address ++ 58 ∷ port_text) content source_lacks,
      split_once-first 58 address port_text address_lacks,
      moment_is,
      door_is,
      source_is,
      port_is,
      content_is,
    )
    refl

moment_of-decimal : (moment : ℕ) → moment ≤ moment_max → moment_of (decimal moment) ≡ Some moment
unfolding moment_of
moment_of-decimal moment fits =
    number_of-decimal 19 moment_max moment (omega arith) fits
    (length-decimal-le 19 moment (omega arith) (omega arith) (omega arith))

port_of-decimal : (port : ℕ) → port < 2 ^ 16 → port_of (decimal port) ≡ Some port
unfolding port_of
port_of-decimal port small =
    number_of-decimal 5 65535 port (omega arith) (omega arith) (length-decimal-le 5 port (omega arith) (omega arith) (omega arith))

datagram_text-parts : (timed : TimedDatagram)
    → datagram_text timed
    ≡ decimal timed.moment ++ 32 ∷ (door_name timed.datagram.door ++ 32
    ∷ ((address_text timed.datagram.source ++ 58 ∷ decimal timed.datagram.port) ++ 32
    ∷ content_text timed.datagram.octets timed.draw))
datagram_text-parts timed = parts (decimal timed.moment) (door_name timed.datagram.door) (address_text timed.datagram.source)
    (decimal timed.datagram.port) (content_text timed.datagram.octets timed.draw)
  where
    parts : (a b c d e : List ℕ) → a ++ 32 ∷ [] ++ b ++ 32 ∷ [] ++ (c ++ 58 ∷ [] ++ d) ++ 32 ∷ [] ++ e
        ≡ a ++ 32 ∷ (b ++ 32 ∷ ((c ++ 58 ∷ d) ++ 32 ∷ e))
    parts a b c d e = simp append_assoc

-- the text of each datagram that fits a line is read as that datagram
pub datagram_texts_are_read : DatagramTextsAreRead
datagram_texts_are_read timed fits =
    let datagram = timed.datagram in
    let source = Lacks-address 32 datagram.source (inl (omega arith)) fits.source in
    let port = Lacks-decimal 32 datagram.port (inl (omega arith)) (omega (arith, fits.port)) in
    ap datagram_of_line (datagram_text-parts timed)
    ∙ line_of_parts (decimal timed.moment) (door_name datagram.door) (address_text datagram.source) (decimal datagram.port)
    (content_text datagram.octets timed.draw) timed.moment datagram.door datagram.source datagram.port datagram.octets timed.draw
    (Lacks-decimal 32 timed.moment (inl (omega arith)) (omega (arith, fits.moment)))
    (Lacks-door datagram.door)
    (Lacks-address 58 datagram.source (inr (omega arith)) fits.source)
    (Lacks-append 32 (address_text datagram.source) (58 ∷ decimal datagram.port) source (refl, port))
    (moment_of-decimal timed.moment fits.moment)
    (door_of-name datagram.door)
    (address_of-text datagram.source fits.source)
    (port_of-decimal datagram.port fits.port)
    (content_of-text datagram.octets timed.draw fits.octets fits.short fits.draw)

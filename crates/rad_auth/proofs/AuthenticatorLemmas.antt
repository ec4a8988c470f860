-- The octets that digests and HMACs run over.
use Rattle.std.proofs.Common.{◌≡◌, ℕ, ◌+◌, ◌-◌, ◌≤◌, Bool, true, false, cond, eqb, ◌&&◌, List, [], ◌∷◌, ◌++◌, length, take, drop}
use Rattle.std.proofs.Common.{Some, refl, ap, sym, ◌∙◌, arith}
use Rattle.std.specs.Int.{w16, to_be_bytes}
use Rattle.std.proofs.lemmas.Bool.{eqb-true}
use Rattle.std.proofs.lemmas.List.{take_at, drop_at, append_assoc, length-append}
use Rattle.rad_packet.specs.Attributes.{Attribute, attribute_octets, attributes_octets, size}
use Rattle.rad_packet.specs.Packets.{Packet, packet_octets}
use Rattle.rad_auth.specs.Summaries.{octets_after_hmac, with_hmac}
use Rattle.rad_auth.specs.Authenticators.{can_hold_hmac, sixteen_zeros, with_message_authenticator}

-- ---- an Accounting-Request with zeros in the Authenticator's place

parts : (p : Packet) → length p.authenticator ≡ 16
    → take 4 (packet_octets p) ++ sixteen_zeros ++ drop 20 (packet_octets p)
    ≡ packet_octets (record p { authenticator = sixteen_zeros })
parts p len = rw (drop_at p.authenticator (attributes_octets p.attributes) 16 len) refl

-- a packet's first four octets, zeros, and its attributes
pub unsigned_parts : (octets : List ℕ) (p : Packet) → octets ≡ packet_octets p → length p.authenticator ≡ 16
    → take 4 octets ++ sixteen_zeros ++ drop 20 octets ≡ packet_octets (record p { authenticator = sixteen_zeros })
unsigned_parts octets p e len = ap (λ (o : List ℕ). take 4 o ++ sixteen_zeros ++ drop 20 o) e ∙ parts p len

-- ---- a packet with another Value in place of its HMAC

-- Octets with an HMAC before the last n of them, and what they are with another Value in its place.
pub record HasHmac (octets : List ℕ) (made : List ℕ → List ℕ) (n : ℕ) : Type 0 where
  pub front : List ℕ
  pub value : List ℕ
  pub back : List ℕ
  pub long : length value ≡ 16
  pub after : length back ≡ n
  pub whole : octets ≡ front ++ (value ++ back)
  pub with : (w : List ℕ) → length w ≡ 16 → made w ≡ front ++ (w ++ back)

-- with the same octets before each
pub after_head : (head octets : List ℕ) (made : List ℕ → List ℕ) (n : ℕ) → HasHmac octets made n
    → HasHmac (head ++ octets) (λ w. head ++ made w) n
after_head head octets made n has = record {
  front = head ++ has.front;
  value = has.value;
  back = has.back;
  long = has.long;
  after = has.after;
  whole = ap (λ (o : List ℕ). head ++ o) has.whole ∙ sym (append_assoc head has.front (has.value ++ has.back));
  with = λ w len. ap (λ (o : List ℕ). head ++ o) (has.with w len) ∙ sym (append_assoc head has.front (w ++ has.back));
}

-- the Value has 16 octets if it may hold an HMAC
pub value_long : (a : Attribute) → can_hold_hmac a ≡ true → length a.value ≡ 16
value_long a e = at (eqb a.kind 80) e
  where
    at : (b : Bool) → (b && eqb (length a.value) 16) ≡ true → length a.value ≡ 16
    at true e = eqb-true (length a.value) 16 e
    at false e = cc

pub attributes_hmac : (list : List Attribute) (n : ℕ) → octets_after_hmac list ≡ Some n
    → HasHmac (attributes_octets list) (λ w. attributes_octets (with_message_authenticator w list)) n
attributes_hmac [] n e = cc
attributes_hmac (a ∷ list) n e = at (can_hold_hmac a) refl e (attributes_hmac list n)
  where
    at : (b : Bool) → can_hold_hmac a ≡ b → cond b (Some (size list)) (octets_after_hmac list) ≡ Some n
        → (octets_after_hmac list ≡ Some n
        → HasHmac (attributes_octets list) (λ w. attributes_octets (with_message_authenticator w list)) n)
        → HasHmac (attributes_octets (a ∷ list))
        (λ w. attributes_octets (cond b (record a { value = w } ∷ list) (a ∷ with_message_authenticator w list))) n
    at true is e others = record {
      front = a.kind ∷ (length a.value + 2) ∷ [];
      value = a.value;
      back = attributes_octets list;
      long = value_long a is;
      after = cc;
      whole = refl;
      with = λ w len. ap (λ n. a.kind ∷ (n + 2) ∷ (w ++ attributes_octets list)) (len ∙ sym (value_long a is));
    }
    at false is e others = after_head (attribute_octets a) (attributes_octets list)
        (λ w. attributes_octets (with_message_authenticator w list)) n (others e)

-- the size stays
pub same_size : (octets : List ℕ) (made : List ℕ → List ℕ) (n : ℕ) (w : List ℕ) → HasHmac octets made n → length w ≡ 16
    → length (made w) ≡ length octets
same_size octets made n w has len =
    let all = length-append has.front (has.value ++ has.back) in
    let changed = length-append has.front (w ++ has.back) in
    omega (
      arith,
      ap length has.whole,
      ap length (has.with w len),
      all,
      changed,
      length-append has.value has.back,
      length-append w has.back,
      len,
      has.long,
    )

-- the packet with this Value in place of its HMAC
abbrev pub packet_made : Packet → List ℕ → List ℕ
packet_made p w = packet_octets (record p { attributes = with_message_authenticator w p.attributes })

pub packet_hmac : (p : Packet) (n : ℕ) → octets_after_hmac p.attributes ≡ Some n → HasHmac (packet_octets p) (packet_made p) n
packet_hmac p n e =
    let inner = attributes_hmac p.attributes n e in
    let head : List ℕ = p.code ∷ p.identifier ∷ to_be_bytes w16 (20 + size p.attributes) ++ p.authenticator in
    let same = after_head head (attributes_octets p.attributes) (λ w. attributes_octets (with_message_authenticator w p.attributes))
    n inner in
    record {
      front = same.front;
      value = same.value;
      back = same.back;
      long = same.long;
      after = same.after;
      whole = same.whole;
      with = λ w len. ap (λ n. p.code ∷ p.identifier ∷ to_be_bytes w16 (20 + n) ++ p.authenticator
          ++ attributes_octets (with_message_authenticator w p.attributes))
          (same_size (attributes_octets p.attributes) (λ w. attributes_octets (with_message_authenticator w p.attributes)) n w inner
          len) ∙ same.with w len;
    }

-- the place of the HMAC is within
pub hmac_within : (octets : List ℕ) (made : List ℕ → List ℕ) (n : ℕ) → HasHmac octets made n → n + 16 ≤ length octets
hmac_within octets made n has =
    omega (
      arith,
      ap length has.whole,
      length-append has.front (has.value ++ has.back),
      length-append has.value has.back,
      has.long,
      has.after,
    )

-- a Value at the place of the HMAC
pub with_hmac-made : (octets : List ℕ) (made : List ℕ → List ℕ) (n : ℕ) (w : List ℕ) → HasHmac octets made n → length w ≡ 16
    → with_hmac n w octets ≡ made w
with_hmac-made octets made n w has len =
    let all = length-append has.front (has.value ++ has.back) in
    let last = length-append has.value has.back in
    let first = length-append has.front has.value in
    let whole = ap length has.whole in
    let front : take (length octets - (n + 16)) octets ≡ has.front =
    ap (take (length octets - (n + 16))) has.whole
    ∙ take_at has.front (has.value ++ has.back) (length octets - (n + 16))
    (omega (arith, all, last, whole, has.long, has.after)) in
    let back : drop (length octets - n) octets ≡ has.back =
    ap (drop (length octets - n)) (has.whole ∙ sym (append_assoc has.front has.value has.back))
    ∙ drop_at (has.front ++ has.value) has.back (length octets - n) (omega (arith, all, last, first, whole, has.long, has.after)) in
    ap (λ (o : List ℕ). o ++ w ++ drop (length octets - n) octets) front ∙ ap (λ (o : List ℕ). has.front ++ w ++ o) back
    ∙ append_assoc has.front w has.back ∙ sym (has.with w len)

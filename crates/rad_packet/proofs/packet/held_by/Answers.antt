use Rattle.std.proofs.Common.{ℕ, take, Ok, sym, ap, ◌∙◌, inl, inr, arith}
use Rattle.std.proofs.lemmas.List.{take_rest}
use Rattle.rad_packet.specs.Attributes.{attributes_of}
use Rattle.rad_packet.specs.Packets.{HasLength, attributes_field, packet_in}
use Rattle.rad_packet.proofs.AttributeLemmas.{none_from, some_from}
use Rattle.rad_packet.proofs.PacketLemmas.{reads-short, reads-bad, reads-cut, reads-attributes, front_whole}
use Rattle.rad_packet.proofs.packet.held_by.Goals as goal

pub returns-then-datagram-lt-HEADER_SIZE : goal.returns-then-datagram-lt-HEADER_SIZE
returns-then-datagram-lt-HEADER_SIZE c = sym (reads-short c.args.datagram.now (omega arith))

pub returns-then-len-lt-HEADER_SIZE : goal.returns-then-len-lt-HEADER_SIZE
returns-then-len-lt-HEADER_SIZE c =
    sym (reads-bad c.args.datagram.now (omega arith)
    (elim c.then-len-lt-HEADER_SIZE.either [
      | inl low ↦ inl (omega (arith, c.length_field-len.ensures))
      | inr high ↦ inr (omega (arith, high.1, c.length_field-len.ensures))
    ]))

pub returns-then-datagram-len : goal.returns-then-datagram-len
returns-then-datagram-len c =
    sym (reads-cut c.args.datagram.now (record { header = omega arith; low = omega arith; high = omega arith }) (omega arith))

pub returns-then-not-are_attributes : goal.returns-then-not-are_attributes
returns-then-not-are_attributes c =
    let decided = rw (take_rest, c.length_field-len.ensures) at c.are_attributes.ensures in
    let none = none_from (attributes_of (attributes_field c.args.datagram.now)) (sym decided ∙ c.if-not-are_attributes.true) in
    sym (reads-attributes c.args.datagram.now _ (record { header = omega arith; low = omega arith; high = omega arith })
    (omega arith) none)

pub invariant_of-result : goal.invariant_of-result
invariant_of-result c =
    let decided = rw (take_rest, c.length_field-len.ensures) at c.are_attributes.ensures in
    let some = some_from (attributes_of (attributes_field c.args.datagram.now)) (sym decided ∙ c.if-not-are_attributes.false) in
    let whole = front_whole c.args.datagram.now some.0 (λ i. omega (arith, c.type_inv.datagram i))
    (record { header = omega arith; low = omega arith; high = omega arith }) (omega arith) some.1 in
    rw c.length_field-len.ensures (whole.0)

pub returns : goal.returns
returns c =
    let decided = rw (take_rest, c.length_field-len.ensures) at c.are_attributes.ensures in
    let some = some_from (attributes_of (attributes_field c.args.datagram.now)) (sym decided ∙ c.if-not-are_attributes.false) in
    let has : HasLength c.args.datagram.now = record { header = omega arith; low = omega arith; high = omega arith } in
    let whole = front_whole c.args.datagram.now some.0 (λ i. omega (arith, c.type_inv.datagram i)) has (omega arith) some.1 in
    ap (λ (n : ℕ). Ok (packet_in (take n c.args.datagram.now))) c.length_field-len.ensures ∙ ap Ok whole.1
    ∙ sym (reads-attributes c.args.datagram.now _ has (omega arith) some.1)

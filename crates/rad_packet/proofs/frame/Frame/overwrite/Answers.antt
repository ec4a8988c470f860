use Rattle.std.proofs.Common.{◌≡◌, List, ℕ, ap, ◌≤◌, ◌+◌, ◌++◌, length, take, drop, ◌∙◌, arith}
use Rattle.std.proofs.lemmas.List.{length-take-le, with_items_is}
use Rattle.rad_packet.proofs.FrameLemmas.{front_written}
use Rattle.rad_packet.proofs.frame.Frame.overwrite.Goals as goal

pub returns : goal.returns
returns c =
    let place = c.args.place in
    let octets : List ℕ = c.args.octets.now in
    let len = c.self.inside.len in
    let buffer : List ℕ = c.self.inside.buffer.items in
    let within : place + length octets ≤ len = omega (arith, c.requires, ap length c.self.view_is, length-take-le len buffer) in
    let whole : c.put.new.buffer ≡ take place buffer ++ octets ++ drop (place + length octets) buffer =
    rw (← c.deref_mut.ensures.value) c.put.ensures.whole in
    let e : take len c.put.new.buffer ≡ take place (take len buffer) ++ octets ++ drop (place + length octets) (take len buffer) =
    ap (take len) whole ∙ front_written place len buffer octets within (omega (arith, c.self.invariant)) in
    let same : length c.put.new.buffer ≡ c.self.inside.buffer.len = omega (arith, c.put.auto.buffer, c.deref_mut.ensures.len) in
    rw (← c.self.view_is) (ap (take len) (with_items_is c.self.inside.buffer c.put.new.buffer same) ∙ e)

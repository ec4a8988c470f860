use Rattle.std.proofs.Common.{◌≡◌, ◌∙◌, List, ℕ, Some, ap, arith, is_some, length, rules, subst, sym}
use Rattle.std.proofs.lemmas.List.{with_items_is}
use Rattle.std.specs.Vec.{with_items}
use Rattle.rad_recent.specs.Notes.{CountsClients, GainsClient}
use Rattle.rad_recent.proofs.ClientLemmas.{clients_put}
use Rattle.rad_recent.proofs.recent.Recent.put.Goals as goal

pub invariant_of-self : goal.invariant_of-self
invariant_of-self c =
    let ready : c.self.inside.notes.index.ready ≡ Some c.args.reply.key = search rules in
    let counts = c.self.inside.notes.clients in
    let left : List ℕ = c.remove_one.new.counts in
    let new : List ℕ = c.add_one.new.counts in
    let left_len : length left ≡ counts.len = c.remove_one.ensures.len ∙ c.deref_mut.ensures.len in
    let left_is : (with_items counts left).items ≡ left = with_items_is counts left left_len in
    let new_len : length new ≡ (with_items counts left).len = c.add_one.ensures.len ∙ c.deref_mut-2.ensures.len in
    let new_is : (with_items (with_items counts left) new).items ≡ new = with_items_is (with_items counts left) new new_len in
    let gains : GainsClient c.args.reply.client left new =
    subst (λ mid. GainsClient c.args.reply.client mid new) (c.deref_mut-2.ensures.value ∙ left_is) c.add_one.ensures in
    record {
      index = c.push.ensures.holds;
      clients = subst (CountsClients c.push.new.rows.rows) (sym new_is)
          (clients_put c.self.inside.rows.rows c.push.new.rows.rows c.args.reply c.client_of.result counts.items left new
          c.self.invariant.clients (omega (arith, c.numbers_rise.ensures.few, c.self.invariant.index.next (ap is_some ready)))
          c.client_of.ensures (rw c.deref_mut.ensures.value at c.remove_one.ensures) gains c.push.ensures.rows);
    }

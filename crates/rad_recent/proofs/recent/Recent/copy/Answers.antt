use Rattle.std.proofs.Common.{None, rules, sym, true≢false}
use Rattle.std.proofs.lemmas.List.Elements.{same_from_all_zip}
use Rattle.std.proofs.lemmas.Map.Entries.{entries_from_clone}
use Rattle.rad_recent.proofs.ClientLemmas.{clients_copied}
use Rattle.rad_recent.proofs.HoldLemmas.{holds_as}
use Rattle.rad_recent.proofs.recent.Recent.copy.Goals as goal

pub invariant_of-result : goal.invariant_of-result
invariant_of-result c = record {
  index = holds_as c.self.inside.rows c.in_ok-rows.rows c.self.inside.notes.index (record { map = c.in_ok-map.map; ready = None })
      c.in_ok-rows.ensures.rows c.in_ok-rows.ensures.last
      (entries_from_clone _ _ (λ x y h. search rules) (λ x y h. search rules) _ _ c.in_ok-map.ensures.cases)
      (λ r. absurd (true≢false (sym r))) c.self.invariant.index;
  clients = clients_copied c.self.inside.rows.rows c.in_ok-rows.rows.rows c.self.inside.notes.clients.items
      c.in_ok-clients.clients.items
      c.self.invariant.clients c.in_ok-rows.ensures.rows (same_from_all_zip _ _ _ c.in_ok-clients.ensures.cases.0 (λ x y h. h));
}

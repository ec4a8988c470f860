use Rattle.std.proofs.Common.{rules, ◌≡◌}
use Rattle.std.proofs.lemmas.Fn.{filter_same}
use Rattle.radpool.proofs.NumberLemmas.{IsWithout, is_other, without, without_is}
use Rattle.radpool.proofs.numbers.Numbers.remove.Goals as goal

pub returns : goal.returns
returns c =
    let left : c.retain.new.self.items ≡ without c.args.number c.self.inside.items.items
    = filter_same _ (is_other c.args.number) _ (λ x b f called. (search rules, search rules)) _ _ c.retain.ensures.filtered in
    let is : IsWithout c.args.number c.args.self.now c.retain.new.self.items = rw (← c.self.view_is) (without_is _ _ _ left) in
    record { gone = is.gone; others = is.others; only = is.only }

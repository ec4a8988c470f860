use Rattle.std.proofs.Common.{refl, nat_lt}
use Rattle.std.specs.Prelude.{IsTrue}
use Rattle.std.proofs.lemmas.Bool.{ltb-true}
use Rattle.std.proofs.lemmas.List.Elements.{All-get_or}
use Rattle.std.proofs.lemmas.List.Sums.{AllPass-from_list_all}
use Rattle.md5.specs.Md5.{step_shifts}
use Rattle.rad_md5.proofs.table.step_shift.Goals as goal

pub returns-clause-bound : goal.returns-clause-bound
returns-clause-bound c = (
  ltb-true 0 _ (All-get_or (λ s. IsTrue (nat_lt 0 s)) step_shifts c.args.t 0 c.requires
      (AllPass-from_list_all (λ s. nat_lt 0 s) step_shifts refl)),
  ltb-true _ 32 (All-get_or (λ s. IsTrue (nat_lt s 32)) step_shifts c.args.t 0 c.requires
      (AllPass-from_list_all (λ s. nat_lt s 32) step_shifts refl)),
)

use Rattle.std.proofs.Common.{◌≡◌, ◌∙◌, suc, [], Err, Ok, Some, Result, SFits, w64, ap, arith, inl, inr, rules, subst, sym}
use Rattle.std.proofs.Common.{to_z-of_z, ⊎_elim}
use Rattle.std.specs.Result.{OnErr}
use Rattle.rad_config.specs.Configurations.{configuration_of_octets}
use Rattle.sqlite_trees.specs.View.{IsClean}
use Rattle.rad_journal.specs.Rows.{entries_of, table}
use Rattle.rad_journal.specs.Stores.{IsFresh}
use Rattle.rad_state.specs.Generations.{HasBase}
use Rattle.rad_state.specs.InUse.{in_use_leaves, in_use_stays}
use Rattle.rad_state.specs.declared.meta.Meta.{Meta}
use Rattle.rad_state.proofs.BaseLemmas.{begun_leaves, failed_leaves, has_base, in_use_among, in_use_next, none_of, still_leaves}
use Rattle.rad_state.proofs.file_generations.FileGenerationsGenerationsStoreJournal.begin.Goals as goal

on_err : {T E P : Type 0} (r : Result T E) → P → OnErr r P
on_err (Ok value) known = tt
on_err (Err error) known = known

-- ---- nothing is begun

pub returns-then-is_some-clause-crash : goal.returns-then-is_some-clause-crash
returns-then-is_some-clause-crash g c clean journal base in_use same left may =
    let it = c.args.self.now in
    inl (in_use_leaves (g.F.Folder.has it.folder) it.number g.S.Store.recovers c.args.journal.now.store it.failed it.config.now base
    in_use left may)

pub returns-then-is_some-clause-survives : goal.returns-then-is_some-clause-survives
returns-then-is_some-clause-survives g c clean journal is_open base in_use =
    let it = c.args.self.now in
    let store = c.args.journal.now.store in (
      record { base = base; entries = entries_of ((g.S.Store.view store).committed table) },
      in_use_stays (g.F.Folder.has it.folder) it.number g.S.Store.recovers store it.failed it.config.now base in_use _
          (g.met.S.Store.stays store is_open.0),
    )

pub returns-in_default-clause-crash : goal.returns-in_default-clause-crash
returns-in_default-clause-crash g c clean journal base in_use same left may =
    let it = c.args.self.now in
    inl (in_use_leaves (g.F.Folder.has it.folder) it.number g.S.Store.recovers c.args.journal.now.store it.failed it.config.now base
    in_use left may)

pub returns-in_default-clause-survives : goal.returns-in_default-clause-survives
returns-in_default-clause-survives g c clean journal is_open base in_use =
    let it = c.args.self.now in
    let store = c.args.journal.now.store in (
      record { base = base; entries = entries_of ((g.S.Store.view store).committed table) },
      in_use_stays (g.F.Folder.has it.folder) it.number g.S.Store.recovers store it.failed it.config.now base in_use _
          (g.met.S.Store.stays store is_open.0),
    )

-- ---- no file is made

pub returns-in_err-store-clause-crash : goal.returns-in_err-store-clause-crash
returns-in_err-store-clause-crash g c clean journal base in_use same left may =
    let it = c.args.self.now in
    let has = g.F.Folder.has in
    let store = c.args.journal.now.store in
    inl (in_use_leaves (has c.create.new.self) it.number g.S.Store.recovers store it.failed it.config.now base
    (in_use_among (has it.folder) (has c.create.new.self) it.number (g.S.Store.recovers store) it.config.now base in_use
    c.create.ensures.others
    (λ other there. ⊎_elim (λ was. was) (λ made. absurd (cc made.0)) (c.in_err-store.ensures.only other there)))
    left may)

pub returns-in_err-store-clause-survives : goal.returns-in_err-store-clause-survives
returns-in_err-store-clause-survives g c = on_err c.from_residual.result (λ clean journal is_open base in_use.
    let it = c.args.self.now in
    let has = g.F.Folder.has in
    let store = c.args.journal.now.store in (
      record { base = base; entries = entries_of ((g.S.Store.view store).committed table) },
      still_leaves (has it.folder) (has c.create.new.self) it.number g.S.Store.recovers store it.failed it.config.now base in_use
          c.create.ensures.others _
          (g.met.S.Store.stays store is_open.0),
    ))

-- ---- the generation may not be whole

pub returns-in-Err-clause-crash : goal.returns-in-Err-clause-crash
returns-in-Err-clause-crash g c clean journal base in_use same left may =
    let it = c.args.self.now in
    let has = g.F.Folder.has in
    let server = c.args.server.now in
    let meta : Meta = record it.meta { wall = c.wall_at-self.result } in
    let text : configuration_of_octets meta.configuration ≡ Ok server.configuration = it.text ∙ ap (λ k. Ok k) (sym same) in
    let next : c.in-Some.number ≡ suc it.number = omega (arith, c.in-Some.ensures) in
    let fits : SFits w64 c.wall_at-self.result = search rules in
    ⊎_elim (λ stays. inl stays) (λ begins. inr (λ alone. alone, begins))
    (failed_leaves c.snapshots_differ.ensures meta server text c.state_is_lawful.ensures.state (has it.folder)
    (has c.create.new.self) it.number g.S.Store.recovers
    c.args.journal.now.store c.write_generation.new.store base in_use.newest in_use.has_base
    (λ other there. ⊎_elim (λ was. inl was) (λ made. inr (made.1 ∙ next)) (c.in_ok-store.ensures.only other there))
    (simp to_z-of_z at (c.write_generation.ensures.crash clean)) left may)

pub returns-in-Err-clause-survives : goal.returns-in-Err-clause-survives
returns-in-Err-clause-survives g c clean journal is_open base in_use =
    let it = c.args.self.now in
    let has = g.F.Folder.has in
    let store = c.args.journal.now.store in (
      record { base = base; entries = entries_of ((g.S.Store.view store).committed table) },
      still_leaves (has it.folder) (has c.create.new.self) it.number g.S.Store.recovers store (Some c.write_generation.new.store)
          it.config.now base in_use
          c.create.ensures.others _ (g.met.S.Store.stays store is_open.0),
    )

-- ---- it has begun

pub returns-clause-base : goal.returns-clause-base
returns-clause-base g c clean journal same =
    let S = g.S.Store in
    let it = c.args.self.now in
    let has = g.F.Folder.has in
    let server = c.args.server.now in
    let store = c.write_generation.new.store in
    let meta : Meta = record it.meta { wall = c.wall_at-self.result } in
    let text : configuration_of_octets meta.configuration ≡ Ok server.configuration = it.text ∙ ap (λ k. Ok k) (sym same) in
    let next : c.in-Some.number ≡ suc it.number = omega (arith, c.in-Some.ensures) in
    let fits : SFits w64 c.wall_at-self.result = search rules in
    let here : IsClean (S.view store) = subst (λ s. IsClean (S.view s)) c.counted.ensures.store journal in
    let fresh = c.in_default-write_generation.ensures.fresh here in
    let own : HasBase (S.recovers store) server =
    has_base c.snapshots_differ.ensures meta server text c.state_is_lawful.ensures.state
    (record { format = it.fits.format; rules = it.fits.rules }) (S.view store).committed (S.recovers store)
    (λ db left. g.met.S.Store.settled store db fresh.is_open left)
    (simp to_z-of_z at (c.in_default-write_generation.ensures.begins here)) in
    in_use_next (has it.folder) (has c.create.new.self) (has c.remove_oldest.new.folder) _ it.number c.in-Some.number
    (S.recovers c.counted.result.store)
    it.config.now server (it.newest (none_of it.failed (sym c.is_some.ensures ∙ c.if-is_some.false))) next c.create.ensures.only
    c.remove_oldest.ensures.only
    (c.remove_oldest.ensures.kept c.in-Some.number (omega arith) c.in_ok-store.ensures.made)
    (subst (λ s. HasBase (S.recovers s) server) (sym c.counted.ensures.store) own) same

pub returns-clause-crash : goal.returns-clause-crash
returns-clause-crash g c clean journal base in_use same left may =
    let S = g.S.Store in
    let used = c.counted.result.store in
    let store = c.write_generation.new.store in
    let here : IsClean (S.view store) = subst (λ s. IsClean (S.view s)) c.counted.ensures.store journal in
    let fresh : IsFresh (S.view used) =
    subst (λ s. IsFresh (S.view s)) (sym c.counted.ensures.store) (c.in_default-write_generation.ensures.fresh here) in
    let none : (S.view used).committed table ≡ [] =
    ap (λ s. (S.view s).committed table) c.counted.ensures.store ∙ (c.in_default-write_generation.ensures.begins here).none in
    inr (
      λ alone. alone,
      begun_leaves (g.F.Folder.has c.remove_oldest.new.folder) c.in-Some.number S.recovers used c.args.self.now.failed
          (S.view used).committed
          c.args.self.now.config.now c.args.server.now (returns-clause-base g c clean journal same)
          (λ db found. g.met.S.Store.settled used db fresh.is_open found) none left may,
    )

-- nobody has the next number
pub create-requires : goal.create-requires
create-requires g c = record {
  free =
      c.args.self.now.newest (none_of c.args.self.now.failed (sym c.is_some.ensures ∙ c.if-is_some.false)) c.in-Some.number
      (omega (arith, c.in-Some.ensures));
}

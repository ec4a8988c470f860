use Rattle.std.proofs.Common.{◌≡◌, suc, arith, refl, subst, sym}
use Rattle.sqlite_trees.specs.View.{IsClean}
use Rattle.rad_state.specs.Generations.{HasBase}
use Rattle.rad_state.proofs.BaseLemmas.{has_base, in_use_next}
use Rattle.rad_state.proofs.file_generations.FileGenerations.start.Goals as goal

pub returns-clause-in_use : goal.returns-clause-in_use
returns-clause-in_use g c clean =
    let S = g.S.Store in
    let has = g.F.Folder.has in
    let server = c.args.server.now in
    let store = c.write_generation.new.store in
    let here : IsClean (S.view store) = subst (λ s. IsClean (S.view s)) c.counted.ensures.store clean in
    let next : c.in-Some.number ≡ suc c.args.number = omega (arith, c.in-Some.ensures) in
    let fresh = c.in_ok-write_generation.ensures.fresh here in
    let base : HasBase (S.recovers store) server =
    has_base c.snapshots_differ.ensures c.args.meta server c.requires.text c.state_is_lawful.ensures.state c.requires.fits
    (S.view store).committed (S.recovers store)
    (λ db left. g.met.S.Store.settled store db fresh.is_open left) (c.in_ok-write_generation.ensures.begins here) in
    in_use_next (has c.args.folder) (has c.create.new.self) (has c.remove_oldest.new.folder) _ c.args.number c.in-Some.number
    (S.recovers c.counted.result.store)
    server.configuration server c.requires.newest next c.create.ensures.only c.remove_oldest.ensures.only
    (c.remove_oldest.ensures.kept c.in-Some.number (omega arith) c.in_ok-store.ensures.made)
    (subst (λ s. HasBase (S.recovers s) server) (sym c.counted.ensures.store) base) refl

-- nobody has the next number
pub create-requires : goal.create-requires
create-requires g c = record { free = c.requires.newest c.in-Some.number (omega (arith, c.in-Some.ensures)) }

use Rattle.std.proofs.Common.{arith, ◌≡◌, List, [], Option, None, Some, sym, ap, subst, ◌∙◌}
use Rattle.sqlite_trees.specs.View.{IsClean}
use Rattle.rad_server.specs.Servers.{Server}
use Rattle.rad_journal.specs.Restores.{IsRestored}
use Rattle.rad_journal.specs.Stores.{kept_in}
use Rattle.rad_journal.specs.declared.kept.Kept.{Kept}
use Rattle.rad_state.specs.Generations.{Says}
use Rattle.rad_state.specs.Metas.{meta_held, meta_rows}
use Rattle.rad_state.specs.declared.meta.Meta.{Meta}
use Rattle.rad_serve.proofs.life.restored.Goals as goal

-- rows with a meta have been read as that
found_is : (found : Option Meta) (meta : Meta) → meta_rows found ≡ meta_rows (Some meta) → found ≡ Some meta
found_is None meta is = absurd (cc is)
found_is (Some other) meta is = ap meta_held is

-- the entries are those of the file, and the server that is stepped through them is that at which its generation begins
pub returns : goal.returns
returns g c = record {
  restored = λ clean left holds.
      let S = g.S.Store in
      let read : IsClean (S.view c.restore.new.journal.journal.store) =
      subst (λ j. IsClean (S.view j.store)) c.into_journal.ensures clean in
      let told : IsClean (S.view c.new-journal.result.journal.store) = c.restore.ensures.clean read in
      let opened : IsClean (S.view c.in_ok-server.journal.store) =
      subst (λ j. IsClean (S.view j.store)) c.new-journal.ensures told in
      let found : IsClean (S.view c.args.state.store) = omega (arith, c.in_ok-server.ensures.clean, opened) in
      let meta : c.args.state.found ≡ Some holds.says.meta =
      found_is c.args.state.found holds.says.meta (sym (c.args.state.metas found) ∙ holds.says.held) in
      let says : Says (S.view c.args.state.store).committed c.in_ok-server.server =
      c.in_ok-server.ensures.says opened holds.says.meta meta (c.requires.text holds.says.meta meta) in
      let base : left.base ≡ c.in_ok-server.server =
      c.bases_differ.ensures (S.view c.args.state.store).committed left.base c.in_ok-server.server holds.says says in
      let kept : kept_in (S.view c.new-journal.result.journal.store) ≡ left.entries =
      ap (λ j. kept_in (S.view j.store)) c.new-journal.ensures ∙ c.in_ok-server.ensures.kept opened ∙ holds.entries in (
        subst (λ (entries : List Kept). IsRestored left.base entries c.restore.new.server) kept
            (subst (λ (b : Server). IsRestored b (kept_in (S.view c.new-journal.result.journal.store)) c.restore.new.server)
            (sym base)
            (c.in_ok-restore.ensures.restored read)),
        c.restore.ensures.configuration ∙ ap (λ (s : Server). s.configuration) (sym base),
      );
}

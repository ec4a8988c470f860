-- What is kept leads where the histories do.
use Rattle.std.proofs.Common.{◌≡◌, List, [], ◌∷◌, ◌++◌, refl, sym, subst, ◌∙◌}
use Rattle.std.proofs.lemmas.List.Elements.{All-append}
use Rattle.rad_packet.specs.Bodies.{Body}
use Rattle.rad_server.specs.Runs.{FreshAreEnough, IsLikeFromNow, LeadsAlike, LikeAfterTime, fresh_of}
use Rattle.rad_server.specs.States.{State}
use Rattle.rad_server.specs.declared.answer.Answer.TheVariants.{Send}
use Rattle.rad_server.specs.declared.entry.Entry.{Entry}
use Rattle.rad_server.proofs.RunLemmas.{run_append}
use Rattle.rad_journal.specs.Leads.{FreshAreKept, KeptLastOverTime, KeptLeadOn}
use Rattle.rad_journal.specs.Restores.{AreKept, RepliedAreKept}
use Rattle.rad_journal.specs.declared.kept.Kept.{Kept}

kept_append : (first : List Entry) (kept : List Kept) (rest : List Entry) (others : List Kept) → AreKept first kept
    → AreKept rest others
    → AreKept (first ++ rest) (kept ++ others)
kept_append [] [] rest others are more = more
kept_append [] (one ∷ kept) rest others are more = absurd are
kept_append (entry ∷ first) [] rest others are more = absurd are
kept_append (entry ∷ first) (one ∷ kept) rest others are more = (are.0, kept_append first kept rest others are.1 more)

pub fresh_are_kept : FreshAreEnough → RepliedAreKept → FreshAreKept
fresh_are_kept enough are_kept before history marks after wall valid lawful marked =
    let fresh : List Entry = fresh_of before.state.clock history marks in
    let alike : (other : State) → IsLikeFromNow before.state other → LeadsAlike before.configuration other fresh after.state =
    λ other like. enough before.configuration before.state after.state other history marks valid lawful marked.run like in
    record {
      entries = fresh;
      are_kept = are_kept wall fresh (alike before.state (λ moment le. refl)).replied;
      configuration = marked.configuration;
      alike = alike;
    }

pub kept_lead_on : KeptLeadOn
kept_lead_on before middle after kept more first second = record {
  entries = first.entries ++ second.entries;
  are_kept = kept_append first.entries kept second.entries more first.are_kept second.are_kept;
  configuration = second.configuration ∙ first.configuration;
  alike = λ other like.
      let one = first.alike other like in
      let two : LeadsAlike before.configuration one.state second.entries after.state =
      subst (λ c. LeadsAlike c one.state second.entries after.state) first.configuration (second.alike one.state one.like) in
      record {
        state = two.state;
        run = run_append before.configuration other first.entries second.entries one.state two.state one.run two.run;
        like = two.like;
        replied = All-append (λ (e : Entry). (body : Body) × (e.answer ≡ Send body)) first.entries second.entries one.replied
            two.replied;
      };
}

pub kept_last_over_time : LikeAfterTime → KeptLastOverTime
kept_last_over_time law before middle after kept passed first same is = record {
  entries = first.entries;
  are_kept = first.are_kept;
  configuration = same ∙ first.configuration;
  alike = λ other like.
      let one = first.alike other like in record {
        state = one.state;
        run = one.run;
        like = subst (λ s. IsLikeFromNow s one.state) (sym is) (law middle.state one.state passed one.like);
        replied = one.replied;
      };
}

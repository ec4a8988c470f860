-- What is kept of turns, and what a crash leaves of it.
use Rattle.std.proofs.Common.{◌≡◌, ◌⊎◌, Bool, true, false, List, [], ◌∷◌, ◌++◌, length, arith, Option, Result, Ok, Err, IsTrue, inl}
use Rattle.std.proofs.Common.{inr, refl, sym, ap, subst, ◌∙◌}
use Rattle.std.proofs.lemmas.List.{append-nil, append_assoc}
use Rattle.std.proofs.lemmas.List.Elements.{All-nil}
use Rattle.rad_config.specs.Configurations.{Configuration}
use Rattle.rad_server.specs.Runs.{IsMarkedHistory, MarkedRun}
use Rattle.rad_server.specs.Servers.{Server}
use Rattle.rad_server.specs.States.{State}
use Rattle.rad_packet.specs.Bodies.{Body}
use Rattle.rad_server.specs.declared.answer.Answer.TheVariants.{Send}
use Rattle.rad_server.specs.declared.entry.Entry.{Entry}
use Rattle.rad_journal.specs.Journals.{added}
use Rattle.rad_journal.specs.Leads.{KeptLastOverTime, KeptLeadOn, LeadKept}
use Rattle.rad_journal.specs.declared.kept.Kept.{Kept}
use Rattle.rad_shell.specs.Passages.{Passage}
use Rattle.rad_shell.specs.Serving.{AddsTurn, IsBetween, IsTurn, LeadsByKept, Outlives, Situation, Tally, UnlessJournal}
use Rattle.rad_shell.specs.declared.serve_fault.ServeFault.{ServeFault}
use Rattle.rad_shell.specs.declared.serve_fault.ServeFault.TheVariants as faults

-- ---- marks

-- there is a mark for each entry
run_marks : (configuration : Configuration) (before : State) (history : List Entry) (marks : List Bool) (after : State)
    → MarkedRun configuration before history marks after → length marks ≡ length history
run_marks configuration before [] [] after run = refl
run_marks configuration before [] (mark ∷ marks) after run = absurd run
run_marks configuration before (entry ∷ rest) [] after run = absurd run
run_marks configuration before (entry ∷ rest) (mark ∷ marks) after run =
    let more : length marks ≡ length rest = run_marks configuration run.0 rest marks after run.2 in
    omega (arith, more)

pub marks_as_many : (before : Server) (history : List Entry) (marks : List Bool) (after : Server)
    → IsMarkedHistory before history marks after
    → length marks ≡ length history
marks_as_many before history marks after marked = run_marks before.configuration before.state history marks after.state marked.run

-- ---- where what is kept leads

pub leads_nowhere : (server : Server) → LeadKept server [] server
leads_nowhere server = record {
  entries = [];
  are_kept = tt;
  configuration = refl;
  alike = λ other like. record {
    state = other;
    run = refl;
    like = like;
    replied = All-nil (λ (e : Entry). (body : Body) × (e.answer ≡ Send body));
  };
}

-- time passes
pub leads_in_time : (before middle after : Server) (passed passed_after : Option (List Passage)) (kept : List Kept)
    → KeptLastOverTime
    → LeadKept before kept middle → IsBetween middle passed after passed_after → LeadKept before kept after
leads_in_time before middle after passed passed_after kept law first is =
    law before middle after kept is.moment first is.configuration is.state

-- ---- turns

pub all_added : (keeps : Bool) (kept : List Kept) → IsTrue keeps → added keeps kept ≡ kept
all_added true kept is = refl
all_added false kept is = absurd cc

-- a turn that kept all
pub leads_by_turn : (keeps : Bool) (before : Server) (all : List Kept) (tally : Tally) (after : Server) → LeadKept before all after
    → tally.kept ≡ added keeps all → tally.unkept ≡ [] → IsTrue keeps → LeadsByKept before tally after
leads_by_turn keeps before all tally after lead kept none is = record {
  middle = after;
  kept = subst (λ list. LeadKept before list after) (sym (kept ∙ all_added keeps all is)) lead;
  unkept = subst (λ list. LeadKept after list after) (sym none) (leads_nowhere after);
}

-- a turn that kept nothing
pub leads_by_none : (before : Server) (tally : Tally) (after : Server) → after ≡ before → tally.kept ≡ [] → tally.unkept ≡ []
    → LeadsByKept before tally after
leads_by_none before tally after same kept none = record {
  middle = after;
  kept = subst (λ list. LeadKept before list after) (sym kept) (subst (LeadKept before []) (sym same) (leads_nowhere before));
  unkept = subst (λ list. LeadKept after list after) (sym none) (leads_nowhere after);
}

-- a turn that failed to keep all
pub leads_by_unkept : (keeps : Bool) (before : Server) (all : List Kept) (tally : Tally) (after : Server)
    → LeadKept before all after
    → tally.unkept ≡ added keeps all → tally.kept ≡ [] → IsTrue keeps → LeadsByKept before tally after
leads_by_unkept keeps before all tally after lead unkept none is = record {
  middle = before;
  kept = subst (λ list. LeadKept before list before) (sym none) (leads_nowhere before);
  unkept = subst (λ list. LeadKept before list after) (sym (unkept ∙ all_added keeps all is)) lead;
}

-- a turn that left nothing unkept
pub leads_settled : KeptLeadOn → (before : Server) (tally : Tally) (after : Server) → tally.unkept ≡ []
    → LeadsByKept before tally after → LeadKept before tally.kept after
leads_settled leads_on before tally after none lead =
    subst (λ list. LeadKept before list after) (append-nil tally.kept)
    (leads_on before lead.middle after tally.kept [] lead.kept (subst (λ list. LeadKept lead.middle list after) none lead.unkept))

-- ---- journals

pub unless_holds : {A : Type 0} (result : Result A ServeFault) (P : Type 0) → P → UnlessJournal result P
unless_holds (Ok done) P p = p
unless_holds (Err faults.Receive) P p = p
unless_holds (Err faults.Send) P p = p
unless_holds (Err faults.Mismatch) P p = p
unless_holds (Err (faults.Journal fault)) P p = tt

-- a turn that leaves the journal alone
pub adds_none : {A : Type 0} (kept : List Kept) (tally : Tally) (result : Result A ServeFault) (left : List Kept → Type 0)
    → tally.kept ≡ [] → AddsTurn kept tally result kept left left
adds_none kept tally result left none = record {
  now = unless_holds result _ (sym (append-nil kept) ∙ ap (λ list. kept ++ list) (sym none));
  left = λ one is. inl is;
}

-- a turn whose commit succeeded
pub adds_all : {A : Type 0} (kept : List Kept) (tally : Tally) (result : Result A ServeFault) (kept_now : List Kept)
    (before now : List Kept → Type 0)
    → tally.unkept ≡ [] → kept_now ≡ kept ++ tally.kept
    → ((left : List Kept) → now left → before left ⊎ (left ≡ kept ++ tally.kept)) → AddsTurn kept tally result kept_now before now
adds_all kept tally result kept_now before now none is crash = record {
  now = unless_holds result _ is;
  left = λ left l. at (crash left l);
}
  where
    same : tally.kept ≡ tally.kept ++ tally.unkept
    same = sym (append-nil tally.kept) ∙ ap (λ list. tally.kept ++ list) (sym none)

    at : {left : List Kept} → before left ⊎ (left ≡ kept ++ tally.kept)
        → before left ⊎ (left ≡ kept ++ (tally.kept ++ tally.unkept))
    at (inl was) = inl was
    at (inr is) = inr (is ∙ ap (λ list. kept ++ list) same)

-- a turn whose commit failed
pub adds_some : {A : Type 0} (kept : List Kept) (tally : Tally) (fault : _) (kept_now : List Kept) (before now : List Kept → Type 0)
    → tally.kept ≡ [] → ((left : List Kept) → now left → before left ⊎ (left ≡ kept ++ tally.unkept))
    → AddsTurn {A = A} kept tally (Err (faults.Journal fault)) kept_now before now
adds_some kept tally fault kept_now before now none crash = record { now = tt; left = λ left l. at (crash left l) }
  where
    at : {left : List Kept} → before left ⊎ (left ≡ kept ++ tally.unkept)
        → before left ⊎ (left ≡ kept ++ (tally.kept ++ tally.unkept))
    at (inl was) = inl was
    at (inr is) = inr (is ∙ ap (λ list. kept ++ (list ++ tally.unkept)) (sym none))

-- what was kept so far, and what a turn kept
kept_with : (kept kept_middle so_far : List Kept) (tally total : Tally) → kept_middle ≡ kept ++ so_far
    → total.kept ≡ so_far ++ tally.kept
    → kept_middle ++ tally.kept ≡ kept ++ total.kept
kept_with kept kept_middle so_far tally total was is =
    ap (λ list. list ++ tally.kept) was ∙ append_assoc kept so_far tally.kept ∙ ap (λ list. kept ++ list) (sym is)

-- what follows from what holds unless the journal failed does so too
pub unless_so : (A : Type 0) (fault : ServeFault) (P Q : Type 0) → (P → Q) → UnlessJournal {A = A} (Err fault) P
    → UnlessJournal {A = A} (Err fault) Q
unless_so A faults.Receive P Q so p = so p
unless_so A faults.Send P Q so p = so p
unless_so A faults.Mismatch P Q so p = so p
unless_so A (faults.Journal fault) P Q so p = tt

-- what turns without a fault did to a journal that stays open
pub outlives_all : {A : Type 0} (kept : List Kept) (tally : Tally) (result : A) (kept_now : List Kept)
    (may_leave : List Kept → Type 0)
    → kept_now ≡ kept ++ tally.kept → ((left : List Kept) → may_leave left → left ≡ kept_now)
    → Outlives kept tally (Ok result) kept_now may_leave
outlives_all kept tally result kept_now may_leave is settled = record { now = is; left = λ left l. inl (settled left l ∙ is) }

-- what turns that a fault ended did to a journal
pub outlives_until : {A B : Type 0} (keeps : Bool) (before after : Situation) (kept kept_middle kept_now : List Kept)
    (so_far : List Kept)
    (tally : Tally) (fault : ServeFault) (total : Tally) (middle now : List Kept → Type 0)
    → IsTurn keeps before tally (Err fault) after
    → AddsTurn {A = A} kept_middle tally (Err fault) kept_now middle now
    → kept_middle ≡ kept ++ so_far → total.kept ≡ so_far ++ tally.kept → total.unkept ≡ tally.unkept
    → ((left : List Kept) → middle left → left ≡ kept_middle)
    → UnlessJournal {A = A} (Err fault) ((left : List Kept) → now left → left ≡ kept_now)
    → Outlives {A = B} kept total (Err fault) kept_now now
outlives_until keeps before after kept kept_middle kept_now so_far tally faults.Receive total middle now turn adds was total_kept
    total_unkept settled still =
    let all = kept_with kept kept_middle so_far tally total was total_kept in
    record { now = adds.now ∙ all; left = λ left l. inl (still left l ∙ adds.now ∙ all) }
outlives_until keeps before after kept kept_middle kept_now so_far tally faults.Send total middle now turn adds was total_kept
    total_unkept settled still =
    let all = kept_with kept kept_middle so_far tally total was total_kept in
    record { now = adds.now ∙ all; left = λ left l. inl (still left l ∙ adds.now ∙ all) }
outlives_until keeps before after kept kept_middle kept_now so_far tally faults.Mismatch total middle now turn adds was total_kept
    total_unkept settled still = absurd turn
outlives_until keeps before after kept kept_middle kept_now so_far tally (faults.Journal fault) total middle now turn adds was
    total_kept total_unkept settled still =
    record { now = tt; left = λ left l. at (adds.left left l) }
  where
    all : kept_middle ++ tally.kept ≡ kept ++ total.kept
    all = kept_with kept kept_middle so_far tally total was total_kept

    so : kept_middle ≡ kept ++ total.kept
    so = sym (append-nil kept_middle) ∙ ap (λ list. kept_middle ++ list) (sym turn.2) ∙ all

    at : {left : List Kept} → middle left ⊎ (left ≡ kept_middle ++ (tally.kept ++ tally.unkept))
        → (left ≡ kept ++ total.kept) ⊎ (left ≡ kept ++ (total.kept ++ total.unkept))
    at {left} (inl there) = inl (settled left there ∙ so)
    at {left} (inr is) =
        inr (is ∙ sym (append_assoc kept_middle tally.kept tally.unkept) ∙ ap (λ list. list ++ tally.unkept) all
        ∙ append_assoc kept total.kept tally.unkept ∙ ap (λ list. kept ++ (total.kept ++ list)) (sym total_unkept))

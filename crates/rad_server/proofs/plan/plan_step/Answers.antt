use Rattle.std.proofs.Common.{◌≡◌, ◌∙◌, sym, rules, false, true, Some, None, IfSome, option_map, subst}
use Rattle.std.proofs.lemmas.List.Elements.{All-filter}
use Rattle.rad_auth.specs.Sealing.{IsReply}
use Rattle.rad_recent.specs.Recent.{cut_replies, is_reply_live, without_key}
use Rattle.rad_server.specs.Shares.{lacks_room}
use Rattle.rad_server.specs.TableStates.{live_state}
use Rattle.rad_server.specs.States.{State}
use Rattle.rad_server.specs.Steps.{key_of, reply_kept}
use Rattle.rad_server.proofs.PlanLemmas.{found_has, image_has, kept_again, new_answer, no_answer}
use Rattle.rad_server.proofs.plan.plan_step.Goals as goal

pub returns-in-Some-clause-planned : goal.returns-in-Some-clause-planned
returns-in-Some-clause-planned c =
    let current : State = live_state c.args.now c.args.tables.now in
    let found : option_map (λ reply. reply.body) (reply_kept c.args.prepared.now.request current) ≡ Some c.in_ok-copy.field-0 =
    search rules in
    kept_again c.args.prepared.now.configuration current c.args.prepared.now.request c.args.draw.now c.in_ok-copy.field-0
    (search rules) found

pub returns-in-Some-clause-sealable : goal.returns-in-Some-clause-sealable
returns-in-Some-clause-sealable c =
    let current : State = live_state c.args.now c.args.tables.now in
    let table = c.args.tables.now.replies.table in
    let found : option_map (λ reply. reply.body) (reply_kept c.args.prepared.now.request current) ≡ Some c.in_ok-copy.field-0 =
    search rules in
    subst (λ o. IfSome o IsReply) found
    (image_has IsReply (λ reply. reply.body) (reply_kept c.args.prepared.now.request current)
    (found_has (λ reply. IsReply reply.body) _ (cut_replies c.args.now table).kept
    (All-filter (is_reply_live table.window c.args.now) (λ reply. IsReply reply.body) table.kept c.requires.usable.sealable)))

pub returns-then-lacks_room-clause-planned : goal.returns-then-lacks_room-clause-planned
returns-then-lacks_room-clause-planned c =
    let current : State = live_state c.args.now c.args.tables.now in
    let none : option_map (λ reply. reply.body) (reply_kept c.args.prepared.now.request current) ≡ None = search rules in
    let full : lacks_room c.args.prepared.now.configuration c.args.prepared.now.request.client
    (without_key (key_of c.args.prepared.now.request) current.replies) ≡ true = search rules in
    no_answer c.args.prepared.now.configuration current c.args.prepared.now.request c.args.draw.now (search rules) none full

pub returns-clause-planned : goal.returns-clause-planned
returns-clause-planned c =
    let current : State = live_state c.args.now c.args.tables.now in
    let none : option_map (λ reply. reply.body) (reply_kept c.args.prepared.now.request current) ≡ None = search rules in
    let room : lacks_room c.args.prepared.now.configuration c.args.prepared.now.request.client
    (without_key (key_of c.args.prepared.now.request) current.replies) ≡ false
    = rw (c.config.ensures, c.key_of-key.ensures, c.request-request.ensures.value) at
    (sym c.lacks_room.ensures ∙ c.if-lacks_room.false) in
    let new = new_answer c.args.prepared.now.configuration current c.args.prepared.now.request c.args.draw.now (search rules) none
    room in
    record {
      fresh = new.1;
      answered = new.0;
      rule = search rules;
      keeps = search rules;
    }

pub returns-in-Status-clause-planned : goal.returns-in-Status-clause-planned
returns-in-Status-clause-planned c =
    rw c.request-request.ensures.value
    at c.plan_status.ensures.planned c.args.prepared.now.configuration (live_state c.args.now c.args.tables.now) c.args.draw.now

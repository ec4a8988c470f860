use Rattle.std.proofs.Common.{◌≡◌, ◌∙◌, ◌++◌, ◌&&◌, All, Bool, false, true, not, IfSome, Option, Err, Ok, ap, inr, length, rules}
use Rattle.std.proofs.Common.{subst, sym}
use Rattle.std.specs.Prelude.{is_some, option_map}
use Rattle.std.proofs.lemmas.Option.{IfSome_then}
use Rattle.rad_dictionary.specs.Meant.{IsGrantable}
use Rattle.rad_config_fault.specs.declared.config_fault.Key.TheVariants as keys
use Rattle.rad_config.specs.Configurations.{is_too_long, own_in, user_in, user_place}
use Rattle.rad_config.specs.Entries.{has_key}
use Rattle.rad_config.specs.Profiles.{Group, IsProfile, Profile, over, profile_of, profile_seen, reply_of, user_with}
use Rattle.rad_config.specs.Ranges.{IsGroup}
use Rattle.rad_config.specs.ReadEntries.{group_seen, groups_seen}
use Rattle.rad_config.specs.Views.{entry_data}
use Rattle.rad_config.proofs.GroupLemmas.{IfSome-mapped, are-paired, is_some-copied, is_some-mapped, last_check, over-in_range}
use Rattle.rad_config.proofs.GroupLemmas.{profile_of-in_range, reply_of-granted, user-in_range, user_in-is}
use Rattle.rad_config.proofs.read_user.read_user.Goals as goal
use Rattle.rad_config.proofs.read_user.read_user.Goals.{After-reply-2-1}

pub after_group-requires-clause-group : goal.after_group-requires-clause-group
after_group-requires-clause-group c =
    IfSome_then c.group_of-group.result (c.group_of-group.ensures.range (length c.args.pools.now) c.requires.groups)
    (λ group is. is.code)

-- the group that the entry names
abbrev named : After-reply-2-1 → Option Group
named c = option_map (λ group. group_seen group.now) c.group_of-group.result

is_group : (c : After-reply-2-1) → IfSome (named c) (IsGroup (length c.args.pools.now))
is_group c =
    IfSome-mapped (IsGroup (length c.args.pools.now)) (λ group. group_seen group.now) c.group_of-group.result
    (c.group_of-group.ensures.range (length c.args.pools.now) c.requires.groups)

said_is : (c : After-reply-2-1) → profile_seen c.profile_of-said.result ≡ profile_of (named c)
said_is c = c.profile_of-said.ensures

profile_is : (c : After-reply-2-1) → profile_seen c.over-profile.result ≡ over (profile_seen c.in_ok-own.own) (profile_of (named c))
profile_is c = c.over-profile.ensures ∙ ap (over (profile_seen c.in_ok-own.own)) (said_is c)

reply_is : (c : After-reply-2-1) → c.in_ok-reply-2.reply.attributes ≡ reply_of (named c) ++ c.in_ok-reply.reply.attributes
reply_is c = c.in_ok-reply-2.ensures.attributes

is_said : (c : After-reply-2-1) → IsProfile (length c.args.pools.now) (profile_seen c.over-profile.result)
is_said c =
    let pools = length c.args.pools.now in
    subst (IsProfile pools) (sym (profile_is c))
    (over-in_range pools (profile_seen c.in_ok-own.own) (profile_of (named c)) c.in_ok-own.ensures.range
    (profile_of-in_range pools (named c) (is_group c)))

-- the entry is read, but for the last check
read : (c : After-reply-2-1) (too_long : Bool)
    → is_too_long (profile_seen c.over-profile.result) c.in_ok-reply-2.reply.attributes ≡ too_long
    → user_in c.args.pools.now (groups_seen c.args.groups.now) c.args.earlier.now (entry_data c.args.entry.now)
    ≡ last_check (entry_data c.args.entry.now) too_long
    (user_with c.in_ok-name.name.now c.in_ok-password.password.now (profile_seen c.over-profile.result)
    c.in_ok-reply-2.reply.attributes)
read c too_long long =
    let e = entry_data c.args.entry.now in
    let own = profile_seen c.in_ok-own.own in
    let new : is_some (user_place c.args.earlier.now c.in_ok-name.name.now) ≡ false =
    sym (ap is_some c.find.ensures.value) ∙ search rules in
    let there : (has_key e keys.Group && not (is_some (named c))) ≡ false =
    ap (λ b. has_key e keys.Group && not b) (is_some-mapped (λ group. group_seen group.now) c.group_of-group.result)
    ∙ search rules in
    let said : own_in c.args.pools.now c.args.earlier.now (profile_of (named c)) e ≡ Ok own =
    ap (λ g. own_in c.args.pools.now c.args.earlier.now g e) (sym (said_is c)) ∙ c.in_ok-own.ensures.read in
    let size = (λ j. is_too_long (sym (profile_is c) j) (sym (reply_is c) j)) ∙ long in
    user_in-is c.args.pools.now e c.in_ok-name.name.now own c.in_ok-reply.reply.attributes (named c) there
    c.in_ok-reply.ensures.read
    (groups_seen c.args.groups.now) c.args.earlier.now c.in_ok-password.password.now too_long c.in_ok-name.ensures.read new
    c.in_ok-password.ensures.read
    (sym c.group_of-group.ensures.group) said size
    ∙ sym (λ j. last_check e too_long
    (user_with c.in_ok-name.name.now c.in_ok-password.password.now (profile_is c j) (reply_is c j)))

-- both a challenge and an answer, or neither
paired : (c : After-reply-2-1)
    → is_some (profile_seen c.over-profile.result).challenge ≡ is_some (profile_seen c.over-profile.result).answer
paired c =
    let e = entry_data c.args.entry.now in
    let own = profile_seen c.in_ok-own.own in
    let group = profile_seen c.profile_of-said.result in
    let challenged = is_some-copied c.in_ok-own.own.challenge ∙ c.in_ok-own.ensures.challenge in
    let answered = is_some-copied c.in_ok-own.own.answer ∙ c.in_ok-own.ensures.answer in
    subst (λ (said : Profile). is_some said.challenge ≡ is_some said.answer) (sym c.over-profile.ensures)
    (are-paired (has_key e keys.Challenge) (has_key e keys.Answer) own.challenge own.answer group.challenge group.answer challenged
    answered)

pub is_too_long-requires : goal.is_too_long-requires
is_too_long-requires c = IfSome_then (profile_seen c.over-profile.result).message (is_said c).message (λ message is. is.1)

pub returns-then-is_too_long-clause-read : goal.returns-then-is_too_long-clause-read
returns-then-is_too_long-clause-read c =
    let long : is_too_long (profile_seen c.over-profile.result) c.in_ok-reply-2.reply.attributes ≡ true = search rules in
    inr (read (goal.at.returns-then-is_too_long-clause-read c).After-reply-2-1 true long
    ∙ sym (ap Err c.bad-then-is_too_long.ensures))

pub returns-clause-read : goal.returns-clause-read
returns-clause-read c =
    let short : is_too_long (profile_seen c.over-profile.result) c.in_ok-reply-2.reply.attributes ≡ false = search rules in
    read (goal.at.returns-clause-read c).After-reply-2-1 false short

pub returns-clause-range : goal.returns-clause-range
returns-clause-range c =
    let up = (goal.at.returns-clause-range c).After-reply-2-1 in
    let short : is_too_long (profile_seen c.over-profile.result) c.in_ok-reply-2.reply.attributes ≡ false = search rules in
    let granted = subst (All IsGrantable) (sym (reply_is up))
    (reply_of-granted (length c.args.pools.now) (named up) c.in_ok-reply.reply.attributes (is_group up)
    c.in_ok-reply.ensures.range) in
    user-in_range (length c.args.pools.now) c.in_ok-name.name.now c.in_ok-password.password.now (profile_seen c.over-profile.result)
    c.in_ok-reply-2.reply.attributes
    c.in_ok-name.ensures.range c.in_ok-password.ensures.range (is_said up) (paired up) granted short

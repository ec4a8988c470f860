use Rattle.std.proofs.Common.{◌≡◌, ◌∙◌, ◌++◌, ◌&&◌, All, false, not, IfSome, Option, Ok, ap, length, rules, subst, sym}
use Rattle.std.specs.Prelude.{is_some, option_map}
use Rattle.std.proofs.lemmas.Option.{IfSome_then}
use Rattle.rad_packet.specs.Bodies.{Body}
use Rattle.rad_dictionary.specs.Meant.{IsGrantable}
use Rattle.rad_config_fault.specs.declared.config_fault.Key.TheVariants as keys
use Rattle.rad_config.specs.Configurations.{is_too_long}
use Rattle.rad_config.specs.Entries.{has_key}
use Rattle.rad_config.specs.Profiles.{Group, IsProfile, blank, group_place, over, profile_of, profile_seen, reply_of}
use Rattle.rad_config.specs.Ranges.{IsGroup}
use Rattle.rad_config.specs.ReadEntries.{group_seen, groups_seen}
use Rattle.rad_config.specs.Views.{entry_data}
use Rattle.rad_config.proofs.GroupLemmas.{IfSome-mapped, group_in-is, is_some-mapped, over-in_range, profile_of-in_range}
use Rattle.rad_config.proofs.GroupLemmas.{reply_of-granted}
use Rattle.rad_config.proofs.read_group.read_group.Goals as goal

pub after_group-requires-clause-group : goal.after_group-requires-clause-group
after_group-requires-clause-group c =
    IfSome_then c.group_of-group.result (c.group_of-group.ensures.range (length c.args.pools.now) c.requires.earlier)
    (λ group is. is.code)

-- what the code joined is what the group and the entry say
pub returns-clause-read : goal.returns-clause-read
returns-clause-read c =
    let e = entry_data c.args.entry.now in
    let named : Option Group = option_map (λ group. group_seen group.now) c.group_of-group.result in
    let own = profile_seen c.in_ok-own.own in
    let new : is_some (group_place (groups_seen c.args.earlier.now) c.in_ok-name.name.now) ≡ false =
    sym (ap is_some c.place_of.ensures.value) ∙ search rules in
    let there : (has_key e keys.Group && not (is_some named)) ≡ false =
    ap (λ b. has_key e keys.Group && not b) (is_some-mapped (λ group. group_seen group.now) c.group_of-group.result)
    ∙ search rules in
    let attributes : c.in_ok-reply-2.reply.attributes ≡ reply_of named ++ c.in_ok-reply.reply.attributes =
    c.in_ok-reply-2.ensures.attributes in
    let short : is_too_long (profile_seen c.blank.result) c.in_ok-reply-2.reply.attributes ≡ false = search rules in
    let shorter : is_too_long blank (reply_of named ++ c.in_ok-reply.reply.attributes) ≡ false =
    ap (λ said. is_too_long said (reply_of named ++ c.in_ok-reply.reply.attributes)) (sym c.blank.ensures)
    ∙ ap (is_too_long (profile_seen c.blank.result)) (sym attributes) ∙ short in
    let is = group_in-is c.args.pools.now e c.in_ok-name.name.now own c.in_ok-reply.reply.attributes named there
    c.in_ok-reply.ensures.read
    (groups_seen c.args.earlier.now) c.in_ok-name.ensures.read new (sym c.group_of-group.ensures.group) c.in_ok-own.ensures.read
    shorter in
    let profile = c.over.ensures ∙ ap (over own) c.profile_of.ensures in
    let code = ap (λ (b : Body). b.code) c.in_ok-shared.ensures.same ∙ c.in_ok-reply-2.ensures.code in
    let reply = ap (λ (b : Body). b.attributes) c.in_ok-shared.ensures.same ∙ attributes in
    is ∙ sym (λ j. Ok (record {
      name = c.in_ok-name.name.now;
      profile = profile j;
      reply = record { code = code j; attributes = reply j };
    }))

pub returns-clause-range : goal.returns-clause-range
returns-clause-range c =
    let pools = length c.args.pools.now in
    let named : Option Group = option_map (λ group. group_seen group.now) c.group_of-group.result in
    let own = profile_seen c.in_ok-own.own in
    let is_group : IfSome named (IsGroup pools) =
    IfSome-mapped (IsGroup pools) (λ group. group_seen group.now) c.group_of-group.result
    (c.group_of-group.ensures.range pools c.requires.earlier) in
    let profile = c.over.ensures ∙ ap (over own) c.profile_of.ensures in
    let reply = ap (λ (b : Body). b.attributes) c.in_ok-shared.ensures.same ∙ c.in_ok-reply-2.ensures.attributes in
    record {
      profile = subst (IsProfile pools) (sym profile)
          (over-in_range pools own (profile_of named) c.in_ok-own.ensures.range (profile_of-in_range pools named is_group));
      code = ap (λ (b : Body). b.code) c.in_ok-shared.ensures.same ∙ c.in_ok-reply-2.ensures.code;
      reply = subst (All IsGrantable) (sym reply)
          (reply_of-granted pools named c.in_ok-reply.reply.attributes is_group c.in_ok-reply.ensures.range);
    }

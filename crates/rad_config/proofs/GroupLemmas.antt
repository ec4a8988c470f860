-- What is said over what a group says: it stays in range, and a challenge goes with an answer. What an entry says once its keys are
-- read.
use Rattle.std.proofs.Common.{◌≡◌, ℕ, ◌<◌, Bool, true, false, ◌&&◌, ◌||◌, not, List, [], ◌∷◌, ◌++◌, length, get_or, map, All}
use Rattle.std.proofs.Common.{Option, Some, None, IfSome, arith, rules, refl, ap, ◌∙◌, subst, sym}
use Rattle.std.specs.Borrow.{Bor}
use Rattle.std.specs.Int.{IsInRange}
use Rattle.std.specs.Prelude.{Ok, Result, is_some, option_copied, option_map, unwrap_or}
use Rattle.std.specs.Option.{option_or}
use Rattle.std.proofs.lemmas.Bool.{ltb-false}
use Rattle.std.proofs.lemmas.List.{length-map}
use Rattle.std.proofs.lemmas.List.Elements.{All-append, All-get_or}
use Rattle.std.proofs.Math.ListN.{get_or-map}
use Rattle.rad_packet.specs.Attributes.{Attribute, size, value_max}
use Rattle.rad_auth.specs.Passwords.{password_max}
use Rattle.rad_packet.specs.Codes.{code_access_accept}
use Rattle.rad_packet.specs.Ladders.{◌>>=◌, refuse_if}
use Rattle.rad_dictionary.specs.Meant.{IsGrantable}
use Rattle.rad_config_fault.specs.declared.config_fault.ConfigFault.{ConfigFault}
use Rattle.rad_config_fault.specs.declared.config_fault.ConfigFault.TheVariants.{BadValue}
use Rattle.rad_config_fault.specs.declared.config_fault.Key.TheVariants as keys
use Rattle.rad_config.specs.Configurations.{accept_max, accept_size, group_in, group_of, is_too_long, own_in, user_in, user_place}
use Rattle.rad_config.specs.Entries.{EntryData, has_key, spot, value}
use Rattle.rad_config.specs.Keys as rows
use Rattle.rad_config.specs.Profiles.{Group, IsProfile, Profile, blank, group_place, over, profile_in, profile_of, reply_of}
use Rattle.rad_config.specs.Profiles.{unless_placed, user_with}
use Rattle.rad_config.specs.Ranges.{HasLength, IsGroup, IsUser}
use Rattle.rad_config.specs.Replies.{reply_in}
use Rattle.rad_config.specs.declared.pool.Pool.{Pool}
use Rattle.rad_config.specs.declared.user.User.{User}

or_both : {A : Type 0} (P : A → Type 0) (o p : Option A) → IfSome o P → IfSome p P → IfSome (option_or o p) P
or_both P None p one other = other
or_both P (Some x) p one other = one

placed_both : {A : Type 0} (P : A → Type 0) (address : Option ℕ) (said placed : Option A) → IfSome said P → IfSome placed P
    → IfSome (unless_placed address said placed) P
placed_both P None said placed one other = one
placed_both P (Some at) said placed one other = other

pub over-in_range : (pools : ℕ) (own group : Profile) → IsProfile pools own → IsProfile pools group
    → IsProfile pools (over own group)
over-in_range pools own group is other = search (rules, or_both, placed_both, is, other)

pub profile_of-in_range : (pools : ℕ) (group : Option Group) → IfSome group (IsGroup pools) → IsProfile pools (profile_of group)
profile_of-in_range pools None is = search rules
profile_of-in_range pools (Some group) is = is.profile

pub reply_of-granted : (pools : ℕ) (group : Option Group) (own : List Attribute) → IfSome group (IsGroup pools)
    → All IsGrantable own → All IsGrantable (reply_of group ++ own)
reply_of-granted pools None own is granted = granted
reply_of-granted pools (Some group) own is granted = All-append IsGrantable group.reply.attributes own is.reply granted

pub IfSome-mapped : {A B : Type 0} (P : B → Type 0) (f : A → B) (o : Option A) → IfSome o (λ x. P (f x)) → IfSome (option_map f o) P
IfSome-mapped P f None is = tt
IfSome-mapped P f (Some x) is = is

pub is_some-mapped : {A B : Type 0} (f : A → B) (o : Option A) → is_some (option_map f o) ≡ is_some o
is_some-mapped f None = refl
is_some-mapped f (Some x) = refl

pub is_some-copied : {A : Type 0} (o : Option (Bor A)) → is_some (option_copied o) ≡ is_some o
is_some-copied None = refl
is_some-copied (Some x) = refl

is_some-or : {A : Type 0} (o p : Option A) → is_some (option_or o p) ≡ (is_some o || is_some p)
is_some-or None p = refl
is_some-or (Some x) p = refl

-- With the own ones that are needed, both are there, or neither: `c` and `a` say whether the entry has the keys, `gc` and `ga`
-- whether the group has a challenge and an answer.
both : (c a gc ga : Bool) → ((((a || ga) && not gc) || c) || gc) ≡ ((((c || gc) && not ga) || a) || ga)
both false false false false = refl
both false false false true = refl
both false false true false = refl
both false false true true = refl
both false true false false = refl
both false true false true = refl
both false true true false = refl
both false true true true = refl
both true false false false = refl
both true false false true = refl
both true false true false = refl
both true false true true = refl
both true true false false = refl
both true true false true = refl
both true true true false = refl
both true true true true = refl

pub are-paired : {A B : Type 0} (c a : Bool) (own : Option A) (own_answer : Option B) (group : Option A) (group_answer : Option B)
    → is_some own ≡ (((a || is_some group_answer) && not (is_some group)) || c)
    → is_some own_answer ≡ (((c || is_some group) && not (is_some group_answer)) || a)
    → is_some (option_or own group) ≡ is_some (option_or own_answer group_answer)
are-paired c a own own_answer group group_answer challenged answered =
    is_some-or own group ∙ ap (λ b. b || is_some group) challenged ∙ both c a (is_some group) (is_some group_answer)
    ∙ sym (ap (λ b. b || is_some group_answer) answered) ∙ sym (is_some-or own_answer group_answer)

-- attributes of no octets are none
pub none-of-size : (list : List Attribute) → size list ≡ 0 → list ≡ []
none-of-size [] e = refl
none-of-size (a ∷ list) e = absurd (omega (arith, e))

-- the sessions of a user, who has one where nothing is said
or_one : (o : Option ℕ) → IfSome o (IsInRange 1 4096) → IsInRange 1 4096 (unwrap_or o 1)
or_one None is = (omega arith, omega arith)
or_one (Some n) is = is

-- a user of whom this is said
pub user-in_range : (pools : ℕ) (name password : List ℕ) (said : Profile) (reply : List Attribute) → HasLength 1 value_max name
    → HasLength 1 password_max password → IsProfile pools said → is_some said.challenge ≡ is_some said.answer
    → All IsGrantable reply
    → is_too_long said reply ≡ false → IsUser pools (user_with name password said reply)
user-in_range pools name password said reply named known is paired granted short = record {
  name = named;
  password = known;
  said = search (rules, or_one, is);
  paired = paired;
  code = refl;
  reply = granted;
  fits = ltb-false accept_max (accept_size said reply) short;
}

-- an element of a mapped list has what all of them have
pub All-mapped : {A B : Type 0} (P : B → Type 0) (f : A → B) (xs : List A) (i : ℕ) (x : A) → i < length xs → x ≡ get_or xs i x
    → All P (map f xs) → P (f x)
All-mapped P f xs i x within is all =
    let inside : i < length (map f xs) = omega (arith, length-map xs f) in
    subst P (get_or-map f xs i x ∙ ap f (sym is)) (All-get_or P (map f xs) i (f x) inside all)

-- ---- what an entry says once its keys are read

-- an entry that is refused if it is too long
abbrev pub last_check : {A : Type 0} → EntryData → Bool → A → Result A ConfigFault
last_check e too_long a = refuse_if too_long (BadValue (spot e keys.Reply)) >>= λ fits. Ok a

module _ (pools : List Pool) (e : EntryData) (name : List ℕ) (own : Profile) (reply : List Attribute) (group : Option Group)
    (there : (has_key e keys.Group && not (is_some group)) ≡ false) (listed : reply_in e ≡ Ok reply) where
  pub group_in-is : (earlier : List Group) → value e rows.group_name ≡ Ok name → is_some (group_place earlier name) ≡ false
      → group_of earlier e ≡ group → profile_in pools false false e ≡ Ok own → is_too_long blank (reply_of group ++ reply) ≡ false
      → group_in pools earlier e ≡ Ok (record {
        name = name;
        profile = over own (profile_of group);
        reply = record { code = code_access_accept; attributes = reply_of group ++ reply };
      })
  unfolding group_in
  group_in-is earlier named new is said short = rw (named, new, is, there, said, listed, short) refl

  pub user_in-is : (groups : List Group) (earlier : List User) (password : List ℕ) (too_long : Bool)
      → value e rows.user_name ≡ Ok name
      → is_some (user_place earlier name) ≡ false → value e rows.password ≡ Ok password → group_of groups e ≡ group
      → own_in pools earlier (profile_of group) e ≡ Ok own
      → is_too_long (over own (profile_of group)) (reply_of group ++ reply) ≡ too_long
      → user_in pools groups earlier e
      ≡ last_check e too_long (user_with name password (over own (profile_of group)) (reply_of group ++ reply))
  unfolding user_in
  user_in-is groups earlier password too_long named new known is said long =
      rw (named, new, known, is, there, said, listed, long) refl

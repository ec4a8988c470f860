-- What the first attribute of a Type says, in a list from which others are taken out.
use Rattle.std.proofs.Common.{◌≡◌, ℕ, Bool, true, false, cond, ◌&&◌, List, [], ◌∷◌, Some, refl, ap, sym, ◌∙◌}
use Rattle.std.specs.Prelude.{drop, filter, find, length, option_map, ◌==◌}
use Rattle.std.specs.Int.{w32, w64, from_be_bytes}
use Rattle.std.proofs.lemmas.Bool.{eqb-true}
use Rattle.rad_packet.specs.Attributes.{Attribute, first_value, integer_size, is_of, is_of_len, first_integer}
use Rattle.rad_packet.specs.Packets.{Packet, packet_of}
use Rattle.rad_packet.specs.Types.{type_acct_status_type, type_class, type_framed_ip_address, type_user_name}
use Rattle.rad_server.specs.Accounting.{class_number, class_size, is_class}
use Rattle.rad_server.specs.Replies.{class_prefix}
use Rattle.rad_round.specs.declared.outcome.Outcome.{Outcome}
use Rattle.rad_round.specs.declared.outcome.Outcome.TheVariants.{Dropped, Busy, NoMemory, Reply}
use Rattle.rad_watch.specs.Events.{exchanged, from_datagram, of_answered, of_outcome, of_unanswered, parts_in, parts_of}
use Rattle.rad_watch.specs.Untold.{AlikeAreToldAlike, AreAlike, may_be_told, told_attributes, told_part}
use Rattle.rad_watch.specs.declared.kind.Kind.TheVariants as kinds

-- the first that passes a test is kept by a filter that lets through what passes
find_kept : {A : Type 0} (p q : A → Bool) → ((a : A) → p a ≡ true → q a ≡ true) → (list : List A)
    → find p list ≡ find p (filter q list)
find_kept p q passes [] = refl
find_kept p q passes (a ∷ rest) = at (p a) (q a) refl refl (find_kept p q passes rest)
  where
    at : (b d : Bool) → p a ≡ b → q a ≡ d → find p rest ≡ find p (filter q rest)
        → cond (p a) (Some a) (find p rest) ≡ find p (cond d (a ∷ filter q rest) (filter q rest))
    at b true is kept same = ap (cond (p a) (Some a)) same
    at true false is left same = cc (passes a is, left)
    at false false is left same = ap (λ t. cond t (Some a) (find p rest)) is ∙ same

both-first : (b d : Bool) → (b && d) ≡ true → b ≡ true
both-first true d both = refl
both-first false d both = both

-- what an attribute of a told Type is
of_told_type : (kind : ℕ) → may_be_told kind ≡ true → (a : Attribute) → is_of kind a ≡ true → may_be_told a.kind ≡ true
of_told_type kind told a is = ap may_be_told (eqb-true a.kind kind is) ∙ told

value_kept : (kind : ℕ) → may_be_told kind ≡ true → (list : List Attribute)
    → first_value kind list ≡ first_value kind (told_attributes list)
value_kept kind told list =
    ap (option_map (λ a. a.value)) (find_kept (is_of kind) (λ a. may_be_told a.kind) (of_told_type kind told) list)

integer_kept : (kind : ℕ) → may_be_told kind ≡ true → (list : List Attribute)
    → first_integer kind list ≡ first_integer kind (told_attributes list)
integer_kept kind told list =
    ap (λ found. option_map (λ value. from_be_bytes w32 value) (option_map (λ a. a.value) found))
    (find_kept (is_of_len kind integer_size) (λ a. may_be_told a.kind)
    (λ a is. of_told_type kind told a (both-first (is_of kind a) (length a.value == integer_size) is)) list)

class_kept : (list : List Attribute) → class_number list ≡ class_number (told_attributes list)
class_kept list =
    ap (option_map (λ a. from_be_bytes w64 (drop (length class_prefix) a.value)))
    (find_kept is_class (λ a. may_be_told a.kind)
    (λ a is. of_told_type type_class refl a
    (both-first (is_of type_class a) (length a.value == class_size) (both-first (is_of_len type_class class_size a) _ is))) list)

-- the parts are those of the part that may be told
parts_kept : (packet : Packet) → parts_of packet ≡ parts_of (told_part packet)
parts_kept packet =
    let list = packet.attributes in
    let user = value_kept type_user_name refl list in
    let status = integer_kept type_acct_status_type refl list in
    let address = integer_kept type_framed_ip_address refl list in
    let session = class_kept list in
    cc (user, status, address, session)

parts_alike : (octets others : List ℕ) → AreAlike octets others → parts_in (packet_of octets) ≡ parts_in (packet_of others)
parts_alike octets others alike =
    ap parts_in alike.holds ∙ ap Some (parts_kept alike.packet ∙ ap parts_of alike.same ∙ sym (parts_kept alike.other))
    ∙ sym (ap parts_in alike.others_hold)

outcome_alike : (octets others : List ℕ) → AreAlike octets others → (outcome : Outcome)
    → of_outcome octets outcome ≡ of_outcome others outcome
outcome_alike octets others alike (Dropped discard) = refl
outcome_alike octets others alike Busy = ap (λ parts. Some (of_unanswered kinds.Busy parts)) (parts_alike octets others alike)
outcome_alike octets others alike NoMemory =
    ap (λ parts. Some (of_unanswered kinds.NoMemory parts)) (parts_alike octets others alike)
outcome_alike octets others alike (Reply reply) =
    ap (λ parts. of_answered parts (packet_of reply)) (parts_alike octets others alike)

pub alike_are_told_alike : AlikeAreToldAlike
alike_are_told_alike clients datagram others outcome exchange alike =
    ap (option_map (λ event. from_datagram clients datagram (exchanged exchange event)))
    (outcome_alike datagram.octets others alike outcome)

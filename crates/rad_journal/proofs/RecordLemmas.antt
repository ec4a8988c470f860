-- What is recorded of admitted requests.
use Rattle.std.proofs.Common.{◌≡◌, ◌∙◌, ℕ, ◌<◌, ◌^◌, Bool, true, false, List, [], ◌∷◌, Option, Some, None, IfSome, Result, Ok, Err}
use Rattle.std.proofs.Common.{if◌then◌else◌, refl, sym, ap, cond, eqb, ne_eqb}
use Rattle.std.specs.Prelude.{option_map}
use Rattle.std.specs.Option.{option_or}
use Rattle.std.proofs.lemmas.Nat.{from_be_bytes-to_be_bytes_4, from_be_bytes-to_be_bytes_8}
use Rattle.rad_packet.specs.Attributes.{Attribute, attributes_octets, attributes_of, first_integer, first_value}
use Rattle.rad_packet.specs.Bodies.{Body}
use Rattle.rad_packet.specs.Codes.{code_access_accept}
use Rattle.rad_packet.specs.Packets.{Packet, packet_of}
use Rattle.rad_packet.specs.Types.{type_class, type_framed_ip_address}
use Rattle.rad_packet.specs.declared.packet.ReadFault.{ReadFault}
use Rattle.rad_packet.proofs.AttributeLemmas.{of-spelled}
use Rattle.rad_auth.specs.Clients.{Client}
use Rattle.rad_auth.specs.Datagrams.{Datagram}
use Rattle.rad_auth.specs.declared.arrival.Request.{Request}
use Rattle.rad_accounting.specs.Records.{grant_row}
use Rattle.rad_accounting.proofs.FirstLemmas.{first-is-integer, no-integer}
use Rattle.rad_server.specs.Accounting.{class_number}
use Rattle.rad_server.specs.Replies.{access_accept, class_value, four_octets}
use Rattle.rad_server.specs.Reports.{class_number_of}
use Rattle.rad_server.specs.Runs.{IsRequestOf}
use Rattle.rad_server.specs.declared.entry.Entry.{Entry}
use Rattle.rad_server.proofs.AddressLemmas.{accept_has_address, accept_has_class}
use Rattle.rad_server.proofs.ReportLemmas.{class-cons, value-cons}
use Rattle.rad_journal.specs.Kept.{answer_octets, kept_by}
use Rattle.rad_journal.specs.Records.{AccountingIsRecorded, GrantsAreRecorded, OnlyGrantsAreRecorded, accepted, grant_read}
use Rattle.rad_journal.specs.Records.{occasion_of, report_read}
use Rattle.rad_journal.specs.declared.kept.Kept.{Kept}
use Rattle.rad_journal.proofs.OriginLemmas.{packet_admitted}
use Rattle.rad_journal.proofs.RefusalLemmas.{kept_as}

-- what is kept of an admitted request is read as its packet
reads_again : (clients : List Client) (request : Request) (entry : Entry) (kept : Kept) (wall : ℕ)
    → IsRequestOf clients entry request
    → kept_by wall entry ≡ Some kept → packet_of kept.octets ≡ Ok request.packet
reads_again clients request entry kept wall asked is =
    ap packet_of (ap (λ (d : Datagram). d.octets) (sym (asked.own ∙ (kept_as wall entry kept is).datagram)))
    ∙ packet_admitted clients request asked.admitted

pub is_recorded : AccountingIsRecorded
is_recorded clients request entry kept wall number asked is =
    ap (report_read number kept) (reads_again clients request entry kept wall asked is)

-- ---- grants

-- where the first Class is that of a session, it is the first of one
first_class : (n : ℕ) (list : List Attribute) (value : List ℕ) → first_value type_class list ≡ Some value
    → class_number_of value ≡ Some n
    → class_number list ≡ Some n
first_class n [] value is so = absurd cc
first_class n (a ∷ list) value is so =
    class-cons a list ∙ at (eqb a.kind type_class) (sym (value-cons type_class a list) ∙ is)
    (λ there. first_class n list value there so)
  where
    at : (b : Bool) → option_or (cond b (Some a.value) None) (first_value type_class list) ≡ Some value
        → (first_value type_class list ≡ Some value → class_number list ≡ Some n)
        → option_or (cond b (class_number_of a.value) None) (class_number list) ≡ Some n
    at true same rest = let it : a.value ≡ value = cc same in
        ap (λ v. option_or (class_number_of v) (class_number list)) it ∙ ap (λ o. option_or o (class_number list)) so
    at false same rest = rest same

-- the address that an Access-Accept gives
said_address : (list : List Attribute) (address : Option ℕ) → IfSome address (λ a. a < 2 ^ 32)
    → first_value type_framed_ip_address list ≡ option_map four_octets address → first_integer type_framed_ip_address list ≡ address
said_address list None fits is = no-integer type_framed_ip_address list is
said_address list (Some a) fits is =
    first-is-integer type_framed_ip_address a list (four_octets a) is (ap (λ n. Some n) (from_be_bytes-to_be_bytes_4 a fits))

inside : (x y : List ℕ) → Some x ≡ Some y → x ≡ y
inside x y e = cc

pub is_granted : GrantsAreRecorded
is_granted clients request user grant entry kept wall number asked own fits answer is =
    let body : Body = access_accept user grant request.packet in
    let list : List Attribute = body.attributes in
    let octets : kept.answer ≡ 2 ∷ attributes_octets list =
    inside _ _ (sym (kept_as wall entry kept is).answer ∙ ap answer_octets answer) in
    let said_list : accepted kept.answer ≡ Some list = ap accepted octets ∙ of-spelled list in
    let class : class_number list ≡ Some grant.number =
    first_class grant.number list (class_value grant.number) (accept_has_class user grant request.packet own)
    (ap (λ n. Some n) (from_be_bytes-to_be_bytes_8 grant.number fits.number)) in
    let address = said_address list grant.address fits.address (accept_has_address user grant request.packet own) in
    ap (λ r. grant_read number kept r (accepted kept.answer)) (reads_again clients request entry kept wall asked is)
    ∙ ap (grant_read number kept (Ok request.packet)) said_list
    ∙ ap (λ o. option_map (λ session. grant_row (occasion_of number kept (Some session)) (first_integer type_framed_ip_address list)
    request.packet.attributes) o) class
    ∙ ap (λ a. Some (grant_row (occasion_of number kept (Some grant.number)) a request.packet.attributes)) address

-- without an Access-Accept nothing is granted
none_granted : (number : ℕ) (kept : Kept) (r : Result Packet ReadFault) → grant_read number kept r None ≡ None
none_granted number kept (Ok packet) = refl
none_granted number kept (Err fault) = refl

pub none_is_granted : OnlyGrantsAreRecorded
none_is_granted body entry kept wall number answer differs is =
    let octets : kept.answer ≡ body.code ∷ attributes_octets body.attributes =
    inside _ _ (sym (kept_as wall entry kept is).answer ∙ ap answer_octets answer) in
    let other : accepted kept.answer ≡ None =
    ap accepted octets ∙ ap (λ (b : Bool). if b then attributes_of (attributes_octets body.attributes) else None)
    (ne_eqb body.code code_access_accept differs) in
    ap (grant_read number kept (packet_of kept.octets)) other ∙ none_granted number kept (packet_of kept.octets)

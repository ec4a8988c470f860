use Rattle.std.proofs.Common.{◌≡◌, ◌∷◌, Some, ap, ◌∙◌}
use Rattle.std.specs.Prelude.{option_copied}
use Rattle.rad_packet.specs.Attributes.{Attribute, first_value, first_integer, integer_of}
use Rattle.rad_packet.specs.Types.{type_acct_status_type, type_class, type_framed_ip_address, type_user_name}
use Rattle.rad_server.specs.Accounting.{class_number}
use Rattle.rad_server.specs.Reports.{class_number_of}
use Rattle.rad_server.proofs.ReportLemmas.{all-first, class-cons, integer-cons, next-first, value-cons}
use Rattle.rad_server.proofs.accounting.Report.of.Goals as goal

pub loop-attribute-preserved : goal.loop-attribute-preserved
loop-attribute-preserved c =
    let a : Attribute = record { kind = c.in-Some.attribute.kind; value = c.in-Some.attribute.value.now } in
    let others = c.next.new.self in
    let rest = c.loop-attribute.rest in
    let was = c.loop-attribute.report in
    let new = c.add.new.self in
    let all = c.args.attributes in
    let known = c.loop-attribute.invariant in
    let e : rest ≡ a ∷ others = c.in-Some.ensures.steps in
    record {
      status = next-first type_acct_status_type a (integer_of a.value) was.status new.status
          (first_integer type_acct_status_type others) (first_integer type_acct_status_type rest)
          (first_integer type_acct_status_type all) c.add.ensures.status
          (ap (first_integer type_acct_status_type) e ∙ integer-cons type_acct_status_type a others) known.status;
      number = next-first type_class a (class_number_of a.value) was.number new.number (class_number others) (class_number rest)
          (class_number all)
          c.add.ensures.number (ap class_number e ∙ class-cons a others) known.number;
      address = next-first type_framed_ip_address a (integer_of a.value) was.address new.address
          (first_integer type_framed_ip_address others) (first_integer type_framed_ip_address rest)
          (first_integer type_framed_ip_address all) c.add.ensures.address
          (ap (first_integer type_framed_ip_address) e ∙ integer-cons type_framed_ip_address a others) known.address;
      user_name = next-first type_user_name a (Some a.value) (option_copied was.user_name) (option_copied new.user_name)
          (first_value type_user_name others) (first_value type_user_name rest)
          (first_value type_user_name all) c.add.ensures.user_name
          (ap (first_value type_user_name) e ∙ value-cons type_user_name a others) known.user_name;
    }

pub returns : goal.returns
returns c =
    let rest = c.loop-attribute.rest in
    let found = c.loop-attribute.report in
    let all = c.args.attributes in
    let known = c.loop-attribute.invariant in
    let e = c.in_default.ensures.steps.0 in
    record {
      status = all-first found.status (first_integer type_acct_status_type rest) (first_integer type_acct_status_type all)
          (ap (first_integer type_acct_status_type) e) known.status;
      number = all-first found.number (class_number rest) (class_number all) (ap class_number e) known.number;
      address = all-first found.address (first_integer type_framed_ip_address rest) (first_integer type_framed_ip_address all)
          (ap (first_integer type_framed_ip_address) e) known.address;
      user_name = all-first (option_copied found.user_name) (first_value type_user_name rest) (first_value type_user_name all)
          (ap (first_value type_user_name) e) known.user_name;
    }

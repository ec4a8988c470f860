use Rattle.std.proofs.Common.{◌≡◌}
use Rattle.std.specs.Prelude.{option_copied}
use Rattle.std.specs.Option.{option_or}
use Rattle.rad_packet.specs.Attributes.{first_value, first_integer}
use Rattle.rad_packet.specs.Types.{type_acct_status_type, type_framed_ip_address, type_user_name}
use Rattle.rad_server.specs.Accounting.{class_number}
use Rattle.rad_server.proofs.accounting.Report.of.Given as goal

-- what is found in the attributes so far, or else what those that are left say, is what all say
abbrev pub invariant-loop-attribute : goal.invariant-loop-attribute
invariant-loop-attribute l = record {
  status : option_or l.report.status (first_integer type_acct_status_type l.rest)
      ≡ first_integer type_acct_status_type l.fn.attributes;
  number : option_or l.report.number (class_number l.rest) ≡ class_number l.fn.attributes;
  address : option_or l.report.address (first_integer type_framed_ip_address l.rest)
      ≡ first_integer type_framed_ip_address l.fn.attributes;
  user_name : option_or (option_copied l.report.user_name) (first_value type_user_name l.rest)
      ≡ first_value type_user_name l.fn.attributes;
}

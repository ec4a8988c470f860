use Rattle.std.proofs.Common.{rules}
use Rattle.std.specs.Net.Addr.{ipv6_bits}
use Rattle.rad_dictionary.proofs.prefix.prefix_with.Goals as goal

pub returns-then-not-has_no_bit_past : goal.returns-then-not-has_no_bit_past
unfolding ipv6_bits
returns-then-not-has_no_bit_past c = search rules

pub returns : goal.returns
unfolding ipv6_bits
returns c = search rules

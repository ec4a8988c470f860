use Rattle.std.proofs.Common.{◌≡◌, ◌+◌, length, drop}
use Rattle.std.specs.Prelude.{All}
use Rattle.toml.specs.View.{items_view}
use Rattle.rad_packet.specs.Codes.{code_access_accept}
use Rattle.rad_dictionary.specs.Meant.{IsGrantable}
use Rattle.rad_config.specs.Entries.{entries_from}
use Rattle.rad_config.specs.Replies.{attribute_in, attributes_from}
use Rattle.rad_config.proofs.read_reply.attributes_from.Given as goal

-- the attributes so far, and those that the other items are, are those of all the items
abbrev pub invariant-loop-place : goal.invariant-loop-place
invariant-loop-place l =
    record {
      one_each : length l.body.attributes ≡ l.place;
      as_all : entries_from l.part attribute_in (l.place + 1) l.body.attributes (items_view (drop l.place l.items))
          ≡ attributes_from l.part (items_view l.items);
      code : l.body.code ≡ code_access_accept;
      ranges : All IsGrantable l.body.attributes;
    }

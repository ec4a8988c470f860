use Rattle.std.proofs.Common.{◌≡◌, ◌++◌, take}
use Rattle.std.specs.Prelude.{flat_map, option_copied}
use Rattle.rad_export.specs.Lines.{member}
use Rattle.rad_export.specs.Seen.{name_of, shown_of}
use Rattle.rad_export.proofs.json_line.write_members.Given as goal

-- the columns so far
abbrev pub invariant-loop-at : goal.invariant-loop-at
invariant-loop-at l =
    record {
      tokens : l.out.tokens ≡ l.fn.out.tokens
          ++ flat_map (λ c. member (name_of c) (shown_of (option_copied l.time) l.row c)) (take l.at-index l.columns);
      before : l.out.before ≡ l.fn.out.before;
    }

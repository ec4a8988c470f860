use Rattle.std.proofs.Common.{◌≡◌, ◌++◌, [], map, take}
use Rattle.std.specs.Prelude.{option_copied}
use Rattle.csv.specs.Records.{fields_of, partial_of}
use Rattle.rad_export.specs.Lines.{field}
use Rattle.rad_export.specs.Seen.{shown_of}
use Rattle.rad_export.proofs.csv_line.push_columns.Given as goal

-- the columns so far
abbrev pub invariant-loop-at : goal.invariant-loop-at
invariant-loop-at l =
    record {
      fields : fields_of l.fields ≡ fields_of l.fn.fields
          ++ map (λ c. field (shown_of (option_copied l.time) l.row c)) (take l.at-index l.columns);
      whole : partial_of l.fields ≡ [];
    }

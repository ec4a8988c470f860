use Rattle.std.proofs.Common.{◌≡◌, ◌++◌, [], map, take}
use Rattle.csv.specs.Records.{fields_of, partial_of}
use Rattle.rad_export.specs.Seen.{name_of}
use Rattle.rad_export.proofs.csv_line.push_names.Given as goal

-- the names so far
abbrev pub invariant-loop-name : goal.invariant-loop-name
invariant-loop-name l =
    record {
      names : fields_of l.fields ≡ fields_of l.fn.fields ++ map name_of (take l.name-index l.columns);
      whole : partial_of l.fields ≡ [];
    }

-- What journals keep.
use Rattle.std.specs.Prelude.{if◌then◌else◌, Bool, List, []}
use Rattle.rad_journal.specs.declared.kept.Kept.{Kept}

-- what a commit of entries adds: all of them, or none where a journal keeps nothing
abbrev pub added : Bool → List Kept → List Kept
added keeps entries = if keeps then entries else []

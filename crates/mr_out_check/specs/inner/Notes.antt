-- Where a note stands.
use Rattle.std.specs.Prelude.{ℕ, ◌+◌, List, [], ◌∷◌, Option, Some, None, if◌then◌else◌}
use Rattle.mr_out_check.specs.Classes.{same_class}
use Rattle.mr_out_check.specs.declared.class.Class.{Class}
use Rattle.mr_out_check.specs.declared.seen.Note.{Note}

-- the place of the first note of a class, where they stand from place k on
abbrev pub place_from : Class → ℕ → List Note → Option ℕ
place_from c k [] = None
place_from c k (n ∷ ns) = if same_class n.class c then Some k else place_from c (k + 1) ns

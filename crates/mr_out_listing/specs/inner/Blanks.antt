-- What stands behind one blank.
use Rattle.std.specs.Prelude.{ℕ, ◌+◌, ◌==◌, List, drop, Option, None, slice_index_or, if◌then◌else◌}
use Rattle.mr_out_listing.specs.Lines.{Sight, sized_sight}
use Rattle.mr_out_listing.specs.declared.entry.Kind.{Kind}

-- the size and what follows it, behind the byte at this place, if it is a blank
abbrev pub sized_at : Option Kind → List ℕ → ℕ → Option Sight
sized_at kind line at = if slice_index_or line at 0 == 32 then sized_sight kind (drop (at + 1) line) else None

-- What was seen of a directory: what came, class by class, and how often each number of a part file came. Our own.
use Rattle.std.specs.Prelude.{ℕ, ◌+◌, ◌-◌, List, [], ◌∷◌, ◌++◌, length, map, Option, Some, None, slice_set, slice_index_or, replicate, if◌then◌else◌}
use Rattle.mr_out_listing.specs.Lines.{Sight}
use Rattle.mr_out_listing.specs.Reading.{one_more}
use Rattle.mr_out_check.specs.Classes.{class_of, part_of, same_class}
use Rattle.mr_out_check.specs.declared.class.Class.{Class}
use Rattle.mr_out_check.specs.declared.seen.Note.{Note}
use Rattle.mr_out_check.specs.declared.seen.Times.{Times}
use Rattle.mr_out_check.specs.declared.seen.Times.TheVariants.{Never, Once, More}

-- of a class: how many of it came, up to 2^64 - 1, and the name of the first
pub record Noted : Type 0 where
  pub class : Class
  pub count : ℕ
  pub first : List ℕ

abbrev pub as_noted : Note → Noted
as_noted n = record { class = n.class; count = n.count; first = n.first.items }

-- the classes in the order in which they came first, and of each number of a part file, from 0 on, how often it came
pub record Seen : Type 0 where
  pub notes : List Noted
  pub tally : List Times

abbrev pub nothing : Seen
nothing = record { notes = []; tally = [] }

abbrev pub counted : Noted → Noted
counted n = record n { count = one_more n.count }

abbrev pub noted : Class → List ℕ → List Noted → List Noted
noted c name [] = record { class = c; count = 1; first = name } ∷ []
noted c name (n ∷ ns) = if same_class n.class c then counted n ∷ ns else n ∷ noted c name ns

abbrev pub once_more : Times → Times
once_more Never = Once
once_more Once = More
once_more More = More

-- with room for the number n
abbrev pub padded : ℕ → List Times → List Times
padded n times = times ++ replicate (n + 1 - length times) Never

-- with the number n once more
abbrev pub tallied_at : ℕ → List Times → List Times
tallied_at n times = slice_set times n (once_more (slice_index_or times n Never))

abbrev pub tallied : Option ℕ → List Times → List Times
tallied None times = times
tallied (Some n) times = tallied_at n (padded n times)

-- with one that is listed
abbrev pub classed : Class → List ℕ → Seen → Seen
classed c name s = record { notes = noted c name s.notes; tally = tallied (part_of c name) s.tally }

abbrev pub seen_with : Sight → Seen → Seen
seen_with sight s = classed (class_of sight.kind sight.empty sight.path) sight.path s

-- with all of these
abbrev pub seen_all : List Sight → Seen → Seen
seen_all [] s = s
seen_all (sight ∷ sights) s = seen_all sights (seen_with sight s)

-- Where marker, history and files of a directory of mrout do not agree, and the answer: may it be read? Lengths of files are compared, their bytes are not.
-- Our own.
use Rattle.std.specs.Prelude.{ℕ, Bool, true, false, not, List, [], ◌∷◌, ◌++◌, ◌==◌, length, flat_map, codes, Option, Some, None, if◌then◌else◌}
use Rattle.std.specs.List.{list_any}
use Rattle.std.specs.Str.{bytes_eq}
use Rattle.mr_paths.specs.Layout.{is_hidden, marker_name}
use Rattle.mr_out_listing.specs.declared.entry.Kind.{Kind}
use Rattle.mr_out_listing.specs.declared.entry.Kind.TheVariants.{File, Directory, Closed, Other}
use Rattle.mr_out_check.specs.declared.verdict.Answer.{Answer}
use Rattle.mr_out_check.specs.declared.verdict.Answer.TheVariants.{Yes, No}
use Rattle.mr_out_winners.specs.Tasks.{NameSeen, Part, look_at}
use Rattle.mr_out_winners.specs.declared.finding.Finding.{Finding}
use Rattle.mr_out_winners.specs.declared.trouble.Trouble.{Trouble}
use Rattle.mr_out_winners.specs.declared.trouble.Trouble.TheVariants.{Unmarked, OtherTasks, Over, Unwon, Missing, NoFile, Unmeasured, OtherLength, Foreign}
use Rattle.mr_out_winners.specs.declared.name.Look.{Look}
use Rattle.mr_out_winners.specs.declared.task.Won.{Won}

-- what does not agree, and at which name
pub record Found : Type 0 where
  pub trouble : Trouble
  pub name : List ℕ

abbrev pub as_found : Finding → Found
as_found f = record { trouble = f.trouble; name = f.name.items }

abbrev pub found_at : List ℕ → Option Trouble → List Found
found_at name None = []
found_at name (Some t) = record { trouble = t; name = name } ∷ []

abbrev pub trouble_if : Bool → Trouble → Option Trouble
trouble_if true t = Some t
trouble_if false t = None

-- ---- the whole: the marker was seen before anything else was looked at; so many tasks are told; the job was ended as failed

abbrev pub is_other : Option ℕ → ℕ → Bool
is_other None tasks = false
is_other (Some n) tasks = not (n == tasks)

abbrev pub whole_found : Bool → Option ℕ → Bool → ℕ → List Found
whole_found marked told over tasks =
    found_at marker_name (trouble_if (not marked) Unmarked)
    ++ (found_at (codes "_mrout") (trouble_if (is_other told tasks) OtherTasks) ++ found_at (codes "_mrout") (trouble_if over Over))

-- ---- a task

abbrev pub is_file : Kind → Bool
is_file File = true
is_file Directory = false
is_file Closed = false
is_file Other = false

abbrev pub length_trouble : Option ℕ → ℕ → Option Trouble
length_trouble None len = Some Unmeasured
length_trouble (Some n) len = trouble_if (not (n == len)) OtherLength

abbrev pub look_trouble : Won → Look → Option Trouble
look_trouble w l = if is_file l.kind then length_trouble w.len l.len else Some NoFile

abbrev pub won_trouble : Won → Option Look → Option Trouble
won_trouble w None = Some Missing
won_trouble w (Some l) = look_trouble w l

abbrev pub task_trouble : Option Won → Option Look → Option Trouble
task_trouble None l = Some Unwon
task_trouble (Some w) l = won_trouble w l

abbrev pub task_found : List NameSeen → Part → List Found
task_found ns p = found_at p.name (task_trouble p.won (look_at p.name ns))

-- ---- a name: whatever is visible is a task's part file

abbrev pub has_part : List ℕ → List Part → Bool
has_part name ps = list_any (λ (p : Part). bytes_eq p.name name) ps

abbrev pub is_foreign : List Part → List ℕ → Bool
is_foreign ps name = if is_hidden name then false else not (has_part name ps)

abbrev pub name_found : List Part → NameSeen → List Found
name_found ps n = found_at n.name (trouble_if (is_foreign ps n.name) Foreign)

-- ---- all of it

abbrev pub findings : Bool → Option ℕ → Bool → List Part → List NameSeen → List Found
findings marked told over ps ns = whole_found marked told over (length ps) ++ (flat_map (task_found ns) ps ++ flat_map (name_found ps) ns)

abbrev pub answer_of : List Found → Answer
answer_of [] = Yes
answer_of (f ∷ fs) = No

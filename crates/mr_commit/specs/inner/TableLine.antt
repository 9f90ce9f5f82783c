-- The line that a line of the code is.
use Rattle.std.specs.Prelude.{◌≡◌, ℕ, true, List, [], Result, Err}
use Rattle.mr_names.specs.declared.op.Op.{Op}
use Rattle.mr_names.specs.declared.op.Op.TheVariants as op
use Rattle.mr_commit.specs.declared.line.TableLine.TheInside.{Inside}
use Rattle.mr_commit.specs.declared.line.Rule.{Rule}
use Rattle.mr_commit.specs.declared.line.Rule.TheVariants as rule
use Rattle.mr_commit.specs.declared.fault.CommitFault.{CommitFault}
use Rattle.mr_commit.specs.declared.fault.CommitFault.TheVariants as fault
use Rattle.mr_commit.specs.Line.{Line, lines_follow}
use Rattle.mr_commit.specs.Line.Line.{Does, Clears, Needs, Merges, MergesEach, MergesTasks, Seeks, Measures}

-- the path of a call. A bar has none
abbrev pub path_of : Op → List (List ℕ)
path_of (op.Mkdirs path) = path
path_of (op.Create path closed) = path
path_of (op.Append path bytes) = path
path_of (op.Close path) = path
path_of (op.Delete path) = path
path_of (op.Rename from to) = from
path_of (op.List path) = path
path_of (op.Exists path) = path
path_of (op.Read path) = path
path_of (op.Bar a) = []

abbrev pub line_by : Op → Rule → Line
line_by call rule.Plain = Does call
line_by call rule.MissingPasses = Clears (path_of call)
line_by call rule.Needed = Needs (path_of call)
line_by call (rule.Merge taken from to) = Merges taken from to
line_by call (rule.MergeEach from to) = MergesEach from to
line_by call (rule.MergeTasks from to) = MergesTasks from to
line_by call (rule.Seek layout task bytes k j) = Seeks layout.dest task bytes k j
line_by call (rule.Measure bytes) = Measures (path_of call) bytes

abbrev pub line_of : Inside → Line
line_of l = line_by l.op l.rule

-- why these lines are not given: the fault that stands in their place, or an allocation failure, where there are some
abbrev pub IsWhy : Result (List Line) CommitFault → CommitFault → Type 0
IsWhy lines fault.NoMemory = lines_follow lines ≡ true
IsWhy lines f = lines ≡ Err f

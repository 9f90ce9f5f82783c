-- What a name in a job's output directory is. The names of the marker, of part files and of what stands beneath `_temporary` are those of Hadoop's
-- committer document; those of other engines are as these write them today (Spark, Hive, Databricks, Delta Lake).
use Rattle.std.specs.Prelude.{ℕ, ◌+◌, ◌-◌, ◌*◌, Bool, true, false, ◌&&◌, ◌||◌, List, [], ◌∷◌, ◌==◌, nat_eq, nat_lt, length, drop, codes, Option, Some, None, is_some, if◌then◌else◌}
use Rattle.std.specs.List.{list_all, list_any, starts_with}
use Rattle.std.specs.Str.{bytes_eq}
use Rattle.mr_script.specs.Lines.{before, after}
use Rattle.mr_paths.specs.Layout.{marker_name, temporary_name, is_hidden}
use Rattle.mr_out_listing.specs.Lines.{behind, has_digits, is_digit}
use Rattle.mr_out_listing.specs.declared.entry.Kind.{Kind}
use Rattle.mr_out_listing.specs.declared.entry.Kind.TheVariants.{File, Directory, Closed, Other}
use Rattle.mr_out_check.specs.declared.class.Class.{Class}
use Rattle.mr_out_check.specs.declared.class.Class.TheVariants.{Marker, MarkerWithBytes, MarkerFolder, ReducePart, MapPart, PlainPart, Temporary, TemporaryClosed, Generation, CommittedTask, TaskAttempt, OtherWork, Mrout, Spark, Hive, Partition, CommitMark, DeltaLog, Hidden, Folder, InFolder, Foreign}

-- ---- part files

-- a number of five digits, or of six or seven with no zero in front
abbrev pub number_in : List ℕ → Option ℕ
number_in (a ∷ b ∷ c ∷ d ∷ e ∷ []) = Some (((((a - 48) * 10 + (b - 48)) * 10 + (c - 48)) * 10 + (d - 48)) * 10 + (e - 48))
number_in (f ∷ a ∷ b ∷ c ∷ d ∷ e ∷ []) =
    if f == 48 then None else Some ((((((f - 48) * 10 + (a - 48)) * 10 + (b - 48)) * 10 + (c - 48)) * 10 + (d - 48)) * 10 + (e - 48))
number_in (g ∷ f ∷ a ∷ b ∷ c ∷ d ∷ e ∷ []) =
    if g == 48 then None else Some (((((((g - 48) * 10 + (f - 48)) * 10 + (a - 48)) * 10 + (b - 48)) * 10 + (c - 48)) * 10 + (d - 48)) * 10 + (e - 48))
number_in _ = None

abbrev pub digits_number : List ℕ → Option ℕ
digits_number word = if list_all is_digit word then number_in word else None

-- the number of a part file whose name begins so; an ending stands behind a full stop
abbrev pub part_behind : List ℕ → List ℕ → Option ℕ
part_behind front name = if starts_with nat_eq name front then digits_number (before 46 (drop (length front) name)) else None

-- ---- other engines' files

-- `part-00000-UUID-c000.snappy.parquet`
abbrev pub is_spark : List ℕ → Bool
is_spark name = starts_with nat_eq name (codes "part-") && has_digits 5 (before 45 (drop 5 name)) && nat_lt 0 (length (behind 45 (drop 5 name)))

-- `000000_0`
abbrev pub is_hive : List ℕ → Bool
is_hive name = has_digits 6 (before 95 name) && nat_lt 0 (length (behind 95 name))

-- `_started_TID`, `_committed_TID`
abbrev pub is_commit_mark : List ℕ → Bool
is_commit_mark name = starts_with nat_eq name (codes "_committed_") || starts_with nat_eq name (codes "_started_")

-- ---- a name in the directory itself

abbrev pub marker_class : Kind → Bool → Class
marker_class File true = Marker
marker_class File false = MarkerWithBytes
marker_class Directory empty = MarkerFolder
marker_class Closed empty = MarkerFolder
marker_class Other empty = MarkerFolder

abbrev pub file_class : List ℕ → Class
file_class name =
    if is_some (part_behind (codes "part-r-") name) then ReducePart
    else if is_some (part_behind (codes "part-m-") name) then MapPart
    else if is_some (part_behind (codes "part-") name) then PlainPart
    else if is_spark name then Spark
    else if is_hive name then Hive
    else Foreign

-- `dt=2026-11-28`
abbrev pub folder_class : List ℕ → Class
folder_class name = if list_any (λ b. b == 61) name then Partition else Folder

abbrev pub visible_class : Kind → List ℕ → Class
visible_class File name = file_class name
visible_class Directory name = folder_class name
visible_class Closed name = folder_class name
visible_class Other name = Foreign

-- the folder of a job's work: what stands in it was listed too, or it is not told
abbrev pub temporary_class : Kind → Class
temporary_class Closed = TemporaryClosed
temporary_class File = Temporary
temporary_class Directory = Temporary
temporary_class Other = Temporary

abbrev pub hidden_class : Kind → List ℕ → Class
hidden_class kind name =
    if bytes_eq name temporary_name then temporary_class kind
    else if bytes_eq name (codes "_mrout") then Mrout
    else if bytes_eq name (codes "_delta_log") then DeltaLog
    else if is_commit_mark name then CommitMark
    else Hidden

abbrev pub top_class : Kind → Bool → List ℕ → Class
top_class kind empty name =
    if bytes_eq name marker_name then marker_class kind empty
    else if is_hidden name then hidden_class kind name
    else visible_class kind name

-- ---- a name beneath a folder

-- in a folder of a generation: an attempt stands in its `_temporary`
abbrev pub attempt_class : List ℕ → Option (List ℕ) → Class
attempt_class front None = if bytes_eq front temporary_name then TaskAttempt else OtherWork
attempt_class front (Some rest) = OtherWork

-- in a generation
abbrev pub task_class : List ℕ → Option (List ℕ) → Class
task_class name None = if starts_with nat_eq name (codes "task_") then CommittedTask else OtherWork
task_class name (Some rest) = attempt_class (before 47 name) (after 47 rest)

-- in `_temporary`
abbrev pub work_class : Option (List ℕ) → Class
work_class None = Generation
work_class (Some name) = task_class name (after 47 name)

abbrev pub below_class : List ℕ → List ℕ → Class
below_class front rest =
    if bytes_eq front temporary_name then work_class (after 47 rest)
    else if bytes_eq front (codes "_mrout") then Mrout
    else if bytes_eq front (codes "_delta_log") then DeltaLog
    else if is_hidden front then Hidden
    else InFolder

-- ---- any name

abbrev pub class_by : Option (List ℕ) → Kind → Bool → List ℕ → Class
class_by None kind empty name = top_class kind empty name
class_by (Some rest) kind empty name = below_class (before 47 name) rest

-- what is listed by this name, from the directory on
abbrev pub class_of : Kind → Bool → List ℕ → Class
class_of kind empty name = class_by (after 47 name) kind empty name

-- its number, where it is a part file
abbrev pub part_of : Class → List ℕ → Option ℕ
part_of ReducePart name = part_behind (codes "part-r-") name
part_of MapPart name = part_behind (codes "part-m-") name
part_of PlainPart name = part_behind (codes "part-") name
part_of _ name = None

-- ---- groups of classes

-- a job's work that is no output yet: what stands beneath `_temporary`
abbrev pub is_work : Class → Bool
is_work Generation = true
is_work CommittedTask = true
is_work TaskAttempt = true
is_work OtherWork = true
is_work _ = false

-- what the committer of a job makes no such name of
abbrev pub is_strange : Class → Bool
is_strange Spark = true
is_strange Hive = true
is_strange Partition = true
is_strange CommitMark = true
is_strange DeltaLog = true
is_strange Folder = true
is_strange InFolder = true
is_strange Foreign = true
is_strange _ = false

-- the order of the classes, by which two are one
abbrev pub place_of : Class → ℕ
place_of Marker = 0
place_of MarkerWithBytes = 1
place_of MarkerFolder = 2
place_of ReducePart = 3
place_of MapPart = 4
place_of PlainPart = 5
place_of Temporary = 6
place_of TemporaryClosed = 7
place_of Generation = 8
place_of CommittedTask = 9
place_of TaskAttempt = 10
place_of OtherWork = 11
place_of Mrout = 12
place_of Spark = 13
place_of Hive = 14
place_of Partition = 15
place_of CommitMark = 16
place_of DeltaLog = 17
place_of Hidden = 18
place_of Folder = 19
place_of InFolder = 20
place_of Foreign = 21

abbrev pub same_class : Class → Class → Bool
same_class c d = place_of c == place_of d

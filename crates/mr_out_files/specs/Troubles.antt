-- Why a call of a directory failed: which path the fault names, and why. Our own.
use Rattle.std.specs.Prelude.{◌≡◌, ◌≢◌, ◌⊎◌, ℕ, List, codes, Option, Some, None, Result, Ok, Err}
use Rattle.std.specs.IoError.{error_kind}
use Rattle.std.specs.declared.io.Error.{Error}
use Rattle.std.specs.declared.io.ErrorKind.TheVariants as io
use Rattle.mr_ids.specs.Attempt.{Attempt}
use Rattle.mr_ids.specs.Text.{attempt_text}
use Rattle.mr_out_disk.specs.declared.place.Place.{Place}
use Rattle.mr_out_disk.specs.declared.place.Place.TheVariants as place
use Rattle.mr_out_disk.specs.declared.place.Folder.{Folder}
use Rattle.mr_out_disk.specs.declared.place.Folder.TheVariants as folder
use Rattle.mr_out_disk.specs.declared.call.Call.{Call}
use Rattle.mr_out_disk.specs.declared.call.Call.TheVariants.{ReadHistory, AppendHistory, SyncHistory, Look, ListKept, SyncFile, SyncFolder, Rename, Link, Create, Remove, MakeFolder}
use Rattle.mr_out_disk.specs.declared.answer.Answer.{Answer}
use Rattle.mr_out_disk.specs.declared.answer.Answer.TheVariants.{Says}
use Rattle.mr_out_disk.specs.declared.answer.Reply.TheVariants.{Done, Missing, Taken, Failed}
use Rattle.mr_out_layout.specs.declared.fault.Fault.{Fault}
use Rattle.mr_out_layout.specs.declared.fault.Fault.TheVariants as fault
use Rattle.mr_out_layout.specs.declared.fault.Why.{Why}
use Rattle.mr_out_layout.specs.declared.fault.Why.TheVariants.{NotAJob, OtherVersion, Foreign, Damaged, There, NoDirectory, NoName, NoLinks, Network, NoFile, Forgotten, Shorter, NotSynced, EarlierBoot}
use Rattle.mr_out_layout.specs.Faults.{IsFailure, IsRefusal}
use Rattle.mr_out_layout.specs.Layout.{path_of, segment_path, work_folder, boot_path}
use Rattle.mr_out_files.specs.declared.directory.Directory.{Directory}

-- why the call that failed last did, where that was not told yet
abbrev pub trouble_of : Directory → Option Fault
trouble_of d = d.trouble

-- some call on the path failed
abbrev pub FailsAt : List ℕ → Fault → Type 0
FailsAt path f = (call : List ℕ) × IsFailure call path f

-- What is told of a call that the system answered so: that it was made; that nothing is there, or something in its way; of any other error that it failed.
abbrev pub AnswersAs : {T : Type 0} → List ℕ → List ℕ → Result T Error → Result Answer Fault → Type 0
AnswersAs call path (Ok done) r = r ≡ Ok (Says Done)
AnswersAs call path (Err error) (Ok answer) = ((answer ≡ Says Missing) × (error_kind error ≡ io.NotFound)) ⊎ ((answer ≡ Says Taken) × (error_kind error ≡ io.AlreadyExists))
AnswersAs call path (Err error) (Err f) = (error_kind error ≢ io.NotFound) × (error_kind error ≢ io.AlreadyExists) × IsFailure call path f

-- the call was made, or it is told why not
abbrev pub IsMade : Answer → Type 0
IsMade (Says Failed) = ⊥
IsMade _ = Unit {0}

-- ---- of the history

-- why a segment is refused
abbrev pub IsOfSegment : Why → Type 0
IsOfSegment Foreign = Unit {0}
IsOfSegment NoFile = Unit {0}
IsOfSegment (Damaged line) = Unit {0}
IsOfSegment Shorter = Unit {0}
IsOfSegment NotSynced = Unit {0}
IsOfSegment _ = ⊥

-- a call on this segment failed, or it is refused
abbrev pub IsSegmentTrouble : ℕ → Fault → Type 0
IsSegmentTrouble n f = FailsAt (segment_path n) f ⊎ ((why : Why) × IsOfSegment why × IsRefusal (segment_path n) why f)

-- a call on the folder of the segments failed, or there is trouble with one of them
abbrev pub IsHistoryTrouble : Fault → Type 0
IsHistoryTrouble f = FailsAt (codes "_mrout") f ⊎ ((n : ℕ) × IsSegmentTrouble n f)

-- there are as many segments as there may be, or one can't be opened, or a call on their folder failed
abbrev pub IsAppendTrouble : Fault → Type 0
IsAppendTrouble f = (f ≡ fault.Full) ⊎ (FailsAt (codes "_mrout") f ⊎ ((n : ℕ) × IsFailure (codes "open") (segment_path n) f))

-- ---- of names

-- the attempt whose file has this name
abbrev pub attempt_at : Place → Option Attempt
attempt_at (place.Work a) = Some a
attempt_at (place.Kept a) = Some a
attempt_at _ = None

-- that attempt was begun in an earlier boot
abbrev pub IsBarred : Place → Fault → Type 0
IsBarred p f = (a : Attempt) × (attempt_at p ≡ Some a) × IsRefusal (attempt_text a) EarlierBoot f

-- what stands at the path is no regular file, or a call on it failed
abbrev pub IsPathTrouble : List ℕ → Fault → Type 0
IsPathTrouble path f = FailsAt path f ⊎ IsRefusal path Foreign f

-- Its sync failed: by that the attempt has failed. Of any other fault the call answers that the file is odd.
abbrev pub IsSyncTrouble : Fault → Type 0
IsSyncTrouble f = (path : List ℕ) × IsFailure (codes "sync") path f

-- the folder can't be listed, or a name in it is foreign
abbrev pub IsListTrouble : Fault → Type 0
IsListTrouble f = IsFailure (codes "list") (codes "_mrout/kept") f ⊎ ((name : List ℕ) × IsRefusal name Foreign f)

abbrev pub folder_path : Folder → List ℕ
folder_path folder.Output = codes "."
folder_path folder.Kept = codes "_mrout/kept"
folder_path folder.Work = codes "_mrout/work"
folder_path folder.Home = codes "_mrout"

-- what attempts wrote can't be removed, or the folders that were kept for more of them
abbrev pub IsSweepTrouble : Fault → Type 0
IsSweepTrouble f = IsFailure (codes "remove") (codes "_mrout/work") f ⊎ IsFailure (codes "remove") (codes "_mrout/spare") f

-- a call on the folder failed, or on what attempts wrote, which goes once the marker is durable
abbrev pub IsFolderTrouble : Folder → Fault → Type 0
IsFolderTrouble folder f = FailsAt (folder_path folder) f ⊎ IsSweepTrouble f

-- a call on it failed; with the file of an attempt go its folder, and the note of its boot
abbrev pub IsRemoveTrouble : List ℕ → Place → Fault → Type 0
IsRemoveTrouble path p f = FailsAt path f ⊎ ((a : Attempt) × (p ≡ place.Work a) × (IsFailure (codes "remove") (work_folder a) f ⊎ IsFailure (codes "remove") (boot_path a) f))

-- ---- of a call, by what ends the name of each part file

abbrev pub IsTroubleOf : List ℕ → Call → Fault → Type 0
IsTroubleOf suffix ReadHistory f = IsHistoryTrouble f
IsTroubleOf suffix (AppendHistory r) f = IsAppendTrouble f
IsTroubleOf suffix SyncHistory f = IsHistoryTrouble f
IsTroubleOf suffix (Look p) f = IsFailure (codes "look") (path_of suffix p) f
IsTroubleOf suffix ListKept f = IsListTrouble f
IsTroubleOf suffix (SyncFile p) f = IsSyncTrouble f
IsTroubleOf suffix (SyncFolder folder) f = IsFolderTrouble folder f
IsTroubleOf suffix (Rename from to) f = IsBarred from f ⊎ IsFailure (codes "rename") (path_of suffix to) f
IsTroubleOf suffix (Link from to) f = IsFailure (codes "link") (path_of suffix to) f
IsTroubleOf suffix (Create p) f = IsPathTrouble (path_of suffix p) f
IsTroubleOf suffix (Remove p) f = IsRemoveTrouble (path_of suffix p) p f
IsTroubleOf suffix (MakeFolder a) f = IsFailure (codes "write") (boot_path a) f ⊎ IsFailure (codes "create") (work_folder a) f

-- the directory tells this trouble of the call
abbrev pub HasTrouble : Directory → List ℕ → Call → Type 0
HasTrouble d suffix call = (f : Fault) × (trouble_of d ≡ Some f) × IsTroubleOf suffix call f

-- ---- why a directory can't be opened, made or moved

-- the lock is not had, or the file that tells the job is refused; or there is none, since the history was forgotten or never was
abbrev pub IsLockFault : Fault → Type 0
IsLockFault f =
    (f ≡ fault.Busy) ⊎ ((IsPathTrouble (codes "_mrout/job") f ⊎ IsRefusal (codes "_mrout/job") OtherVersion f)
    ⊎ (IsRefusal (codes ".") Forgotten f ⊎ IsRefusal (codes ".") NotAJob f))

-- it is not there, or is no directory
abbrev pub IsEnteringFault : List ℕ → Fault → Type 0
IsEnteringFault dir f = IsFailure (codes "enter") dir f ⊎ (IsRefusal dir NoDirectory f ⊎ IsRefusal dir NotAJob f)

abbrev pub IsOpeningFault : List ℕ → Fault → Type 0
IsOpeningFault dir f = IsEnteringFault dir f ⊎ IsLockFault f

-- why nothing can be made at a name, or in its folder
abbrev pub IsOfBegin : Why → Type 0
IsOfBegin NoDirectory = Unit {0}
IsOfBegin NotAJob = Unit {0}
IsOfBegin There = Unit {0}
IsOfBegin (Network kind) = Unit {0}
IsOfBegin NoLinks = Unit {0}
IsOfBegin _ = ⊥

-- a folder or a name is refused, or a call failed
abbrev pub IsMakingFault : Fault → Type 0
IsMakingFault f = (path : List ℕ) × (FailsAt path f ⊎ ((why : Why) × IsOfBegin why × IsRefusal path why f))

-- or the directory has no name
abbrev pub IsBeginFault : List ℕ → Fault → Type 0
IsBeginFault dir f = IsRefusal dir NoName f ⊎ IsMakingFault f

-- Which faults a call may meet, by those of what it is made of.
use Rattle.std.proofs.Common.{◌≡◌, ◌⊎◌, inl, inr, ℕ, true, List, codes, Result, Ok, Err, refl, sym, subst}
use Rattle.std.specs.Prelude.{IsErrAnd, IfErr}
use Rattle.std.proofs.lemmas.Slice.Eq.{bytes_eq-Decides}
use Rattle.mr_out_disk.specs.declared.place.Place.{Place}
use Rattle.mr_out_disk.specs.declared.place.Place.TheVariants as place
use Rattle.mr_out_disk.specs.declared.place.Folder.{Folder}
use Rattle.mr_out_disk.specs.declared.call.Call.{Call}
use Rattle.mr_out_disk.specs.declared.answer.Answer.{Answer}
use Rattle.mr_out_disk.specs.declared.answer.Answer.TheVariants.{Says}
use Rattle.mr_out_disk.specs.declared.answer.Reply.TheVariants.{Failed}
use Rattle.mr_ids.specs.Attempt.{Attempt}
use Rattle.mr_out_layout.specs.declared.fault.Fault.{Fault}
use Rattle.mr_out_layout.specs.declared.fault.Fault.TheVariants as fault
use Rattle.mr_out_layout.specs.declared.fault.Why.{Why}
use Rattle.mr_out_layout.specs.declared.fault.Why.TheVariants.{Foreign, NoFile, Damaged, There, NoDirectory, NotAJob, NoName, NoLinks, NotSynced, OtherVersion, Forgotten}
use Rattle.mr_out_layout.specs.Faults.{IsFailure, IsRefusal, is_failure_of}
use Rattle.mr_out_layout.specs.Layout.{segment_path, length_path, work_folder, boot_path}
use Rattle.mr_out_layout.specs.Recorded.{IsGap}
use Rattle.mr_out_files.specs.declared.directory.Directory.{Directory}
use Rattle.mr_out_files.specs.Troubles.{FailsAt, IsMade, IsOfSegment, IsSegmentTrouble, IsHistoryTrouble, IsAppendTrouble, IsBarred, IsPathTrouble, IsSyncTrouble, IsSweepTrouble, IsFolderTrouble, IsRemoveTrouble, IsOfBegin, IsMakingFault, IsBeginFault, IsLockFault, IsEnteringFault, IsOpeningFault, HasTrouble, folder_path}
use Rattle.mr_out_files.specs.inner.Syncing.{FailsSomewhere, IsSyncFault}

-- a call that was made did not fail
pub not_failed : (a : Answer) (d : Directory) (suffix : List ℕ) (call : Call) → IsMade a → a ≡ Says Failed → HasTrouble d suffix call
not_failed a d suffix call h e = absurd (subst (λ (x : Answer). IsMade x) e h)

-- a fault that is handed on
pub handed_on : {A : Type 0} (P : Fault → Type 0) (r : Result A Fault) (f : Fault) → IsErrAnd r (λ e. e ≡ f) → P f → IfErr r P
handed_on P (Ok x) f e h = absurd e
handed_on P (Err g) f e h = subst P (sym e) h

-- ---- a call that failed

no_memory : (call path : List ℕ) (f : Fault) → f ≡ fault.NoMemory → IsFailure call path f
no_memory call path f e = subst (λ (x : Fault). IsFailure call path x) (sym e) tt

moved_to : (call text path : List ℕ) (f : Fault) → text ≡ path → IsFailure call text f → IsFailure call path f
moved_to call text path f is h = subst (λ (p : List ℕ). IsFailure call p f) is h

pub fails_at : (call path : List ℕ) (f : Fault) → IsFailure call path f → FailsAt path f
fails_at call path f h = (call, h)

pub memory_at : (path : List ℕ) (f : Fault) → f ≡ fault.NoMemory → FailsAt path f
memory_at path f e = (codes "look", no_memory (codes "look") path f e)

pub fails_somewhere : (call path : List ℕ) (f : Fault) → IsFailure call path f → FailsSomewhere f
fails_somewhere call path f h = (path, (call, h))

pub memory_somewhere : (f : Fault) → f ≡ fault.NoMemory → FailsSomewhere f
memory_somewhere f e = (codes ".", memory_at (codes ".") f e)

-- a folder that is opened and synced
pub folder_at : (path : List ℕ) (f : Fault) → IsFailure (codes "open") path f ⊎ IsFailure (codes "sync") path f → FailsAt path f
folder_at path f (inl h) = (codes "open", h)
folder_at path f (inr h) = (codes "sync", h)

-- the last call is one that has a fault of its own
pub last_at : {T : Type 0} (call path : List ℕ) (r : Result T Fault) → IfErr r (IsFailure call path) → IfErr r (FailsAt path)
last_at call path (Ok x) h = tt
last_at call path (Err f) h = (call, h)

-- ---- a segment

pub memory_segment : (n : ℕ) (f : Fault) → f ≡ fault.NoMemory → IsSegmentTrouble n f
memory_segment n f e = inl (memory_at (segment_path n) f e)

pub looked_segment : (n : ℕ) (path : List ℕ) (f : Fault) → path ≡ segment_path n → IsFailure (codes "look") path f ⊎ IsRefusal path Foreign f → IsSegmentTrouble n f
looked_segment n path f is (inl h) = inl (codes "look", moved_to (codes "look") path (segment_path n) f is h)
looked_segment n path f is (inr h) = inr (Foreign, tt, subst (λ (p : List ℕ). IsRefusal p Foreign f) is h)

pub told_segment : (n : ℕ) (path : List ℕ) (f : Fault) → path ≡ segment_path n → IsFailure (codes "read") path f ⊎ ((line : ℕ) × IsRefusal path (Damaged line) f) → IsSegmentTrouble n f
told_segment n path f is (inl h) = inl (codes "read", moved_to (codes "read") path (segment_path n) f is h)
told_segment n path f is (inr (line, h)) = inr (Damaged line, tt, subst (λ (p : List ℕ). IsRefusal p (Damaged line) f) is h)

pub refused_segment : (n : ℕ) (path : List ℕ) (why : Why) (f : Fault) → path ≡ segment_path n → IsOfSegment why → IsRefusal path why f → IsSegmentTrouble n f
refused_segment n path why f is of h = inr (why, of, subst (λ (p : List ℕ). IsRefusal p why f) is h)

pub memory_damaged : (path : List ℕ) (f : Fault) → f ≡ fault.NoMemory → IsFailure (codes "read") path f ⊎ ((line : ℕ) × IsRefusal path (Damaged line) f)
memory_damaged path f e = inl (no_memory (codes "read") path f e)

-- ---- the history

pub memory_trouble : (f : Fault) → f ≡ fault.NoMemory → IsHistoryTrouble f
memory_trouble f e = inl (memory_at (codes "_mrout") f e)

pub memory_last : {T : Type 0} (r : Result T Fault) → IfErr r (λ f. f ≡ fault.NoMemory) → IfErr r IsHistoryTrouble
memory_last (Ok x) h = tt
memory_last (Err f) h = memory_trouble f h

pub segment_trouble : (n : ℕ) (f : Fault) → IsSegmentTrouble n f → IsHistoryTrouble f
segment_trouble n f h = inr (n, h)

pub refused_trouble : (n : ℕ) (path : List ℕ) (why : Why) (f : Fault) → path ≡ segment_path n → IsOfSegment why → IsRefusal path why f → IsHistoryTrouble f
refused_trouble n path why f is of h = inr (n, refused_segment n path why f is of h)

pub gap_trouble : (n : ℕ) (f : Fault) → IsGap n f → IsHistoryTrouble f
gap_trouble n f (inl h) = inl (codes "list", h)
gap_trouble n f (inr h) = inr (n, inr (NoFile, tt, h))

at_segment : (n : ℕ) (path : List ℕ) (f : Fault) → path ≡ segment_path n → FailsAt path f → IsHistoryTrouble f
at_segment n path f is (call, h) = inr (n, inl (call, moved_to call path (segment_path n) f is h))

pub path_trouble : (n : ℕ) (call path : List ℕ) (f : Fault) → path ≡ segment_path n → IsFailure call path f → IsHistoryTrouble f
path_trouble n call path f is h = at_segment n path f is (call, h)

pub stat_trouble : {T : Type 0} (n : ℕ) (path : List ℕ) (r : Result T Fault) → path ≡ segment_path n → IfErr r (IsFailure (codes "look") path) → IfErr r IsHistoryTrouble
stat_trouble n path (Ok x) is h = tt
stat_trouble n path (Err f) is h = at_segment n path f is (codes "look", h)

pub renewed_trouble : {T : Type 0} (n : ℕ) (path : List ℕ) (r : Result T Fault) → path ≡ segment_path n → IfErr r (λ f. FailsAt (codes "_mrout") f ⊎ FailsAt path f) → IfErr r IsHistoryTrouble
renewed_trouble n path (Ok x) is h = tt
renewed_trouble n path (Err f) is (inl h) = inl h
renewed_trouble n path (Err f) is (inr h) = at_segment n path f is h

pub found_trouble : {T : Type 0} (n : ℕ) (path : List ℕ) (r : Result T Fault) → path ≡ segment_path n → IfErr r (λ f. FailsAt (codes "_mrout") f ⊎ (FailsAt path f ⊎ IsRefusal path NotSynced f)) → IfErr r IsHistoryTrouble
found_trouble n path (Ok x) is h = tt
found_trouble n path (Err f) is (inl h) = inl h
found_trouble n path (Err f) is (inr (inl h)) = at_segment n path f is h
found_trouble n path (Err f) is (inr (inr h)) = inr (n, refused_segment n path NotSynced f is tt h)

-- the copy of a segment takes its name
pub replaced : {T : Type 0} (path : List ℕ) (r : Result T Fault) → IfErr r (λ f. IsFailure (codes "open") (codes "_mrout") f ⊎ IsFailure (codes "sync") (codes "_mrout") f) → IfErr r (λ f. FailsAt (codes "_mrout") f ⊎ FailsAt path f)
replaced path (Ok x) h = tt
replaced path (Err f) h = inl (folder_at (codes "_mrout") f h)

pub renewed_end : {T : Type 0} (path : List ℕ) (r : Result T Fault) → IfErr r (FailsAt path) → IfErr r (λ f. FailsAt (codes "_mrout") f ⊎ FailsAt path f)
renewed_end path (Ok x) h = tt
renewed_end path (Err f) h = inr h

pub found_end : {T : Type 0} (path : List ℕ) (r : Result T Fault) → IfErr r (FailsAt path) → IfErr r (λ f. FailsAt (codes "_mrout") f ⊎ (FailsAt path f ⊎ IsRefusal path NotSynced f))
found_end path (Ok x) h = tt
found_end path (Err f) h = inr (inl h)

pub memory_found : (path : List ℕ) (f : Fault) → f ≡ fault.NoMemory → FailsAt (codes "_mrout") f ⊎ (FailsAt path f ⊎ IsRefusal path NotSynced f)
memory_found path f e = inl (memory_at (codes "_mrout") f e)

-- ---- a record that is appended

pub memory_append : (f : Fault) → f ≡ fault.NoMemory → IsAppendTrouble f
memory_append f e = inr (inl (memory_at (codes "_mrout") f e))

pub append_at : (f : Fault) → IsFailure (codes "append") (codes "_mrout") f → IsAppendTrouble f
append_at f h = inr (inl (codes "append", h))

pub open_append : (n : ℕ) (f : Fault) → IsFailure (codes "open") (segment_path n) f → IsAppendTrouble f
open_append n f h = inr (inr (n, h))

pub opened_append : {T : Type 0} (n : ℕ) (r : Result T Fault) → IfErr r (IsFailure (codes "open") (segment_path n)) → IfErr r IsAppendTrouble
opened_append n (Ok x) h = tt
opened_append n (Err f) h = inr (inr (n, h))

pub folder_append : (f : Fault) → IsFailure (codes "open") (codes "_mrout") f ⊎ IsFailure (codes "sync") (codes "_mrout") f → IsAppendTrouble f
folder_append f h = inr (inl (folder_at (codes "_mrout") f h))

-- ---- a file that is synced

pub barred_sync : (path : List ℕ) (p : Place) (f : Fault) → IsBarred p f → IsSyncFault path p f
barred_sync path p f h = inl h

pub looked_sync : (text path : List ℕ) (p : Place) (f : Fault) → text ≡ path → IsFailure (codes "look") text f ⊎ IsRefusal text Foreign f → IsSyncFault path p f
looked_sync text path p f is (inl h) = inr (inr (text, (codes "look", h)))
looked_sync text path p f is (inr h) = inr (inl (subst (λ (x : List ℕ). IsRefusal x Foreign f) is h))

pub some_sync : (path : List ℕ) (p : Place) (f : Fault) → FailsSomewhere f → IsSyncFault path p f
some_sync path p f h = inr (inr h)

pub call_sync : (path : List ℕ) (p : Place) (call other : List ℕ) (f : Fault) → IsFailure call other f → IsSyncFault path p f
call_sync path p call other f h = inr (inr (other, (call, h)))

pub memory_sync : (path : List ℕ) (p : Place) (f : Fault) → f ≡ fault.NoMemory → IsSyncFault path p f
memory_sync path p f e = inr (inr (memory_somewhere f e))

pub last_sync : {T : Type 0} (path : List ℕ) (p : Place) (r : Result T Fault) → IfErr r FailsSomewhere → IfErr r (IsSyncFault path p)
last_sync path p (Ok x) h = tt
last_sync path p (Err f) h = inr (inr h)

-- a fault whose call is the sync is a failed sync
only_sync : (path : List ℕ) (p : Place) (f : Fault) → IsSyncFault path p f → is_failure_of (codes "sync") f ≡ true → IsSyncTrouble f
only_sync path p fault.NoMemory h is = (path, tt)
only_sync path p (fault.Call what text error) (inl (a, at, h)) is = absurd h
only_sync path p (fault.Call what text error) (inr (inl h)) is = absurd h
only_sync path p (fault.Call what text error) (inr (inr (other, (call, h)))) is = (other, ((bytes_eq-Decides what.now (codes "sync")).0 is, h.1, h.2))
only_sync path p (fault.Refused text why) h is = absurd (cc)
only_sync path p fault.Busy h is = absurd (cc)
only_sync path p fault.Full h is = absurd (cc)

pub failed_sync : {T : Type 0} (path : List ℕ) (p : Place) (told : Fault) (r : Result T Fault) → IsSyncFault path p told → IfErr r (λ f. (f ≡ told) × (is_failure_of (codes "sync") told ≡ true)) → IfErr r IsSyncTrouble
failed_sync path p told (Ok x) fault h = tt
failed_sync path p told (Err f) fault h = subst (λ (x : Fault). IsSyncTrouble x) (sym h.0) (only_sync path p told fault h.1)

pub dropped_somewhere : (a : Attempt) (f : Fault) → IsFailure (codes "list") (codes "_mrout/kept") f ⊎ ((len : ℕ) × IsFailure (codes "remove") (length_path a len) f) → FailsSomewhere f
dropped_somewhere a f (inl h) = (codes "_mrout/kept", (codes "list", h))
dropped_somewhere a f (inr (len, h)) = (length_path a len, (codes "remove", h))

pub removed_length : {T : Type 0} (a : Attempt) (len : ℕ) (text : List ℕ) (r : Result T Fault) → text ≡ length_path a len → IfErr r (IsFailure (codes "remove") text) → IfErr r (λ f. (n : ℕ) × IsFailure (codes "remove") (length_path a n) f)
removed_length a len text (Ok x) is h = tt
removed_length a len text (Err f) is h = (len, moved_to (codes "remove") text (length_path a len) f is h)

-- ---- a name that is made

pub looked_path : (text path : List ℕ) (f : Fault) → text ≡ path → IsFailure (codes "look") text f ⊎ IsRefusal text Foreign f → IsPathTrouble path f
looked_path text path f is (inl h) = inl (codes "look", moved_to (codes "look") text path f is h)
looked_path text path f is (inr h) = inr (subst (λ (x : List ℕ). IsRefusal x Foreign f) is h)

pub failed_path : (call text path : List ℕ) (f : Fault) → text ≡ path → IsFailure call text f → IsPathTrouble path f
failed_path call text path f is h = inl (call, moved_to call text path f is h)

pub memory_path : (path : List ℕ) (f : Fault) → f ≡ fault.NoMemory → IsPathTrouble path f
memory_path path f e = inl (memory_at path f e)

-- ---- a name that is given or removed

pub linked : {T : Type 0} (call text path : List ℕ) (r : Result T Fault) → text ≡ path → IfErr r (IsFailure call text) → IfErr r (IsFailure call path)
linked call text path (Ok x) is h = tt
linked call text path (Err f) is h = moved_to call text path f is h

pub renamed : {T : Type 0} (from : Place) (call text path : List ℕ) (r : Result T Fault) → text ≡ path → IfErr r (IsFailure call text) → IfErr r (λ f. IsBarred from f ⊎ IsFailure call path f)
renamed from call text path (Ok x) is h = tt
renamed from call text path (Err f) is h = inr (moved_to call text path f is h)

pub memory_renamed : (from : Place) (call path : List ℕ) (f : Fault) → f ≡ fault.NoMemory → IsBarred from f ⊎ IsFailure call path f
memory_renamed from call path f e = inr (no_memory call path f e)

pub removed : {T : Type 0} (call text path : List ℕ) (p : Place) (r : Result T Fault) → text ≡ path → IfErr r (IsFailure call text) → IfErr r (IsRemoveTrouble path p)
removed call text path p (Ok x) is h = tt
removed call text path p (Err f) is h = inl (call, moved_to call text path f is h)

pub looked_remove : (call text path : List ℕ) (p : Place) (f : Fault) → text ≡ path → IsFailure call text f → IsRemoveTrouble path p f
looked_remove call text path p f is h = inl (call, moved_to call text path f is h)

pub folder_remove : (path text : List ℕ) (a : Attempt) (f : Fault) → text ≡ work_folder a → IsFailure (codes "remove") text f → IsRemoveTrouble path (place.Work a) f
folder_remove path text a f is h = inr (a, refl, inl (moved_to (codes "remove") text (work_folder a) f is h))

pub note_remove : (path text : List ℕ) (a : Attempt) (f : Fault) → text ≡ boot_path a → IsFailure (codes "remove") text f → IsRemoveTrouble path (place.Work a) f
note_remove path text a f is h = inr (a, refl, inr (moved_to (codes "remove") text (boot_path a) f is h))

pub memory_remove : (path : List ℕ) (p : Place) (f : Fault) → f ≡ fault.NoMemory → IsRemoveTrouble path p f
memory_remove path p f e = inl (memory_at path f e)

-- ---- a folder that is made

pub noted_folder : (a : Attempt) (text : List ℕ) (f : Fault) → text ≡ boot_path a → IsFailure (codes "write") text f → IsFailure (codes "write") (boot_path a) f ⊎ IsFailure (codes "create") (work_folder a) f
noted_folder a text f is h = inl (moved_to (codes "write") text (boot_path a) f is h)

pub memory_folder : (a : Attempt) (f : Fault) → f ≡ fault.NoMemory → IsFailure (codes "write") (boot_path a) f ⊎ IsFailure (codes "create") (work_folder a) f
memory_folder a f e = inl (no_memory (codes "write") (boot_path a) f e)

pub made_folder : {T : Type 0} (a : Attempt) (text : List ℕ) (r : Result T Fault) → text ≡ work_folder a → IfErr r (IsFailure (codes "create") text) → IfErr r (λ f. IsFailure (codes "write") (boot_path a) f ⊎ IsFailure (codes "create") (work_folder a) f)
made_folder a text (Ok x) is h = tt
made_folder a text (Err f) is h = inr (moved_to (codes "create") text (work_folder a) f is h)

-- ---- a folder that is synced

pub synced_folder : (folder : Folder) (text : List ℕ) (f : Fault) → text ≡ folder_path folder → IsFailure (codes "open") text f ⊎ IsFailure (codes "sync") text f → IsFolderTrouble folder f
synced_folder folder text f is h = inl (folder_at (folder_path folder) f (subst (λ (x : List ℕ). IsFailure (codes "open") x f ⊎ IsFailure (codes "sync") x f) is h))

pub swept_work : (f : Fault) → IsFailure (codes "remove") (codes "_mrout/work") f → IsSweepTrouble f
swept_work f h = inl h

pub swept_spare : {T : Type 0} (r : Result T Fault) → IfErr r (IsFailure (codes "remove") (codes "_mrout/spare")) → IfErr r IsSweepTrouble
swept_spare (Ok x) h = tt
swept_spare (Err f) h = inr h

pub cleared_folder : {T : Type 0} (folder : Folder) (r : Result T Fault) → IfErr r IsSweepTrouble → IfErr r (IsFolderTrouble folder)
cleared_folder folder (Ok x) h = tt
cleared_folder folder (Err f) h = inr h

-- ---- a directory that is moved

pub memory_moved : (f : Fault) → f ≡ fault.NoMemory → FailsAt (codes "_mrout") f ⊎ IsFailure (codes "write") (codes "_mrout/job") f
memory_moved f e = inl (memory_at (codes "_mrout") f e)

pub folder_moved : {T : Type 0} (r : Result T Fault) → IfErr r (λ f. IsFailure (codes "open") (codes "_mrout") f ⊎ IsFailure (codes "sync") (codes "_mrout") f) → IfErr r (λ f. FailsAt (codes "_mrout") f ⊎ IsFailure (codes "write") (codes "_mrout/job") f)
folder_moved (Ok x) h = tt
folder_moved (Err f) h = inl (folder_at (codes "_mrout") f h)

-- ---- a directory that is made

pub failed_fault : (call path : List ℕ) (f : Fault) → IsFailure call path f → IsMakingFault f
failed_fault call path f h = (path, inl (call, h))

pub memory_fault : (f : Fault) → f ≡ fault.NoMemory → IsMakingFault f
memory_fault f e = (codes ".", inl (memory_at (codes ".") f e))

pub some_fault : {T : Type 0} (call : List ℕ) (r : Result T Fault) → IfErr r (λ f. (path : List ℕ) × IsFailure call path f) → IfErr r IsMakingFault
some_fault call (Ok x) h = tt
some_fault call (Err f) (path, h) = (path, inl (call, h))

pub folder_fault : {T : Type 0} (path : List ℕ) (r : Result T Fault) → IfErr r (λ f. IsFailure (codes "open") path f ⊎ IsFailure (codes "sync") path f) → IfErr r IsMakingFault
folder_fault path (Ok x) h = tt
folder_fault path (Err f) h = (path, inl (folder_at path f h))

pub there_fault : {T : Type 0} (name : List ℕ) (r : Result T Fault) → IfErr r (λ f. FailsAt name f ⊎ IsRefusal name There f) → IfErr r IsMakingFault
there_fault name (Ok x) h = tt
there_fault name (Err f) (inl h) = (name, inl h)
there_fault name (Err f) (inr h) = (name, inr (There, tt, h))

pub linked_fault : {T : Type 0} (name : List ℕ) (r : Result T Fault) → IfErr r (λ f. IsRefusal name NoLinks f ⊎ FailsSomewhere f) → IfErr r IsMakingFault
linked_fault name (Ok x) h = tt
linked_fault name (Err f) (inl h) = (name, inr (NoLinks, tt, h))
linked_fault name (Err f) (inr (path, h)) = (path, inl h)

pub looked_there : (name : List ℕ) (f : Fault) → IsFailure (codes "look") name f ⊎ IsRefusal name There f → FailsAt name f ⊎ IsRefusal name There f
looked_there name f (inl h) = inl (codes "look", h)
looked_there name f (inr h) = inr h

-- the file that is written has some path
pub written : {T : Type 0} (call path : List ℕ) (r : Result T Fault) → IfErr r (IsFailure call path) → IfErr r (λ f. (other : List ℕ) × IsFailure call other f)
written call path (Ok x) h = tt
written call path (Err f) h = (path, h)

pub memory_written : (call : List ℕ) (f : Fault) → f ≡ fault.NoMemory → (other : List ℕ) × IsFailure call other f
memory_written call f e = (codes ".", no_memory call (codes ".") f e)

-- ---- why that fails

pub nameless_begin : (dir : List ℕ) (f : Fault) → IsRefusal dir NoName f → IsBeginFault dir f
nameless_begin dir f h = inl h

pub entered_begin : (dir path : List ℕ) (f : Fault) → IsFailure (codes "enter") path f ⊎ (IsRefusal path NoDirectory f ⊎ IsRefusal path NotAJob f) → IsBeginFault dir f
entered_begin dir path f (inl h) = inr (path, inl (codes "enter", h))
entered_begin dir path f (inr (inl h)) = inr (path, inr (NoDirectory, tt, h))
entered_begin dir path f (inr (inr h)) = inr (path, inr (NotAJob, tt, h))

pub taken_begin : (dir path : List ℕ) (f : Fault) → IsFailure (codes "look") path f ⊎ IsRefusal path There f → IsBeginFault dir f
taken_begin dir path f (inl h) = inr (path, inl (codes "look", h))
taken_begin dir path f (inr h) = inr (path, inr (There, tt, h))

pub looked_begin : (dir path : List ℕ) (f : Fault) → IsFailure (codes "look") path f → IsBeginFault dir f
looked_begin dir path f h = inr (path, inl (codes "look", h))

pub refused_begin : (dir path : List ℕ) (why : Why) (f : Fault) → IsOfBegin why → IsRefusal path why f → IsBeginFault dir f
refused_begin dir path why f of h = inr (path, inr (why, of, h))

pub made_begin : (dir : List ℕ) (f : Fault) → IsMakingFault f → IsBeginFault dir f
made_begin dir f h = inr h

pub memory_begin : (dir : List ℕ) (f : Fault) → f ≡ fault.NoMemory → IsBeginFault dir f
memory_begin dir f e = inr (memory_fault f e)

-- ---- a lock that is taken

pub looked_lock : (f : Fault) → IsFailure (codes "look") (codes "_mrout/job") f ⊎ IsRefusal (codes "_mrout/job") Foreign f → IsLockFault f
looked_lock f (inl h) = inr (inl (inl (inl (codes "look", h))))
looked_lock f (inr h) = inr (inl (inl (inr h)))

pub absent_lock : (f : Fault) → IsRefusal (codes ".") Forgotten f ⊎ IsRefusal (codes ".") NotAJob f → IsLockFault f
absent_lock f h = inr (inr h)

pub told_lock : (f : Fault) → IsRefusal (codes "_mrout/job") OtherVersion f → IsLockFault f
told_lock f h = inr (inl (inr h))

pub waited_lock : (f : Fault) → (f ≡ fault.Busy) ⊎ IsFailure (codes "lock") (codes "_mrout/job") f → IsLockFault f
waited_lock f (inl e) = inl e
waited_lock f (inr h) = inr (inl (inl (inl (codes "lock", h))))

pub failed_lock : (call : List ℕ) (f : Fault) → IsFailure call (codes "_mrout/job") f → IsLockFault f
failed_lock call f h = inr (inl (inl (inl (call, h))))

-- ---- a directory that is opened

pub memory_opening : (dir : List ℕ) (f : Fault) → f ≡ fault.NoMemory → IsOpeningFault dir f
memory_opening dir f e = inl (inl (no_memory (codes "enter") dir f e))

pub entered_opening : (dir : List ℕ) (f : Fault) → IsEnteringFault dir f → IsOpeningFault dir f
entered_opening dir f h = inl h

pub locked_opening : (dir : List ℕ) (f : Fault) → IsLockFault f → IsOpeningFault dir f
locked_opening dir f h = inr h

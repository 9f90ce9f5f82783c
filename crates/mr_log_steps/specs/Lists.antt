-- What is handed in, and what is published of a winner, as lists of single calls. That what is in a folder is durable before the folder's own name
-- is, is our own; that the marker comes after all files is the committer document's.
use Rattle.std.specs.Prelude.{ℕ, zero, suc, ◌+◌, Bool, true, false, List, [], ◌∷◌, ◌++◌, Option, Some, None}
use Rattle.mr_ids.specs.Attempt.{Attempt}
use Rattle.mr_log_entries.specs.declared.entry.Entry.{Entry}
use Rattle.mr_log_entries.specs.declared.line.Handed.{Handed}
use Rattle.mr_log_entries.specs.declared.line.Handed.TheVariants as handed
use Rattle.mr_log_disk.specs.declared.place.Place.TheVariants.{Top, Beneath, Inside}
use Rattle.mr_log_disk.specs.declared.place.Folder.TheVariants as folder
use Rattle.mr_log_disk.specs.declared.place.Node.{Node}
use Rattle.mr_log_disk.specs.declared.place.Node.TheVariants as node
use Rattle.mr_log_disk.specs.declared.place.Item.{Item}
use Rattle.mr_log_standing.specs.declared.job.Job.{Job}
use Rattle.mr_log_standing.specs.declared.standing.Win.{Win}
use Rattle.mr_log_standing.specs.Standing.{task_of, win_of}
use Rattle.mr_log_steps.specs.declared.phase.Step.{Step}
use Rattle.mr_log_steps.specs.declared.phase.Step.TheVariants.{SyncFile, SyncFolder, WriteList, Link, MakeFolder, LinkMarker}

-- ---- handing in

abbrev pub file_synced : Attempt → Item → Node → List Step
file_synced a i (node.File f) = SyncFile (Inside a i.item i.folder) ∷ []
file_synced a i node.Folder = []

abbrev pub folder_synced : Attempt → Item → Node → List Step
folder_synced a i (node.File f) = []
folder_synced a i node.Folder = SyncFolder (folder.Inside a i.item) ∷ []

unfoldable pub files_synced : Attempt → List Item → List Step
files_synced a [] = []
files_synced a (i ∷ more) = file_synced a i i.node ++ files_synced a more

-- from the inside out: a folder stands before what is in it
unfoldable pub folders_synced : Attempt → List Item → List Step
folders_synced a [] = []
folders_synced a (i ∷ more) = folders_synced a more ++ folder_synced a i i.node

-- a task that hands in a folder has a list of what is in it
abbrev pub listing : Bool → List Step
listing false = []
listing true = WriteList ∷ []

-- all that is handed in is made durable
abbrev pub handing : Bool → Attempt → List Item → List Step
handing folders a items = files_synced a items ++ (folders_synced a items ++ SyncFolder (folder.Inside a 0) ∷ listing folders)

unfoldable pub bytes_in : List Item → ℕ
bytes_in [] = 0
bytes_in (i ∷ more) = i.bytes + bytes_in more

abbrev pub one_file : Item → Node → List Item → Option Handed
one_file i (node.File f) [] = Some (handed.File f i.bytes)
one_file i (node.File f) (j ∷ more) = None
one_file i node.Folder more = None

-- what it comes to, if it is what the task has to hand in: one file, or all that is in its folder
abbrev pub handed_in : Bool → List Item → Option Handed
handed_in folders [] = None
handed_in false (i ∷ more) = one_file i i.node more
handed_in true (i ∷ more) = Some (handed.Folder (bytes_in (i ∷ more)))

-- ---- publishing

abbrev pub shown : Attempt → Item → Node → Step
shown a i (node.File f) = Link (Inside a i.item i.folder) (Beneath a.task.number i.item i.folder) f
shown a i node.Folder = MakeFolder (Beneath a.task.number i.item i.folder)

unfoldable pub all_shown : Attempt → List Item → List Step
all_shown a [] = []
all_shown a (i ∷ more) = shown a i i.node ∷ all_shown a more

abbrev pub shown_synced : ℕ → Item → Node → List Step
shown_synced n i (node.File f) = []
shown_synced n i node.Folder = SyncFolder (folder.Beneath n i.item) ∷ []

unfoldable pub all_shown_synced : ℕ → List Item → List Step
all_shown_synced n [] = []
all_shown_synced n (i ∷ more) = all_shown_synced n more ++ shown_synced n i i.node

-- a folder that was handed in is made anew, and its files linked into it
abbrev pub publication : Attempt → List Item → List Step
publication a items = MakeFolder (Top a.task.number) ∷ (all_shown a items ++ (all_shown_synced a.task.number items ++ SyncFolder (folder.Beneath a.task.number 0) ∷ []))

-- the one file of a task that hands in a file has the number 1
abbrev pub link_of : Attempt → ℕ → Step
link_of a file = Link (Inside a 1 0) (Top a.task.number) file

-- all visible names are durable before the marker, and the marker before anything follows from it
abbrev pub marking : List Step
marking = SyncFolder folder.Output ∷ LinkMarker ∷ SyncFolder folder.Output ∷ []

abbrev pub with_win : List Win → Option Win → List Win
with_win ws None = ws
with_win ws (Some w) = ws ++ w ∷ []

-- the winners of the first n tasks
unfoldable pub wins : Job → List Entry → ℕ → List Win
wins job es zero = []
wins job es (suc n) = with_win (wins job es n) (win_of es (task_of job.id n))

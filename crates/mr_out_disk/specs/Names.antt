-- Which names are one, and which stand in a folder. Names and folders of a directory as POSIX has them; which there are is our own profile.
use Rattle.std.specs.Prelude.{◌==◌, Bool, true, false}
use Rattle.mr_ids.specs.Same.{same_attempt}
use Rattle.mr_out_disk.specs.declared.place.Place.{Place}
use Rattle.mr_out_disk.specs.declared.place.Place.TheVariants.{Part, Marker, Kept, Work, Decision, Home}
use Rattle.mr_out_disk.specs.declared.place.Folder.{Folder}
use Rattle.mr_out_disk.specs.declared.place.Folder.TheVariants as folder

-- whether two names are one
abbrev pub same_place : Place → Place → Bool
same_place (Part m) (Part n) = m == n
same_place Marker Marker = true
same_place (Kept a) (Kept b) = same_attempt a b
same_place (Work a) (Work b) = same_attempt a b
same_place Decision Decision = true
same_place Home Home = true
same_place p q = false

abbrev pub folder_of : Place → Folder
folder_of (Part n) = folder.Output
folder_of Marker = folder.Output
folder_of (Kept a) = folder.Kept
folder_of (Work a) = folder.Work
folder_of Decision = folder.Home
folder_of Home = folder.Output

abbrev pub same_folder : Folder → Folder → Bool
same_folder folder.Output folder.Output = true
same_folder folder.Kept folder.Kept = true
same_folder folder.Work folder.Work = true
same_folder folder.Home folder.Home = true
same_folder e f = false

abbrev pub stands_in : Folder → Place → Bool
stands_in folder p = same_folder folder (folder_of p)

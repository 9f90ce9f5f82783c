-- The visible names of an output directory, and the folders in which they stand. Names and folders as POSIX has them; which there are is our own profile.
use Rattle.std.specs.Prelude.{◌==◌, Bool, true, false, ◌&&◌, List, [], ◌∷◌, Option}
use Rattle.mr_ids.specs.Same.{same_attempt}
use Rattle.mr_log_disk.specs.declared.place.Node.{Node}
use Rattle.mr_log_disk.specs.declared.place.Place.{Place}
use Rattle.mr_log_disk.specs.declared.place.Place.TheVariants.{Top, Beneath, Marker, Inside}
use Rattle.mr_log_disk.specs.declared.place.Folder.{Folder}
use Rattle.mr_log_disk.specs.declared.place.Folder.TheVariants as folder

-- a name that a reader sees
abbrev pub IsVisible : Place → Type 0
IsVisible (Top n) = Unit {0}
IsVisible (Beneath n item folder) = Unit {0}
IsVisible Marker = Unit {0}
IsVisible (Inside a item folder) = ⊥

-- whether two names are one
abbrev pub same_place : Place → Place → Bool
same_place (Top m) (Top n) = m == n
same_place (Beneath m i f) (Beneath n j g) = (m == n) && ((i == j) && (f == g))
same_place Marker Marker = true
same_place (Inside a i f) (Inside b j g) = same_attempt a b && ((i == j) && (f == g))
same_place p q = false

abbrev pub folder_of : Place → Folder
folder_of (Top n) = folder.Output
folder_of (Beneath n item f) = folder.Beneath n f
folder_of Marker = folder.Output
folder_of (Inside a item f) = folder.Inside a f

abbrev pub same_folder : Folder → Folder → Bool
same_folder folder.Output folder.Output = true
same_folder (folder.Beneath m f) (folder.Beneath n g) = (m == n) && (f == g)
same_folder folder.Kept folder.Kept = true
same_folder folder.Work folder.Work = true
same_folder (folder.Inside a f) (folder.Inside b g) = same_attempt a b && (f == g)
same_folder folder.Log folder.Log = true
same_folder e f = false

abbrev pub stands_in : Folder → Place → Bool
stands_in f p = same_folder f (folder_of p)

-- what stands at a name, if anything, and what stood there at each moment since its folder was synced last, the newest first
pub record Moments : Type 0 where
  pub now : Option Node
  pub before : List (Option Node)

-- this stands at the name from now on
abbrev pub moved : Option Node → Moments → Moments
moved x m = record { now = x; before = m.now ∷ m.before }

-- what stands at the name is durable
abbrev pub lasting : Moments → Moments
lasting m = record { now = m.now; before = [] }

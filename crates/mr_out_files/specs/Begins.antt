-- How a directory begins: beside its place, under a name of its own, and then renamed. That a name is durable once its folder was synced is what POSIX
-- says of fsync, and that a rename is made whole or not at all is what it says of rename. Which steps these are is our own profile.
use Rattle.std.specs.Prelude.{◌≡◌, ◌≢◌, ◌⊎◌, ℕ, zero, suc, Bool, true, false, List, [], ◌∷◌, Some, None}
use Rattle.mr_out_disk.specs.Disk.{Moments, moved, settled}
use Rattle.mr_out_disk.specs.Cuts.{IsLeft}
use Rattle.mr_out_files.specs.declared.making.Step.{Step}
use Rattle.mr_out_files.specs.declared.making.Step.TheVariants.{MakeFolders, WriteJob, WriteHistory, SyncHome, SyncFolder, Rename, SyncParent}

-- the names that count, each in its folder, and whether the two files are durable
pub record Site : Type 0 where
  -- the directory, by its name
  pub directory : Moments
  -- in it, the folder of what the commands keep for themselves
  pub home : Moments
  -- there, the folders of what is written, handed in and removed, the file that tells the job, and the history
  pub folders : Moments
  pub job : Moments
  pub history : Moments
  pub is_job_whole : Bool
  pub is_history_whole : Bool

abbrev pub missing : Moments
missing = record { now = None; before = [] }

-- nothing stands there yet
abbrev pub nowhere : Site
nowhere = record { directory = missing; home = missing; folders = missing; job = missing; history = missing; is_job_whole = false; is_history_whole = false }

-- what a step leaves that is made
abbrev pub made : Step → Site → Site
made MakeFolders s = record s { home = moved (Some 0) s.home; folders = moved (Some 0) s.folders }
made WriteJob s = record s { job = moved (Some 0) s.job; is_job_whole = true }
made WriteHistory s = record s { history = moved (Some 0) s.history; is_history_whole = true }
made SyncHome s = record s { folders = settled s.folders; job = settled s.job; history = settled s.history }
made SyncFolder s = record s { home = settled s.home }
made Rename s = record s { directory = moved (Some 0) s.directory }
made SyncParent s = record s { directory = settled s.directory }

abbrev pub steps : List Step
steps = MakeFolders ∷ WriteJob ∷ WriteHistory ∷ SyncHome ∷ SyncFolder ∷ Rename ∷ SyncParent ∷ []

-- what the first n steps of a list leave
abbrev pub after_first : List Step → ℕ → Site → Site
after_first [] n s = s
after_first (step ∷ rest) zero s = s
after_first (step ∷ rest) (suc n) s = after_first rest n (made step s)

-- What a begin leaves that was stopped: what its first n steps made; or, amid a step before the rename, anything within, and no directory.
abbrev pub MayBe : ℕ → Site → Type 0
MayBe n s = (s ≡ after_first steps n nowhere) ⊎ (s.directory ≡ missing)

-- what a power cut leaves of it: of each name one of its moments, and what was synced
pub record IsCutTo (s u : Site) : Type 0 where
  pub directory : IsLeft s.directory u.directory
  pub home : IsLeft s.home u.home
  pub folders : IsLeft s.folders u.folders
  pub job : IsLeft s.job u.job
  pub history : IsLeft s.history u.history
  pub job_whole : s.is_job_whole ≡ true → u.is_job_whole ≡ true
  pub history_whole : s.is_history_whole ≡ true → u.is_history_whole ≡ true

-- it has its folders, its job and its history, all of both durable
pub record IsWhole (s : Site) : Type 0 where
  pub home : s.home.now ≢ None
  pub folders : s.folders.now ≢ None
  pub job : s.job.now ≢ None
  pub history : s.history.now ≢ None
  pub job_whole : s.is_job_whole ≡ true
  pub history_whole : s.is_history_whole ≡ true

-- Wherever a begin is stopped, and whether the power is cut then or not: where the directory is there, it is whole.
abbrev pub DirectoriesBeginWhole : Type 0
DirectoriesBeginWhole = (n : ℕ) (s u : Site) → MayBe n s → (u ≡ s) ⊎ IsCutTo s u → u.directory.now ≢ None → IsWhole u

-- And once all steps are made, each power cut leaves it, whole.
abbrev pub BegunDirectoriesStay : Type 0
BegunDirectoriesStay = (u : Site) → IsCutTo (after_first steps 7 nowhere) u → (u.directory.now ≢ None) × IsWhole u

-- What is promised of the visible names: nothing too early, and where the marker is, all of it, for good. That a job's output is whole where its marker is
-- there is what the committer document promises of a job's commit.
use Rattle.std.specs.Prelude.{◌≡◌, ◌≢◌, ◌⊎◌, ◌<◌, ℕ, true, List, [], ◌∷◌, Option, Some, None}
use Rattle.mr_ids.specs.Attempt.{Attempt}
use Rattle.mr_log_entries.specs.declared.line.Handed.{Handed}
use Rattle.mr_log_entries.specs.declared.line.Handed.TheVariants as handed
use Rattle.mr_log_entries.specs.declared.entry.Entry.{Entry}
use Rattle.mr_log_entries.specs.Recorded.{lines_of}
use Rattle.mr_log_disk.specs.declared.place.Item.{Item}
use Rattle.mr_log_disk.specs.declared.place.Place.{Place}
use Rattle.mr_log_disk.specs.declared.place.Place.TheVariants.{Top, Beneath, Marker, Inside}
use Rattle.mr_log_disk.specs.declared.call.Call.TheVariants as call
use Rattle.mr_log_disk.specs.Names.{IsVisible}
use Rattle.mr_log_disk.specs.Log.{Disk}
use Rattle.mr_log_disk.specs.Calls.{seen}
use Rattle.mr_log_standing.specs.declared.standing.Win.{Win}
use Rattle.mr_log_standing.specs.Standing.{task_of, win_of, winner_of, is_published, is_publishable}
use Rattle.mr_log_model.specs.Worlds.{Setting, World, begun}
use Rattle.mr_log_model.specs.Runs.{Move, after, IsRun}
use Rattle.mr_log_model.specs.Promises.{IsLog, IsAmong}

-- the names of what is in a folder that was handed in
abbrev pub IsItemOf : ℕ → List Item → Place → Type 0
IsItemOf n [] p = ⊥
IsItemOf n (i ∷ more) p = (p ≡ Beneath n i.item i.folder) ⊎ IsItemOf n more p

abbrev pub IsPartOf : Setting → Win → Handed → Place → Type 0
IsPartOf s win (handed.File file bytes) p = p ≡ Top win.attempt.task.number
IsPartOf s win (handed.Folder bytes) p = (p ≡ Top win.attempt.task.number) ⊎ IsItemOf win.attempt.task.number (s.lists win.attempt win.id) p

-- a name of the visible output of this winner: of its file, or of its folder and of all that is in it
abbrev pub IsOutputOf : Setting → Win → Place → Type 0
IsOutputOf s win p = IsPartOf s win win.handed p

-- The whole output of a task is visible: each name that belongs to the output of the recorded winner.
pub record IsWhole (s : Setting) (durable : List Entry) (d : Disk) (n : ℕ) : Type 0 where
  pub win : Win
  pub is : win_of durable (task_of s.job.id n) ≡ Some win
  pub each : (p : Place) → IsOutputOf s win p → seen d p ≢ None

-- a name within the attempt's folder, and the visible name that belongs to it
abbrev pub LinksOwn : Attempt → Place → Place → Type 0
LinksOwn a (Inside b i f) (Top n) = (b ≡ a) × (n ≡ a.task.number)
LinksOwn a (Inside b i f) (Beneath n j g) = (b ≡ a) × (n ≡ a.task.number) × (j ≡ i) × (g ≡ f)
LinksOwn a _ _ = ⊥

-- what is linked so is the recorded winner's
pub record IsWinners (durable : List Entry) (from to : Place) : Type 0 where
  pub winner : Attempt
  pub recorded : winner_of (lines_of durable) winner.task ≡ Some winner
  pub own : LinksOwn winner from to

-- the marker is there, or the log says that the job is published
abbrev pub IsDone : World → List Entry → Type 0
IsDone w durable = (seen w.disk Marker ≢ None) ⊎ (is_published (lines_of durable) ≡ true)

-- What holds of a world w, and of any later one v.
pub record Promises (s : Setting) (w v : World) : Type 0 where
  pub durable : List Entry
  pub last : Option Entry
  pub log : IsLog w.disk durable last
  -- nothing is visible unless the job may be published by durable entries: under hold, not before that was decided
  pub early : (p : Place) → IsVisible p → seen w.disk p ≢ None → is_publishable s.job (lines_of durable) ≡ true
  -- what is linked to a visible name is the recorded winner's
  pub whose : (from to : Place) → IsAmong (call.Link from to) w.calls → IsWinners durable from to
  -- where the marker is there, or the log says that the job is published, each task's whole output is there
  pub whole : IsDone w durable → (n : ℕ) → n < s.job.tasks → IsWhole s durable w.disk n
  -- and then nothing of it is another later
  pub stays : IsDone w durable → (n : ℕ) (win : Win) → n < s.job.tasks → win_of durable (task_of s.job.id n) ≡ Some win → (p : Place) → IsOutputOf s win p → seen v.disk p ≡ seen w.disk p
  -- where the log says so, or was forgotten, the marker is there, and stays
  pub published : is_published (lines_of durable) ≡ true → (seen w.disk Marker ≢ None) × (seen v.disk Marker ≢ None)
  pub forgotten : IsAmong call.Forget w.calls → (seen w.disk Marker ≢ None) × (seen v.disk Marker ≢ None)

-- After every list of moves that begins with what an honest `begin` left, and any more moves.
abbrev pub OutputsStay : Type 0
OutputsStay = (s : Setting) (moves more : List Move) → IsRun s begun moves → IsRun s (after s begun moves) more
    → Promises s (after s begun moves) (after s (after s begun moves) more)

-- Such a run there is: of some job the marker is there in the end.
abbrev pub SomeJobIsPublished : Type 0
SomeJobIsPublished = (s : Setting) × (moves : List Move) × IsRun s begun moves × (seen (after s begun moves).disk Marker ≢ None)

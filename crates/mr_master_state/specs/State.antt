-- Which past the machine of a master stands for. Our own: where code and definitions meet.
use Rattle.std.specs.Prelude.{◌≡◌, ℕ, false, length, List, ◌∷◌, ◌++◌}
use Rattle.mr_history.specs.declared.record.Record.{Record}
use Rattle.mr_master_model.specs.declared.setting.Setting.{Setting}
use Rattle.mr_master_model.specs.Past.{Work, Step}
use Rattle.mr_master_model.specs.Readings.{Seen}
use Rattle.mr_master_model.specs.Next.{seen}
use Rattle.mr_master_tasks.specs.Tasks.{Tasks, KeepsTasks}
use Rattle.mr_master_tables.specs.Bars.{Bars}
use Rattle.mr_master_tables.specs.Launches.{Launched, KeepsLaunches, SameLaunches}
use Rattle.mr_master_tables.specs.Nodes.{KeepsNodes}
use Rattle.mr_master_tables.specs.Records.{Writing, KeepsRecords, SameRecords}

-- what a machine stores, part by part
pub record Master : Type 0 where
  pub setting : Setting
  pub work : Work
  pub tasks : Tasks
  pub launches : Launched
  pub nodes : List (ℕ × ℕ)  -- the incarnation of each that is not in its first
  pub earlier : List Record
  pub writing : Writing
  pub bars : Bars

-- The machine m keeps what was seen, part by part.
pub record Keeps (m : Master) (w : Setting) (s : Seen) : Type 0 where
  pub setting : m.setting ≡ w
  pub work : m.work ≡ s.work
  pub tasks : KeepsTasks m.tasks w s.calls
  pub launches : KeepsLaunches m.launches s.launched s.killed
  pub nodes : KeepsNodes m.nodes s.known
  pub earlier : m.earlier ≡ s.earlier
  pub writing : KeepsRecords m.writing s.due s.tail
  pub bars : m.bars.due ≡ s.bars

-- The machine stands for a past: it keeps what is read off it.
abbrev pub StandsFor : Master → Setting → List Step → Type 0
StandsFor m w past = Keeps m w (seen w past)

-- the machine stands for some past
abbrev pub StandsForSome : Master → Type 0
StandsForSome m = (past : List Step) × StandsFor m m.setting past

-- ---- how the contracts say it

-- the same, spare room aside
pub record Unchanged (old new : Master) : Type 0 where
  pub is : new ≡ record old { launches = new.launches; writing = new.writing; bars = new.bars }
  pub launches : SameLaunches old.launches new.launches
  pub writing : SameRecords old.writing new.writing
  pub bars : new.bars.due ≡ old.bars.due

-- whatever past the machine stood for, it stands for it and this step
abbrev pub Stands : Master → Step → Master → Type 0
Stands old step new = (w : Setting) (past : List Step) → StandsFor old w past → StandsFor new w (step ∷ past)

-- whatever past it stood for, it stands for it still
abbrev pub StandsStill : Master → Master → Type 0
StandsStill old new = (w : Setting) (past : List Step) → StandsFor old w past → StandsFor new w past

-- the answer is what is read off the past that the machine stands for, whichever it is
abbrev pub Answers : {A : Type 0} → Master → (Setting → List Step → A) → A → Type 0
Answers m reading answer = (w : Setting) (past : List Step) → StandsFor m w past → answer ≡ reading w past

-- The same of what was seen, whatever it is.
abbrev pub Moves : Master → (Setting → Seen → Seen) → Master → Type 0
Moves old change new = (w : Setting) (s : Seen) → Keeps old w s → Keeps new w (change w s)

abbrev pub Reads : {A : Type 0} → Master → (Setting → Seen → A) → A → Type 0
Reads m reading answer = (w : Setting) (s : Seen) → Keeps m w s → answer ≡ reading w s

-- a list grew by what is read off
abbrev pub Adds : {A : Type 0} → Master → List A → (Setting → Seen → List A) → List A → Type 0
Adds m old reading new = (w : Setting) (s : Seen) → Keeps m w s → new ≡ old ++ reading w s

-- It moves, if no Kill was sent to the container that is launched next: along a past none was
abbrev pub MovesOn : Master → (Setting → Seen → Seen) → Master → Type 0
MovesOn old change new = (w : Setting) (s : Seen) → Keeps old w s → s.killed (length s.launched) ≡ false → Keeps new w (change w s)

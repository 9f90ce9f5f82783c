-- What may happen to an output directory, one move after another. Our own.
use Rattle.std.specs.Prelude.{◌≡◌, ◌≢◌, ◌==◌, ℕ, false, List, [], ◌∷◌, ◌++◌, Option, Some, None, if◌then◌else◌}
use Rattle.mr_ids.specs.Attempt.{Attempt}
use Rattle.mr_out_disk.specs.declared.place.Place.TheVariants.{Work, Home}
use Rattle.mr_out_disk.specs.declared.call.Call.{Call}
use Rattle.mr_out_disk.specs.declared.answer.Answer.{Answer}
use Rattle.mr_out_disk.specs.Disk.{Disk, seen, named}
use Rattle.mr_out_disk.specs.Calls.{effect, IsHonest}
use Rattle.mr_out_disk.specs.Cuts.{IsCut}
use Rattle.mr_out_steps.specs.declared.order.Order.{Order}
use Rattle.mr_out_steps.specs.declared.order.Outcome.{Outcome}
use Rattle.mr_out_steps.specs.Commands.{Command, opening, next_call, outcome_in}
use Rattle.mr_out_steps.specs.Steps.{heard}
use Rattle.mr_out_model.specs.Worlds.{Setting, World, handed_by, telling, IsClaimed}

pub data Move : Type 0 where
  -- a command is given the lock
  Starts : (order : Order) → Move
  -- the disk answers its call
  Answers : (answer : Answer) → Move
  -- it has ended, and tells how
  Ends : Move
  -- it is killed, or gives up, behind any of its calls
  Stops : Move
  -- others write a file
  Writes : (file : ℕ) → (bytes : ℕ) → Move
  -- others give an attempt's name beneath the work folder to a file, or to none
  Names : (a : Attempt) → (file : Option ℕ) → Move
  -- the power is cut, and this disk is left
  Cuts : (left : Disk) → Move

-- the call was answered
abbrev pub answered : World → Command → Option Call → Answer → World
answered w c None answer = w
answered w c (Some call) answer = record { disk = effect w.disk call answer; running = Some (heard c answer); handed = handed_by call answer w; told = w.told }

abbrev pub ended : World → Command → Option Outcome → World
ended w c None = w
ended w c (Some outcome) = record w { running = None; told = telling c.order outcome ++ w.told }

abbrev pub answers : World → Option Command → Answer → World
answers w None answer = w
answers w (Some c) answer = answered w c (next_call c) answer

abbrev pub ends_with : World → Option Command → World
ends_with w None = w
ends_with w (Some c) = ended w c (outcome_in c.phase)

abbrev pub written : ℕ → ℕ → Disk → Disk
written file bytes d = record d { bytes = λ f. if f == file then bytes else d.bytes f; is_whole = λ f. if f == file then false else d.is_whole f }

unfoldable pub happens : Setting → World → Move → World
happens s w (Starts order) = record w { running = Some (opening order s.job s.tasks s.limit s.hold) }
happens s w (Answers answer) = answers w w.running answer
happens s w Ends = ends_with w w.running
happens s w Stops = record w { running = None }
happens s w (Writes file bytes) = record w { disk = written file bytes w.disk }
happens s w (Names a file) = record w { disk = named (Work a) file w.disk }
happens s w (Cuts left) = record w { disk = left; running = None }

-- the answer is one that the disk may give to the call
abbrev pub MayAnswer : World → Option Call → Answer → Type 0
MayAnswer w None answer = ⊥
MayAnswer w (Some call) answer = IsHonest w.disk call answer

abbrev pub MayHear : World → Option Command → Answer → Type 0
MayHear w None answer = ⊥
MayHear w (Some c) answer = MayAnswer w (next_call c) answer

-- a file stands at its writer's name alone: what has a second name there, a look tells apart
abbrev pub IsWriters : Setting → Attempt → Option ℕ → Type 0
IsWriters s a None = Unit {0}
IsWriters s a (Some file) = s.writer file ≡ a

-- One command at a time holds the lock, where the history was not forgotten; others write no file that is claimed; answers and cuts are honest.
unfoldable pub May : Setting → World → Move → Type 0
May s w (Starts order) = (w.running ≡ None) × (seen w.disk Home ≢ None)
May s w (Answers answer) = MayHear w w.running answer
May s w Ends = Unit {0}
May s w Stops = Unit {0}
May s w (Writes file bytes) = IsClaimed s w.disk file → ⊥
May s w (Names a file) = IsWriters s a file
May s w (Cuts left) = IsCut w.disk left

-- what a list of moves leaves
unfoldable pub after : Setting → World → List Move → World
after s w [] = w
after s w (move ∷ moves) = after s (happens s w move) moves

-- each move of the list may happen in its turn
unfoldable pub IsRun : Setting → World → List Move → Type 0
IsRun s w [] = Unit {0}
IsRun s w (move ∷ moves) = May s w move × IsRun s (happens s w move) moves

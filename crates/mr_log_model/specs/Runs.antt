-- What may happen to an output directory, one move after another. Any number of commands are under way at once, and each may be answered next. Our own.
use Rattle.std.specs.Prelude.{◌≡◌, ◌⊎◌, ℕ, List, [], ◌∷◌, Option, Some, None}
use Rattle.mr_ids.specs.Attempt.{Attempt}
use Rattle.mr_log_entries.specs.declared.entry.Origin.{Origin}
use Rattle.mr_log_disk.specs.declared.call.Call.{Call}
use Rattle.mr_log_disk.specs.declared.call.Call.TheVariants.{ReadList}
use Rattle.mr_log_disk.specs.declared.place.Item.{Item}
use Rattle.mr_log_disk.specs.declared.place.Node.TheVariants as node
use Rattle.mr_log_disk.specs.declared.answer.Answer.{Answer}
use Rattle.mr_log_disk.specs.declared.answer.Answer.TheVariants.{Listed}
use Rattle.mr_log_disk.specs.Log.{Disk}
use Rattle.mr_log_disk.specs.Calls.{Effect}
use Rattle.mr_log_disk.specs.Cuts.{IsCut}
use Rattle.mr_log_standing.specs.declared.order.Order.{Order}
use Rattle.mr_log_standing.specs.declared.order.Outcome.{Outcome}
use Rattle.mr_log_standing.specs.Host.{Host}
use Rattle.mr_log_steps.specs.Commands.{Command, opening, next_call, outcome_in}
use Rattle.mr_log_steps.specs.Turns.{heard}
use Rattle.mr_log_model.specs.Worlds.{Setting, World, with_command}

pub data Move : Type 0 where
  -- a command with this number begins, on this host; its entries come from there
  Starts : (k : ℕ) → (order : Order) → (host : Host) → (origin : Origin) → Move
  -- the call of this command is answered, and this disk is left
  Answers : (k : ℕ) → (answer : Answer) → (left : Disk) → Move
  -- this command has ended, and says how
  Ends : (k : ℕ) → Move
  -- this command is killed, or gives up, after any of its calls
  Stops : (k : ℕ) → Move
  -- the power is cut, and this disk is left
  Cuts : (left : Disk) → Move

abbrev pub heard_by : Option Command → Answer → Option Command
heard_by None answer = None
heard_by (Some c) answer = Some (heard c answer)

abbrev pub with_call : Option Call → List Call → List Call
with_call None calls = calls
with_call (Some x) calls = x ∷ calls

abbrev pub called_by : Option Command → List Call → List Call
called_by None calls = calls
called_by (Some c) calls = with_call (next_call c) calls

abbrev pub ended : World → ℕ → Command → Option Outcome → World
ended w k c None = w
ended w k c (Some o) = record w { running = with_command k None w.running; said = record { order = c.order; outcome = o } ∷ w.said }

abbrev pub ends_with : World → ℕ → Option Command → World
ends_with w k None = w
ends_with w k (Some c) = ended w k c (outcome_in c.phase)

unfoldable pub happens : Setting → World → Move → World
happens s w (Starts k order host origin) = record w { running = with_command k (Some (opening order s.job s.folders host origin)) w.running }
happens s w (Answers k answer left) = record w { disk = left; running = with_command k (heard_by (w.running k) answer) w.running; calls = called_by (w.running k) w.calls }
happens s w (Ends k) = ends_with w k (w.running k)
happens s w (Stops k) = record w { running = with_command k None w.running }
happens s w (Cuts left) = record w { disk = left; running = λ k. None }

-- a folder that is listed, or the attempt's own
abbrev pub IsListedFolder : ℕ → List Item → Type 0
IsListedFolder f [] = f ≡ 0
IsListedFolder f (i ∷ more) = ((i.node ≡ node.Folder) × (i.item ≡ f)) ⊎ IsListedFolder f more

-- each of these stands in one
abbrev pub StandInFolders : List Item → List Item → Type 0
StandInFolders all [] = Unit {0}
StandInFolders all (i ∷ more) = IsListedFolder i.folder all × StandInFolders all more

-- a list that is read is the one that was written under its name
abbrev pub TellsList : Setting → Attempt → ℕ → Answer → Type 0
TellsList s a id (Listed items) = (items ≡ s.lists a id) × StandInFolders items items
TellsList s a id answer = Unit {0}

abbrev pub TellsLists : Setting → Call → Answer → Type 0
TellsLists s (ReadList a id) answer = TellsList s a id answer
TellsLists s call answer = Unit {0}

-- the disk may answer this call so, and be that one then
abbrev pub MayAnswer : Setting → Disk → Option Call → Answer → Disk → Type 0
MayAnswer s d None answer left = ⊥
MayAnswer s d (Some call) answer left = Effect d call answer left × TellsLists s call answer

abbrev pub MayHear : Setting → Disk → Option Command → Answer → Disk → Type 0
MayHear s d None answer left = ⊥
MayHear s d (Some c) answer left = MayAnswer s d (next_call c) answer left

-- A number is one command's at a time, whose entries are of the boot that it runs in; answers and cuts are honest. A power cut ends all commands.
unfoldable pub May : Setting → World → Move → Type 0
May s w (Starts k order host origin) = (w.running k ≡ None) × (origin.boot ≡ host.boot)
May s w (Answers k answer left) = MayHear s w.disk (w.running k) answer left
May s w (Ends k) = Unit {0}
May s w (Stops k) = Unit {0}
May s w (Cuts left) = IsCut w.disk left

-- what a list of moves leaves
unfoldable pub after : Setting → World → List Move → World
after s w [] = w
after s w (move ∷ moves) = after s (happens s w move) moves

-- each move of the list may happen in its turn
unfoldable pub IsRun : Setting → World → List Move → Type 0
IsRun s w [] = Unit {0}
IsRun s w (move ∷ moves) = May s w move × IsRun s (happens s w move) moves

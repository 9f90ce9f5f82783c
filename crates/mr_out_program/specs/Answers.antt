-- What a command may answer: what is printed, and the exit status. Our own.
use Rattle.std.specs.Prelude.{◌≡◌, ◌⊎◌, [], Some, Result, Ok}
use Rattle.std.specs.String.{string_bytes}
use Rattle.mr_out_words.specs.declared.asked.Command.{Command}
use Rattle.mr_out_words.specs.declared.asked.Command.TheVariants as command
use Rattle.mr_out_words.specs.declared.asked.Failing.TheVariants.{One}
use Rattle.mr_out_layout.specs.Jobs.{IsTold}
use Rattle.mr_out_layout.specs.declared.fault.Fault.{Fault}
use Rattle.mr_out_steps.specs.declared.order.Order.TheVariants as order
use Rattle.mr_out_files.specs.declared.directory.Directory.{Directory}
use Rattle.mr_out_files.specs.Made.{calls_of}
use Rattle.mr_out_program.specs.declared.answering.Answered.{Answered}
use Rattle.mr_out_program.specs.declared.saying.Saying.TheVariants.{Done}
use Rattle.mr_out_program.specs.Sayings.{fault_status, done_saying, fail_saying, publish_saying, order_saying}
use Rattle.mr_out_program.specs.Carried.{Never, Says, CarriesAndTells, CarriesAndTellsOf, Forgets, start_of, Begins}
use Rattle.mr_out_program.specs.Starting.{TellsStarts}
use Rattle.mr_out_program.specs.Shown.{IsShown}
use Rattle.mr_out_program.specs.Turns.{TurnsOf, IsFail}

-- a fault is told: nothing is printed on standard output
pub record IsRefused (a : Answered) : Type 0 where
  pub prints : string_bytes a.output ≡ []
  pub fault : Fault
  pub ends : a.status ≡ fault_status fault

-- ---- what is told where nothing failed

-- no call was made yet, and the job is one that a file tells
abbrev pub IsOpened : Directory → Type 0
IsOpened d = (calls_of d ≡ []) × IsTold d.job

-- a directory was opened, and what was done in it is told so
abbrev pub InOpened : (Directory → Directory → Result Answered Fault → Type 0) → Answered → Type 0
InOpened Does a = (old : Directory) × (new : Directory) × IsOpened old × Does old new (Ok a)

-- what is under way was given up, in a directory that was opened
abbrev pub GivesUp : Answered → Type 0
GivesUp a = (old : Directory) × (new : Directory) × IsOpened old × TurnsOf IsFail old new × Says Done a

abbrev pub IsToldOf : Command → Answered → Type 0
IsToldOf (command.Begin tasks limit suffix hold again) a = Says Done a
IsToldOf (command.Attempt task over) a = InOpened (Begins (start_of task over)) a
IsToldOf command.AttemptAll a = InOpened TellsStarts a
IsToldOf (command.Done text) a = InOpened (CarriesAndTellsOf order.Done done_saying text.now) a
IsToldOf (command.Fail (One text)) a = InOpened (CarriesAndTellsOf order.Fail fail_saying text.now) a
IsToldOf (command.Fail failing) a = GivesUp a
IsToldOf command.Publish a = InOpened (CarriesAndTells order.Publish (λ end. Some (publish_saying end)) Never) a
IsToldOf command.Abort a = InOpened (CarriesAndTells order.Abort (λ end. Some (order_saying end)) Never) a
IsToldOf (command.Resume here) a = InOpened (CarriesAndTells order.Resume (λ end. Some Done) Never) a
-- or what was forgotten before is removed
IsToldOf command.Forget a = InOpened Forgets a ⊎ Says Done a
IsToldOf (command.Status json) a = (old : Directory) × (new : Directory) × IsOpened old × IsShown json old new a

abbrev pub IsAnswerOf : Command → Answered → Type 0
IsAnswerOf c a = IsToldOf c a ⊎ IsRefused a

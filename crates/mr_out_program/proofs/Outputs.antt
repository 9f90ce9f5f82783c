-- What a command may answer, by what was done in a directory that was opened.
use Rattle.std.proofs.Common.{◌≡◌, ◌⊎◌, inl, inr, ℕ, Bool, Bor, List, Option, Some, Result, Ok, Err, sym, subst}
use Rattle.std.specs.Prelude.{IfOk, IsErrAnd}
use Rattle.mr_out_words.specs.declared.asked.Command.{Command}
use Rattle.mr_out_words.specs.declared.asked.Command.TheVariants as command
use Rattle.mr_out_words.specs.declared.asked.Failing.{Failing}
use Rattle.mr_out_words.specs.declared.asked.Failing.TheVariants as failing
use Rattle.mr_out_layout.specs.declared.fault.Fault.{Fault}
use Rattle.mr_out_steps.specs.declared.order.Order.TheVariants as order
use Rattle.mr_out_files.specs.declared.directory.Directory.{Directory}
use Rattle.mr_out_files.specs.Made.{Keeps}
use Rattle.mr_out_program.specs.declared.answering.Answered.{Answered}
use Rattle.mr_out_program.specs.declared.saying.Saying.TheVariants.{Done}
use Rattle.mr_out_program.specs.Sayings.{done_saying, fail_saying, publish_saying, order_saying}
use Rattle.mr_out_program.specs.Faults.{IsNoTask}
use Rattle.mr_out_program.specs.Carried.{Never, Says, CarriesAndTells, CarriesAndTellsOf, Forgets, Begins, HasTask, start_of}
use Rattle.mr_out_program.specs.Starting.{TellsStarts}
use Rattle.mr_out_program.specs.Answers.{IsOpened, InOpened, IsToldOf}
use Rattle.mr_out_program.specs.Shown.{IsShown}
use Rattle.mr_out_program.specs.Turns.{TurnsOf, IsFail}

-- what was done in a directory, where it is told
pub in_opened : (Does : Directory → Directory → Result Answered Fault → Type 0) (old new : Directory) (r : Result Answered Fault) → IsOpened old → Does old new r → IfOk r (InOpened Does)
in_opened Does old new (Ok a) opened it = (old, new, opened, it)
in_opened Does old new (Err f) opened it = tt

-- of the command that these words name
of_command : (c d : Command) (r : Result Answered Fault) → c ≡ d → IfOk r (IsToldOf d) → IfOk r (IsToldOf c)
of_command c d r e h = subst (λ (x : Command). IfOk r (IsToldOf x)) (sym e) h

begins_so : (task : Option ℕ) (over : Bool) (old new : Directory) (r : Result Answered Fault) → IsOpened old
    → (HasTask task old.job × Begins (start_of task over) old new r) ⊎ (IsErrAnd r (IsNoTask task old.job) × Keeps old new) → IfOk r (IsToldOf (command.Attempt task over))
begins_so task over old new (Ok a) opened (inl (has, it)) = (old, new, opened, it)
begins_so task over old new (Ok a) opened (inr (h, same)) = absurd h
begins_so task over old new (Err f) opened h = tt

pub attempt_told : (c : Command) (task : Option ℕ) (over : Bool) (old new : Directory) (r : Result Answered Fault) → c ≡ command.Attempt task over → IsOpened old
    → (HasTask task old.job × Begins (start_of task over) old new r) ⊎ (IsErrAnd r (IsNoTask task old.job) × Keeps old new) → IfOk r (IsToldOf c)
attempt_told c task over old new r e opened h = of_command c (command.Attempt task over) r e (begins_so task over old new r opened h)

all_so : (old new : Directory) (r : Result Answered Fault) → IsOpened old → TellsStarts old new r → IfOk r (IsToldOf command.AttemptAll)
all_so old new (Ok a) opened it = (old, new, opened, it)
all_so old new (Err f) opened it = tt

pub attempt_all_told : (c : Command) (old new : Directory) (r : Result Answered Fault) → c ≡ command.AttemptAll → IsOpened old → TellsStarts old new r → IfOk r (IsToldOf c)
attempt_all_told c old new r e opened it = of_command c command.AttemptAll r e (all_so old new r opened it)

pub done_told : (c : Command) (text : Bor (List ℕ)) (r : Result Answered Fault) → c ≡ command.Done text → IfOk r (InOpened (CarriesAndTellsOf order.Done done_saying text.now)) → IfOk r (IsToldOf c)
done_told c text r e it = of_command c (command.Done text) r e it

fail_one_so : (text : Bor (List ℕ)) (old new : Directory) (r : Result Answered Fault) → IsOpened old → CarriesAndTellsOf order.Fail fail_saying text.now old new r → IfOk r (IsToldOf (command.Fail (failing.One text)))
fail_one_so text old new (Ok a) opened it = (old, new, opened, it)
fail_one_so text old new (Err f) opened it = tt

pub fail_one_told : (c : Command) (text : Bor (List ℕ)) (old new : Directory) (r : Result Answered Fault) → c ≡ command.Fail (failing.One text) → IsOpened old → CarriesAndTellsOf order.Fail fail_saying text.now old new r → IfOk r (IsToldOf c)
fail_one_told c text old new r e opened it = of_command c (command.Fail (failing.One text)) r e (fail_one_so text old new r opened it)

publish_so : (old new : Directory) (r : Result Answered Fault) → IsOpened old → CarriesAndTells order.Publish (λ end. Some (publish_saying end)) Never old new r → IfOk r (IsToldOf (command.Publish))
publish_so old new (Ok a) opened it = (old, new, opened, it)
publish_so old new (Err f) opened it = tt

pub publish_told : (c : Command) (old new : Directory) (r : Result Answered Fault) → c ≡ command.Publish → IsOpened old → CarriesAndTells order.Publish (λ end. Some (publish_saying end)) Never old new r → IfOk r (IsToldOf c)
publish_told c old new r e opened it = of_command c (command.Publish) r e (publish_so old new r opened it)

abort_so : (old new : Directory) (r : Result Answered Fault) → IsOpened old → CarriesAndTells order.Abort (λ end. Some (order_saying end)) Never old new r → IfOk r (IsToldOf (command.Abort))
abort_so old new (Ok a) opened it = (old, new, opened, it)
abort_so old new (Err f) opened it = tt

pub abort_told : (c : Command) (old new : Directory) (r : Result Answered Fault) → c ≡ command.Abort → IsOpened old → CarriesAndTells order.Abort (λ end. Some (order_saying end)) Never old new r → IfOk r (IsToldOf c)
abort_told c old new r e opened it = of_command c (command.Abort) r e (abort_so old new r opened it)

fail_task_so : (task : ℕ) (old new : Directory) (r : Result Answered Fault) → IsOpened old → TurnsOf IsFail old new → IfOk r (Says Done) → IfOk r (IsToldOf (command.Fail (failing.Task task)))
fail_task_so task old new (Ok a) opened turns says = (old, new, opened, turns, says)
fail_task_so task old new (Err f) opened turns says = tt

pub fail_task_told : (c : Command) (task : ℕ) (old new : Directory) (r : Result Answered Fault) → c ≡ command.Fail (failing.Task task) → IsOpened old → TurnsOf IsFail old new → IfOk r (Says Done) → IfOk r (IsToldOf c)
fail_task_told c task old new r e opened turns says = of_command c (command.Fail (failing.Task task)) r e (fail_task_so task old new r opened turns says)

fail_all_so : (old new : Directory) (r : Result Answered Fault) → IsOpened old → TurnsOf IsFail old new → IfOk r (Says Done) → IfOk r (IsToldOf (command.Fail failing.All))
fail_all_so old new (Ok a) opened turns says = (old, new, opened, turns, says)
fail_all_so old new (Err f) opened turns says = tt

pub fail_all_told : (c : Command) (old new : Directory) (r : Result Answered Fault) → c ≡ command.Fail failing.All → IsOpened old → TurnsOf IsFail old new → IfOk r (Says Done) → IfOk r (IsToldOf c)
fail_all_told c old new r e opened turns says = of_command c (command.Fail failing.All) r e (fail_all_so old new r opened turns says)

pub fail_told : (c : Command) (which : Failing) (r : Result Answered Fault) → c ≡ command.Fail which → IfOk r (IsToldOf (command.Fail which)) → IfOk r (IsToldOf c)
fail_told c which r e it = of_command c (command.Fail which) r e it

pub resume_told : (c : Command) (here : Bool) (r : Result Answered Fault) → c ≡ command.Resume here → IfOk r (InOpened (CarriesAndTells order.Resume (λ end. Some Done) Never)) → IfOk r (IsToldOf c)
resume_told c here r e it = of_command c (command.Resume here) r e it

pub begin_told : (c : Command) (tasks : ℕ) (limit : Option ℕ) (suffix : Bor (List ℕ)) (hold again : Bool) (r : Result Answered Fault) → c ≡ command.Begin tasks limit suffix hold again → IfOk r (Says Done) → IfOk r (IsToldOf c)
begin_told c tasks limit suffix hold again r e it = of_command c (command.Begin tasks limit suffix hold again) r e it

pub forget_told : (c : Command) (r : Result Answered Fault) → c ≡ command.Forget → IfOk r (λ a. InOpened Forgets a ⊎ Says Done a) → IfOk r (IsToldOf c)
forget_told c r e it = of_command c command.Forget r e it

status_so : (json : Bool) (old new : Directory) (r : Result Answered Fault) → IsOpened old → IfOk r (IsShown json old new) → IfOk r (IsToldOf (command.Status json))
status_so json old new (Ok a) opened it = (old, new, opened, it)
status_so json old new (Err f) opened it = tt

pub status_told : (c : Command) (json : Bool) (old new : Directory) (r : Result Answered Fault) → c ≡ command.Status json → IsOpened old → IfOk r (IsShown json old new) → IfOk r (IsToldOf c)
status_told c json old new r e opened it = of_command c (command.Status json) r e (status_so json old new r opened it)

-- ---- a history that is forgotten

pub forgets_told : (old new : Directory) (r : Result Answered Fault) → IsOpened old → Forgets old new r → IfOk r (λ a. InOpened Forgets a ⊎ Says Done a)
forgets_told old new (Ok a) opened it = inl (old, new, opened, it)
forgets_told old new (Err f) opened it = tt

pub gone_told : (r : Result Answered Fault) → IfOk r (Says Done) → IfOk r (λ a. InOpened Forgets a ⊎ Says Done a)
gone_told (Ok a) said = inr said
gone_told (Err f) said = tt

-- ---- a directory that is there already

pub says_second : (P : Type 0) (r : Result Answered Fault) → IfOk r (λ a. P × Says Done a) → IfOk r (Says Done)
says_second P (Ok a) h = h.1
says_second P (Err f) h = tt

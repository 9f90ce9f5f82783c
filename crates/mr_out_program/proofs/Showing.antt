-- What `status` shows.
use Rattle.std.proofs.Common.{◌≡◌, cond, filter, ◌+◌, ◌==◌, add-one, ℕ, Bool, true, false, List, [], ◌∷◌, ◌++◌, length, codes, Option, Some, None, Result, Ok, Err, IfOk, refl, sym, ap, subst, ◌∙◌, append_assoc, append-nil, arith}
use Rattle.std.proofs.lemmas.Bool.Decides.{nat_tests}
use Rattle.std.specs.List.{fold, cons_option, join_with_byte}
use Rattle.mr_ids.specs.Text.{attempt_text, attempt_fields}
use Rattle.std.specs.String.{string_bytes}
use Rattle.mr_ids.specs.Attempt.{Attempt}
use Rattle.mr_ids.specs.Same.{same_task}
use Rattle.mr_ids.specs.declared.id.TaskId.{TaskId}
use Rattle.mr_history.specs.declared.record.Record.{Record}
use Rattle.mr_history.specs.declared.record.Record.TheVariants.{AttemptStarted, MapSucceeded, ReduceSucceeded, AttemptFailed, JobUnsuccessful}
use Rattle.mr_history.specs.Winner.{winner_in}
use Rattle.mr_out_layout.specs.declared.fault.Fault.{Fault}
use Rattle.mr_out_layout.specs.declared.job.Job.{Job}
use Rattle.mr_out_machine.specs.Successes.{tells_success}
use Rattle.mr_out_disk.specs.declared.place.Folder.TheVariants.{Home}
use Rattle.mr_out_disk.specs.declared.call.Call.TheVariants.{SyncFolder}
use Rattle.mr_out_disk.specs.declared.answer.Answer.{Answer}
use Rattle.mr_out_disk.specs.declared.answer.Answer.TheVariants.{Says}
use Rattle.mr_out_disk.specs.declared.answer.Reply.TheVariants.{Done}
use Rattle.mr_out_files.specs.declared.directory.Directory.{Directory}
use Rattle.mr_out_files.specs.Made.{calls_of, Keeps}
use Rattle.mr_out_program.specs.declared.answering.Answered.{Answered}
use Rattle.mr_out_program.specs.Turns.{Reads}
use Rattle.mr_out_program.specs.Asking.{won_line}
use Rattle.mr_out_program.specs.inner.Running.{separator, with_more, with_running}
use Rattle.mr_out_program.specs.Shown.{attempt_word, between, running_text, IsLineOf, IsTaskLine, AreTaskLines, whole_text, SyncsLast, IsShown}

-- by the successes alone a task has the winner that it has by all records
same_winner : (rs : List Record) (t : TaskId) → winner_in (filter tells_success rs) t ≡ winner_in rs t
unfolding winner_in
same_winner [] t = refl
same_winner (ReduceSucceeded a bytes ∷ rs) t = ap (λ (o : Option Attempt). cond (same_task a.task t) (Some a) o) (same_winner rs t)
same_winner (AttemptStarted a node ∷ rs) t = same_winner rs t
same_winner (MapSucceeded a node incarnation ∷ rs) t = same_winner rs t
same_winner (AttemptFailed a ∷ rs) t = same_winner rs t
same_winner (JobUnsuccessful ∷ rs) t = same_winner rs t

pub same_winner_by : (qs rs : List Record) (t : TaskId) → qs ≡ filter tells_success rs → winner_in qs t ≡ winner_in rs t
same_winner_by qs rs t e = ap (λ (xs : List Record). winner_in xs t) e ∙ same_winner rs t

pub won_so : (json : Bool) (n : ℕ) (o : Option Attempt) (a : Attempt) (bytes : ℕ) (text line : List ℕ) → o ≡ Some a → line ≡ won_line json n a bytes → IsLineOf json n o text line
won_so json n o a bytes text line is e = subst (λ (x : Option Attempt). IsLineOf json n x text line) (sym is) (bytes, e)

pub unwon_so : (json : Bool) (n : ℕ) (o : Option Attempt) (text line : List ℕ) → o ≡ None → IsLineOf json n None text line → IsLineOf json n o text line
unwon_so json n o text line is e = subst (λ (x : Option Attempt). IsLineOf json n x text line) (sym is) e

-- one more of those that are under way
pub one_running : (json : Bool) (text : List ℕ) (o : Option Attempt) (rest : List Attempt) → fold (with_more json) (with_running json text o) rest ≡ fold (with_more json) text (cons_option o rest)
one_running json text None rest = refl
one_running json text (Some a) rest = refl

more_behind : (json : Bool) (x : ℕ) (xs : List ℕ) (a : Attempt) → with_more json (x ∷ xs) a ≡ (x ∷ xs) ++ (separator json ++ attempt_word json a)
more_behind json x xs a =
    let some : (length (x ∷ xs) == 0) ≡ false = grind (arith, nat_tests) in
    rw some refl

-- what stands behind the first one
tail : Bool → List Attempt → List ℕ
tail json [] = []
tail json (a ∷ rest) = (separator json ++ attempt_word json a) ++ tail json rest

behind : (json : Bool) (x : ℕ) (xs : List ℕ) (rest : List Attempt) → fold (with_more json) (x ∷ xs) rest ≡ (x ∷ xs) ++ tail json rest
unfolding tail
behind json x xs [] = sym (append-nil (x ∷ xs))
behind json x xs (a ∷ rest) =
    ap (λ (text : List ℕ). fold (with_more json) text rest) (more_behind json x xs a)
    ∙ behind json x (xs ++ (separator json ++ attempt_word json a)) rest
    ∙ append_assoc (x ∷ xs) (separator json ++ attempt_word json a) (tail json rest)

joined : (json : Bool) (a : Attempt) (rest : List Attempt) → running_text json (a ∷ rest) ≡ attempt_word json a ++ tail json rest
unfolding tail
joined json a [] = sym (append-nil (attempt_word json a))
joined json a (b ∷ rest) = ap (λ (text : List ℕ). attempt_word json a ++ (between json ∷ text)) (joined json b rest)

pub running_is : (json : Bool) (attempts : List Attempt) → fold (with_more json) [] attempts ≡ running_text json attempts
running_is json [] = refl
running_is true (a ∷ rest) = behind true 34 (attempt_text a ++ codes "\"") rest ∙ sym (joined true a rest)
running_is false (a ∷ rest) = behind false 97 (codes "ttempt" ++ (95 ∷ join_with_byte 95 (attempt_fields a))) rest ∙ sym (joined false a rest)

pub line_more : (json : Bool) (job : Job) (rs : List Record) (n : ℕ) (front line text : List ℕ) → AreTaskLines json job rs n front → IsTaskLine json job rs n line → text ≡ front ++ line → AreTaskLines json job rs (n + 1) text
line_more json job rs n front line text first more e = subst (λ (m : ℕ). AreTaskLines json job rs m text) (sym (add-one n)) (front, line, e, first, more)

-- the folder of the decision was synced, and nothing behind that
pub synced_last : (old mid new : Directory) (answer : Answer) (r : Result Bool Fault) → calls_of mid ≡ calls_of old ++ (SyncFolder Home, answer) ∷ [] → Keeps mid new
    → IfOk r (λ synced. answer ≡ Says Done) → IfOk r (λ decided. decided ≡ true → SyncsLast new)
synced_last old mid new answer (Ok x) noted k done = λ t. (calls_of old, k.0 ∙ noted ∙ ap (λ (a : Answer). calls_of old ++ (SyncFolder Home, a) ∷ []) done)
synced_last old mid new answer (Err f) noted k done = tt

pub shown : (json : Bool) (old read new : Directory) (rs : List Record) (tasks : List ℕ) (marker decided : Bool) (a : Answered) → Reads old read (Ok rs) → AreTaskLines json read.job rs read.job.tasks tasks
    → (decided ≡ true → SyncsLast new) → string_bytes a.output ≡ tasks ++ whole_text json read.job rs marker decided → string_bytes a.message ≡ [] → a.status ≡ 0 → IsShown json old new a
shown json old read new rs tasks marker decided a reads lines durable prints says ends = record {
  records = rs;
  read = read;
  reads = reads;
  tasks = tasks;
  lines = subst (λ (job : Job). AreTaskLines json job rs job.tasks tasks) reads.1 lines;
  marker = marker;
  decided = decided;
  durable = durable;
  prints = subst (λ (job : Job). string_bytes a.output ≡ tasks ++ whole_text json job rs marker decided) reads.1 prints;
  says = says;
  ends = ends;
}

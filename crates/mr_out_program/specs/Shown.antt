-- What `status` shows of a job: a line a task, and the whole. Our own.
use Rattle.std.specs.Prelude.{◌≡◌, ◌==◌, ℕ, zero, suc, length, Bool, true, ◌&&◌, is_some, List, [], ◌∷◌, ◌++◌, map, codes, decimal, Option, Some, None, Ok, if◌then◌else◌}
use Rattle.std.specs.String.{string_bytes}
use Rattle.std.specs.List.{filter_map, join_with_byte}
use Rattle.mr_ids.specs.Attempt.{Attempt}
use Rattle.mr_ids.specs.Text.{job_text, attempt_text}
use Rattle.mr_ids.specs.declared.id.TaskId.{TaskId}
use Rattle.mr_history.specs.declared.record.Record.{Record}
use Rattle.mr_history.specs.declared.record.Record.TheVariants.{AttemptStarted}
use Rattle.mr_history.specs.Winner.{winner_in}
use Rattle.mr_out_layout.specs.Jobs.{flag_text}
use Rattle.mr_out_layout.specs.declared.job.Job.{Job}
use Rattle.mr_out_steps.specs.Standing.{task_of, winners, is_over, is_alive_at}
use Rattle.mr_out_disk.specs.declared.place.Folder.TheVariants.{Home}
use Rattle.mr_out_disk.specs.declared.call.Call.{Call}
use Rattle.mr_out_disk.specs.declared.call.Call.TheVariants.{SyncFolder}
use Rattle.mr_out_disk.specs.declared.answer.Answer.{Answer}
use Rattle.mr_out_disk.specs.declared.answer.Answer.TheVariants.{Says}
use Rattle.mr_out_disk.specs.declared.answer.Reply.TheVariants.{Done}
use Rattle.mr_out_files.specs.declared.directory.Directory.{Directory}
use Rattle.mr_out_files.specs.Made.{calls_of}
use Rattle.mr_out_program.specs.declared.answering.Answered.{Answered}
use Rattle.mr_out_program.specs.Asking.{won_line}
use Rattle.mr_out_program.specs.Sayings.{yes_or_no, outcome_word}
use Rattle.mr_out_program.specs.Turns.{Reads}

-- ---- who is under way at a task

-- the attempt whose start a record tells, if it is under way
abbrev pub started_alive : List Record → TaskId → Record → Option Attempt
started_alive rs t (AttemptStarted a node) = if is_alive_at rs t (AttemptStarted a node) then Some a else None
started_alive rs t _ = None

-- all of them, the first one first; nobody, once the job is over
abbrev pub running : List Record → TaskId → List Attempt
running rs t = if is_over rs then [] else filter_map (started_alive rs t) rs

-- in JSON each is a text
abbrev pub attempt_word : Bool → Attempt → List ℕ
attempt_word json a = if json then codes "\"" ++ (attempt_text a ++ codes "\"") else attempt_text a

-- a comma between each two, or a blank
abbrev pub between : Bool → ℕ
between json = if json then 44 else 32

abbrev pub running_text : Bool → List Attempt → List ℕ
running_text json attempts = join_with_byte (between json) (map (attempt_word json) attempts)

-- ---- the line of a task

abbrev pub state_word : List ℕ → List ℕ
state_word text = if length text == 0 then codes "waiting" else codes "running"

abbrev pub unwon_text : ℕ → List ℕ → List ℕ
unwon_text n text = if length text == 0 then decimal n ++ codes " waiting\n" else decimal n ++ (codes " running " ++ (text ++ codes "\n"))

unfoldable pub unwon_line : Bool → ℕ → List ℕ → List ℕ
unwon_line json n text =
    if json then codes "{\"task\":" ++ (decimal n ++ (codes ",\"state\":\"" ++ (state_word text ++ (codes "\",\"attempts\":[" ++ (text ++ codes "]}\n")))))
    else unwon_text n text

-- its winner with so many bytes, or who is under way
abbrev pub IsLineOf : Bool → ℕ → Option Attempt → List ℕ → List ℕ → Type 0
IsLineOf json n (Some a) text line = (bytes : ℕ) × (line ≡ won_line json n a bytes)
IsLineOf json n None text line = line ≡ unwon_line json n text

abbrev pub IsTaskLine : Bool → Job → List Record → ℕ → List ℕ → Type 0
IsTaskLine json job rs n line = IsLineOf json n (winner_in rs (task_of job.id n)) (running_text json (running rs (task_of job.id n))) line

-- those of the first n tasks
abbrev pub AreTaskLines : Bool → Job → List Record → ℕ → List ℕ → Type 0
AreTaskLines json job rs zero text = text ≡ []
AreTaskLines json job rs (suc n) text = (front : List ℕ) × (line : List ℕ) × (text ≡ front ++ line) × AreTaskLines json job rs n front × IsTaskLine json job rs n line

-- ---- the whole

-- of a job that is held, whether it was decided to publish it
abbrev pub hold_line : Bool → Bool → List ℕ
hold_line hold decided = if hold then codes "publish " ++ (yes_or_no decided ++ codes "\n") else []

abbrev pub outcome_of : Job → List Record → Bool → List ℕ
outcome_of job rs marker = outcome_word (is_over rs) (is_some (winners job.id rs job.tasks) && marker)

abbrev pub whole_object : Job → Bool → Bool → List ℕ → List ℕ
whole_object job marker decided outcome =
    codes "{\"job\":\"" ++ (job_text job.id ++ (codes "\",\"hold\":" ++ (flag_text job.hold ++ (codes ",\"publish\":" ++ (flag_text decided
    ++ (codes ",\"marker\":" ++ (flag_text marker ++ (codes ",\"outcome\":\"" ++ (outcome ++ codes "\"}\n")))))))))

abbrev pub whole_lines : Bool → Bool → Bool → List ℕ → List ℕ
whole_lines hold marker decided outcome = hold_line hold decided ++ (codes "marker " ++ (yes_or_no marker ++ (codes "\noutcome " ++ (outcome ++ codes "\n"))))

abbrev pub whole_text : Bool → Job → List Record → Bool → Bool → List ℕ
whole_text json job rs marker decided =
    if json then whole_object job marker decided (outcome_of job rs marker) else whole_lines job.hold marker decided (outcome_of job rs marker)

-- the folder of the decision was synced last
abbrev pub SyncsLast : Directory → Type 0
SyncsLast d = (front : List (Call × Answer)) × (calls_of d ≡ front ++ (SyncFolder Home, Says Done) ∷ [])

-- The history was read and then synced, and by these records it is told. Whether the marker is there is as it was found; that it was decided to publish is
-- told once that is durable.
pub record IsShown (json : Bool) (old new : Directory) (a : Answered) : Type 0 where
  pub records : List Record
  pub read : Directory
  pub reads : Reads old read (Ok records)
  pub tasks : List ℕ
  pub lines : AreTaskLines json old.job records old.job.tasks tasks
  pub marker : Bool
  pub decided : Bool
  pub durable : decided ≡ true → SyncsLast new
  pub prints : string_bytes a.output ≡ tasks ++ whole_text json old.job records marker decided
  pub says : string_bytes a.message ≡ []
  pub ends : a.status ≡ 0

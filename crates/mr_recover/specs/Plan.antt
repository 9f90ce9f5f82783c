-- The recovery plan: what a master that starts does with the work of the masters before it, by the marks in the staging folder and the
-- records of the history. A job commit which began and left no outcome failed, and is not resumed, as Hadoop's application master has it (a
-- committer whose job commit is not repeatable). Our own profile is that a later master reports the outcome of an earlier one's mark, and
-- that a reduce's winner is taken over with its length.
use Rattle.std.specs.Prelude.{◌≡◌, Bool, true, false, ◌||◌, nat_eq, nat_lt, List, [], ◌∷◌, Option, Some, None, if◌then◌else◌}
use Rattle.std.specs.List.{find}
use Rattle.std.specs.Option.{option_map}
use Rattle.mr_ids.specs.Same.{same_task, same_kind}
use Rattle.mr_ids.specs.declared.id.TaskId.{TaskId}
use Rattle.mr_ids.specs.declared.id.TaskKind.{TaskKind}
use Rattle.mr_ids.specs.declared.id.TaskKind.TheVariants.{Map, Reduce}
use Rattle.mr_history.specs.declared.record.Record.{Record}
use Rattle.mr_history.specs.Winner.{winner_in, length_in}
use Rattle.mr_recover.specs.declared.winner.TaskWinner.{TaskWinner}
use Rattle.mr_recover.specs.declared.plan.Staging.{Staging}
use Rattle.mr_recover.specs.declared.plan.Recovery.{Recovery}
use Rattle.mr_recover.specs.declared.plan.Recovery.TheVariants.{Resume, Succeeded, Failed}

-- ---- winners

-- the winner of task t, with the length that its record tells
abbrev pub winner_of : List Record → TaskId → Option TaskWinner
winner_of rs t = option_map (λ a. record { task = t; attempt = a; bytes = length_in rs t }) (winner_in rs t)

abbrev pub with_first : Option TaskWinner → List TaskWinner → List TaskWinner
with_first None ws = ws
with_first (Some w) ws = w ∷ ws

-- the winners of some tasks, in the order of these
abbrev pub winners_among : List Record → List TaskId → List TaskWinner
winners_among rs [] = []
winners_among rs (t ∷ ts) = with_first (winner_of rs t) (winners_among rs ts)

-- what a list says of task t
abbrev pub listed : List TaskWinner → TaskId → Option TaskWinner
listed ws t = find (λ (w : TaskWinner). same_task w.task t) ws

-- ---- the order of tasks: by job, maps first, by number

abbrev pub kind_before : TaskKind → TaskKind → Bool
kind_before Map Reduce = true
kind_before Map Map = false
kind_before Reduce k = false

-- whether a pair comes before another: by the first of the two, then by the second
abbrev pub then_by : (is_before is_same next : Bool) → Bool
then_by is_before is_same next = is_before || (if is_same then next else false)

abbrev pub before : TaskId → TaskId → Bool
before t u =
    then_by (nat_lt t.job.start u.job.start) (nat_eq t.job.start u.job.start) (
    then_by (nat_lt t.job.number u.job.number) (nat_eq t.job.number u.job.number) (
    then_by (kind_before t.kind u.kind) (same_kind t.kind u.kind) (
    nat_lt t.number u.number)))

-- t comes before the first of them
abbrev pub ComesBefore : TaskId → List TaskWinner → Type 0
ComesBefore t [] = Unit {0}
ComesBefore t (w ∷ ws) = before t w.task ≡ true

-- each comes before the next
abbrev pub IsRising : List TaskWinner → Type 0
IsRising [] = Unit {0}
IsRising (w ∷ ws) = ComesBefore w.task ws × IsRising ws

-- ---- the plan

-- Exactly the winners of the records, each with its length, by rising task.
pub record AreWinners (rs : List Record) (ws : List TaskWinner) : Type 0 where
  pub rising : IsRising ws
  pub exact : (t : TaskId) → listed ws t ≡ winner_of rs t

-- The first mark decides; where there is none, the winners are taken over.
abbrev pub Resumes : List Record → Recovery → Type 0
Resumes rs (Resume ws) = AreWinners rs ws
Resumes rs Succeeded = ⊥
Resumes rs Failed = ⊥

abbrev pub PlansBy : (has_succeeded has_begun : Bool) → List Record → Recovery → Type 0
PlansBy true has_begun rs plan = plan ≡ Succeeded
PlansBy false true rs plan = plan ≡ Failed
PlansBy false false rs plan = Resumes rs plan

abbrev pub IsPlan : List Record → Staging → Recovery → Type 0
IsPlan rs staging plan = PlansBy staging.success (staging.fail || staging.started) rs plan

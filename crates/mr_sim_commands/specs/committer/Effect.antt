-- What a command of a script answers, and what it leaves. The committer's part is the committer effect: setupJob,
-- commitTask, abortTask, recoverTask, commitJob, abortJob and needsTaskCommit of the Hadoop OutputCommitter API, with FileOutputCommitter's algorithm
-- version 1 and `checkOutputSpecs`. Fence, bars and generations are our own profile.
use Rattle.std.specs.Prelude.{◌≡◌, ℕ, Bool, true, false, List, [], ◌∷◌, ◌++◌, None, Result, Ok, Err, codes}
use Rattle.mr_ids.specs.Attempt.{Attempt}
use Rattle.mr_paths.specs.Layout.{task_attempt, part}
use Rattle.mr_names.specs.declared.fault.NameFault.{NameFault}
use Rattle.mr_names.specs.declared.op.Caller.{Caller}
use Rattle.mr_names.specs.declared.op.Op.{Op}
use Rattle.mr_names.specs.declared.op.Op.TheVariants as op
use Rattle.mr_names.specs.declared.op.Answer.{Answer}
use Rattle.mr_names.specs.Calls.{State, opening, raised, call_of}
use Rattle.mr_commit.specs.declared.fault.CommitFault.{CommitFault}
use Rattle.mr_commit.specs.declared.fault.CommitFault.TheVariants as fault
use Rattle.mr_commit.specs.Line.{fault_of}
use Rattle.mr_commit.specs.Tables.{setup_job, commit_task, abort_task, commit_job, abort_job}
use Rattle.mr_commit.specs.Recovery.{recovered, recover_task}
use Rattle.mr_commit.specs.CommitterEffect.{whole, has_output, checked}
use Rattle.mr_sim_commands.specs.declared.committer.command.ScriptCommand.{ScriptCommand}
use Rattle.mr_sim_commands.specs.declared.committer.command.ScriptCommand.TheVariants.{As, Raise, Check, Setup, Write, Needs, Commit, Abort, Recover, CommitJob, AbortJob, Bar, By}
use Rattle.mr_sim_commands.specs.declared.committer.scene.Scene.{Scene}
use Rattle.mr_sim_commands.specs.declared.committer.scene.Reply.{Reply}
use Rattle.mr_sim_commands.specs.declared.committer.scene.Reply.TheVariants.{Silent, Yes, No}

-- the destination of a script's job
abbrev pub out : List (List ℕ)
out = codes "out" ∷ []

-- before the first command: an empty namespace with fence 0 where no attempt is barred, and the master of generation 1 as the caller
abbrev pub start : Scene
start = record { names = opening; caller = record { app = 1; attempt = None } }

-- ---- the calls of a write

-- the answer of one call
abbrev pub done : Result (Unit {0}) NameFault → Result (Unit {0}) CommitFault
done (Ok x) = Ok tt
done (Err f) = Err (fault_of f)

-- an answered call goes on, a refused one ends all
abbrev pub then_on : Result Answer NameFault → State → (State → Result (Unit {0}) CommitFault × State) → Result (Unit {0}) CommitFault × State
then_on (Ok a) t on = on t
then_on (Err f) t on = (Err (fault_of f), t)

-- calls made in turn until one is refused: what those before it did stays
abbrev pub in_turn : List Op → State → Caller → Result (Unit {0}) CommitFault × State
in_turn [] s caller = (Ok tt, s)
in_turn (call ∷ calls) s caller = then_on (call_of s caller call).0 (call_of s caller call).1 (λ t. in_turn calls t caller)

-- the part file of an attempt
abbrev pub part_file : List (List ℕ) → ℕ → Attempt → List (List ℕ)
part_file dest k a = task_attempt dest k a ++ part a.task.number ∷ []

-- a folder is made, and a file created, filled and closed
abbrev pub puts : List (List ℕ) → List (List ℕ) → List ℕ → List Op
puts folder file bytes = op.Mkdirs folder ∷ op.Create file false ∷ op.Append file bytes ∷ op.Close file ∷ []

-- an attempt writes its part file: a text and a line feed
abbrev pub writes : List (List ℕ) → ℕ → Attempt → List ℕ → List Op
writes dest k a text = puts (task_attempt dest k a) (part_file dest k a) (text ++ 10 ∷ [])

-- ---- what is answered

abbrev pub silent : Result (Unit {0}) CommitFault → Result Reply CommitFault
silent (Ok done) = Ok Silent
silent (Err f) = Err f

abbrev pub reply_of : Bool → Reply
reply_of true = Yes
reply_of false = No

abbrev pub told : Result Bool CommitFault → Result Reply CommitFault
told (Ok b) = Ok (reply_of b)
told (Err f) = Err f

-- the same caller at another namespace
abbrev pub at_names : Scene → State → Scene
at_names s t = record s { names = t }

abbrev pub by_calls : Scene → Result (Unit {0}) CommitFault × State → Result Reply CommitFault × Scene
by_calls s r = (silent r.0, at_names s r.1)

-- what a command answers, and the scene after it. All paths take the generation that makes the calls.
unfoldable pub outcome : List (List ℕ) → ScriptCommand → Scene → Result Reply CommitFault × Scene
outcome dest (As k) s = (Ok Silent, record s { caller = record s.caller { app = k } })
outcome dest (Raise k) s = (Ok Silent, at_names s (raised s.names k))
outcome dest Check s = (silent (checked dest s.names s.caller), s)
outcome dest Setup s = by_calls s (whole (setup_job dest s.caller.app) s.names s.caller)
outcome dest (Write a text) s = by_calls s (in_turn (writes dest s.caller.app a text) s.names s.caller)
outcome dest (Needs a) s = (told (has_output (call_of s.names s.caller (op.Exists (task_attempt dest s.caller.app a))).0), s)
outcome dest (Commit a) s = by_calls s (whole (commit_task dest s.caller.app a) s.names s.caller)
outcome dest (Abort a) s = by_calls s (whole (abort_task dest s.caller.app a) s.names s.caller)
outcome dest (Recover t bytes) s = by_calls s (recovered (recover_task dest s.caller.app t bytes) s.names s.caller)
outcome dest CommitJob s = by_calls s (whole (commit_job dest s.caller.app) s.names s.caller)
outcome dest AbortJob s = by_calls s (whole (abort_job dest) s.names s.caller)
outcome dest (Bar a) s = by_calls s (in_turn (op.Bar a ∷ []) s.names s.caller)
outcome dest (By who) s = (Ok Silent, record s { caller = record s.caller { attempt = who } })

-- A function carried the command out, but for an allocation failure.
abbrev pub CarriesOut : List (List ℕ) → ScriptCommand → Scene → Result Reply CommitFault → Scene → Type 0
CarriesOut dest c s (Err fault.NoMemory) t = Unit {0}
CarriesOut dest c s r t = outcome dest c s ≡ (r, t)

-- Calls in turn were made, but for an allocation failure.
abbrev pub InTurn : List Op → State → Caller → Result (Unit {0}) CommitFault → State → Type 0
InTurn calls s caller (Err fault.NoMemory) t = Unit {0}
InTurn calls s caller r t = in_turn calls s caller ≡ (r, t)

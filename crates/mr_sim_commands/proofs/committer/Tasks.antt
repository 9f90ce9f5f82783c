-- The word that names a task: it has no space, it is ASCII, and it names no other task.
use Rattle.std.proofs.Common.{◌≡◌, ◌≢◌, ℕ, true, ◌∷◌, ◌++◌}
use Rattle.std.specs.List.{AllByRecursion, list_all}
use Rattle.std.specs.Str.{IsAscii}
use Rattle.mr_ids.specs.declared.id.TaskId.{TaskId}
use Rattle.mr_ids.specs.Text.{numeral, letter, task_text}
use Rattle.mr_ids.proofs.Texts.{task_text_injective}
use Rattle.mr_script.proofs.Attempts.{plain, plain_numeral, plain_letter, more, no_space, ascii}
use Rattle.mr_sim_commands.specs.committer.Script.{task_word}

plain_task : (t : TaskId) → list_all plain (task_text t) ≡ true
plain_task t =
    let d = plain_numeral 6 t.number in
    let c = more (letter t.kind) (95 ∷ numeral 6 t.number) (plain_letter t.kind) d in
    let b = more (numeral 4 t.job.number) (95 ∷ (letter t.kind ++ 95 ∷ numeral 6 t.number)) (plain_numeral 4 t.job.number) c in
    more (numeral 1 t.job.start) (95 ∷ (numeral 4 t.job.number ++ 95 ∷ (letter t.kind ++ 95 ∷ numeral 6 t.number))) (plain_numeral 1 t.job.start) b

pub no_space-task_word : (t : TaskId) → AllByRecursion (λ b. b ≢ 32) (task_word t)
unfolding task_word
no_space-task_word t = no_space (task_text t) (plain_task t)

pub IsAscii-task_word : (t : TaskId) → IsAscii (task_word t)
unfolding task_word
IsAscii-task_word t = ascii (task_text t) (plain_task t)

pub task_word-injective : (t u : TaskId) → task_word t ≡ task_word u → t ≡ u
unfolding task_word
task_word-injective t u e = task_text_injective t u e

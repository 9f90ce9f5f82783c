-- What a line says of a task that is recovered.
use Rattle.std.proofs.Common.{◌≡◌, ◌<◌, ◌^◌, ℕ, List, Some, None, decimal, sym, ap, ◌∙◌}
use Rattle.mr_ids.specs.declared.id.TaskId.{TaskId}
use Rattle.mr_ids.specs.Text.{IsTask}
use Rattle.mr_script.specs.Lines.{before, after}
use Rattle.mr_sim_commands.specs.committer.Script.{task_word, NamesNone}
use Rattle.mr_script.proofs.Words.{before-by, after-by, none-after}
use Rattle.mr_sim_commands.proofs.committer.Tasks.{no_space-task_word}

lacks : (more : List ℕ) → None ≡ Some more → ⊥
lacks more e = absurd (cc)

same : (x y : List ℕ) → Some x ≡ Some y → x ≡ y
same x y e = cc

-- one word, which names no task
pub none_alone : (rest : List ℕ) → after 32 rest ≡ None → ((t : TaskId) → IsTask t → rest ≡ task_word t → ⊥) → NamesNone rest
none_alone rest one none t None h l e = none t h e
none_alone rest one none t (Some bytes) h l e = lacks (decimal bytes) (sym one ∙ ap (after 32) e ∙ after-by 32 (task_word t) (decimal bytes) (no_space-task_word t))

-- a word and more, of which one names nothing
pub none_of_two : (rest word more : List ℕ) → before 32 rest ≡ word → after 32 rest ≡ Some more
    → ((t : TaskId) (bytes : ℕ) → IsTask t → bytes < 2 ^ 32 → word ≡ task_word t → more ≡ decimal bytes → ⊥) → NamesNone rest
none_of_two rest word more w m none t None h l e = lacks more (sym (none-after 32 (task_word t) (no_space-task_word t)) ∙ ap (after 32) (sym e) ∙ m)
none_of_two rest word more w m none t (Some bytes) h l e =
    none t bytes h l (sym w ∙ ap (before 32) e ∙ before-by 32 (task_word t) (decimal bytes) (no_space-task_word t))
    (same more (decimal bytes) (sym m ∙ ap (after 32) e ∙ after-by 32 (task_word t) (decimal bytes) (no_space-task_word t)))

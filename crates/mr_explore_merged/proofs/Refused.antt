-- Nothing is printed of an input that is refused.
use Rattle.std.proofs.Common.{◌≡◌, ◌⊎◌, ℕ, false, List, Option, Some, None, Result, Ok, inl, inr, sym, ap, subst, ◌∙◌}
use Rattle.std.specs.Option.{option_map}
use Rattle.mr_sim_commands.specs.declared.fault.JobTextFault.{JobTextFault}
use Rattle.mr_sim_commands.specs.declared.job.submission.Submission.{Submission}
use Rattle.mr_play.specs.mr_world.specs.Limits.{within}
use Rattle.mr_play.specs.Text.{config_of}
use Rattle.mr_play.proofs.Playing.{one_end, one_play_text_law}
use Rattle.mr_explore.specs.Runs.{CannotStart, Exploring, IsLeftBy, IsRunOf, StartsFrom, newest_in, start_first, with}
use Rattle.mr_explore_merged.specs.declared.question.Question.{Question}
use Rattle.mr_explore_merged.specs.Laws.{MergedOrRefused}
use Rattle.mr_explore_merged.specs.Merged.{IsFullMerged, PrintsMerged, WouldPass}

-- ---- the first master starts, or a limit forbids it

ok_is : (x y : Submission) → ◌≡◌ {A = Result Submission JobTextFault} (Ok x) (Ok y) → x ≡ y
ok_is x y e = cc

one_left : (input : List ℕ) (a b : Exploring) → IsLeftBy input a → IsLeftBy input b → a ≡ b
one_left input a b x y =
    let job = ok_is x.prints.job y.prints.job (sym x.prints.said ∙ y.prints.said) in
    let left = one_end within input x.text y.text x.prints y.prints in
    x.is ∙ ((λ i. record { job = (job i).job; config = config_of (job i); played = left i; past_limit = false; deep = false }) ∙ sym y.is)

not_none : (x : Exploring) → None ≡ Some x → ⊥
not_none x e = cc

starts_not : (e new : Exploring) → newest_in e ≡ 0 → start_first e ≡ None → StartsFrom e new → ⊥
starts_not e new newest none (inl s) = not_none new (sym (ap (option_map (with e)) none) ∙ s.1)
starts_not e new newest none (inr s) = s.0 newest

not_started : (input : List ℕ) (run : Exploring) → IsRunOf input run → CannotStart input → ⊥
not_started input run r c = starts_not c.before run c.newest c.none (subst (λ (e : Exploring). StartsFrom e run) (one_left input r.before c.before r.left c.left) r.starts)

limit_of_a_run : (asked : Question) (input text : List ℕ) → PrintsMerged asked input text → IsFullMerged asked.faults input → WouldPass asked.faults input
limit_of_a_run asked input text p (inl f) = absurd (one_play_text_law.not_full within input p.found.is_run.left.text p.found.is_run.left.prints f)
limit_of_a_run asked input text p (inr (inl c)) = absurd (not_started input p.found.run p.found.is_run c)
limit_of_a_run asked input text p (inr (inr w)) = w

pub merged_or_refused_law : MergedOrRefused
merged_or_refused_law = record {
  not_bad_job = λ asked input text e p h. one_play_text_law.not_bad_job within input p.found.is_run.left.text e p.found.is_run.left.prints h;
  not_bad_line = λ asked input text n p h. one_play_text_law.not_bad_line within input p.found.is_run.left.text n p.found.is_run.left.prints h;
  limit_is_of_a_run = limit_of_a_run;
}

use Rattle.std.proofs.Common.{◌≡◌, ap, ◌∙◌, count_by}
use Rattle.mr_ids.specs.Attempt.{Attempt}
use Rattle.mr_attempt.specs.Table as table
use Rattle.mr_task.specs.declared.attempts.Entry.{Entry}
use Rattle.mr_task.specs.Readings.{seen, is_won, is_live, refusal_of}
use Rattle.mr_task.specs.Steps.{Task, any_won}
use Rattle.mr_task.proofs.Moves.{any-won-is}
use Rattle.mr_task.proofs.Launches.{live-is-counted}
use Rattle.mr_task.proofs.task.TaskMachine.launch_refusal.Goals as goal

pub returns-clause-refusal : goal.returns-clause-refusal
returns-clause-refusal c = λ t k h st.
    let won : c.any_won.result ≡ is_won (seen t k h) = c.any_won.ensures ∙ ap (λ (m : Task). any_won m.attempts) c.self.view_is ∙ any-won-is c.args.self.now t k h st in
    let count : c.live_count.result ≡ count_by (is_live (seen t k h)) (seen t k h).arrived =
    c.live_count.ensures ∙ ap (λ (m : Task). count_by (λ (e : Attempt × Entry). table.is_live e.1.machine.state) m.attempts) c.self.view_is ∙ live-is-counted c.args.self.now t k h st in
    let numbers = ap (λ (m : Task). m.numbered) c.self.view_is ∙ st.numbered in
    c.refusal.ensures.refusal ∙ (λ i. refusal_of (won i) (count i) (numbers i))

use Rattle.std.proofs.Common.{◌≡◌, refl, ◌∙◌, ap, not, Bool, true, false, ◌&&◌, Option, Some, None, is_none}
use Rattle.std.specs.Option.{is_some}
use Rattle.mr_ids.specs.Attempt.{Attempt}
use Rattle.mr_ids.specs.declared.id.TaskId.{TaskId}
use Rattle.mr_task.proofs.Telling.{winner-told}
use Rattle.mr_master_tasks.specs.Progress.{same_kind}
use Rattle.mr_master_tasks.proofs.progress.is_open.Goals as goal

none-by : {A : Type 0} (o : Option A) (b : Bool) → is_some o ≡ not b → b ≡ is_none o
none-by None true e = refl
none-by None false e = e
none-by (Some x) true e = e
none-by (Some x) false e = refl

pub returns : goal.returns
returns c = λ t k calls st.
    let none = none-by c.winner.result c.is_none-none.result c.is_none-none.ensures ∙ ap (λ (o : Option Attempt). is_none o) (c.winner.ensures t k calls st ∙ winner-told t k calls) in
    let kind = c.same_kind-is_kind.ensures ∙ ap (λ (u : TaskId). same_kind u.kind c.args.kind) (c.task.ensures ∙ st.task) in
    c.both.ensures ∙ (λ i. kind i && none i)

use Rattle.std.proofs.Common.{◌≡◌, Bool, true, false, Some, None, if◌then◌else◌, sym, ap, ◌∙◌}
use Rattle.mr_attempt.specs.Table as table
use Rattle.mr_attempt.specs.declared.state.AttemptState.{AttemptState}
use Rattle.mr_grant.specs.Attempts.{has}
use Rattle.mr_task.specs.Readings.{seen, state_of}
use Rattle.mr_task.proofs.Telling.{live-told}
use Rattle.mr_master_tasks.proofs.tasks.is_live.Goals as goal

some-if : (b : Bool) (x y : AttemptState) → Some x ≡ (if b then Some y else None) → x ≡ y
some-if true x y e = cc
some-if false x y e = cc

pub returns-in-Some : goal.returns-in-Some
returns-in-Some c = λ t k calls st.
    let e = some-if (has (seen t k calls).arrived c.args.attempt) c.in-Some.state (state_of t k calls c.args.attempt) (c.in-Some.ensures t k calls st) in
    c.is_live.ensures ∙ ap table.is_live e ∙ sym (live-told t k calls c.args.attempt)

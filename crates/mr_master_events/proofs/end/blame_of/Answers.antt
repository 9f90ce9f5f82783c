use Rattle.std.proofs.Common.{true, false, ◌&&◌, ◌+◌, not, nat_le, sym, ◌∙◌, ap}
use Rattle.mr_task.specs.Readings as task
use Rattle.mr_master_model.specs.declared.setting.Setting.{Setting}
use Rattle.mr_master_model.specs.Readings.{is_live, of_task}
use Rattle.mr_master_events.specs.inner.Ends.{is_last_of}
use Rattle.mr_master_events.proofs.Ends.{nobodys, whose}
use Rattle.mr_master_state.proofs.Keeping.{held}
use Rattle.mr_master_state.specs.mr_master_tasks.proofs.Keeping.{read-at}
use Rattle.mr_master_events.proofs.end.blame_of.Goals as goal

pub returns-then-not-is_failure : goal.returns-then-not-is_failure
returns-then-not-is_failure c = λ w s keeps. nobodys w s c.args.attempt c.args.end.now (ap (λ b. b && is_live w s c.args.attempt) (sym c.is_failure.ensures ∙ c.if-not-is_failure.true))

pub returns-then-not-is_live_at : goal.returns-then-not-is_live_at
returns-then-not-is_live_at c = λ w s keeps.
    let a = c.args.attempt in
    let live = read-at _ w s.calls a.task c.args.place (λ t n calls. task.is_live (task.seen t n calls) a) c.is_live_at.result (held c.master.view_is keeps).tasks (c.requires.own w s keeps) (c.requires.at w s keeps) c.is_live_at.ensures in
    nobodys w s a c.args.end.now (λ i. (sym c.is_failure.ensures ∙ c.if-not-is_failure.false) i && (sym live ∙ c.if-not-is_live_at.true) i)

pub returns-then-would_spend : goal.returns-then-would_spend
returns-then-would_spend c = λ w s keeps.
    let a = c.args.attempt in
    let k = held c.master.view_is keeps in
    let limit = c.master.inside.setting.limit in
    let live = read-at _ w s.calls a.task c.args.place (λ t n calls. task.is_live (task.seen t n calls) a) c.is_live_at.result k.tasks (c.requires.own w s keeps) (c.requires.at w s keeps) c.is_live_at.ensures in
    let spent = read-at _ w s.calls a.task c.args.place
    (λ t n calls. task.is_live (task.seen t n calls) a && (not (task.is_won (task.seen t n calls)) && nat_le limit (task.failures (task.seen t n calls) + 1)))
    c.would_spend.result k.tasks (c.requires.own w s keeps) (c.requires.at w s keeps) c.would_spend.ensures
    ∙ ap (λ (v : Setting). is_live w s a && is_last_of v (of_task w s a.task)) k.setting in
    whose w s a c.args.end.now true (sym c.is_failure.ensures ∙ c.if-not-is_failure.false) (sym live ∙ c.if-not-is_live_at.false) (sym spent ∙ c.if-would_spend.true)

pub returns-else-would_spend : goal.returns-else-would_spend
returns-else-would_spend c = λ w s keeps.
    let a = c.args.attempt in
    let k = held c.master.view_is keeps in
    let limit = c.master.inside.setting.limit in
    let live = read-at _ w s.calls a.task c.args.place (λ t n calls. task.is_live (task.seen t n calls) a) c.is_live_at.result k.tasks (c.requires.own w s keeps) (c.requires.at w s keeps) c.is_live_at.ensures in
    let spent = read-at _ w s.calls a.task c.args.place
    (λ t n calls. task.is_live (task.seen t n calls) a && (not (task.is_won (task.seen t n calls)) && nat_le limit (task.failures (task.seen t n calls) + 1)))
    c.would_spend.result k.tasks (c.requires.own w s keeps) (c.requires.at w s keeps) c.would_spend.ensures
    ∙ ap (λ (v : Setting). is_live w s a && is_last_of v (of_task w s a.task)) k.setting in
    whose w s a c.args.end.now false (sym c.is_failure.ensures ∙ c.if-not-is_failure.false) (sym live ∙ c.if-not-is_live_at.false) (sym spent ∙ c.if-would_spend.false)

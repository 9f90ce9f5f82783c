use Rattle.std.proofs.Common.{◌≡◌, ◌<◌, ◌∙◌, ap, List, ◌++◌, arith, ℕ}
use Rattle.std.specs.List.{flat_map}
use Rattle.mr_ids.specs.declared.id.TaskId.{TaskId}
use Rattle.mr_packet.specs.declared.packet.Envelope.{Envelope}
use Rattle.mr_master_model.specs.declared.setting.Setting.{Setting}
use Rattle.mr_master_model.specs.Job.{count_of, first_tasks, task_of}
use Rattle.mr_master_state.specs.Kills.{kills_but}
use Rattle.mr_master_state.proofs.Keeping.{held}
use Rattle.mr_master_state.proofs.Gathering.{next-task, no-task}
use Rattle.mr_master_state.proofs.Others.{of-job-once}
use Rattle.mr_master_state.proofs.machine.Machine.push_all_kills_but.Goals as goal

pub loop-number-init : goal.loop-number-init
loop-number-init c = λ w s keeps. no-task w c.args.kind (kills_but w s c.args.ended.now) c.args.packets.now.items

pub loop-number-preserved : goal.loop-number-preserved
loop-number-preserved c = λ w s keeps. let k = held c.self.view_is keeps in
    let a = c.args.ended.now in
    let n = c.loop-number.number in
    let total = c.count_of-count.ensures ∙ ap (λ (v : Setting). count_of v c.args.kind) k.setting in
    let within : n < count_of w c.args.kind = omega (arith, total, c.loop-number-test.true) in
    next-task w c.args.kind (kills_but w s a) n c.args.packets.now.items c.loop-number.packets.items c.push_kills_but.new.packets.items within (c.loop-number.invariant w s keeps)
    (c.in_ok-push_kills_but.ensures w s keeps
    ∙ ap (λ (v : Setting). let t : TaskId = record { job = v.job; kind = c.args.kind; number = n } in c.loop-number.packets.items ++ kills_but w s a t) k.setting
    ∙ ap (λ (l : List Envelope). c.loop-number.packets.items ++ l) (of-job-once w s a (task_of w c.args.kind n)))

pub returns : goal.returns
returns c = λ w s keeps.
    let total = c.count_of-count.ensures ∙ ap (λ (v : Setting). count_of v c.args.kind) (held c.self.view_is keeps).setting in
    let all : c.loop-number.number ≡ count_of w c.args.kind = omega (arith, total, c.loop-number-test.false, c.loop-number.auto.number-end) in
    c.loop-number.invariant w s keeps ∙ ap (λ (n : ℕ). c.args.packets.now.items ++ flat_map (kills_but w s c.args.ended.now) (first_tasks w c.args.kind n)) all

use Rattle.std.proofs.Common.{◌<◌, ◌∙◌, ap, ◌++◌, arith}
use Rattle.mr_ids.specs.declared.id.TaskId.{TaskId}
use Rattle.mr_master_model.specs.declared.setting.Setting.{Setting}
use Rattle.mr_master_model.specs.Job.{count_of}
use Rattle.mr_master_tables.specs.Gone.{gone_of, of_job}
use Rattle.mr_master_state.proofs.Keeping.{held}
use Rattle.mr_master_state.proofs.Gathering.{next-task, no-task}
use Rattle.mr_master_state.proofs.On_nodes.{up-to, kept-gone}
use Rattle.mr_master_state.proofs.machine.Machine.push_all_gone.Goals as goal

pub loop-init : goal.loop-init
loop-init c = record {
  passed = omega arith;
  within = omega arith;
  adds = λ w s keeps. no-task w c.args.kind (gone_of w s c.args.gone.now) c.args.attempts.now.items;
}

pub returns-in_default : goal.returns-in_default
returns-in_default c = λ w s keeps. let k = held c.self.view_is keeps in
    let g = c.args.gone.now in
    let total = c.count_of-count.ensures ∙ ap (λ (v : Setting). count_of v c.args.kind) k.setting in
    let within = c.loop.invariant.within in
    up-to w c.args.kind (gone_of w s g) c.loop.from (count_of w c.args.kind) c.args.attempts.now.items c.loop.attempts.items (omega arith) (c.loop.invariant.adds w s keeps)
    (λ j high low. kept-gone _ w s g c.args.kind c.node.result j k c.node.ensures (c.in_default.ensures.none j high))

pub returns-then-number-count : goal.returns-then-number-count
returns-then-number-count c = λ w s keeps. let k = held c.self.view_is keeps in
    let g = c.args.gone.now in
    let total = c.count_of-count.ensures ∙ ap (λ (v : Setting). count_of v c.args.kind) k.setting in
    let within = c.loop.invariant.within in
    let past = c.if-number-count.true in
    up-to w c.args.kind (gone_of w s g) c.loop.from (count_of w c.args.kind) c.args.attempts.now.items c.loop.attempts.items (omega arith) (c.loop.invariant.adds w s keeps)
    (λ j high low. kept-gone _ w s g c.args.kind c.node.result j k c.node.ensures (c.in-Some.ensures.first j high (omega arith)))

pub loop-preserved : goal.loop-preserved
loop-preserved c =
    let n = c.in-Some.number in
    let behind = c.in-Some.ensures.from in
    let passed = c.loop.invariant.passed in
    let below = c.if-number-count.false in
    record {
      passed = omega arith;
      within = omega arith;
      adds = λ w s keeps. let k = held c.self.view_is keeps in
          let g = c.args.gone.now in
          let total = c.count_of-count.ensures ∙ ap (λ (v : Setting). count_of v c.args.kind) k.setting in
          let within : n < count_of w c.args.kind = omega arith in
          next-task w c.args.kind (gone_of w s g) n c.args.attempts.now.items c.loop.attempts.items c.push_gone.new.attempts.items within
          (up-to w c.args.kind (gone_of w s g) c.loop.from n c.args.attempts.now.items c.loop.attempts.items behind (c.loop.invariant.adds w s keeps)
          (λ j high low. kept-gone _ w s g c.args.kind c.node.result j k c.node.ensures (c.in-Some.ensures.first j high low)))
          (c.in_ok-push_gone.ensures w s keeps
          ∙ ap (λ (v : Setting). let t : TaskId = record { job = v.job; kind = c.args.kind; number = n } in c.loop.attempts.items ++ of_job w t (gone_of w s g t)) k.setting);
    }

use Rattle.std.proofs.Common.{◌∙◌, ap, ◌++◌, arith}
use Rattle.mr_ids.specs.declared.id.TaskId.{TaskId}
use Rattle.mr_ids.specs.declared.id.TaskKind.TheVariants.{Map}
use Rattle.mr_master_model.specs.declared.setting.Setting.{Setting}
use Rattle.mr_master_tables.specs.Gone.{lost_of}
use Rattle.mr_master_state.proofs.Keeping.{held}
use Rattle.mr_master_state.proofs.Gathering.{no-task}
use Rattle.mr_master_state.proofs.Losing.{next-map}
use Rattle.mr_master_state.proofs.On_nodes.{up-to}
use Rattle.mr_master_state.proofs.machine.Machine.push_all_lost.Goals as goal

pub loop-init : goal.loop-init
loop-init c = record {
  passed = omega arith;
  within = omega arith;
  adds = λ w s keeps. no-task w Map (lost_of w s c.args.gone.now) c.args.attempts.now.items;
}

pub returns-in_default : goal.returns-in_default
returns-in_default c = λ w s keeps.
    let total = ap (λ (v : Setting). v.maps) (held c.self.view_is keeps).setting in
    let within = c.loop.invariant.within in
    up-to w Map (lost_of w s c.args.gone.now) c.loop.from w.maps c.args.attempts.now.items c.loop.attempts.items (omega arith) (c.loop.invariant.adds w s keeps)
    (λ j high low. c.in_default.ensures.none j high w s keeps)

pub returns-then-number-count : goal.returns-then-number-count
returns-then-number-count c = λ w s keeps.
    let total = ap (λ (v : Setting). v.maps) (held c.self.view_is keeps).setting in
    let within = c.loop.invariant.within in
    let past = c.if-number-count.true in
    up-to w Map (lost_of w s c.args.gone.now) c.loop.from w.maps c.args.attempts.now.items c.loop.attempts.items (omega arith) (c.loop.invariant.adds w s keeps)
    (λ j high low. c.in-Some.ensures.first j high (omega arith) w s keeps)

pub loop-preserved : goal.loop-preserved
loop-preserved c =
    let n = c.in-Some.number in
    let behind = c.in-Some.ensures.from in
    let passed = c.loop.invariant.passed in
    let below = c.if-number-count.false in
    record {
      passed = omega arith;
      within = omega arith;
      adds = λ w s keeps.
          let g = c.args.gone.now in
          next-map w (lost_of w s g) n c.args.attempts.now.items c.loop.attempts.items c.push_lost.new.attempts.items
          (up-to w Map (lost_of w s g) c.loop.from n c.args.attempts.now.items c.loop.attempts.items behind (c.loop.invariant.adds w s keeps) (λ j high low. c.in-Some.ensures.first j high low w s keeps))
          (c.in_ok-push_lost.ensures w s keeps
          ∙ ap (λ (v : Setting). let t : TaskId = record { job = v.job; kind = Map; number = n } in c.loop.attempts.items ++ lost_of w s g t) (held c.self.view_is keeps).setting);
    }

use Rattle.std.proofs.Common.{◌≤◌, ◌∙◌, ap, length, List, ◌++◌, arith}
use Rattle.mr_ids.specs.Attempt.{Attempt}
use Rattle.mr_master_state.proofs.Gathering.{gone-all}
use Rattle.mr_master_state.proofs.machine.Machine.push_gone.Goals as goal

pub returns : goal.returns
returns c = λ w s keeps.
    let all : length c.in_ok-live.live.items ≤ c.loop-i.i = omega (arith, c.len-i-end.ensures, c.in_ok-live.live.ok.0, c.loop-i-test.false) in
    c.loop-i.invariant w s keeps ∙ ap (λ (l : List Attempt). c.args.attempts.now.items ++ l)
    (gone-all w s c.args.gone.now c.args.task c.in_ok-live.live.items c.loop-i.i all (c.in_ok-live.ensures w s keeps))

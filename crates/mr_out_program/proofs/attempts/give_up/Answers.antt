use Rattle.mr_out_program.specs.Turns.{IsFail}
use Rattle.mr_out_program.proofs.Turning.{turns_both}
use Rattle.mr_out_program.proofs.attempts.give_up.Goals as goal

pub returns-in_err-give_up_one : goal.returns-in_err-give_up_one
returns-in_err-give_up_one c = turns_both IsFail c.args.directory.now c.loop.directory c.give_up_one.new.directory c.loop.invariant c.give_up_one.ensures

pub returns-then-not-branch : goal.returns-then-not-branch
returns-then-not-branch c = turns_both IsFail c.args.directory.now c.loop.directory c.give_up_one.new.directory c.loop.invariant c.give_up_one.ensures

pub loop-preserved : goal.loop-preserved
loop-preserved c = turns_both IsFail c.args.directory.now c.loop.directory c.give_up_one.new.directory c.loop.invariant c.give_up_one.ensures

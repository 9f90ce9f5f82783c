use Rattle.mr_out_program.proofs.Outputs.{attempt_told, publish_told, abort_told}
use Rattle.mr_out_program.proofs.answering.carried.Goals as goal

pub returns-in_ok-open-in-Attempt : goal.returns-in_ok-open-in-Attempt
returns-in_ok-open-in-Attempt c =
    attempt_told c.args.asked.now.command c.in-Attempt.task c.in-Attempt.over c.in_ok-open-in-Attempt.field-0 c.attempt.new.directory c.attempt.result c.in-Attempt.is c.in_ok-open-in-Attempt.ensures c.attempt.ensures

pub returns-in_ok-open-in-Publish : goal.returns-in_ok-open-in-Publish
returns-in_ok-open-in-Publish c =
    publish_told c.args.asked.now.command c.in_ok-open-in-Publish.field-0 c.publish.new.directory c.publish.result c.in-Publish.is c.in_ok-open-in-Publish.ensures c.publish.ensures

pub returns-in_ok-open-in-Abort : goal.returns-in_ok-open-in-Abort
returns-in_ok-open-in-Abort c =
    abort_told c.args.asked.now.command c.in_ok-open-in-Abort.field-0 c.abort.new.directory c.abort.result c.in-Abort.is c.in_ok-open-in-Abort.ensures c.abort.ensures

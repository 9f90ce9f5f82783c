use Rattle.mr_out_program.specs.Turns.{IsFail}
use Rattle.mr_out_program.proofs.Turning.{reads_one, reads_more}
use Rattle.mr_out_program.proofs.attempts.give_up_one.Goals as goal

pub returns-in_err-records : goal.returns-in_err-records
returns-in_err-records c = reads_one IsFail c.args.directory.now c.read_records.new.directory c.read_records.result c.read_records.ensures

pub returns : goal.returns
returns c = reads_one IsFail c.args.directory.now c.read_records.new.directory c.read_records.result c.read_records.ensures

pub returns-in-Some : goal.returns-in-Some
returns-in-Some c = reads_more IsFail c.args.directory.now c.read_records.new.directory c.fail_now.new.directory c.read_records.result c.read_records.ensures c.fail_now.ensures

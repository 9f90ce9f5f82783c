use Rattle.mr_out_program.proofs.Turning.{reads_failed}
use Rattle.mr_out_program.proofs.standing.read_records.Goals as goal

pub returns : goal.returns
returns c = reads_failed c.args.directory.now c.perform.new.self c.trouble.new.directory c.perform.result c.trouble.result c.perform.ensures.noted c.perform.ensures.job c.trouble.ensures

use Rattle.mr_out_disk.specs.declared.place.Folder.TheVariants.{Home}
use Rattle.mr_out_program.proofs.Turning.{asks_folder}
use Rattle.mr_out_program.proofs.standing.is_decided.Goals as goal

pub returns-clause-asks : goal.returns-clause-asks
returns-clause-asks c =
    asks_folder c.args.directory.now c.perform-answer.new.self c.told_synced-decided.new.directory Home c.perform-answer.result c.perform-answer.ensures.noted c.perform-answer.ensures.job c.told_synced-decided.ensures.same

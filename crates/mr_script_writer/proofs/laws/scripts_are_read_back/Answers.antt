use Rattle.mr_script_writer.proofs.Reading.{scripts_are_read_back_law}
use Rattle.mr_script_writer.proofs.laws.scripts_are_read_back.Goals as goal

pub returns : goal.returns
returns c = scripts_are_read_back_law

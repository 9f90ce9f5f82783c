use Rattle.mr_sim_commands.proofs.seq.PartFiles.{one_seq_text_law}
use Rattle.mr_sim_commands.proofs.laws.one_seq_text.Goals as goal

pub returns : goal.returns
returns c = one_seq_text_law

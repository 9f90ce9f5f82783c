use Rattle.mr_explore_merged.proofs.Leading.{merged_scripts_lead_law}
use Rattle.mr_explore_merged.proofs.laws.merged_scripts_lead.Goals as goal

pub returns : goal.returns
returns c = merged_scripts_lead_law c.scripts_lead_to_their_ends.ensures

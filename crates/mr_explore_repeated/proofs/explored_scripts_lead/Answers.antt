use Rattle.mr_explore_repeated.proofs.Printed.{explored_scripts_lead_law}
use Rattle.mr_explore_repeated.proofs.explored_scripts_lead.Goals as goal

pub returns : goal.returns
returns c = explored_scripts_lead_law c.scripts_lead_to_their_ends.ensures c.runs_are_all_that_depart.ensures

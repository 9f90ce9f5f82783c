use Rattle.std.proofs.Common.{◌<◌, length, ap, rules}
use Rattle.serde_json.specs.Find.{as_array}
use Rattle.serde_json.specs.View.{view}
use Rattle.mr_sim_commands.specs.declared.fault.JobTextFault.TheVariants.{Faults}
use Rattle.mr_sim_commands.specs.job.Text.{fault_of, required}
use Rattle.mr_sim_commands.proofs.job.Texts.{refused_many}
use Rattle.mr_sim_commands.proofs.job.text.faults_of.Goals as goal

pub returns-then-len-gt-MAX_FAULTS-clause-said : goal.returns-then-len-gt-MAX_FAULTS-clause-said
returns-then-len-gt-MAX_FAULTS-clause-said c =
    let many : 100 < length c.in-Some.values.now.items = search rules in
    ap (required Faults) (refused_many (fault_of c.args.nodes) 100 c.in-Some.values.now.items (as_array (view c.args.value.now)) c.in-Some.ensures many)

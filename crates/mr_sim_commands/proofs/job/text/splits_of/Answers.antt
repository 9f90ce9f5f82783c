use Rattle.std.proofs.Common.{◌<◌, length, ap, rules}
use Rattle.serde_json.specs.Find.{as_array}
use Rattle.serde_json.specs.View.{view}
use Rattle.mr_sim_commands.specs.declared.fault.JobTextFault.TheVariants.{Splits}
use Rattle.mr_sim_commands.specs.job.Text.{required, split_of}
use Rattle.mr_sim_commands.proofs.job.Texts.{refused_many}
use Rattle.mr_sim_commands.proofs.job.text.splits_of.Goals as goal

pub returns-then-len-gt-MAX_SPLITS-clause-said : goal.returns-then-len-gt-MAX_SPLITS-clause-said
returns-then-len-gt-MAX_SPLITS-clause-said c =
    let many : 1000 < length c.in-Some.values.now.items = search rules in
    ap (required Splits) (refused_many split_of 1000 c.in-Some.values.now.items (as_array (view c.args.value.now)) c.in-Some.ensures many)

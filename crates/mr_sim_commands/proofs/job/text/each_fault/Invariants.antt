use Rattle.std.proofs.Common.{◌≡◌, All, drop, length}
use Rattle.serde_json.specs.View.{items_view}
use Rattle.mr_sim_commands.specs.job.Text.{each, fault_of}
use Rattle.mr_sim_commands.specs.job.Submission.{IsPlanned}
use Rattle.mr_sim_commands.proofs.job.Texts.{with_front}
use Rattle.mr_sim_commands.proofs.job.text.each_fault.Given as goal

abbrev pub invariant-loop-value : goal.invariant-loop-value
invariant-loop-value l = record {
  front : with_front l.faults.items (each (fault_of l.nodes) (items_view (drop l.value-index l.values))) ≡ each (fault_of l.nodes) (items_view l.values);
  count : length l.faults.items ≡ l.value-index;
  planned : All (IsPlanned l.nodes) l.faults.items;
}

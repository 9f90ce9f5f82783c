use Rattle.std.proofs.Common.{◌≡◌, ◌≤◌, ◌^◌, All, drop, length}
use Rattle.serde_json.specs.View.{items_view}
use Rattle.mr_sim_commands.specs.job.Text.{each, split_of}
use Rattle.mr_sim_commands.proofs.job.Texts.{with_front}
use Rattle.mr_sim_commands.proofs.job.text.each_split.Given as goal

abbrev pub invariant-loop-value : goal.invariant-loop-value
invariant-loop-value l = record {
  front : with_front l.splits.items (each split_of (items_view (drop l.value-index l.values))) ≡ each split_of (items_view l.values);
  count : length l.splits.items ≡ l.value-index;
  short : All (λ split. length split ≤ 2 ^ 24) l.splits.items;
}

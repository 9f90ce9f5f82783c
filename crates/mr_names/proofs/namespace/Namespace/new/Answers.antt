use Rattle.std.proofs.Common.{arith}
use Rattle.std.specs.FinSet as set
use Rattle.mr_names.specs.Attempts.{attempt_cmp}
use Rattle.mr_names.proofs.TreeLaws.{tree_root}
use Rattle.mr_names.proofs.Limits.{entries_root, files_root}
use Rattle.mr_names.proofs.namespace.Namespace.new.Goals as goal

pub invariant_of-result : goal.invariant_of-result
invariant_of-result c = record {
  tree = rw c.in_ok-new.ensures tree_root;
  entries = rw c.in_ok-new.ensures entries_root;
  files = rw c.in_ok-new.ensures files_root;
  fence = omega arith;
  barred = rw (c.new-2.ensures, set.len-empty attempt_cmp) (omega arith);
}

use Rattle.mr_paths.proofs.Apart.{diverge_both_ways, diverge_beneath_each, diverge_beneath_left, diverge_beneath_right, diverge_beneath_one, diverge_not_within, diverge_different, diverge_by_name}
use Rattle.mr_paths.proofs.laws.parted_stay_apart.Goals as goal

pub returns : goal.returns
returns c = record {
  both_ways = diverge_both_ways;
  beneath_each = diverge_beneath_each;
  beneath_left = diverge_beneath_left;
  beneath_right = diverge_beneath_right;
  beneath_one = diverge_beneath_one;
  not_within = diverge_not_within;
  different = diverge_different;
  by_name = diverge_by_name;
}

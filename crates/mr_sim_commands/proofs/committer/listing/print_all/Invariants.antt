use Rattle.std.proofs.Common.{◌≡◌, ◌++◌, take}
use Rattle.std.specs.List.{flat_map}
use Rattle.mr_sim_commands.specs.committer.Listing.{found_line}
use Rattle.mr_sim_commands.proofs.committer.listing.print_all.Given as goal

abbrev pub invariant-loop-one : goal.invariant-loop-one
invariant-loop-one l = l.out.items ≡ l.initial.out.items ++ flat_map found_line (take l.one-index l.found)

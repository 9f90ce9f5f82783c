use Rattle.std.proofs.Common.{◌≡◌, ◌≤◌, length, take}
use Rattle.mr_out_listing.specs.Reading.{folder_of}
use Rattle.mr_out_listing.proofs.ends.folder_of.Given as goal

-- there is no slash behind
abbrev pub invariant-loop-len : goal.invariant-loop-len
invariant-loop-len l = record { within : l.len ≤ length l.path; left : folder_of (take l.len l.path) ≡ folder_of l.path }

abbrev pub decreases-loop-len : goal.decreases-loop-len
decreases-loop-len l = l.len

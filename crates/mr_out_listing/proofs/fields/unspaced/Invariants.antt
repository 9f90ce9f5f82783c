use Rattle.std.proofs.Common.{◌≡◌, ◌-◌, ◌≤◌, length, drop}
use Rattle.mr_out_listing.specs.Lines.{unspaced}
use Rattle.mr_out_listing.proofs.fields.unspaced.Given as goal

-- what is left begins with the first byte that is no blank, as all does
abbrev pub invariant-loop-at : goal.invariant-loop-at
invariant-loop-at l = record { within : l.at ≤ length l.line; left : unspaced (drop l.at l.line) ≡ unspaced l.line }

abbrev pub decreases-loop-at : goal.decreases-loop-at
decreases-loop-at l = length l.line - l.at

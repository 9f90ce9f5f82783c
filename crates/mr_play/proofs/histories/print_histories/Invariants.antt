use Rattle.mr_play.specs.Shown.{AddsSegments}
use Rattle.mr_play.proofs.histories.print_histories.Given as goal

-- the segments so far were written behind
abbrev pub invariant-loop-older : goal.invariant-loop-older
invariant-loop-older l = AddsSegments l.world l.older l.initial.out.items l.out.items

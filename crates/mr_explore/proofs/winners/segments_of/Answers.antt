use Rattle.std.proofs.Common.{◌≤◌, map, ap, ◌∙◌, arith}
use Rattle.std.specs.List.{flat_map}
use Rattle.mr_history.specs.Reading.{records_of}
use Rattle.mr_play.specs.mr_world.specs.Journal.{world_in}
use Rattle.mr_explore.proofs.Winning.{told_next, told_none}
use Rattle.mr_explore.proofs.winners.segments_of.Goals as goal

pub loop-k-init : goal.loop-k-init
loop-k-init c = ap (λ vs. flat_map records_of (map (λ v. v.items) vs)) c.new-all.ensures.items ∙ told_none (world_in c.args.world.now).history

pub loop-k-preserved : goal.loop-k-preserved
loop-k-preserved c =
    let raised : c.loop-k.k ≤ (world_in c.args.world.now).fence = omega (arith, c.loop-k-test.true, c.from-k-end.ensures, c.newest.ensures) in
    told_next (λ v. v.items) (world_in c.args.world.now).history c.loop-k.all.items c.push.new.self.items c.in_ok-from_slice.field-0 c.stable.result.now c.loop-k.k c.in_ok-push.ensures.items c.in_ok-from_slice.ensures.items c.loop-k.invariant
    (c.stable.ensures.stable raised)

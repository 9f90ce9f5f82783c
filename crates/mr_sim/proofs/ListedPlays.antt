-- What is listed of a player that has played what an input says.
use Rattle.std.proofs.Common.{◌≡◌, ℕ, List, sym, ap, ◌∙◌}
use Rattle.mr_world_model.specs.World.{World}
use Rattle.mr_sim_commands.specs.committer.Listing.{listing}
use Rattle.mr_trace.specs.mr_world.specs.Journal.{world_in}
use Rattle.mr_trace.specs.mr_world.specs.Limits.{within}
use Rattle.mr_trace.specs.mr_play.specs.declared.player.Player.{Player}
use Rattle.mr_trace.specs.mr_play.specs.Shown.{HasPrinted, text_in}
use Rattle.mr_sim.specs.Trees.{ListsPlay}

pub lists : (input text : List ℕ) (p : Player) → HasPrinted input p → text ≡ listing (world_in p.world).content → ListsPlay within input text
lists input text p is written = record {
  printed = text_in p;
  prints = is.prints;
  is = written ∙ ap (λ (w : World). listing w.content) (sym is.cluster);
}

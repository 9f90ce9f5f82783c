-- What is told of a player that has played what an input says.
use Rattle.std.proofs.Common.{◌≡◌, ℕ, List, ◌++◌, sym, ap, ◌∙◌}
use Rattle.mr_trace.specs.mr_world.specs.Journal.{Journal, world_in}
use Rattle.mr_trace.specs.mr_world.specs.Limits.{within}
use Rattle.mr_trace.specs.mr_play.specs.declared.player.Player.{Player}
use Rattle.mr_trace.specs.mr_play.specs.declared.sources.Stretch.{Stretch}
use Rattle.mr_trace.specs.mr_play.specs.Shown.{HasPrinted, text_in}
use Rattle.mr_trace.specs.mr_play.specs.Text.{printed_journal}
use Rattle.mr_trace.specs.mr_play.specs.WorldText.{world_text}
use Rattle.mr_trace.specs.Happened.{by_lines}
use Rattle.mr_trace_json.specs.Endings.{json_text}
use Rattle.mr_trace_json.specs.Plays.{TellsPlay}

pub tells : (input text : List ℕ) (p : Player) → HasPrinted input p → text ≡ json_text (by_lines p.stretches.items) p.told.items p.world → TellsPlay within input text
tells input text p is written = record {
  printed = text_in p;
  told = p.told.items;
  prints = is.prints;
  tells = ap (λ (j : Journal). p.told.items ++ world_text j.config (world_in j)) (sym is.journal);
  is = written ∙ ap (λ (j : Journal). json_text (by_lines p.stretches.items) p.told.items j) (sym is.journal)
      ∙ ap (λ (ss : List Stretch). json_text (by_lines ss) p.told.items (printed_journal within input (text_in p) is.prints)) (sym is.noted);
}

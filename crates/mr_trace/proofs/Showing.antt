-- What is shown of a player beside what is printed of it.
use Rattle.std.proofs.Common.{◌≡◌, ℕ, true, false, List, [], ◌++◌, sym, ap, subst, ◌∙◌}
use Rattle.mr_play.specs.mr_world.specs.Journal.{Journal}
use Rattle.mr_play.specs.mr_world.specs.Limits.{within}
use Rattle.mr_play.specs.declared.player.Player.{Player}
use Rattle.mr_play.specs.declared.shown.Shown.{Shown}
use Rattle.mr_play.specs.declared.sources.Stretch.{Stretch}
use Rattle.mr_play.specs.Shown.{HasPrinted, HasText, IsHistory, text_in}
use Rattle.mr_play.specs.Text.{printed_journal}
use Rattle.mr_trace.specs.Happened.{by_lines}
use Rattle.mr_trace.specs.Shown.{Shows}
use Rattle.mr_trace.specs.Trace.{trace_text}

pub shows : (shown : Shown) (input before text : List ℕ) (p : Player) → HasPrinted input p → (shown.trace ≡ false → before ≡ []) → (shown.trace ≡ true → before ≡ trace_text (by_lines p.stretches.items) p.world) →
    HasText p shown before text → Shows within shown input text
shows shown input before text p is untraced traced h = record {
  before = before;
  printed = text_in p;
  behind = h.behind;
  prints = is.prints;
  untraced = untraced;
  traced = λ asked. traced asked ∙ ap (λ (j : Journal). trace_text (by_lines p.stretches.items) j) (sym is.journal)
      ∙ ap (λ (ss : List Stretch). trace_text (by_lines ss) (printed_journal within input (text_in p) is.prints)) (sym is.noted);
  plain = h.plain;
  history = λ asked. subst (λ (j : Journal). IsHistory j h.behind) (sym is.journal) (h.history asked);
  is = h.is;
}

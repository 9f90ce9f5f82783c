use Rattle.std.proofs.Common.{[], ◌++◌, ap, ◌∙◌}
use Rattle.mr_script_writer.specs.Results.{winners_text, line_of_marker, line_of_outcome}
use Rattle.mr_explore_ends.proofs.Choosing.{four_parts}
use Rattle.mr_explore_ends.proofs.outcome.Outcome.text.Goals as goal

pub returns : goal.returns
returns c =
    four_parts [] c.put_winner_lines.new.out.items c.put_marker_line.new.out.items c.put_outcome_line.new.out.items c.extend_from_slice.new.self.items _ _ _ _
    (c.in_ok-put_winner_lines.ensures ∙ (λ i. c.new-text.ensures.items i ++ winners_text 0 (c.winners.ensures i)))
    (c.in_ok-put_marker_line.ensures ∙ ap (λ x. c.put_winner_lines.new.out.items ++ line_of_marker x) c.marker.ensures)
    (c.in_ok-put_outcome_line.ensures ∙ ap (λ x. c.put_marker_line.new.out.items ++ line_of_outcome x) c.told.ensures)
    (c.in_ok-extend_from_slice.ensures.items ∙ ap (λ x. c.put_outcome_line.new.out.items ++ x) c.files.ensures)

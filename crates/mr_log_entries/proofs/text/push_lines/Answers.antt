use Rattle.std.proofs.Common.{◌++◌, ◌∷◌, [], ℕ, List, take, sym, ap, ◌∙◌, append_assoc, append-nil}
use Rattle.std.proofs.lemmas.List.{take_all}
use Rattle.std.specs.String.{string_bytes}
use Rattle.mr_log_entries.specs.Texts.{line_text, lines_text}
use Rattle.mr_log_entries.specs.declared.line.Line.{Line}
use Rattle.mr_log_entries.proofs.Fronts.{lines-taken}
use Rattle.mr_log_entries.proofs.text.push_lines.Goals as goal

pub loop-line-init : goal.loop-line-init
unfolding lines_text
loop-line-init c = sym (append-nil (string_bytes c.args.out.now))

pub loop-line-preserved : goal.loop-line-preserved
loop-line-preserved c =
    c.in_ok-push_line.ensures
    ∙ ap (λ (l : List ℕ). l ++ (line_text c.line-item.result ++ 59 ∷ [])) c.loop-line.invariant
    ∙ append_assoc (string_bytes c.args.out.now) (lines_text (take c.loop-line.line-index c.args.lines.now)) (line_text c.line-item.result ++ 59 ∷ [])
    ∙ ap (λ (l : List ℕ). string_bytes c.args.out.now ++ l) (sym (lines-taken c.args.lines.now c.loop-line.line-index c.line-item.result c.loop-line-test.true c.line-item.is))

pub returns : goal.returns
returns c = c.loop-line.invariant ∙ ap (λ (l : List Line). string_bytes c.args.out.now ++ lines_text l) (take_all c.loop-line.line-index c.args.lines.now c.loop-line-test.false)

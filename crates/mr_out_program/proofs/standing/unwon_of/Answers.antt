use Rattle.std.proofs.Common.{◌≡◌, ℕ, List, ap, subst, ◌∙◌}
use Rattle.std.specs.Prelude.{IfOk}
use Rattle.std.specs.String.{string_bytes}
use Rattle.mr_history.specs.declared.record.Record.{Record}
use Rattle.mr_out_program.specs.Shown.{running, running_text, unwon_line}
use Rattle.mr_out_program.proofs.standing.unwon_of.Goals as goal

pub returns : goal.returns
returns c =
    subst (λ (text : List ℕ). IfOk c.unwon_line.result (λ line. string_bytes line ≡ unwon_line c.args.json c.args.task.now.number text))
    (c.deref.ensures ∙ c.in_ok-running.ensures ∙ ap (λ (rs : List Record). running_text c.args.json (running rs c.args.task.now)) c.as_slice.ensures) c.unwon_line.ensures

use Rattle.std.proofs.Common.{◌≡◌, ◌∷◌, ◌++◌, ℕ, List, codes, sym, ap, ◌∙◌}
use Rattle.std.proofs.lemmas.Option.{IfSome_then}
use Rattle.mr_ids.specs.Attempt.{Attempt}
use Rattle.mr_ids.specs.Text.{numeral, attempt_text}
use Rattle.mr_out_layout.specs.inner.Names.{front_text}
use Rattle.mr_out_layout.proofs.Named.{named}
use Rattle.mr_out_layout.proofs.names.record_in.Goals as goal

pub returns : goal.returns
returns c =
    let task = c.in_ok-task.task in
    let number = c.in_ok-number.number in
    let event : List ℕ = 34 ∷ c.in_ok-number.event.now in
    let numbers = c.in_ok-task.ensures ∙ ap (λ (x : List ℕ). numeral 6 task ++ 95 ∷ x) c.in_ok-number.ensures in
    let whole = ap (λ (x : List ℕ). front_text c.args.job ++ x) numbers ∙ named c.args.job task number event ∙ ap (λ (a : Attempt). codes "{\"attempt\":\"" ++ (attempt_text a ++ event)) (sym c.in_ok-attempt_at.ensures.is) in
    IfSome_then c.told_at.result c.told_at.ensures (λ p h. (whole ∙ h.0, h.1))

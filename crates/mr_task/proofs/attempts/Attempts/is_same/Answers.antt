use Rattle.std.proofs.Common.{◌≡◌, sym, ◌∙◌}
use Rattle.mr_task.proofs.Comparing.{kept_decide}
use Rattle.mr_task.proofs.attempts.Attempts.is_same.Goals as goal

pub returns : goal.returns
returns c =
    let here : c.as_slice.result ≡ c.args.self.now = c.as_slice.ensures.entries ∙ c.self.view_is in
    let there : c.as_slice-2.result ≡ c.args.other.now = c.as_slice-2.ensures.entries ∙ c.other.view_is in
    let same = kept_decide c.as_slice.result c.as_slice-2.result in
    (λ told. sym here ∙ same.0 (sym c.eq.ensures ∙ told) ∙ there, λ equal. c.eq.ensures ∙ same.1 (here ∙ equal ∙ sym there))

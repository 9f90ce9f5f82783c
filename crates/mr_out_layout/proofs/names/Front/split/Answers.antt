use Rattle.std.proofs.Common.{◌++◌, ap, ◌∙◌}
use Rattle.std.proofs.lemmas.Option.{IfSome_then}
use Rattle.mr_out_layout.proofs.names.Front.split.Goals as goal

pub returns : goal.returns
returns c =
    let begins = c.as_str.ensures.value ∙ c.self.invariant in
    IfSome_then c.record_in.result c.record_in.ensures (λ p h. (c.in_ok-numbers.ensures ∙ ap (λ x. x ++ c.in_ok-numbers.numbers.now) begins ∙ h.0, h.1))

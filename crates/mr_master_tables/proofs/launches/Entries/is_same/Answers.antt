use Rattle.std.proofs.Common.{◌≡◌, sym, ap, ◌∙◌}
use Rattle.mr_master_tables.specs.Launches.{Entries}
use Rattle.mr_master_tables.proofs.Comparing.{launches_decide}
use Rattle.mr_master_tables.proofs.launches.Entries.is_same.Goals as goal

pub returns : goal.returns
returns c =
    let here : c.as_slice.result ≡ c.args.self.now.entries = c.as_slice.ensures.entries ∙ ap (λ (e : Entries). e.entries) c.self.view_is in
    let there : c.as_slice-2.result ≡ c.args.other.now.entries = c.as_slice-2.ensures.entries ∙ ap (λ (e : Entries). e.entries) c.other.view_is in
    let same = launches_decide c.as_slice.result c.as_slice-2.result in
    (λ told. sym here ∙ same.0 (sym c.eq.ensures ∙ told) ∙ there, λ equal. c.eq.ensures ∙ same.1 (here ∙ equal ∙ sym there))

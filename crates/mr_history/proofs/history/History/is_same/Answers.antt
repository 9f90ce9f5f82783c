use Rattle.std.proofs.Common.{◌∙◌, ap, sym}
use Rattle.mr_history.proofs.Stored.{history_of, same_stored}
use Rattle.mr_history.proofs.history.History.is_same.Goals as goal

pub returns : goal.returns
returns c = (
  λ yes. sym c.self.view_is ∙ ap history_of (sym c.as_slice.ensures.value ∙ c.are_same.ensures.0 yes ∙ c.as_slice-2.ensures.value) ∙ c.other.view_is,
  λ same. c.are_same.ensures.1 (c.as_slice.ensures.value ∙ same_stored c.self.inside.segments.items c.other.inside.segments.items (c.self.view_is ∙ same ∙ sym c.other.view_is) ∙ sym c.as_slice-2.ensures.value),
)

-- Namespaces that hold the same.
use Rattle.std.proofs.Common.{◌≡◌, ◌∙◌, ℕ, Bool, ap, sym}
use Rattle.std.specs.Bool.{Decides}
use Rattle.mr_names_tree.specs.Content.{Content}
use Rattle.mr_names.specs.Barred.{Barred}
use Rattle.mr_names.specs.Calls.{State}

abbrev pub shown : Content → ℕ → Barred → State
shown content fence barred = record { content = content; fence = fence; barred = barred }

-- two namespaces with the same fence and the same barred attempts are the same exactly where their contents are
pub content_tells : (x y : Content) (m n : ℕ) (b d : Barred) (s t : State) (told : Bool) → m ≡ n → b ≡ d → shown x m b ≡ s → shown y n d ≡ t → Decides told (x ≡ y) → Decides told (s ≡ t)
content_tells x y m n b d s t told fence barred is it tells = (
  λ yes. let same = tells.0 yes in sym is ∙ (λ i. shown (same i) (fence i) (barred i)) ∙ it,
  λ same. tells.1 (ap (λ (z : State). z.content) (is ∙ same ∙ sym it)),
)

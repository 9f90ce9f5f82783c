-- One place more, and what stands behind it.
use Rattle.std.proofs.Common.{◌≡◌, ◌<◌, ◌≤◌, ◌+◌, ℕ, Bool, true, false, cond, List, [], ◌∷◌, ◌==◌, length, drop, get_or, Option, Some, None, refl, sym, ap, ◌∙◌, add-one, drop-cons}
use Rattle.std.proofs.lemmas.List.{drop_all}
use Rattle.mr_out_listing.specs.Lines.{Sight, or_sight, sized_behind, sized_sight}
use Rattle.mr_out_listing.specs.inner.Blanks.{sized_at}
use Rattle.mr_out_listing.specs.declared.entry.Kind.{Kind}

left-is : (line : List ℕ) (at : ℕ) → at < length line → drop at line ≡ get_or line at 0 ∷ drop (at + 1) line
left-is line at within = drop-cons line at 0 within ∙ (λ j. get_or line at 0 ∷ drop (sym (add-one at) j) line)

passed : (b : Bool) (here rest : Option Sight) → cond b here None ≡ None → cond b (or_sight here rest) rest ≡ rest
passed false here rest e = refl
passed true None rest e = refl
passed true (Some x) rest e = absurd (cc)

found : (b : Bool) (here rest : Option Sight) (x : Sight) → cond b here None ≡ Some x → cond b (or_sight here rest) rest ≡ Some x
found false here rest x e = absurd (cc)
found true None rest x e = absurd (cc)
found true (Some y) rest x e = e

-- nothing stands behind this place
pub passes : (kind : Option Kind) (line : List ℕ) (at : ℕ) → at < length line → sized_at kind line at ≡ None → sized_behind kind (drop at line) ≡ sized_behind kind (drop (at + 1) line)
passes kind line at within none =
    let more = drop (at + 1) line in
    ap (sized_behind kind) (left-is line at within) ∙ passed (get_or line at 0 == 32) (sized_sight kind more) (sized_behind kind more) none

-- it stands behind this place
pub stops : (kind : Option Kind) (line : List ℕ) (at : ℕ) (x : Sight) → at < length line → sized_at kind line at ≡ Some x → sized_behind kind (drop at line) ≡ Some x
stops kind line at x within is =
    let more = drop (at + 1) line in
    ap (sized_behind kind) (left-is line at within) ∙ found (get_or line at 0 == 32) (sized_sight kind more) (sized_behind kind more) x is

pub at-end : (kind : Option Kind) (line : List ℕ) (at : ℕ) → length line ≤ at → sized_behind kind (drop at line) ≡ None
at-end kind line at l = ap (sized_behind kind) (drop_all at line l)

-- Two lists of machines that are compared place by place.
use Rattle.std.proofs.Common.{◌≡◌, ◌<◌, ◌≤◌, ◌+◌, ℕ, List, length, take, get_or, sym, ap, ◌∙◌, arith}
use Rattle.std.proofs.lemmas.List.{take_all, take_more_same, get_or_default}
use Rattle.mr_task.specs.Steps.{Task}

-- one place more
pub one_more : (xs ys : List Task) (i : ℕ) (x y : Task) → i < length xs → i < length ys → x ≡ get_or xs i x → y ≡ get_or ys i y → x ≡ y → take i xs ≡ take i ys → take (i + 1) xs ≡ take (i + 1) ys
one_more xs ys i x y within within_other is is_other same before =
    take_more_same xs ys i x within within_other before (sym is ∙ same ∙ is_other ∙ ap (λ (z : Task). get_or ys i z) (sym same))

-- equal lists have one machine at a place
pub at_place : (xs ys : List Task) (i : ℕ) (x y : Task) → i < length ys → x ≡ get_or xs i x → y ≡ get_or ys i y → xs ≡ ys → x ≡ y
at_place xs ys i x y within is is_other same =
    is ∙ ap (λ (l : List Task). get_or l i x) same ∙ get_or_default ys i x y within ∙ sym is_other

-- all places
pub all_places : (xs ys : List Task) (i : ℕ) → length xs ≤ i → length xs ≡ length ys → take i xs ≡ take i ys → xs ≡ ys
all_places xs ys i most count same =
    let rest : length ys ≤ i = omega arith in
    sym (take_all i xs most) ∙ same ∙ take_all i ys rest

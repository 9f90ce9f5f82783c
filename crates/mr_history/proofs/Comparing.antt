-- Segments that hold the same.
use Rattle.std.proofs.Common.{◌≡◌, ℕ, Bool, List, ◌++◌, take, drop, sym, ap, ap₂, ◌∙◌}
use Rattle.std.specs.Bool.{Decides}
use Rattle.std.proofs.lemmas.List.{take-append-drop}
use Rattle.mr_history.specs.State.{SegmentState}

-- what a segment of these bytes holds, of which the first so many are stable
abbrev pub shown : ℕ → ℕ → Bool → List ℕ → SegmentState
shown version mark is_sealed bytes = record { version = version; stable = take mark bytes; tail = drop mark bytes; is_sealed = is_sealed }

-- Two segments that are alike but for their bytes are the same where the bytes are.
pub bytes_tell : (v w m n : ℕ) (b d : Bool) (xs ys : List ℕ) (s t : SegmentState) (r : Bool) → v ≡ w → m ≡ n → b ≡ d → shown v m b xs ≡ s → shown w n d ys ≡ t → Decides r (xs ≡ ys) → Decides r (s ≡ t)
bytes_tell v w m n b d xs ys s t r version mark seal is it told = (
  λ yes. let same = told.0 yes in sym is ∙ (λ i. shown (version i) (mark i) (seal i) (same i)) ∙ it,
  λ same. told.1 (whole same),
)
  where
    whole : s ≡ t → xs ≡ ys
    whole same =
        let both : shown v m b xs ≡ shown w n d ys = is ∙ same ∙ sym it in
        let stable : take m xs ≡ take n ys = ap (λ (x : SegmentState). x.stable) both in
        let tail : drop m xs ≡ drop n ys = ap (λ (x : SegmentState). x.tail) both in
        sym (take-append-drop m xs) ∙ ap₂ (λ (x y : List ℕ). x ++ y) stable tail ∙ take-append-drop n ys

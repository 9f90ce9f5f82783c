-- A part of a list: cut again, and grown by what lies behind it.
use Rattle.std.proofs.Common.{◌≡◌, ℕ, ◌+◌, ◌-◌, ◌≤◌, List, ◌++◌, length, take, drop, slice_range, nat_eq, true, refl, sym, ap, ◌∙◌, arith}
use Rattle.std.specs.List.{starts_with}
use Rattle.std.proofs.Math.Seq.{take-add, take-append_seam}
use Rattle.std.proofs.lemmas.Bool.Decides.{Decides-eqb}
use Rattle.std.proofs.lemmas.List.{drop-take, drop-drop, take-take, take_rest}
use Rattle.std.proofs.lemmas.Slice.Eq.{starts_is}

-- a part of a part is a part of the list
pub part_of_part : (xs : List ℕ) (s e a b : ℕ) → a ≤ b → s + b ≤ e → slice_range xs (s + a) (s + b) ≡ slice_range (slice_range xs s e) a b
part_of_part xs s e a b p q =
    let same : s + b - (s + a) ≡ b - a = omega arith in
    let width : e - s ≡ a + (e - s - a) = omega arith in
    ap (λ n. take n (drop (s + a) xs)) same
    ∙ sym (take-take (b - a) (e - s - a) (drop (s + a) xs) (omega arith))
    ∙ ap (λ l. take (b - a) (take (e - s - a) l)) (sym (drop-drop a s xs))
    ∙ ap (take (b - a)) (sym (drop-take a (e - s - a) (drop s xs)))
    ∙ ap (λ n. take (b - a) (drop a (take n (drop s xs)))) (sym width)

-- a part grows by what the rest of the list begins with
pub grown : (xs more : List ℕ) (s e : ℕ) → s ≤ e → starts_with nat_eq (slice_range xs e (length xs)) more ≡ true → slice_range xs s (e + length more) ≡ slice_range xs s e ++ more
grown xs more s e p h =
    let width : e + length more - s ≡ e - s + length more = omega arith in
    let at : s + (e - s) ≡ e = omega arith in
    let follows = (starts_is Decides-eqb (drop e xs) more _ refl).0 (ap (λ l. starts_with nat_eq l more) (sym (take_rest xs e)) ∙ h) in
    ap (λ n. take n (drop s xs)) width
    ∙ take-add (e - s) (length more) (drop s xs)
    ∙ ap (λ l. take (e - s) (drop s xs) ++ take (length more) l) (drop-drop (e - s) s xs ∙ ap (λ n. drop n xs) at ∙ follows)
    ∙ ap (λ l. take (e - s) (drop s xs) ++ l) (take-append_seam more (drop (length more) (drop e xs)))

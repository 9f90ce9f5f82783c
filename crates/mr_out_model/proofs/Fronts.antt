-- A front of a segment's bytes tells a front of its records.
use Rattle.std.proofs.Common.{◌≡◌, ◌≤◌, ◌+◌, ◌-◌, ℕ, true, cond, nat_le, List, [], ◌∷◌, ◌++◌, length, take, refl, sym, ap, subst, ◌∙◌, arith}
use Rattle.std.specs.List.{AllByRecursion, sum_by}
use Rattle.std.proofs.lemmas.Bool.{le-leb}
use Rattle.std.proofs.lemmas.List.Sums.{sum_by-cons}
use Rattle.mr_history.specs.declared.record.Record.{Record}
use Rattle.mr_history.specs.Line.{text, lines, head, width, whole_in, IsRecordOf, IsVersion}
use Rattle.mr_history.specs.Reading.{records_of}
use Rattle.mr_history.proofs.Segments.{length-lines}
use Rattle.mr_history.proofs.Tellings.{tells_front, whole_is_front}
use Rattle.mr_out_disk.specs.Cuts.{IsFront}
use Rattle.mr_out_model.specs.Fronts.{TellsFront, SegmentsKeepFronts}

before : (a b n : ℕ) → a + b ≤ n → a ≤ n
before a b n l = omega arith

behind : (a b n : ℕ) → a + b ≤ n → b ≤ n - a
behind a b n l = omega arith

less : (n a b : ℕ) → n - a - b ≡ n - (a + b)
less n a b = omega arith

-- of records whose lines all lie within the bytes, and more
whole-more : (n : ℕ) (xs ys : List Record) → sum_by width xs ≤ n → whole_in n (xs ++ ys) ≡ xs ++ whole_in (n - sum_by width xs) ys
unfolding whole_in
whole-more n [] ys l = let same : n ≡ n - 0 = omega arith in ap (λ m. whole_in m ys) same
whole-more n (x ∷ xs) ys l =
    let one : sum_by width (x ∷ xs) ≡ width x + sum_by width xs = sum_by-cons width x xs in
    let room : width x + sum_by width xs ≤ n = let P : ℕ → Type 0 = λ m. m ≤ n in subst P one l in
    let fits : nat_le (width x) n ≡ true = le-leb _ _ (before (width x) (sum_by width xs) n room) in
    let rest : whole_in (n - width x) (xs ++ ys) ≡ xs ++ whole_in (n - width x - sum_by width xs) ys = whole-more (n - width x) xs ys (behind (width x) (sum_by width xs) n room) in
    let same : n - width x - sum_by width xs ≡ n - sum_by width (x ∷ xs) = less n (width x) (sum_by width xs) ∙ ap (λ m. n - m) (sym one) in
    ap (λ b. cond b (x ∷ whole_in (n - width x) (xs ++ ys)) []) fits ∙ ap (λ (rs : List Record). x ∷ rs) (rest ∙ ap (λ m. xs ++ whole_in m ys) same)

text-one : (rs : List Record) → text 1 rs ≡ lines rs
text-one [] = refl
text-one (r ∷ rs) = refl

first-version : IsVersion 1
first-version = (omega arith, omega arith)

pub fronts : SegmentsKeepFronts
fronts synced appended n are l =
    let within : sum_by width synced ≤ n = let P : ℕ → Type 0 = λ m. m ≤ n in subst P (ap length (text-one synced) ∙ length-lines synced) l in
    let m : ℕ = n - sum_by width synced in
    let front = whole_is_front m appended in
    let same : n - 0 ≡ n = omega arith in
    record {
      kept = whole_in m appended;
      front = record { rest = front.0; is = front.1 };
      told = (tells_front 1 n (synced ++ appended) first-version are).0 ∙ (ap (λ k. whole_in k (synced ++ appended)) same ∙ whole-more n synced appended within);
    }

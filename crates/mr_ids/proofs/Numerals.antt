-- The one spelling of a number.
use Rattle.std.proofs.Common.{◌≡◌, ◌≢◌, ◌≤◌, ◌<◌, ◌+◌, ◌-◌, ◌*◌, ◌/◌, ◌%◌, ℕ, suc, zero, Bool, true, false, ◌&&◌, ◌||◌, not, eqb, ltb, List, [], ◌∷◌, ◌++◌, length, map, replicate, refl, sym, ap, ◌∙◌, arith, append_assoc, append-nil, length-append, get_or, inl, inr, ◌⊎◌, ⊎_elim, true≢false}
use Rattle.std.proofs.lemmas.List.{length-map, length-replicate}
use Rattle.std.specs.Char.{is_ascii_digit, digit_value}
use Rattle.std.specs.List.{list_all}
use Rattle.std.specs.Int.Digits.{digits_of, AllBelowBase, number_from_digits_after}
use Rattle.std.specs.Str.Parse.{digits_value, digits_value_after}
use Rattle.std.proofs.lemmas.Int.Digits.{digits_of_step, digits_value_push, first_digits_of, all_below_base_digits_of}
use Rattle.std.proofs.lemmas.Bool.Decides.{nat_tests}
use Rattle.std.proofs.lemmas.Str.{digit_value_digit}
use Rattle.mr_ids.specs.Text.{numeral, letter, is_bar}
use Rattle.std.specs.Cmp.Lexicographic.{same_text, bytes_decides}
use Rattle.std.specs.List.{slice_split}
use Rattle.std.proofs.lemmas.List.Splits.{slice_split_at, slice_split_none}
use Rattle.std.specs.List.{AllByRecursion}
use Rattle.std.proofs.lemmas.List.Elements.{All-from_recursion}
use Rattle.mr_ids.specs.declared.id.TaskKind.{TaskKind}
use Rattle.mr_ids.specs.declared.id.TaskKind.TheVariants.{Map, Reduce}
use borrow.Author.Tests.{ltb-true}
use Rattle.std.proofs.lemmas.Bool.{lt-ltb}
use Rattle.std.proofs.lemmas.Bool.{eqb-true, eq-eqb}
use Rattle.mr_ids.specs.Faults.{is_spelled}

-- at least as many digits as the width, and no zero beyond it
abbrev pub is_tight : ℕ → List ℕ → Bool
is_tight width bs = eqb (length bs) width || (ltb width (length bs) && not (eqb (get_or bs 0 0) 48))

-- the digits of a number as bytes, none for 0
abbrev pub digit_bytes : ℕ → List ℕ
digit_bytes n = map (λ d. 48 + d) (digits_of 10 n)

record Pushed (bs : List ℕ) : Type 0 where
  front : List ℕ
  last : ℕ
  is : bs ≡ front ++ last ∷ []
  shorter : length bs ≡ suc (length front)

front_and_last : (bs : List ℕ) → (bs ≡ []) ⊎ Pushed bs
front_and_last [] = inl refl
front_and_last (x ∷ bs) = inr (⊎_elim
    (λ (e : bs ≡ []). record { front = []; last = x; is = ap (λ l. x ∷ l) e; shorter = ap (λ l. suc (length l)) e })
    (λ (f : Pushed bs). record { front = x ∷ f.front; last = f.last; is = ap (λ l. x ∷ l) f.is; shorter = ap suc f.shorter })
    (front_and_last bs))

map-append_one : (xs : List ℕ) (d : ℕ) → map (λ d. 48 + d) (xs ++ d ∷ []) ≡ map (λ d. 48 + d) xs ++ (48 + d) ∷ []
map-append_one [] d = refl
map-append_one (x ∷ xs) d = ap (λ l. (48 + x) ∷ l) (map-append_one xs d)

pub replicate-push : (k b : ℕ) → replicate k b ++ b ∷ [] ≡ replicate (suc k) b
replicate-push zero b = refl
replicate-push (suc k) b = ap (λ l. b ∷ l) (replicate-push k b)

-- one digit more, unless all are 0
digit_bytes-push : (n d : ℕ) → d < 10 → 0 < n * 10 + d → digit_bytes (n * 10 + d) ≡ digit_bytes n ++ (48 + d) ∷ []
digit_bytes-push n d lt pos =
    let q : (n * 10 + d) / 10 ≡ n = omega arith in
    let r : (n * 10 + d) % 10 ≡ d = omega arith in
    ap (map (λ d. 48 + d)) (digits_of_step 10 (n * 10 + d) (omega arith) pos) ∙ rw (q, r) (map-append_one (digits_of 10 n) d)

list_all-front : (xs : List ℕ) (x : ℕ) → list_all is_ascii_digit (xs ++ x ∷ []) ≡ true → (list_all is_ascii_digit xs ≡ true) × (is_ascii_digit x ≡ true)
list_all-front [] x e = (refl, last (is_ascii_digit x) e)
  where
    last : (b : Bool) → (b && true) ≡ true → b ≡ true
    last true e = refl
    last false e = e
list_all-front (y ∷ xs) x e = by (is_ascii_digit y) e (list_all-front xs x)
  where
    by : (b : Bool) → (b && list_all is_ascii_digit (xs ++ x ∷ [])) ≡ true → (list_all is_ascii_digit (xs ++ x ∷ []) ≡ true → (list_all is_ascii_digit xs ≡ true) × (is_ascii_digit x ≡ true)) → ((b && list_all is_ascii_digit xs) ≡ true) × (is_ascii_digit x ≡ true)
    by true e rest = rest e
    by false e rest = absurd (true≢false (sym e))

-- a byte that is a digit
record DigitByte (b : ℕ) : Type 0 where
  value : digit_value b ≡ b - 48
  low : 48 ≤ b
  high : b - 48 < 10

digit_byte : (b : ℕ) → is_ascii_digit b ≡ true → DigitByte b
digit_byte b e =
    let low : 48 ≤ b = grind (arith, nat_tests) in
    let high : b ≤ 57 = grind (arith, nat_tests) in
    let v : digit_value b + 48 ≡ b = digit_value_digit b (low, high) in
    record { value = omega arith; low = low; high = omega arith }

-- digits are zeros, and then the digits of their value
pub record Spelled (bs : List ℕ) : Type 0 where
  pub zeros : ℕ
  pub is : bs ≡ replicate zeros 48 ++ digit_bytes (digits_value 10 bs)

pub none_or_some : (n : ℕ) → (n ≡ 0) ⊎ (0 < n)
none_or_some zero = inl refl
none_or_some (suc n) = inr (omega arith)

pushed : (bs : List ℕ) (f : Pushed bs) → DigitByte f.last → Spelled f.front → Spelled bs
pushed bs f d front =
    let value : digits_value 10 bs ≡ digits_value 10 f.front * 10 + (f.last - 48) = ap (digits_value 10) f.is ∙ digits_value_push 10 f.front f.last ∙ ap (λ x. digits_value 10 f.front * 10 + x) d.value in
    let low : 48 ≤ f.last = d.low in
    let high : f.last - 48 < 10 = d.high in
    ⊎_elim
    (λ (none : digits_value 10 bs ≡ 0).
    let front_none : digits_value 10 f.front ≡ 0 = omega arith in
    let last_none : f.last ≡ 48 = omega arith in
    record {
      zeros = suc front.zeros;
      is = f.is ∙ (λ i. front.is i ++ last_none i ∷ []) ∙ rw (front_none, append-nil, replicate-push, none) (sym (append-nil _));
    })
    (λ (some : 0 < digits_value 10 bs).
    let pos : 0 < digits_value 10 f.front * 10 + (f.last - 48) = omega arith in
    let back : 48 + (f.last - 48) ≡ f.last = omega arith in
    record {
      zeros = front.zeros;
      is = f.is ∙ ap (λ l. l ++ f.last ∷ []) front.is ∙ append_assoc (replicate front.zeros 48) (digit_bytes (digits_value 10 f.front)) (f.last ∷ [])
          ∙ ap (λ l. replicate front.zeros 48 ++ l) (ap (λ b. digit_bytes (digits_value 10 f.front) ++ b ∷ []) (sym back) ∙ sym (digit_bytes-push (digits_value 10 f.front) (f.last - 48) high pos) ∙ ap digit_bytes (sym value));
    })
    (none_or_some (digits_value 10 bs))

pub spelled_by_value : (k : ℕ) (bs : List ℕ) → length bs ≡ k → list_all is_ascii_digit bs ≡ true → Spelled bs
spelled_by_value zero [] e all = record { zeros = 0; is = refl }
spelled_by_value zero (b ∷ bs) e all = absurd (omega arith)
spelled_by_value (suc k) bs e all = ⊎_elim
    (λ (n : bs ≡ []). absurd (let l : length bs ≡ 0 = ap length n in omega arith))
    (λ (f : Pushed bs).
    let all = list_all-front f.front f.last (ap (list_all is_ascii_digit) (sym f.is) ∙ all) in
    let l : length bs ≡ suc (length f.front) = f.shorter in
    let n : length f.front ≡ k = omega arith in
    pushed bs f (digit_byte f.last all.1) (spelled_by_value k f.front n all.0))
    (front_and_last bs)

zeros_of : (bs ds : List ℕ) (z : ℕ) → bs ≡ replicate z 48 ++ ds → (z ≡ 0) ⊎ (get_or bs 0 0 ≡ 48)
zeros_of bs ds zero e = inl refl
zeros_of bs ds (suc z) e = inr (ap (λ l. get_or l 0 0) e)

counts : (width l z n first : ℕ) → l ≡ z + n → (z ≡ 0) ⊎ (first ≡ 48) → (eqb l width || (ltb width l && not (eqb first 48))) ≡ true → z ≡ width - n
counts width l z n first len zeros h = by (eqb l width) refl (ltb width l) refl zeros h
  where
    by : (a : Bool) → eqb l width ≡ a → (b : Bool) → ltb width l ≡ b → (z ≡ 0) ⊎ (first ≡ 48) → (a || (b && not (eqb first 48))) ≡ true → z ≡ width - n
    by true e b f o h = let w : l ≡ width = eqb-true l width e in omega arith
    by false e false f o h = absurd (true≢false (sym h))
    by false e true f o h = let w : width < l = ltb-true width l f in ⊎_elim
        (λ (none : z ≡ 0). omega arith)
        (λ (zero_first : first ≡ 48). let t : eqb first 48 ≡ true = eq-eqb first 48 zero_first in absurd (true≢false (sym h ∙ ap not t)))
        o

-- digits with no zero beyond the width are the one spelling of their value
pub spelled-numeral : (width : ℕ) (bs : List ℕ) → list_all is_ascii_digit bs ≡ true → is_tight width bs ≡ true → bs ≡ numeral width (digits_value 10 bs)
spelled-numeral width bs all tight =
    let s : Spelled bs = spelled_by_value (length bs) bs refl all in
    let ds : List ℕ = digits_of 10 (digits_value 10 bs) in
    let len : length bs ≡ s.zeros + length ds = ap length s.is ∙ length-append (replicate s.zeros 48) (map (λ d. 48 + d) ds) ∙ (λ i. length-replicate {A = ℕ} s.zeros 48 i + length-map ds (λ d. 48 + d) i) in
    let z : s.zeros ≡ width - length ds = counts width (length bs) s.zeros (length ds) (get_or bs 0 0) len (zeros_of bs (map (λ d. 48 + d) ds) s.zeros s.is) tight in
    s.is ∙ ap (λ k. replicate k 48 ++ map (λ d. 48 + d) ds) z

-- ---- the other way: a spelling is read

all_zeros : (z : ℕ) (bs : List ℕ) → list_all is_ascii_digit bs ≡ true → list_all is_ascii_digit (replicate z 48 ++ bs) ≡ true
all_zeros zero bs h = h
all_zeros (suc z) bs h = all_zeros z bs h

pub value_zeros : (z : ℕ) (bs : List ℕ) → digits_value 10 (replicate z 48 ++ bs) ≡ digits_value 10 bs
value_zeros zero bs = refl
value_zeros (suc z) bs = value_zeros z bs

pub bytes_of_digits : (ds : List ℕ) (n : ℕ) → AllBelowBase 10 ds → (list_all is_ascii_digit (map (λ d. 48 + d) ds) ≡ true) × (digits_value_after 10 n (map (λ d. 48 + d) ds) ≡ number_from_digits_after 10 n ds)
bytes_of_digits [] n h = (refl, refl)
bytes_of_digits (d ∷ ds) n h =
    let lt : d < 10 = h.0 in
    let t : is_ascii_digit (48 + d) ≡ true = grind (arith, nat_tests) in
    let v : digit_value (48 + d) + 48 ≡ 48 + d = digit_value_digit (48 + d) (omega arith, omega arith) in
    let is : digit_value (48 + d) ≡ d = omega arith in
    let rest = bytes_of_digits ds (n * 10 + d) h.1 in
    (rw t rest.0, ap (λ v. digits_value_after 10 (n * 10 + v) (map (λ d. 48 + d) ds)) is ∙ rest.1)

no_zero : (x : ℕ) → 48 < x → not (eqb x 48) ≡ true
no_zero x h = by (eqb x 48) refl
  where
    by : (b : Bool) → eqb x 48 ≡ b → not b ≡ true
    by true e = let is : x ≡ 48 = eqb-true x 48 e in absurd (omega arith)
    by false e = refl

first_byte : (z : ℕ) (ds : List ℕ) → z ≡ 0 → 0 < get_or ds 0 0 → 48 < get_or (replicate z 48 ++ map (λ d. 48 + d) ds) 0 0
first_byte z [] e h = absurd (omega arith)
first_byte z (d ∷ ds) e h = rw e (omega arith)

tight_numeral : (width n : ℕ) → length (numeral width n) ≡ (width - length (digits_of 10 n)) + length (digits_of 10 n) → is_tight width (numeral width n) ≡ true
tight_numeral width n len = by (eqb (length (numeral width n)) width) refl
  where
    by : (a : Bool) → eqb (length (numeral width n)) width ≡ a → (a || (ltb width (length (numeral width n)) && not (eqb (get_or (numeral width n) 0 0) 48))) ≡ true
    by true e = refl
    by false e =
        let other : length (numeral width n) ≢ width = λ is. true≢false (sym (eq-eqb (length (numeral width n)) width is) ∙ e) in
        let long : width < length (digits_of 10 n) = omega arith in
        let none : width - length (digits_of 10 n) ≡ 0 = omega arith in
        let some : 0 < n = ⊎_elim (λ (o : n ≡ 0). absurd (let l : length (digits_of 10 n) ≡ 0 = ap (λ k. length (digits_of 10 k)) o in omega arith)) (λ (p : 0 < n). p) (none_or_some n) in
        let first : 48 < get_or (numeral width n) 0 0 = first_byte (width - length (digits_of 10 n)) (digits_of 10 n) none (first_digits_of 10 n (omega arith) some) in
        let past : ltb width (length (numeral width n)) ≡ true = lt-ltb width (length (numeral width n)) (omega arith) in
        rw (past, no_zero (get_or (numeral width n) 0 0) first) refl

pub numeral_tight : (width n : ℕ) → is_tight width (numeral width n) ≡ true
numeral_tight width n =
    let zeros : ℕ = width - length (digits_of 10 n) in
    tight_numeral width n (length-append (replicate {A = ℕ} zeros 48) (map (λ d. 48 + d) (digits_of 10 n)) ∙ (λ i. length-replicate {A = ℕ} zeros 48 i + length-map (digits_of 10 n) (λ d. 48 + d) i))

pub numeral_digits : (width n : ℕ) → list_all is_ascii_digit (numeral width n) ≡ true
numeral_digits width n = all_zeros (width - length (digits_of 10 n)) (map (λ d. 48 + d) (digits_of 10 n)) (bytes_of_digits (digits_of 10 n) 0 (all_below_base_digits_of 10 n (omega arith))).0

pub no_bar : (bs : List ℕ) → list_all is_ascii_digit bs ≡ true → AllByRecursion (λ b. is_bar b ≡ false) bs
no_bar [] h = tt
no_bar (b ∷ bs) h = by (is_ascii_digit b) refl h (no_bar bs)
  where
    by : (t : Bool) → is_ascii_digit b ≡ t → (t && list_all is_ascii_digit bs) ≡ true → (list_all is_ascii_digit bs ≡ true → AllByRecursion (λ b. is_bar b ≡ false) bs) → AllByRecursion (λ b. is_bar b ≡ false) (b ∷ bs)
    by true e h go = (grind (arith, nat_tests), go h)
    by false e h go = absurd (true≢false (sym h))

pub split_first : (field rest : List ℕ) → AllByRecursion (λ b. is_bar b ≡ false) field → slice_split is_bar (field ++ 95 ∷ rest) ≡ field ∷ slice_split is_bar rest
split_first field rest h = slice_split_at is_bar field 95 rest (All-from_recursion (λ b. is_bar b ≡ false) field h) refl

pub split_last : (field : List ℕ) → AllByRecursion (λ b. is_bar b ≡ false) field → slice_split is_bar field ≡ field ∷ []
split_last field h = slice_split_none is_bar field (All-from_recursion (λ b. is_bar b ≡ false) field h)

pub letter_bar : (k : TaskKind) → AllByRecursion (λ b. is_bar b ≡ false) (letter k)
letter_bar Map = (refl, tt)
letter_bar Reduce = (refl, tt)

-- digits are the one spelling of their value exactly where none is missing and no zero is too many
pub tight-spelled : (width : ℕ) (bs : List ℕ) → list_all is_ascii_digit bs ≡ true → is_tight width bs ≡ is_spelled width bs
tight-spelled width bs all = by (is_tight width bs) refl (is_spelled width bs) refl
  where
    other : is_spelled width bs ≡ true → is_tight width bs ≡ true
    other s =
        let is : bs ≡ numeral width (digits_value 10 bs) = same_text bs _ (sym s) in
        ap (is_tight width) is ∙ numeral_tight width (digits_value 10 bs)

    by : (a : Bool) → is_tight width bs ≡ a → (b : Bool) → is_spelled width bs ≡ b → a ≡ b
    by true t true s = refl
    by false t false s = refl
    by true t false s =
        let is : bs ≡ numeral width (digits_value 10 bs) = spelled-numeral width bs all t in
        sym ((bytes_decides bs (numeral width (digits_value 10 bs))).1 is) ∙ s
    by false t true s = sym t ∙ other s

-- the test of a field's bytes, by their number
pub spelled_at_width : (width : ℕ) (bytes field : List ℕ) → bytes ≡ field → list_all is_ascii_digit field ≡ true → length bytes ≡ width → eqb (length bytes) width ≡ is_spelled width field
spelled_at_width width bytes field is all e =
    let t : eqb (length bytes) width ≡ true = eq-eqb (length bytes) width e in
    let tight : is_tight width bytes ≡ true = rw t refl in
    t ∙ sym tight ∙ ap (is_tight width) is ∙ tight-spelled width field all

pub spelled_past_width : (width : ℕ) (bytes field : List ℕ) → bytes ≡ field → list_all is_ascii_digit field ≡ true → width < length bytes → not (eqb (get_or bytes 0 0) 48) ≡ is_spelled width field
spelled_past_width width bytes field is all lt =
    let past : ltb width (length bytes) ≡ true = lt-ltb width (length bytes) lt in
    let other : eqb (length bytes) width ≡ false = grind (arith, nat_tests) in
    let tight : is_tight width bytes ≡ not (eqb (get_or bytes 0 0) 48) = rw (past, other) refl in
    sym tight ∙ ap (is_tight width) is ∙ tight-spelled width field all

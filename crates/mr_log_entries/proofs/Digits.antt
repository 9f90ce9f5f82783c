-- A number's text, and the digits that bytes are.
use Rattle.std.proofs.Common.{◌≡◌, ◌<◌, ◌≤◌, ◌+◌, ◌*◌, ◌/◌, ◌%◌, ℕ, zero, suc, Bool, true, false, ◌&&◌, ◌||◌, not, nat_eq, nat_lt, List, [], ◌∷◌, ◌++◌, length, map, get_or, drop, refl, sym, ap, ap₂, ◌∙◌, arith, append_assoc, append-nil, true≢false}
use Rattle.std.specs.Int.Digits.{digits_of, number_from_digits, number_from_digits_after, AllBelowBase}
use Rattle.std.proofs.lemmas.Bool.Decides.{nat_tests}
use Rattle.std.proofs.lemmas.Nat.{div-mul-add, mod-mul-add, le-div}
use Rattle.std.proofs.Math.Nat.{div-eq_of_lt, mod-eq_of_lt}
use Rattle.std.proofs.lemmas.Int.Digits.{digits_of_step, all_below_base_digits_of, first_digits_of, number_push, number_after_ge, number_digits_of}
use Rattle.mr_log_entries.specs.Numerals.{digit_byte, number_text}

-- ---- the text of a number

some_digits : (base n : ℕ) → 0 < n → number_text base n ≡ map digit_byte (digits_of base n)
unfolding number_text
some_digits base zero some = absurd (omega arith)
some_digits base (suc n) some = refl

-- of one digit
pub one_digit : (base n : ℕ) → 2 ≤ base → n < base → number_text base n ≡ digit_byte n ∷ []
unfolding number_text
one_digit base zero two less = refl
one_digit base (suc n) two less =
    let some : 0 < suc n = omega arith in
    let quotient : suc n / base ≡ 0 = div-eq_of_lt less in
    let rest : suc n % base ≡ suc n = mod-eq_of_lt less in
    ap (map digit_byte) (digits_of_step base (suc n) two some ∙ ap₂ (λ (q r : ℕ). digits_of base q ++ r ∷ []) quotient rest)

map-push : (ds : List ℕ) (d : ℕ) → map digit_byte (ds ++ d ∷ []) ≡ map digit_byte ds ++ digit_byte d ∷ []
map-push [] d = refl
map-push (x ∷ ds) d = ap (λ (l : List ℕ). digit_byte x ∷ l) (map-push ds d)

-- of more than one
pub more_digits : (base n : ℕ) → 2 ≤ base → base ≤ n → number_text base n ≡ number_text base (n / base) ++ digit_byte (n % base) ∷ []
more_digits base n two more =
    let some : 0 < n = omega arith in
    let high : 1 ≤ n / base = le-div 1 n base (omega arith) (omega arith) in
    some_digits base n some ∙ ap (map digit_byte) (digits_of_step base n two some) ∙ map-push (digits_of base (n / base)) (n % base)
    ∙ ap (λ (l : List ℕ). l ++ digit_byte (n % base) ∷ []) (sym (some_digits base (n / base) high))

-- ---- digits are the text of their number, if no zero stands in front

digits_after : (base n : ℕ) (ds : List ℕ) → 2 ≤ base → 0 < n → AllBelowBase base ds → digits_of base (number_from_digits_after base n ds) ≡ digits_of base n ++ ds
digits_after base n [] two some below = sym (append-nil (digits_of base n))
digits_after base n (d ∷ ds) two some below =
    let next : 0 < n * base + d = positive in
    let quotient : (n * base + d) / base ≡ n = div-mul-add n base d below.0 in
    let rest : (n * base + d) % base ≡ d = mod-mul-add n base d below.0 in
    digits_after base (n * base + d) ds two next below.1
    ∙ ap (λ (l : List ℕ). l ++ ds) (digits_of_step base (n * base + d) two next ∙ ap₂ (λ (q r : ℕ). digits_of base q ++ r ∷ []) quotient rest)
    ∙ append_assoc (digits_of base n) (d ∷ []) ds
  where
    positive : 0 < n * base + d
    positive = grind arith

abbrev pub is_tight_text : List ℕ → Bool
is_tight_text bytes = nat_eq (length bytes) 1 || (nat_lt 1 (length bytes) && not (nat_eq (get_or bytes 0 0) 48))

pub tight_number : (base : ℕ) (ds : List ℕ) → 2 ≤ base → AllBelowBase base ds → is_tight_text (map digit_byte ds) ≡ true → number_text base (number_from_digits base ds) ≡ map digit_byte ds
tight_number base [] two below tight = absurd (true≢false (sym tight))
tight_number base (zero ∷ []) two below tight = let none : 0 * base + 0 ≡ 0 = omega arith in ap (number_text base) none ∙ one_digit base 0 two (omega arith)
tight_number base (zero ∷ (d ∷ ds)) two below tight = absurd (true≢false (sym tight ∙ grind (arith, nat_tests)))
tight_number base (suc d ∷ ds) two below tight =
    let some : 0 < suc d = omega arith in
    let all : 0 < number_from_digits_after base (suc d) ds = let ge = number_after_ge base (suc d) ds (omega arith) in omega arith in
    let one : digits_of base (suc d) ≡ suc d ∷ [] = digits_of_step base (suc d) two some ∙ ap₂ (λ (q r : ℕ). digits_of base q ++ r ∷ []) (div-eq_of_lt below.0) (mod-eq_of_lt below.0) in
    let first : 0 * base + suc d ≡ suc d = omega arith in
    ap (λ (n : ℕ). number_text base (number_from_digits_after base n ds)) first
    ∙ some_digits base (number_from_digits_after base (suc d) ds) all
    ∙ ap (map digit_byte) (digits_after base (suc d) ds two some below.1 ∙ ap (λ (l : List ℕ). l ++ ds) one)

-- ---- the text of a number is such digits

pub record Spelled (base n : ℕ) : Type 0 where
  pub digits : List ℕ
  pub below : AllBelowBase base digits
  pub is : number_text base n ≡ map digit_byte digits
  pub value : number_from_digits base digits ≡ n
  pub tight : is_tight_text (map digit_byte digits) ≡ true

not_zero : (d : ℕ) → 0 < d → nat_eq (digit_byte d) 48 ≡ false
not_zero d some = grind (arith, nat_tests)

first_is_tight : (ds : List ℕ) → 0 < get_or ds 0 0 → is_tight_text (map digit_byte ds) ≡ true
first_is_tight [] some = absurd (omega arith)
first_is_tight (d ∷ []) some = refl
first_is_tight (d ∷ (e ∷ ds)) some =
    let other : nat_eq (digit_byte d) 48 ≡ false = not_zero d some in
    grind (arith, nat_tests)

pub spelled : (base n : ℕ) → 2 ≤ base → Spelled base n
unfolding number_text
spelled base zero two = record { digits = 0 ∷ []; below = (omega arith, tt); is = refl; value = omega arith; tight = refl }
spelled base (suc n) two = record {
  digits = digits_of base (suc n);
  below = all_below_base_digits_of base (suc n) two;
  is = refl;
  value = number_digits_of base (suc n) two;
  tight = first_is_tight (digits_of base (suc n)) (first_digits_of base (suc n) two (omega arith));
}

-- ---- what was read of the digits, and what is left

pub record Read (base : ℕ) (bytes rest : List ℕ) (value : ℕ) : Type 0 where
  pub digits : List ℕ
  pub is : bytes ≡ map digit_byte digits ++ rest
  pub below : AllBelowBase base digits
  pub number : value ≡ number_from_digits base digits

all_push : (base : ℕ) (ds : List ℕ) (d : ℕ) → AllBelowBase base ds → d < base → AllBelowBase base (ds ++ d ∷ [])
all_push base [] d all less = (less, tt)
all_push base (x ∷ ds) d all less = (all.0, all_push base ds d all.1 less)

pub read_none : (base : ℕ) (bytes : List ℕ) → Read base bytes bytes 0
read_none base bytes = record { digits = []; is = refl; below = tt; number = refl }

pub read_more : (base : ℕ) (bytes others : List ℕ) (byte value next d : ℕ) → Read base bytes (byte ∷ others) value → d < base → byte ≡ digit_byte d → next ≡ value * base + d → Read base bytes others next
read_more base bytes others byte value next d r less is sum = record {
  digits = r.digits ++ d ∷ [];
  is = r.is ∙ ap (λ (b : ℕ). map digit_byte r.digits ++ b ∷ others) is ∙ sym (append_assoc (map digit_byte r.digits) (digit_byte d ∷ []) others) ∙ ap (λ (l : List ℕ). l ++ others) (sym (map-push r.digits d));
  below = all_push base r.digits d r.below less;
  number = sum ∙ ap (λ (n : ℕ). n * base + d) r.number ∙ sym (number_push base r.digits d);
}

pub record Left (base : ℕ) (rest : List ℕ) (value whole : ℕ) : Type 0 where
  pub digits : List ℕ
  pub is : rest ≡ map digit_byte digits
  pub below : AllBelowBase base digits
  pub number : number_from_digits_after base value digits ≡ whole

pub record Next (base byte : ℕ) (others : List ℕ) (value whole : ℕ) : Type 0 where
  pub digit : ℕ
  pub less : digit < base
  pub is : byte ≡ digit_byte digit
  pub small : value * base + digit ≤ whole
  pub left : Left base others (value * base + digit) whole

pub next_left : (base byte : ℕ) (others : List ℕ) (value whole : ℕ) → 2 ≤ base → Left base (byte ∷ others) value whole → Next base byte others value whole
next_left base byte others value whole two left = by left.digits left.is left.below left.number
  where
    by : (ds : List ℕ) → byte ∷ others ≡ map digit_byte ds → AllBelowBase base ds → number_from_digits_after base value ds ≡ whole → Next base byte others value whole
    by [] is below number = absurd (let l : suc (length others) ≡ 0 = ap length is in omega arith)
    by (d ∷ ds) is below number = record {
      digit = d;
      less = below.0;
      is = ap (λ (l : List ℕ). get_or l 0 0) is;
      small = let ge = number_after_ge base (value * base + d) ds (omega arith) in omega (arith, ge, number);
      left = record { digits = ds; is = ap (λ (l : List ℕ). drop 1 l) is; below = below.1; number = number };
    }

pub none_left : (base value whole : ℕ) → Left base [] value whole → value ≡ whole
none_left base value whole left = by left.digits left.is left.number
  where
    by : (ds : List ℕ) → [] ≡ map digit_byte ds → number_from_digits_after base value ds ≡ whole → value ≡ whole
    by [] is number = number
    by (d ∷ ds) is number = absurd (let l : 0 ≡ suc (length (map digit_byte ds)) = ap length is in omega arith)

-- ---- no two numbers have one text

same_digit : (d e : ℕ) → d < 64 → e < 64 → digit_byte d ≡ digit_byte e → d ≡ e
same_digit d e small less is = grind (arith, nat_tests)

same_digits : (base : ℕ) (ds es : List ℕ) → base ≤ 64 → AllBelowBase base ds → AllBelowBase base es → map digit_byte ds ≡ map digit_byte es → ds ≡ es
same_digits base [] [] high below under e = refl
same_digits base [] (y ∷ es) high below under e = absurd (let l : 0 ≡ suc (length (map digit_byte es)) = ap length e in omega arith)
same_digits base (x ∷ ds) [] high below under e = absurd (let l : suc (length (map digit_byte ds)) ≡ 0 = ap length e in omega arith)
same_digits base (x ∷ ds) (y ∷ es) high below under e =
    let less : x < base = below.0 in
    let small : y < base = under.0 in
    let first : x ≡ y = same_digit x y (omega arith) (omega arith) (ap (λ (l : List ℕ). get_or l 0 0) e) in
    ap₂ (λ (a : ℕ) (l : List ℕ). a ∷ l) first (same_digits base ds es high below.1 under.1 (ap (λ (l : List ℕ). drop 1 l) e))

pub number_injective : (base m n : ℕ) → 2 ≤ base → base ≤ 64 → number_text base m ≡ number_text base n → m ≡ n
number_injective base m n low high e =
    let s = spelled base m low in
    let t = spelled base n low in
    sym s.value ∙ ap (number_from_digits base) (same_digits base s.digits t.digits high s.below t.below (sym s.is ∙ e ∙ t.is)) ∙ t.value

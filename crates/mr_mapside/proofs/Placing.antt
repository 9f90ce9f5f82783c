-- The places of blocks, found one after the other.
use Rattle.std.proofs.Common.{◌≡◌, ℕ, zero, suc, ◌+◌, ◌-◌, ◌<◌, Bool, true, false, cond, nat_eq, List, [], ◌∷◌, ◌++◌, map, length, take, drop, Option, Some, None, refl, sym, ap, subst, ◌∙◌, append_assoc, arith}
use Rattle.std.specs.Option.{option_map, option_and_then}
use Rattle.std.specs.List.{AllByRecursion, slice_get}
use Rattle.std.specs.Int.{w32, from_be_bytes}
use Rattle.std.proofs.lemmas.Bool.{eq-eqb, eqb-true, eqb-false, ne_eqb}
use Rattle.std.proofs.lemmas.List.{take_at, drop_at, take-append-drop, length-append}
use Rattle.mr_mapside.specs.Cutting.{parted, first_block, cut}
use Rattle.mr_mapside.specs.inner.Places.{at_place, IsWithin, ArePlaces}
use Rattle.mr_mapside.specs.declared.cut_output.Place.{Place}
use Rattle.mr_mapside.proofs.Cuts.{parted_is}

-- blocks that were cut off, and then the blocks of what is left
abbrev pub cut_after : List (List ℕ) → ℕ → List ℕ → Option (List (List ℕ))
cut_after [] count rest = cut count rest
cut_after (block ∷ blocks) zero rest = None
cut_after (block ∷ blocks) (suc count) rest = option_map (λ others. block ∷ others) (cut_after blocks count rest)

-- one block more is cut off
pub cut_one_more : (blocks : List (List ℕ)) (count : ℕ) (rest block after : List ℕ) → 0 < length rest → Some (block, after) ≡ first_block rest → cut_after blocks count rest ≡ cut_after (blocks ++ block ∷ []) count after
cut_one_more [] zero [] block after some e = absurd (omega arith)
cut_one_more [] zero (b ∷ rest) block after some e = refl
cut_one_more [] (suc count) rest block after some e = ap (option_and_then (λ found. option_map (λ blocks. found.0 ∷ blocks) (cut count found.1))) (sym e)
cut_one_more (x ∷ blocks) zero rest block after some e = refl
cut_one_more (x ∷ blocks) (suc count) rest block after some e = ap (option_map (λ others. x ∷ others)) (cut_one_more blocks count rest block after some e)

-- no block can be cut off
pub cut_off_none : (blocks : List (List ℕ)) (count : ℕ) (rest : List ℕ) → 0 < length rest → None ≡ first_block rest → cut_after blocks count rest ≡ None
cut_off_none [] zero [] some e = absurd (omega arith)
cut_off_none [] zero (b ∷ rest) some e = refl
cut_off_none [] (suc count) rest some e = ap (option_and_then (λ found. option_map (λ blocks. found.0 ∷ blocks) (cut count found.1))) (sym e)
cut_off_none (x ∷ blocks) zero rest some e = refl
cut_off_none (x ∷ blocks) (suc count) rest some e = ap (option_map (λ others. x ∷ others)) (cut_off_none blocks count rest some e)

if_map : {A B : Type 0} (f : A → B) (b : Bool) (x : A) → option_map f (cond b (Some x) None) ≡ cond b (Some (f x)) None
if_map f true x = refl
if_map f false x = refl

eq_suc : (m n : ℕ) → nat_eq (suc m) (suc n) ≡ nat_eq m n
eq_suc m n =
    elim (nat_eq m n) as (λ b. nat_eq m n ≡ b → nat_eq (suc m) (suc n) ≡ b) [
      | true ↦ λ e. eq-eqb (suc m) (suc n) (ap (λ n. suc n) (eqb-true m n e))
      | false ↦ λ e. ne_eqb (suc m) (suc n) (λ is. eqb-false m n e (omega (arith, is)))
    ] refl

-- nothing is left
pub cut_whole : (blocks : List (List ℕ)) (count : ℕ) (rest : List ℕ) → length rest ≡ 0 → cut_after blocks count rest ≡ cond (nat_eq (length blocks) count) (Some blocks) None
cut_whole [] zero [] none = refl
cut_whole [] (suc count) [] none = ap (λ b. cond b (Some []) None) (sym (ne_eqb 0 (suc count) (λ is. omega (arith, is))))
cut_whole [] count (b ∷ rest) none = absurd (omega arith)
cut_whole (x ∷ blocks) zero rest none = ap (λ b. cond b (Some (x ∷ blocks)) None) (sym (ne_eqb (suc (length blocks)) 0 (λ is. omega (arith, is))))
cut_whole (x ∷ blocks) (suc count) rest none =
    ap (option_map (λ others. x ∷ others)) (cut_whole blocks count rest none)
    ∙ if_map (λ others. x ∷ others) (nat_eq (length blocks) count) blocks
    ∙ ap (λ b. cond b (Some (x ∷ blocks)) None) (sym (eq_suc (length blocks) count))

-- bytes before a block and after it
pub block_within : (rest block after : List ℕ) → Some (block, after) ≡ first_block rest → (head : List ℕ) × (rest ≡ head ++ (block ++ after))
block_within rest block after e =
    elim (parted 4 rest) as (λ o. parted 4 rest ≡ o → option_and_then (λ found. parted (from_be_bytes w32 found.0) found.1) o ≡ Some (block, after) → (head : List ℕ) × (rest ≡ head ++ (block ++ after))) [
      | None ↦ λ _ e. absurd cc
      | Some found ↦ λ was e.
          let head = parted_is rest found.0 found.1 4 was in
          let len = from_be_bytes w32 found.0 in
          let tail = parted_is found.1 block after len e in (
            take 4 rest,
            sym (take-append-drop 4 rest)
                ∙ ap (λ (back : List ℕ). take 4 rest ++ back) (head.2 ∙ sym (take-append-drop len found.1) ∙ (λ i. tail.1 i ++ tail.2 i)),
          )
    ] refl (sym e)

-- a block lies where it ends, as long as it is
pub block_place : (bytes front rest block after : List ℕ) (place : Place) → bytes ≡ front ++ rest → Some (block, after) ≡ first_block rest → place.end ≡ length bytes - length after → place.start ≡ place.end - length block →
    IsWithin bytes place × (at_place bytes place ≡ block) × ((before : List ℕ) × (bytes ≡ before ++ after))
block_place bytes front rest block after place is e ends starts =
    let found = block_within rest block after e in
    let before : List ℕ = front ++ found.0 in
    let whole : bytes ≡ before ++ (block ++ after) = is ∙ ap (λ (back : List ℕ). front ++ back) found.1 ∙ sym (append_assoc front found.0 (block ++ after)) in
    let len : length bytes ≡ length before + (length block + length after) = ap length whole ∙ length-append before (block ++ after) ∙ ap (λ n. length before + n) (length-append block after) in
    let start : length before ≡ place.start = omega arith in
    let size : length block ≡ place.end - place.start = omega arith in (
      (omega arith, omega arith),
      ap (λ (bytes : List ℕ). take (place.end - place.start) (drop place.start bytes)) whole
          ∙ ap (take (place.end - place.start)) (drop_at before (block ++ after) place.start start)
          ∙ take_at block after (place.end - place.start) size,
      (before ++ block, whole ∙ sym (append_assoc before block after)),
    )

pub all_push : {A : Type 0} (P : A → Type 0) (xs : List A) (x : A) → AllByRecursion P xs → P x → AllByRecursion P (xs ++ x ∷ [])
all_push P [] x a h = (h, tt)
all_push P (y ∷ xs) x a h = (a.0, all_push P xs x a.1 h)

pub map_push : {A B : Type 0} (f : A → B) (xs : List A) (x : A) → map f (xs ++ x ∷ []) ≡ map f xs ++ f x ∷ []
map_push f [] x = refl
map_push f (y ∷ xs) x = ap (λ ys. f y ∷ ys) (map_push f xs x)

length_map : {A B : Type 0} (f : A → B) (xs : List A) → length (map f xs) ≡ length xs
length_map f [] = refl
length_map f (x ∷ xs) = ap (λ n. suc n) (length_map f xs)

pub get_map : {A B : Type 0} (f : A → B) (xs : List A) (i : ℕ) → slice_get (map f xs) i ≡ option_map f (slice_get xs i)
get_map f [] zero = refl
get_map f [] (suc i) = refl
get_map f (x ∷ xs) zero = refl
get_map f (x ∷ xs) (suc i) = get_map f xs i

pub all_at : {A : Type 0} (P : A → Type 0) (xs : List A) (i : ℕ) (x : A) → slice_get xs i ≡ Some x → AllByRecursion P xs → P x
all_at P [] zero x e a = cc
all_at P [] (suc i) x e a = cc
all_at P (y ∷ xs) zero x e a = let same : y ≡ x = cc in subst P same a.0
all_at P (y ∷ xs) (suc i) x e a = all_at P xs i x e a.1

-- what was found while the blocks are cut off
pub record AreFound (bytes rest : List ℕ) (places : List Place) : Type 0 where
  pub front : List ℕ
  pub whole : bytes ≡ front ++ rest
  pub within : AllByRecursion (IsWithin bytes) places
  pub cut : (count : ℕ) → cut count bytes ≡ cut_after (map (at_place bytes) places) count rest

pub found_first : (bytes : List ℕ) (places : List Place) → places ≡ [] → AreFound bytes bytes places
found_first bytes places none = subst (AreFound bytes bytes) (sym none) (record { front = []; whole = refl; within = tt; cut = λ count. refl })

pub found_more : (bytes rest block after : List ℕ) (places more : List Place) (place : Place) → AreFound bytes rest places → 0 < length rest → Some (block, after) ≡ first_block rest →
    place.end ≡ length bytes - length after → place.start ≡ place.end - length block → more ≡ places ++ place ∷ [] → AreFound bytes after more
found_more bytes rest block after places more place found some e ends starts is =
    let at = block_place bytes found.front rest block after place found.whole e ends starts in
    subst (AreFound bytes after) (sym is) (record {
      front = at.2.0;
      whole = at.2.1;
      within = all_push (IsWithin bytes) places place found.within at.0;
      cut = λ count.
          found.cut count
          ∙ cut_one_more (map (at_place bytes) places) count rest block after some e
          ∙ ap (λ (block : List ℕ). cut_after (map (at_place bytes) places ++ block ∷ []) count after) (sym at.1)
          ∙ ap (λ (blocks : List (List ℕ)). cut_after blocks count after) (sym (map_push (at_place bytes) places place));
    })

pub found_all : (bytes rest : List ℕ) (places : List Place) → AreFound bytes rest places → length rest ≡ 0 → ArePlaces bytes (Some places)
found_all bytes rest places found none = record {
  within = found.within;
  cut = λ count. found.cut count ∙ cut_whole (map (at_place bytes) places) count rest none ∙ ap (λ n. cond (nat_eq n count) (Some (map (at_place bytes) places)) None) (length_map (at_place bytes) places);
}

pub found_none : (bytes rest : List ℕ) (places : List Place) → AreFound bytes rest places → 0 < length rest → None ≡ first_block rest → ArePlaces bytes None
found_none bytes rest places found some e = record {
  within = tt;
  cut = λ count. found.cut count ∙ cut_off_none (map (at_place bytes) places) count rest some e;
}

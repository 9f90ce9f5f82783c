-- Bytes are cut into the blocks that they are made of.
use Rattle.std.proofs.Common.{◌≡◌, ℕ, zero, suc, ◌<◌, ◌≤◌, ◌^◌, Bool, true, false, cond, ltb, List, [], ◌∷◌, ◌++◌, length, take, drop, get_or, Option, Some, None, is_some, unwrap_or, refl, sym, ap, subst, ◌∙◌, append_assoc, arith}
use Rattle.std.specs.Option.{option_map, option_and_then}
use Rattle.std.specs.List.{AllByRecursion, flat_map, slice_get}
use Rattle.std.specs.Int.{w32, from_be_bytes, to_be_bytes}
use Rattle.std.proofs.lemmas.Bool.{ltb-false, le-ltb}
use Rattle.std.proofs.lemmas.List.{take_at, drop_at, take-append-drop, length-append, length-take}
use Rattle.std.proofs.lemmas.Nat.{be_bytes_4, from_be_bytes-to_be_bytes_4}
use Rattle.mr_user.specs.Laws.{AreBytes}
use Rattle.mr_mapside.specs.Block.{framed}
use Rattle.mr_mapside.specs.Cutting.{IsShort, AreBlocks, parted, first_block, cut}

byte_below : (bytes : List ℕ) → AreBytes bytes → (i : ℕ) → get_or bytes i 0 < 256
byte_below [] h i = omega arith
byte_below (b ∷ bytes) h zero = h.0
byte_below (b ∷ bytes) h (suc i) = byte_below bytes h.1 i

bytes-take : (n : ℕ) (bytes : List ℕ) → AreBytes bytes → AreBytes (take n bytes)
bytes-take zero bytes h = tt
bytes-take (suc n) [] h = tt
bytes-take (suc n) (b ∷ bytes) h = (h.0, bytes-take n bytes h.1)

bytes-drop : (n : ℕ) (bytes : List ℕ) → AreBytes bytes → AreBytes (drop n bytes)
bytes-drop zero bytes h = h
bytes-drop (suc n) [] h = tt
bytes-drop (suc n) (b ∷ bytes) h = bytes-drop n bytes h.1

parted_append : (front rest : List ℕ) (len : ℕ) → length front ≡ len → parted len (front ++ rest) ≡ Some (front, rest)
parted_append front rest len is =
    let enough : ltb (length (front ++ rest)) len ≡ false = le-ltb _ _ (omega (arith, length-append front rest)) in
    ap (λ b. cond b None (Some (take len (front ++ rest), drop len (front ++ rest)))) enough
    ∙ (λ i. Some (take_at front rest len is i, drop_at front rest len is i))

chosen : {A : Type 0} (b : Bool) (y : A) (x : Option A) → cond b None x ≡ Some y → (b ≡ false) × (x ≡ Some y)
chosen true y x e = absurd cc
chosen false y x e = (refl, e)

some_is : {A : Type 0} (x y : A) → Some x ≡ Some y → x ≡ y
some_is x y e = cc

pub parted_is : (bytes front rest : List ℕ) (len : ℕ) → parted len bytes ≡ Some (front, rest) → (len ≤ length bytes) × (take len bytes ≡ front) × (drop len bytes ≡ rest)
parted_is bytes front rest len e =
    let g = chosen (ltb (length bytes) len) (front, rest) (Some (take len bytes, drop len bytes)) e in
    let is = some_is (take len bytes, drop len bytes) (front, rest) g.1 in
    (ltb-false _ _ g.0, ap (λ (p : List ℕ × List ℕ). p.0) is, ap (λ (p : List ℕ × List ℕ). p.1) is)

-- a block behind its length is cut off
pub first_framed : (block rest : List ℕ) → IsShort block → first_block (framed block ++ rest) ≡ Some (block, rest)
first_framed block rest short =
    let head = to_be_bytes w32 (length block) in
    ap (λ bytes. option_and_then (λ found. parted (from_be_bytes w32 found.0) found.1) (parted 4 bytes)) (append_assoc head block rest)
    ∙ ap (option_and_then (λ found. parted (from_be_bytes w32 found.0) found.1)) (parted_append head (block ++ rest) 4 refl)
    ∙ ap (λ len. parted len (block ++ rest)) (from_be_bytes-to_be_bytes_4 (length block) short)
    ∙ parted_append block rest (length block) refl

-- what is cut off is a block behind its length
pub first_is : (bytes block rest : List ℕ) → AreBytes bytes → first_block bytes ≡ Some (block, rest) → (bytes ≡ framed block ++ rest) × IsShort block × AreBytes rest
first_is bytes block rest h e =
    elim (parted 4 bytes) as (λ o. parted 4 bytes ≡ o → option_and_then (λ found. parted (from_be_bytes w32 found.0) found.1) o ≡ Some (block, rest) → (bytes ≡ framed block ++ rest) × IsShort block × AreBytes rest) [
      | None ↦ λ _ e. absurd cc
      | Some found ↦ λ was e.
          let head = parted_is bytes found.0 found.1 4 was in
          let len = from_be_bytes w32 found.0 in
          let tail = parted_is found.1 block rest len e in
          let long : 4 ≤ length bytes = head.0 in
          let enough : len ≤ length found.1 = tail.0 in
          let front_bytes = subst AreBytes head.1 (bytes-take 4 bytes h) in
          let front_len : length found.0 ≡ 4 = omega (arith, ap length head.1, length-take 4 bytes) in
          let below = byte_below found.0 front_bytes in
          let back : to_be_bytes w32 len ≡ found.0 = be_bytes_4 found.0 len front_len below refl in
          let block_len : length block ≡ len = omega (arith, ap length tail.1, length-take len found.1) in
          let short : len < 2 ^ 32 = omega (arith, below 0, below 1, below 2, below 3) in (
            sym (take-append-drop 4 bytes)
                ∙ (λ i. head.1 i ++ head.2 i)
                ∙ ap (λ (after : List ℕ). found.0 ++ after) (sym (take-append-drop len found.1) ∙ (λ i. tail.1 i ++ tail.2 i))
                ∙ ap (λ (front : List ℕ). front ++ (block ++ rest)) (sym back ∙ ap (to_be_bytes w32) (sym block_len))
                ∙ sym (append_assoc (to_be_bytes w32 (length block)) block rest),
            omega arith,
            subst AreBytes tail.2 (bytes-drop len found.1 (subst AreBytes head.2 (bytes-drop 4 bytes h))),
          )
    ] refl e

-- blocks, each behind its length, are cut
pub cut_framed : (blocks : List (List ℕ)) → AllByRecursion IsShort blocks → cut (length blocks) (flat_map framed blocks) ≡ Some blocks
cut_framed [] short = refl
cut_framed (block ∷ blocks) short =
    ap (option_and_then (λ found. option_map (λ blocks. found.0 ∷ blocks) (cut (length blocks) found.1))) (first_framed block (flat_map framed blocks) short.0)
    ∙ ap (option_map (λ blocks. block ∷ blocks)) (cut_framed blocks short.1)

pub cut_all : (bytes : List ℕ) (count : ℕ) (blocks : List (List ℕ)) → AreBlocks bytes count blocks → cut count bytes ≡ Some blocks
cut_all bytes count blocks h = (λ i. cut (sym h.many i) (h.whole i)) ∙ cut_framed blocks h.short

-- what is cut are the blocks
pub cut_is : (count : ℕ) (bytes : List ℕ) (blocks : List (List ℕ)) → AreBytes bytes → cut count bytes ≡ Some blocks → AreBlocks bytes count blocks
cut_is zero [] blocks h e =
    let none : [] ≡ blocks = cc in
    subst (AreBlocks [] 0) none (record { whole = refl; many = refl; short = tt })
cut_is zero (b ∷ bytes) blocks h e = absurd cc
cut_is (suc count) bytes blocks h e =
    elim (first_block bytes) as (λ o. first_block bytes ≡ o → option_and_then (λ found. option_map (λ blocks. found.0 ∷ blocks) (cut count found.1)) o ≡ Some blocks → AreBlocks bytes (suc count) blocks) [
      | None ↦ λ _ e. absurd cc
      | Some found ↦ λ was e.
          elim (cut count found.1) as (λ o. cut count found.1 ≡ o → option_map (λ blocks. found.0 ∷ blocks) o ≡ Some blocks → AreBlocks bytes (suc count) blocks) [
            | None ↦ λ _ e. absurd cc
            | Some others ↦ λ rest e.
                let first = first_is bytes found.0 found.1 h was in
                let all = cut_is count found.1 others first.2 rest in
                let is : found.0 ∷ others ≡ blocks = cc in
                subst (AreBlocks bytes (suc count)) is (record {
                  whole = first.0 ∙ ap (λ (after : List ℕ). framed found.0 ++ after) all.whole;
                  many = ap (λ n. suc n) all.many;
                  short = (first.1, all.short);
                })
          ] refl e
    ] refl e

pub blocks_one : (bytes : List ℕ) (count : ℕ) (blocks others : List (List ℕ)) → AreBlocks bytes count blocks → AreBlocks bytes count others → blocks ≡ others
blocks_one bytes count blocks others h k =
    let one : Some blocks ≡ Some others = sym (cut_all bytes count blocks h) ∙ cut_all bytes count others k in
    cc

pub cut_len : (count : ℕ) (bytes : List ℕ) (blocks : List (List ℕ)) → cut count bytes ≡ Some blocks → length blocks ≡ count
cut_len zero [] blocks e =
    let none : [] ≡ blocks = cc in
    ap length (sym none)
cut_len zero (b ∷ bytes) blocks e = absurd cc
cut_len (suc count) bytes blocks e =
    elim (first_block bytes) as (λ o. option_and_then (λ found. option_map (λ blocks. found.0 ∷ blocks) (cut count found.1)) o ≡ Some blocks → length blocks ≡ suc count) [
      | None ↦ λ e. absurd cc
      | Some found ↦ λ e.
          elim (cut count found.1) as (λ o. cut count found.1 ≡ o → option_map (λ blocks. found.0 ∷ blocks) o ≡ Some blocks → length blocks ≡ suc count) [
            | None ↦ λ _ e. absurd cc
            | Some others ↦ λ rest e.
                let is : found.0 ∷ others ≡ blocks = cc in
                ap length (sym is) ∙ ap (λ n. suc n) (cut_len count found.1 others rest)
          ] refl e
    ] e

-- while blocks are cut off one after the other
pub whole_is : (o : Option (List (List ℕ))) → is_some o ≡ true → Some (unwrap_or o []) ≡ o
whole_is None e = absurd cc
whole_is (Some x) e = refl

pub whole_none : (o : Option (List (List ℕ))) → is_some o ≡ false → None ≡ o
whole_none None e = refl
whole_none (Some x) e = absurd cc

one_off : (o : Option (List (List ℕ))) (block : List ℕ) → is_some (option_map (λ blocks. block ∷ blocks) o) ≡ is_some o
one_off None block = refl
one_off (Some x) block = refl

pub cut_one_off : (count left : ℕ) (rest block after : List ℕ) → count ≡ suc left → Some (block, after) ≡ first_block rest → is_some (cut count rest) ≡ is_some (cut left after)
cut_one_off count left rest block after is e =
    ap (λ n. is_some (cut n rest)) is
    ∙ ap (λ o. is_some (option_and_then (λ found. option_map (λ blocks. found.0 ∷ blocks) (cut left found.1)) o)) (sym e)
    ∙ one_off (cut left after) block

pub cut_no_more : (count left : ℕ) (rest : List ℕ) → count ≡ suc left → None ≡ first_block rest → is_some (cut count rest) ≡ false
cut_no_more count left rest is e =
    ap (λ n. is_some (cut n rest)) is
    ∙ ap (λ o. is_some (option_and_then (λ found. option_map (λ blocks. found.0 ∷ blocks) (cut left found.1)) o)) (sym e)

pub cut_rest : (rest : List ℕ) → 0 < length rest → is_some (cut 0 rest) ≡ false
cut_rest [] h = absurd (omega arith)
cut_rest (b ∷ rest) h = refl

pub cut_end : (rest : List ℕ) → length rest ≡ 0 → is_some (cut 0 rest) ≡ true
cut_end [] h = refl
cut_end (b ∷ rest) h = absurd (omega arith)

pub blocks_not : (bytes : List ℕ) (count : ℕ) → is_some (cut count bytes) ≡ false → (blocks : List (List ℕ)) → AreBlocks bytes count blocks → ⊥
blocks_not bytes count none blocks h =
    let some : is_some (cut count bytes) ≡ true = ap is_some (cut_all bytes count blocks h) in
    absurd cc

-- the blocks that are left, one after the other
pub cut_left : (count left : ℕ) (rest block after : List ℕ) (blocks : List (List ℕ)) → count ≡ suc left → Some (block, after) ≡ first_block rest → cut count rest ≡ Some blocks → (cut left after ≡ Some (drop 1 blocks)) × (Some block ≡ slice_get blocks 0)
cut_left count left rest block after blocks is e h =
    let opened : option_map (λ blocks. block ∷ blocks) (cut left after) ≡ Some blocks =
    ap (option_and_then (λ found. option_map (λ blocks. found.0 ∷ blocks) (cut left found.1))) e ∙ ap (λ n. cut n rest) (sym is) ∙ h in
    elim (cut left after) as (λ o. option_map (λ blocks. block ∷ blocks) o ≡ Some blocks → (o ≡ Some (drop 1 blocks)) × (Some block ≡ slice_get blocks 0)) [
      | None ↦ λ e. absurd cc
      | Some others ↦ λ e.
          let same : block ∷ others ≡ blocks = cc in
          (ap (λ blocks. Some (drop 1 blocks)) same, ap (λ blocks. slice_get blocks 0) same)
    ] opened

pub cut_stops : (count left : ℕ) (rest : List ℕ) (blocks : List (List ℕ)) → count ≡ suc left → None ≡ first_block rest → cut count rest ≡ Some blocks → ⊥
cut_stops count left rest blocks is e h =
    let some : is_some (cut count rest) ≡ true = ap is_some h in
    let none : is_some (cut count rest) ≡ false = cut_no_more count left rest is e in
    absurd cc

-- the place in what is left
pub drop_place : (blocks : List (List ℕ)) (i : ℕ) → slice_get (drop i blocks) 0 ≡ slice_get blocks i
drop_place [] zero = refl
drop_place [] (suc i) = refl
drop_place (block ∷ blocks) zero = refl
drop_place (block ∷ blocks) (suc i) = drop_place blocks i

pub drop_one_more : (blocks : List (List ℕ)) (i : ℕ) → drop 1 (drop i blocks) ≡ drop (suc i) blocks
drop_one_more [] zero = refl
drop_one_more [] (suc i) = refl
drop_one_more (block ∷ blocks) zero = refl
drop_one_more (block ∷ blocks) (suc i) = drop_one_more blocks i

pub no_place : (blocks : List (List ℕ)) (i : ℕ) → length blocks ≤ i → None ≡ slice_get blocks i
no_place [] zero h = refl
no_place [] (suc i) h = refl
no_place (block ∷ blocks) zero h = absurd (omega arith)
no_place (block ∷ blocks) (suc i) h = no_place blocks i (omega arith)

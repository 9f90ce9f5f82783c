-- The laws of the forms.
use Rattle.std.proofs.Common.{◌≡◌, ℕ, zero, suc, ◌+◌, ◌^◌, ◌<◌, ◌≤◌, Bool, true, false, cond, ltb, ◌&&◌, List, [], ◌∷◌, ◌++◌, length, get_or, take, drop, Option, Some, None, refl, sym, ap, subst, ◌∙◌, append_assoc, arith}
use Rattle.std.specs.Bool.{IsTrue}
use Rattle.std.specs.List.{list_all}
use Rattle.std.specs.Int.{w32, w64, from_be_bytes, to_be_bytes}
use Rattle.std.proofs.lemmas.Bool.{ltb-false, le-ltb, lt-ltb, ltb-true}
use Rattle.std.proofs.lemmas.List.{take_at, drop_at, take-append-drop, length-append, length-take, length-drop, drop-drop}
use Rattle.std.proofs.lemmas.Nat.{be_bytes_4, be_bytes_8, from_be_bytes-to_be_bytes_4, from_be_bytes-to_be_bytes_8}
use Rattle.mr_user.specs.Laws.{CodecLaws, AreBytes}
use Rattle.mr_user.specs.declared.position.Position.{Position}
use Rattle.mr_user.specs.Codecs.{number_codec, text_codec, position_codec}

byte_below : (bytes : List ℕ) → AreBytes bytes → (i : ℕ) → get_or bytes i 0 < 256
byte_below [] h i = omega arith
byte_below (b ∷ bytes) h zero = h.0
byte_below (b ∷ bytes) h (suc i) = byte_below bytes h.1 i

bytes-take : (n : ℕ) (bytes : List ℕ) → AreBytes bytes → AreBytes (take n bytes)
bytes-take zero bytes h = tt
bytes-take (suc n) [] h = tt
bytes-take (suc n) (b ∷ bytes) h = (h.0, bytes-take n bytes h.1)

bytes-drop : (n : ℕ) (bytes : List ℕ) → AreBytes bytes → AreBytes (drop n bytes)
bytes-drop zero bytes h = h
bytes-drop (suc n) [] h = tt
bytes-drop (suc n) (b ∷ bytes) h = bytes-drop n bytes h.1

chosen : {A : Type 0} (b : Bool) (y : A) (x : Option A) → cond b None x ≡ Some y → (b ≡ false) × (x ≡ Some y)
chosen true y x e = absurd cc
chosen false y x e = (refl, e)

some_is : {A : Type 0} (x y : A) → Some x ≡ Some y → x ≡ y
some_is x y e = cc

number_written : (bytes : List ℕ) (v n : ℕ) → AreBytes bytes → number_codec.read_at bytes ≡ Some (v, n) → IsTrue (number_codec.fits v) × (bytes ≡ number_codec.written v ++ drop n bytes) × (n ≡ length (number_codec.written v))
number_written bytes v n h e =
    let g = chosen (ltb (length bytes) 8) (v, n) (Some (from_be_bytes w64 (take 8 bytes), 8)) e in
    let long : 8 ≤ length bytes = ltb-false _ _ g.0 in
    let is = some_is (from_be_bytes w64 (take 8 bytes), 8) (v, n) g.1 in
    let front = byte_below (take 8 bytes) (bytes-take 8 bytes h) in
    let back : to_be_bytes w64 (from_be_bytes w64 (take 8 bytes)) ≡ take 8 bytes = be_bytes_8 (take 8 bytes) _ (omega (arith, length-take 8 bytes)) front refl in
    subst (λ (p : ℕ × ℕ). IsTrue (number_codec.fits p.0) × (bytes ≡ number_codec.written p.0 ++ drop p.1 bytes) × (p.1 ≡ length (number_codec.written p.0))) is (
      lt-ltb _ _ (omega (arith, front 0, front 1, front 2, front 3, front 4, front 5, front 6, front 7)),
      sym (take-append-drop 8 bytes) ∙ ap (λ (front : List ℕ). front ++ drop 8 bytes) (sym back),
      refl,
    )

number_again : (v : ℕ) (rest : List ℕ) → IsTrue (number_codec.fits v) → number_codec.read_at (number_codec.written v ++ rest) ≡ Some (v, length (number_codec.written v))
number_again v rest h =
    let bytes = to_be_bytes w64 v in
    let long : ltb (length (bytes ++ rest)) 8 ≡ false = le-ltb _ _ (omega (arith, length-append bytes rest)) in
    ap (λ b. cond b None (Some (from_be_bytes w64 (take 8 (bytes ++ rest)), 8))) long
    ∙ ap (λ front. Some (from_be_bytes w64 front, 8)) (take_at bytes rest 8 refl)
    ∙ ap (λ n. Some (n, 8)) (from_be_bytes-to_be_bytes_8 v (ltb-true _ _ h))

number_some : (bytes : List ℕ) (v n : ℕ) → number_codec.read_at bytes ≡ Some (v, n) → (0 < n) × (n ≤ length bytes)
number_some bytes v n e =
    let g = chosen (ltb (length bytes) 8) (v, n) (Some (from_be_bytes w64 (take 8 bytes), 8)) e in
    let long : 8 ≤ length bytes = ltb-false _ _ g.0 in
    let is : 8 ≡ n = ap (λ (p : ℕ × ℕ). p.1) (some_is (from_be_bytes w64 (take 8 bytes), 8) (v, n) g.1) in
    (omega arith, omega arith)

pub number_laws : CodecLaws number_codec
number_laws = record { read_written = number_again; written_read = number_written; read_some = number_some; not_empty = λ v. omega arith }

and_both : (a b : Bool) → (a && b) ≡ true → (a ≡ true) × (b ≡ true)
and_both true b h = (refl, h)
and_both false b h = absurd cc

pub all_bytes : (bytes : List ℕ) → AreBytes bytes → list_all (λ b. ltb b 256) bytes ≡ true
all_bytes [] h = refl
all_bytes (b ∷ bytes) h = ap (λ t. t && list_all (λ b. ltb b 256) bytes) (lt-ltb _ _ h.0) ∙ all_bytes bytes h.1

pub text_fits : (text : List ℕ) → length text < 2 ^ 32 → AreBytes text → IsTrue (text_codec.fits text)
text_fits text short h = ap (λ t. t && list_all (λ b. ltb b 256) text) (lt-ltb _ _ short) ∙ all_bytes text h

-- from what a slice of the program is known to hold
pub bytes_from_places : (bytes : List ℕ) → ((i : ℕ) → get_or bytes i 0 < 256) → AreBytes bytes
bytes_from_places [] h = tt
bytes_from_places (b ∷ bytes) h = (h 0, bytes_from_places bytes (λ i. h (suc i)))

abbrev text_at : List ℕ → ℕ → Option (List ℕ × ℕ)
text_at bytes len = cond (ltb (length (drop 4 bytes)) len) None (Some (take len (drop 4 bytes), 4 + len))

text_again : (text rest : List ℕ) → IsTrue (text_codec.fits text) → text_codec.read_at (text_codec.written text ++ rest) ≡ Some (text, length (text_codec.written text))
text_again text rest h =
    let short : length text < 2 ^ 32 = ltb-true _ _ (and_both _ _ h).0 in
    let head = to_be_bytes w32 (length text) in
    let all = (head ++ text) ++ rest in
    let long : ltb (length all) 4 ≡ false = le-ltb _ _ (omega (arith, length-append (head ++ text) rest, length-append head text)) in
    let rest_is : drop 4 all ≡ text ++ rest = ap (drop 4) (append_assoc head text rest) ∙ drop_at head (text ++ rest) 4 refl in
    let len_is : from_be_bytes w32 (take 4 all) ≡ length text =
    ap (λ (front : List ℕ). from_be_bytes w32 (take 4 front)) (append_assoc head text rest) ∙ ap (from_be_bytes w32) (take_at head (text ++ rest) 4 refl) ∙ from_be_bytes-to_be_bytes_4 (length text) short in
    let enough : ltb (length (text ++ rest)) (length text) ≡ false = le-ltb _ _ (omega (arith, length-append text rest)) in
    ap (λ b. cond b None (text_at all (from_be_bytes w32 (take 4 all)))) long
    ∙ ap (text_at all) len_is
    ∙ ap (λ (after : List ℕ). cond (ltb (length after) (length text)) None (Some (take (length text) after, 4 + length text))) rest_is
    ∙ ap (λ b. cond b None (Some (take (length text) (text ++ rest), 4 + length text))) enough
    ∙ ap (λ (t : List ℕ). Some (t, 4 + length text)) (take_at text rest (length text) refl)
    ∙ ap (λ n. Some (text, n)) (sym (length-append head text))

text_written : (bytes text : List ℕ) (n : ℕ) → AreBytes bytes → text_codec.read_at bytes ≡ Some (text, n) → IsTrue (text_codec.fits text) × (bytes ≡ text_codec.written text ++ drop n bytes) × (n ≡ length (text_codec.written text))
text_written bytes text n h e =
    let len = from_be_bytes w32 (take 4 bytes) in
    let g = chosen (ltb (length bytes) 4) (text, n) (text_at bytes len) e in
    let k = chosen (ltb (length (drop 4 bytes)) len) (text, n) (Some (take len (drop 4 bytes), 4 + len)) g.1 in
    let long : 4 ≤ length bytes = ltb-false _ _ g.0 in
    let enough : len ≤ length (drop 4 bytes) = ltb-false _ _ k.0 in
    let is = some_is (take len (drop 4 bytes), 4 + len) (text, n) k.1 in
    let front = byte_below (take 4 bytes) (bytes-take 4 bytes h) in
    let back : to_be_bytes w32 len ≡ take 4 bytes = be_bytes_4 (take 4 bytes) _ (omega (arith, length-take 4 bytes)) front refl in
    let word = take len (drop 4 bytes) in
    let word_len : length word ≡ len = omega (arith, length-take len (drop 4 bytes)) in
    let below : len < 2 ^ 32 = omega (arith, front 0, front 1, front 2, front 3) in
    let head_is : to_be_bytes w32 (length word) ≡ take 4 bytes = ap (to_be_bytes w32) word_len ∙ back in
    subst (λ (p : List ℕ × ℕ). IsTrue (text_codec.fits p.0) × (bytes ≡ text_codec.written p.0 ++ drop p.1 bytes) × (p.1 ≡ length (text_codec.written p.0))) is (
      text_fits word (omega (arith, word_len)) (bytes-take len (drop 4 bytes) (bytes-drop 4 bytes h)),
      sym (take-append-drop 4 bytes)
          ∙ ap (λ (rest : List ℕ). take 4 bytes ++ rest) (sym (take-append-drop len (drop 4 bytes)) ∙ ap (λ (rest : List ℕ). word ++ rest) (drop-drop len 4 bytes))
          ∙ ap (λ (front : List ℕ). front ++ (word ++ drop (4 + len) bytes)) (sym head_is)
          ∙ sym (append_assoc (to_be_bytes w32 (length word)) word (drop (4 + len) bytes)),
      ap (λ m. 4 + m) (sym word_len) ∙ sym (length-append (to_be_bytes w32 (length word)) word),
    )

text_some : (bytes text : List ℕ) (n : ℕ) → text_codec.read_at bytes ≡ Some (text, n) → (0 < n) × (n ≤ length bytes)
text_some bytes text n e =
    let len = from_be_bytes w32 (take 4 bytes) in
    let g = chosen (ltb (length bytes) 4) (text, n) (text_at bytes len) e in
    let k = chosen (ltb (length (drop 4 bytes)) len) (text, n) (Some (take len (drop 4 bytes), 4 + len)) g.1 in
    let long : 4 ≤ length bytes = ltb-false _ _ g.0 in
    let enough : len ≤ length (drop 4 bytes) = ltb-false _ _ k.0 in
    let is : 4 + len ≡ n = ap (λ (p : List ℕ × ℕ). p.1) (some_is (take len (drop 4 bytes), 4 + len) (text, n) k.1) in
    (omega arith, omega (arith, length-drop 4 bytes))

pub text_laws : CodecLaws text_codec
text_laws = record { read_written = text_again; written_read = text_written; read_some = text_some; not_empty = λ v. omega (arith, length-append (to_be_bytes w32 (length v)) v) }

abbrev position_at : List ℕ → Position
position_at bytes = record { split = from_be_bytes w32 (take 4 bytes); line = from_be_bytes w64 (take 8 (drop 4 bytes)) }

position_again : (p : Position) (rest : List ℕ) → IsTrue (position_codec.fits p) → position_codec.read_at (position_codec.written p ++ rest) ≡ Some (p, length (position_codec.written p))
position_again p rest h =
    let fit = and_both (ltb p.split (2 ^ 32)) (ltb p.line (2 ^ 64)) h in
    let head = to_be_bytes w32 p.split in
    let tail = to_be_bytes w64 p.line in
    let all = (head ++ tail) ++ rest in
    let long : ltb (length all) 12 ≡ false = le-ltb _ _ (omega (arith, length-append (head ++ tail) rest, length-append head tail)) in
    let split_is : from_be_bytes w32 (take 4 all) ≡ p.split =
    ap (λ (bytes : List ℕ). from_be_bytes w32 (take 4 bytes)) (append_assoc head tail rest) ∙ ap (from_be_bytes w32) (take_at head (tail ++ rest) 4 refl) ∙ from_be_bytes-to_be_bytes_4 p.split (ltb-true _ _ fit.0) in
    let line_is : from_be_bytes w64 (take 8 (drop 4 all)) ≡ p.line =
    ap (λ (bytes : List ℕ). from_be_bytes w64 (take 8 (drop 4 bytes))) (append_assoc head tail rest) ∙ ap (λ (bytes : List ℕ). from_be_bytes w64 (take 8 bytes)) (drop_at head (tail ++ rest) 4 refl)
    ∙ ap (from_be_bytes w64) (take_at tail rest 8 refl) ∙ from_be_bytes-to_be_bytes_8 p.line (ltb-true _ _ fit.1) in
    let length_is : 12 ≡ length (head ++ tail) = omega (arith, length-append head tail) in
    let whole : position_at all ≡ p = (λ i. record { split = split_is i; line = line_is i }) in
    ap (λ b. cond b None (Some (position_at all, 12))) long
    ∙ ap (λ (q : Position). Some (q, 12)) whole
    ∙ ap (λ n. Some (p, n)) length_is

position_written : (bytes : List ℕ) (p : Position) (n : ℕ) → AreBytes bytes → position_codec.read_at bytes ≡ Some (p, n) → IsTrue (position_codec.fits p) × (bytes ≡ position_codec.written p ++ drop n bytes) × (n ≡ length (position_codec.written p))
position_written bytes p n h e =
    let g = chosen (ltb (length bytes) 12) (p, n) (Some (position_at bytes, 12)) e in
    let long : 12 ≤ length bytes = ltb-false _ _ g.0 in
    let is = some_is (position_at bytes, 12) (p, n) g.1 in
    let rest = drop 4 bytes in
    let front = byte_below (take 4 bytes) (bytes-take 4 bytes h) in
    let back = byte_below (take 8 rest) (bytes-take 8 rest (bytes-drop 4 bytes h)) in
    let split = from_be_bytes w32 (take 4 bytes) in
    let line = from_be_bytes w64 (take 8 rest) in
    let head_is : to_be_bytes w32 split ≡ take 4 bytes = be_bytes_4 (take 4 bytes) _ (omega (arith, length-take 4 bytes)) front refl in
    let tail_is : to_be_bytes w64 line ≡ take 8 rest = be_bytes_8 (take 8 rest) _ (omega (arith, length-take 8 rest, length-drop 4 bytes)) back refl in
    let split_fits : split < 2 ^ 32 = omega (arith, front 0, front 1, front 2, front 3) in
    let line_fits : line < 2 ^ 64 = omega (arith, back 0, back 1, back 2, back 3, back 4, back 5, back 6, back 7) in
    let length_is : 12 ≡ length (to_be_bytes w32 split ++ to_be_bytes w64 line) = omega (arith, length-append (to_be_bytes w32 split) (to_be_bytes w64 line)) in
    subst (λ (q : Position × ℕ). IsTrue (position_codec.fits q.0) × (bytes ≡ position_codec.written q.0 ++ drop q.1 bytes) × (q.1 ≡ length (position_codec.written q.0))) is (
      ap (λ t. t && ltb line (2 ^ 64)) (lt-ltb _ _ split_fits) ∙ lt-ltb _ _ line_fits,
      sym (take-append-drop 4 bytes)
          ∙ ap (λ (rest : List ℕ). take 4 bytes ++ rest) (sym (take-append-drop 8 rest) ∙ ap (λ (after : List ℕ). take 8 rest ++ after) (drop-drop 8 4 bytes))
          ∙ (λ i. sym head_is i ++ (sym tail_is i ++ drop 12 bytes))
          ∙ sym (append_assoc (to_be_bytes w32 split) (to_be_bytes w64 line) (drop 12 bytes)),
      length_is,
    )

position_some : (bytes : List ℕ) (p : Position) (n : ℕ) → position_codec.read_at bytes ≡ Some (p, n) → (0 < n) × (n ≤ length bytes)
position_some bytes p n e =
    let g = chosen (ltb (length bytes) 12) (p, n) (Some (position_at bytes, 12)) e in
    let long : 12 ≤ length bytes = ltb-false _ _ g.0 in
    let is : 12 ≡ n = ap (λ (q : Position × ℕ). q.1) (some_is (position_at bytes, 12) (p, n) g.1) in
    (omega arith, omega arith)

pub position_laws : CodecLaws position_codec
position_laws = record { read_written = position_again; written_read = position_written; read_some = position_some; not_empty = λ p. omega (arith, length-append (to_be_bytes w32 p.split) (to_be_bytes w64 p.line)) }

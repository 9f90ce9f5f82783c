-- A piece says its pairs, or where and why they end.
use Rattle.std.proofs.Common.{◌≡◌, ◌≢◌, ℕ, zero, suc, ◌+◌, ◌<◌, ◌≤◌, true, false, cond, List, [], ◌∷◌, ◌++◌, length, drop, Option, Some, None, Result, Ok, Err, refl, sym, ap, subst, ◌∙◌, arith, append_assoc, append-nil, length-append, length-drop}
use Rattle.std.proofs.lemmas.List.{drop_at, drop-drop}
use Rattle.std.specs.Option.{option_map, option_map_or, option_and_then}
use Rattle.mr_user.specs.Computation.{Computation}
use Rattle.mr_user.specs.Laws.{PairFits, PairsFit, AreBytes}
use Rattle.mr_mapside.specs.Block.{spelled_pair, spelled}
use Rattle.mr_mapside.specs.declared.fault.ShuffleFault.{ShuffleFault}
use Rattle.mr_mapside.specs.declared.fault.ShuffleFault.TheVariants as shuffle
use Rattle.mr_mapside.specs.Runs.{pair_at}
use Rattle.mr_shuffle.specs.Part.{last_key, in_front, goes_down, pairs_at, pairs_of_piece}
use Rattle.mr_shuffle.specs.PieceMeaning.{IsLevel, ArePairsThen, BeginsNoPair, Says, PieceIsWhatItSays}
use Rattle.mr_shuffle.proofs.Composing.{Lawful, one_pair}
use Rattle.mr_mapside.proofs.RunReading.{pair_again, pair_some}
use Rattle.mr_shuffle.proofs.Decoding.{in_front_all, enough, read_down}

bytes-drop : (n : ℕ) (bytes : List ℕ) → AreBytes bytes → AreBytes (drop n bytes)
bytes-drop zero bytes h = h
bytes-drop (suc n) [] h = tt
bytes-drop (suc n) (b ∷ bytes) h = bytes-drop n bytes h.1

none-front : {A E : Type 0} (r : Result (List A) E) → r ≡ in_front_all [] r
none-front (Ok xs) = refl
none-front (Err e) = refl

front-all : {A E : Type 0} (x : A) (xs : List A) (r : Result (List A) E) → in_front x (in_front_all xs r) ≡ in_front_all (x ∷ xs) r
front-all x xs (Ok ys) = refl
front-all x xs (Err e) = refl

module _ {K V : Type 0} (job : Computation K V) (laws : Lawful job) where
  -- the key before what follows pairs
  abbrev key_after : Option K → List (K × V) → Option K
  key_after before [] = before
  key_after before (p ∷ ps) = key_after (Some p.0) ps

  key_after-last : (p : K × V) (ps : List (K × V)) → key_after (Some p.0) ps ≡ last_key (p ∷ ps)
  key_after-last p [] = refl
  key_after-last p (q ∷ ps) = key_after-last q ps

  key_after-none : (ps : List (K × V)) → key_after None ps ≡ last_key ps
  key_after-none [] = refl
  key_after-none (p ∷ ps) = key_after-last p ps

  pair_long : (p : K × V) → 0 < length (spelled_pair job p)
  pair_long p =
      let k = length-append (job.key.written p.0) (job.value.written p.1) in
      let some = laws.key_laws.not_empty p.0 in
      omega arith

  -- pairs that were written are read, and then what follows them
  again_then : (ps : List (K × V)) (before : Option K) (most : ℕ) (rest : List ℕ) → length (spelled job ps ++ rest) ≤ most → PairsFit job ps → IsLevel job before ps →
      pairs_at job most before (spelled job ps ++ rest) ≡ in_front_all ps (pairs_at job (length rest) (key_after before ps) rest)
  again_then [] before most rest h f l = enough job laws.key_laws laws.value_laws most (length rest) before rest h (omega arith) ∙ none-front (pairs_at job (length rest) before rest)
  again_then (p ∷ ps) before zero rest h f l =
      let a = length-append (spelled job (p ∷ ps)) rest in
      let e = length-append (spelled_pair job p) (spelled job ps) in
      let some = pair_long p in
      absurd (omega arith)
  again_then (p ∷ ps) before (suc most) rest h f l =
      let bytes = spelled_pair job p ++ (spelled job ps ++ rest) in
      let same : spelled job (p ∷ ps) ++ rest ≡ bytes = append_assoc (spelled_pair job p) (spelled job ps) rest in
      let e = length-append (spelled_pair job p) (spelled job ps ++ rest) in
      let long : length bytes ≤ suc most = subst (λ (bytes : List ℕ). length bytes ≤ suc most) same h in
      let some = pair_long p in
      let less : length (spelled job ps ++ rest) ≤ most = omega arith in
      ap (pairs_at job (suc most) before) same
      ∙ one_pair job laws most before bytes p (length (spelled_pair job p)) (omega arith) (pair_again job laws.key_laws laws.value_laws p (spelled job ps ++ rest) f.0) l.0
      ∙ ap (λ bytes. in_front p (pairs_at job most (Some p.0) bytes)) (drop_at (spelled_pair job p) (spelled job ps ++ rest) (length (spelled_pair job p)) refl)
      ∙ ap (in_front p) (again_then ps (Some p.0) most rest less f.1 l.1)
      ∙ front-all p ps (pairs_at job (length rest) (key_after (Some p.0) ps) rest)

  -- a pair that is read fits, and its own bytes begin the bytes
  pair_written : (bytes : List ℕ) (p : K × V) (n : ℕ) → AreBytes bytes → pair_at job bytes ≡ Some (p, n) → PairFits job p × (bytes ≡ spelled_pair job p ++ drop n bytes)
  pair_written bytes p n h e = at_key (job.key.read_at bytes) refl e where
    found : (k : K × ℕ) (v : V × ℕ) → job.key.read_at bytes ≡ Some k → job.value.read_at (drop k.1 bytes) ≡ Some v → ◌≡◌ {A = (K × V) × ℕ} ((k.0, v.0), k.1 + v.1) (p, n) → PairFits job p × (bytes ≡ spelled_pair job p ++ drop n bytes)
    found k v at_k at_v same =
        let key = laws.key_laws.written_read bytes k.0 k.1 h at_k in
        let value = laws.value_laws.written_read (drop k.1 bytes) v.0 v.1 (bytes-drop k.1 bytes h) at_v in
        subst (λ (f : (K × V) × ℕ). PairFits job f.0 × (bytes ≡ spelled_pair job f.0 ++ drop f.1 bytes)) same (
          (key.0, value.0),
          key.1
              ∙ ap (λ (rest : List ℕ). job.key.written k.0 ++ rest) (value.1 ∙ ap (λ (rest : List ℕ). job.value.written v.0 ++ rest) (drop-drop v.1 k.1 bytes))
              ∙ sym (append_assoc (job.key.written k.0) (job.value.written v.0) (drop (k.1 + v.1) bytes)),
        )

    at_value : (k : K × ℕ) (o : Option (V × ℕ)) → job.key.read_at bytes ≡ Some k → job.value.read_at (drop k.1 bytes) ≡ o → option_map {U = (K × V) × ℕ} (λ (value : V × ℕ). ((k.0, value.0), k.1 + value.1)) o ≡ Some (p, n) → PairFits job p × (bytes ≡ spelled_pair job p ++ drop n bytes)
    at_value k None at_k is e = absurd cc
    at_value k (Some v) at_k is e = let same : ◌≡◌ {A = (K × V) × ℕ} ((k.0, v.0), k.1 + v.1) (p, n) = cc in found k v at_k is same

    at_key : (o : Option (K × ℕ)) → job.key.read_at bytes ≡ o → option_and_then (λ (key : K × ℕ). option_map {U = (K × V) × ℕ} (λ (value : V × ℕ). ((key.0, value.0), key.1 + value.1)) (job.value.read_at (drop key.1 bytes))) o ≡ Some (p, n) → PairFits job p × (bytes ≡ spelled_pair job p ++ drop n bytes)
    at_key None is e = absurd cc
    at_key (Some k) is e = at_value k (job.value.read_at (drop k.1 bytes)) is refl e

  no_pair : (bytes : List ℕ) → pair_at job bytes ≡ None → BeginsNoPair job bytes
  no_pair bytes none p rest fit same = let some = pair_again job laws.key_laws laws.value_laws p rest fit in let is : pair_at job bytes ≡ Some (p, length (spelled_pair job p)) = ap (pair_at job) same ∙ some in cc

  is_none : (bytes : List ℕ) → AreBytes bytes → BeginsNoPair job bytes → pair_at job bytes ≡ None
  is_none bytes h none = by (pair_at job bytes) refl where
    by : (o : Option ((K × V) × ℕ)) → pair_at job bytes ≡ o → o ≡ None
    by None is = refl
    by (Some found) is = let w = pair_written bytes found.0 found.1 h is in absurd (none found.0 (drop found.1 bytes) w.0 w.1)

  -- what bytes say after a key
  abbrev SaysAfter : Option K → List ℕ → Result (List (K × V)) ShuffleFault → Type 0
  SaysAfter before bytes (Ok ps) = (bytes ≡ spelled job ps) × PairsFit job ps × IsLevel job before ps
  SaysAfter before bytes (Err shuffle.Truncated) = (ps : List (K × V)) × (rest : List ℕ) × (bytes ≡ spelled job ps ++ rest) × PairsFit job ps × IsLevel job before ps × (rest ≢ []) × BeginsNoPair job rest
  SaysAfter before bytes (Err shuffle.Disorder) = (ps : List (K × V)) × (p : K × V) × (rest : List ℕ) × (bytes ≡ spelled job ps ++ (spelled_pair job p ++ rest)) × PairsFit job ps × IsLevel job before ps × PairFits job p × (goes_down job (key_after before ps) p.0 ≡ true)
  SaysAfter before bytes (Err shuffle.WrongPiece) = ⊥
  SaysAfter before bytes (Err shuffle.NoMemory) = ⊥

  -- a pair in front of what the rest says
  says_more : (before : Option K) (bytes after : List ℕ) (p : K × V) (said : Result (List (K × V)) ShuffleFault) → bytes ≡ spelled_pair job p ++ after → PairFits job p → goes_down job before p.0 ≡ false → SaysAfter (Some p.0) after said → SaysAfter before bytes (in_front p said)
  says_more before bytes after p (Ok ps) e f l s = (e ∙ ap (λ (rest : List ℕ). spelled_pair job p ++ rest) s.0, (f, s.1), (l, s.2))
  says_more before bytes after p (Err shuffle.Truncated) e f l (ps, rest, is, fit, level, some, none) =
      (p ∷ ps, rest, e ∙ ap (λ (rest : List ℕ). spelled_pair job p ++ rest) is ∙ sym (append_assoc (spelled_pair job p) (spelled job ps) rest), (f, fit), (l, level), some, none)
  says_more before bytes after p (Err shuffle.Disorder) e f l (ps, q, rest, is, fit, level, one, down) =
      (p ∷ ps, q, rest, e ∙ ap (λ (rest : List ℕ). spelled_pair job p ++ rest) is ∙ sym (append_assoc (spelled_pair job p) (spelled job ps) (spelled_pair job q ++ rest)), (f, fit), (l, level), one, down)
  says_more before bytes after p (Err shuffle.WrongPiece) e f l s = absurd s
  says_more before bytes after p (Err shuffle.NoMemory) e f l s = absurd s

  says : (most : ℕ) (before : Option K) (bytes : List ℕ) → length bytes ≤ most → AreBytes bytes → SaysAfter before bytes (pairs_at job most before bytes)
  says zero before [] h a = (refl, tt, tt)
  says (suc most) before [] h a = (refl, tt, tt)
  says zero before (b ∷ bytes) h a = absurd (omega arith)
  says (suc most) before (b ∷ bytes) h a = step (pair_at job (b ∷ bytes)) refl (λ last rest l bs. says most last rest l bs) where
    step : (o : Option ((K × V) × ℕ)) → pair_at job (b ∷ bytes) ≡ o → ((last : Option K) (rest : List ℕ) → length rest ≤ most → AreBytes rest → SaysAfter last rest (pairs_at job most last rest)) →
        SaysAfter before (b ∷ bytes) (option_map_or (λ (found : (K × V) × ℕ). cond (goes_down job before found.0.0) (Err shuffle.Disorder) (in_front found.0 (pairs_at job most (Some found.0.0) (drop found.1 (b ∷ bytes))))) o (Err shuffle.Truncated))
    step None none rec = ([], b ∷ bytes, refl, tt, tt, (λ e. cc), no_pair (b ∷ bytes) none)
    step (Some found) is rec =
        let w = pair_written (b ∷ bytes) found.0 found.1 a is in
        let after = drop found.1 (b ∷ bytes) in
        let byte = pair_some job laws.key_laws laws.value_laws (b ∷ bytes) found is in
        let left = length-drop found.1 (b ∷ bytes) in
        elim (goes_down job before found.0.0) as (λ t. goes_down job before found.0.0 ≡ t → SaysAfter before (b ∷ bytes) (cond t (Err shuffle.Disorder) (in_front found.0 (pairs_at job most (Some found.0.0) after)))) [
          | true ↦ λ down. ([], found.0, after, w.1, tt, tt, w.0, down)
          | false ↦ λ level. says_more before (b ∷ bytes) after found.0 (pairs_at job most (Some found.0.0) after) w.1 w.0 level (rec (Some found.0.0) after (omega arith) (bytes-drop found.1 (b ∷ bytes) a))
        ] refl

  from_says : (piece : List ℕ) (said : Result (List (K × V)) ShuffleFault) → SaysAfter None piece said → Says job piece said
  from_says piece (Ok ps) (is, fit, level) = record { bytes = is ∙ sym (append-nil (spelled job ps)); fit = fit; level = level }
  from_says piece (Err shuffle.Truncated) (ps, rest, is, fit, level, some, none) = (ps, rest, record { bytes = is; fit = fit; level = level }, some, none)
  from_says piece (Err shuffle.Disorder) (ps, p, rest, is, fit, level, one, down) =
      (ps, p, rest, record { bytes = is; fit = fit; level = level }, one, ap (λ o. goes_down job o p.0) (sym (key_after-none ps)) ∙ down)
  from_says piece (Err shuffle.WrongPiece) s = absurd s
  from_says piece (Err shuffle.NoMemory) s = absurd s

  -- no pair can be read at the front
  read_short : (before : Option K) (bytes : List ℕ) → bytes ≢ [] → pair_at job bytes ≡ None → pairs_at job (length bytes) before bytes ≡ Err shuffle.Truncated
  read_short before [] some none = absurd (some refl)
  read_short before (b ∷ bytes) some none =
      ap (λ o. option_map_or (λ (found : (K × V) × ℕ). cond (goes_down job before found.0.0) (Err shuffle.Disorder) (in_front found.0 (pairs_at job (length bytes) (Some found.0.0) (drop found.1 (b ∷ bytes))))) o (Err shuffle.Truncated)) none

  all_right : (xs ys : List ℕ) → AreBytes (xs ++ ys) → AreBytes ys
  all_right [] ys h = h
  all_right (x ∷ xs) ys h = all_right xs ys h.1

  read_then : (piece : List ℕ) (ps : List (K × V)) (rest : List ℕ) → ArePairsThen job piece ps rest → pairs_of_piece job piece ≡ in_front_all ps (pairs_at job (length rest) (last_key ps) rest)
  read_then piece ps rest are =
      ap (pairs_of_piece job) are.bytes
      ∙ again_then ps None (length (spelled job ps ++ rest)) rest (omega arith) are.fit are.level
      ∙ ap (λ o. in_front_all ps (pairs_at job (length rest) o rest)) (key_after-none ps)

  said_so : (piece : List ℕ) (said : Result (List (K × V)) ShuffleFault) → AreBytes piece → Says job piece said → pairs_of_piece job piece ≡ said
  said_so piece (Ok ps) a s = read_then piece ps [] s ∙ ap Ok (append-nil ps)
  said_so piece (Err shuffle.Truncated) a (ps, rest, are, some, none) =
      read_then piece ps rest are ∙ ap (in_front_all ps) (read_short (last_key ps) rest some (is_none rest (all_right (spelled job ps) rest (subst AreBytes are.bytes a)) none))
  said_so piece (Err shuffle.Disorder) a (ps, p, rest, are, fit, down) =
      let bytes = spelled_pair job p ++ rest in
      let e = length-append (spelled_pair job p) rest in
      let some = pair_long p in
      read_then piece ps bytes are
      ∙ ap (in_front_all ps) (read_down job laws.key_laws laws.value_laws (last_key ps) bytes (p, length (spelled_pair job p)) (omega arith) (pair_again job laws.key_laws laws.value_laws p rest fit) down)
  said_so piece (Err shuffle.WrongPiece) a s = absurd s
  said_so piece (Err shuffle.NoMemory) a s = absurd s

  -- the pairs of a piece, or its first fault, are what its bytes say
  pub piece_is_what_it_says : PieceIsWhatItSays job
  piece_is_what_it_says piece said a = (
    λ e. subst (Says job piece) e (from_says piece (pairs_of_piece job piece) (says (length piece) None piece (omega arith) a)),
    said_so piece said a,
  )

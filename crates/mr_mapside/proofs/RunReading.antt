-- The pairs that bytes begin with, one by one.
use Rattle.std.proofs.Common.{◌≡◌, ◌≢◌, ℕ, IsTrue, true, false, eqb, cond, zero, suc, ◌+◌, ◌<◌, ◌≤◌, List, [], ◌∷◌, ◌++◌, length, drop, Option, Some, None, refl, sym, ap, ◌∙◌, arith, length-drop, length-append, append_assoc}
use Rattle.std.proofs.lemmas.List.{drop_at}
use Rattle.std.specs.Option.{option_map, option_map_or, option_and_then}
use Rattle.std.specs.List.{starts_with}
use Rattle.mr_user.specs.Computation.{Computation}
use Rattle.mr_user.specs.Faults.{BadWireIf}
use Rattle.mr_user.specs.declared.fault.UserFault.{UserFault}
use Rattle.mr_user.specs.declared.fault.UserFault.TheVariants as user
use Rattle.mr_user.specs.Laws.{CodecLaws, PairFits, PairsFit}
use Rattle.mr_mapside.specs.Block.{spelled_pair, spelled}
use Rattle.mr_mapside.specs.Runs.{pair_at, named_at, pairs_upto, pairs_in, unread_upto, ArePairs}
use Rattle.mr_mapside.specs.inner.Fronts.{BeginWith}

module _ {K V : Type 0} (job : Computation K V) (key_laws : CodecLaws job.key) (value_laws : CodecLaws job.value) where
  some_is : {A : Type 0} (x y : A) → Some x ≡ Some y → x ≡ y
  some_is x y e = cc

  -- a pair has a byte at least
  pub pair_some : (bytes : List ℕ) (found : (K × V) × ℕ) → pair_at job bytes ≡ Some found → 0 < found.1
  pair_some bytes found e = at_key (job.key.read_at bytes) refl e where
    at_value : (k : K × ℕ) (o : Option (V × ℕ)) → 0 < k.1 → option_map (λ (value : V × ℕ). ((k.0, value.0), k.1 + value.1)) o ≡ Some found → 0 < found.1
    at_value k None some e = absurd cc
    at_value k (Some v) some e = let n : k.1 + v.1 ≡ found.1 = ap (λ (f : (K × V) × ℕ). f.1) (some_is ((k.0, v.0), k.1 + v.1) found e) in omega arith

    at_key : (o : Option (K × ℕ)) → job.key.read_at bytes ≡ o → option_and_then (λ (key : K × ℕ). option_map (λ (value : V × ℕ). ((key.0, value.0), key.1 + value.1)) (job.value.read_at (drop key.1 bytes))) o ≡ Some found → 0 < found.1
    at_key None is e = absurd cc
    at_key (Some k) is e = at_value k (job.value.read_at (drop k.1 bytes)) (key_laws.read_some bytes k.0 k.1 is).0 e

  -- a pair is within the bytes
  pub pair_within : (bytes : List ℕ) (found : (K × V) × ℕ) → pair_at job bytes ≡ Some found → found.1 ≤ length bytes
  pair_within bytes found e = at_key (job.key.read_at bytes) refl e where
    at_value : (k : K × ℕ) (o : Option (V × ℕ)) → job.value.read_at (drop k.1 bytes) ≡ o → (0 < k.1) × (k.1 ≤ length bytes) → option_map (λ (value : V × ℕ). ((k.0, value.0), k.1 + value.1)) o ≡ Some found → found.1 ≤ length bytes
    at_value k None is some e = absurd cc
    at_value k (Some v) is some e =
        let n : k.1 + v.1 ≡ found.1 = ap (λ (f : (K × V) × ℕ). f.1) (some_is ((k.0, v.0), k.1 + v.1) found e) in
        let w = value_laws.read_some (drop k.1 bytes) v.0 v.1 is in
        let l = length-drop k.1 bytes in
        omega arith

    at_key : (o : Option (K × ℕ)) → job.key.read_at bytes ≡ o → option_and_then (λ (key : K × ℕ). option_map (λ (value : V × ℕ). ((key.0, value.0), key.1 + value.1)) (job.value.read_at (drop key.1 bytes))) o ≡ Some found → found.1 ≤ length bytes
    at_key None is e = absurd cc
    at_key (Some k) is e = at_value k (job.value.read_at (drop k.1 bytes)) refl (key_laws.read_some bytes k.0 k.1 is) e

  -- no bytes begin with no pair
  pub no_pair_left : pair_at job [] ≡ None
  no_pair_left = ap (option_and_then (λ (key : K × ℕ). option_map (λ (value : V × ℕ). ((key.0, value.0), key.1 + value.1)) (job.value.read_at (drop key.1 [])))) (none (job.key.read_at []) refl) where
    none : (o : Option (K × ℕ)) → job.key.read_at [] ≡ o → o ≡ None
    none None is = refl
    none (Some k) is = let some = key_laws.read_some [] k.0 k.1 is in absurd (omega arith)

  pub nothing_upto : (most : ℕ) → pairs_upto job most [] ≡ []
  nothing_upto zero = refl
  nothing_upto (suc most) = ap (λ o. option_map_or (λ (found : (K × V) × ℕ). found.0 ∷ pairs_upto job most (drop found.1 [])) o []) no_pair_left

  -- a greater number of pairs changes nothing
  fuel : (m n : ℕ) (bytes : List ℕ) → length bytes ≤ m → length bytes ≤ n → pairs_upto job m bytes ≡ pairs_upto job n bytes
  fuel m n [] h k = nothing_upto m ∙ sym (nothing_upto n)
  fuel zero n (b ∷ bytes) h k = absurd (omega arith)
  fuel (suc m) zero (b ∷ bytes) h k = absurd (omega arith)
  fuel (suc m) (suc n) (b ∷ bytes) h k = step (pair_at job (b ∷ bytes)) (λ found e. pair_some (b ∷ bytes) found e) (λ rest l r. fuel m n rest l r) where
    step : (o : Option ((K × V) × ℕ)) → ((found : (K × V) × ℕ) → o ≡ Some found → 0 < found.1) → ((rest : List ℕ) → length rest ≤ m → length rest ≤ n → pairs_upto job m rest ≡ pairs_upto job n rest) →
        option_map_or (λ (found : (K × V) × ℕ). found.0 ∷ pairs_upto job m (drop found.1 (b ∷ bytes))) o []
        ≡ option_map_or (λ (found : (K × V) × ℕ). found.0 ∷ pairs_upto job n (drop found.1 (b ∷ bytes))) o []
    step None some same = refl
    step (Some found) some same =
        let left = length-drop found.1 (b ∷ bytes) in
        let byte = some found refl in
        ap (λ ps. found.0 ∷ ps) (same (drop found.1 (b ∷ bytes)) (omega arith) (omega arith))

  -- the first pair, and the pairs behind it
  pub first_pair : (bytes : List ℕ) (found : (K × V) × ℕ) → pair_at job bytes ≡ Some found → pairs_in job bytes ≡ found.0 ∷ pairs_in job (drop found.1 bytes)
  first_pair [] found e = absurd (let none = no_pair_left in cc)
  first_pair (b ∷ bytes) found e =
      let byte = pair_some (b ∷ bytes) found e in
      let left = length-drop found.1 (b ∷ bytes) in
      ap (λ o. option_map_or (λ (found : (K × V) × ℕ). found.0 ∷ pairs_upto job (length bytes) (drop found.1 (b ∷ bytes))) o []) e
      ∙ ap (λ ps. found.0 ∷ ps) (fuel (length bytes) (length (drop found.1 (b ∷ bytes))) (drop found.1 (b ∷ bytes)) (omega arith) (omega arith))

  pub unread_nothing : (most : ℕ) → unread_upto job most [] ≡ []
  unread_nothing zero = refl
  unread_nothing (suc most) = ap (λ o. option_map_or (λ (found : (K × V) × ℕ). unread_upto job most (drop found.1 [])) o []) no_pair_left

  -- a greater number of pairs leaves no more
  unread_fuel : (m n : ℕ) (bytes : List ℕ) → length bytes ≤ m → length bytes ≤ n → unread_upto job m bytes ≡ unread_upto job n bytes
  unread_fuel m n [] h k = unread_nothing m ∙ sym (unread_nothing n)
  unread_fuel zero n (b ∷ bytes) h k = absurd (omega arith)
  unread_fuel (suc m) zero (b ∷ bytes) h k = absurd (omega arith)
  unread_fuel (suc m) (suc n) (b ∷ bytes) h k = step (pair_at job (b ∷ bytes)) (λ found e. pair_some (b ∷ bytes) found e) (λ rest l r. unread_fuel m n rest l r) where
    step : (o : Option ((K × V) × ℕ)) → ((found : (K × V) × ℕ) → o ≡ Some found → 0 < found.1) → ((rest : List ℕ) → length rest ≤ m → length rest ≤ n → unread_upto job m rest ≡ unread_upto job n rest) →
        option_map_or (λ (found : (K × V) × ℕ). unread_upto job m (drop found.1 (b ∷ bytes))) o (b ∷ bytes)
        ≡ option_map_or (λ (found : (K × V) × ℕ). unread_upto job n (drop found.1 (b ∷ bytes))) o (b ∷ bytes)
    step None some same = refl
    step (Some found) some same =
        let left = length-drop found.1 (b ∷ bytes) in
        let byte = some found refl in
        same (drop found.1 (b ∷ bytes)) (omega arith) (omega arith)

  -- behind the first pair as much is left as behind all
  unread_first : (bytes : List ℕ) (found : (K × V) × ℕ) → pair_at job bytes ≡ Some found → unread_upto job (length bytes) bytes ≡ unread_upto job (length (drop found.1 bytes)) (drop found.1 bytes)
  unread_first [] found e = absurd (let none = no_pair_left in cc)
  unread_first (b ∷ bytes) found e =
      let byte = pair_some (b ∷ bytes) found e in
      let left = length-drop found.1 (b ∷ bytes) in
      ap (λ o. option_map_or (λ (found : (K × V) × ℕ). unread_upto job (length bytes) (drop found.1 (b ∷ bytes))) o (b ∷ bytes)) e
      ∙ unread_fuel (length bytes) (length (drop found.1 (b ∷ bytes))) (drop found.1 (b ∷ bytes)) (omega arith) (omega arith)

  -- bytes that are pairs are pairs behind the first
  pub pairs_behind : (bytes : List ℕ) (found : (K × V) × ℕ) → pair_at job bytes ≡ Some found → ArePairs job bytes → ArePairs job (drop found.1 bytes)
  pairs_behind bytes found e h = sym (unread_first bytes found e) ∙ h

  -- bytes that are pairs are none, or begin with one
  pub begins_pair : (bytes : List ℕ) → ArePairs job bytes → 0 < length bytes → pair_at job bytes ≡ None → ⊥
  begins_pair [] h some none = omega arith
  begins_pair (b ∷ bytes) h some none =
      let left : unread_upto job (length (b ∷ bytes)) (b ∷ bytes) ≡ b ∷ bytes = ap (λ o. option_map_or (λ (found : (K × V) × ℕ). unread_upto job (length bytes) (drop found.1 (b ∷ bytes))) o (b ∷ bytes)) none in
      cc

  -- bytes that begin with a key as it is written begin with a pair of that key, if its value can be read
  pub named_pair : (k : K) (name bytes : List ℕ) → IsTrue (job.key.fits k) × (name ≡ job.key.written k) → bytes ≡ name ++ drop (length name) bytes →
      pair_at job bytes ≡ option_map (λ (value : V × ℕ). ((k, value.0), length name + value.1)) (job.value.read_at (drop (length name) bytes))
  named_pair k name bytes is begins =
      let read : job.key.read_at bytes ≡ Some (k, length name) =
      ap job.key.read_at (begins ∙ ap (λ (front : List ℕ). front ++ drop (length name) bytes) is.1) ∙ key_laws.read_written k (drop (length name) bytes) is.0 ∙ ap (λ (front : List ℕ). Some (k, length front)) (sym is.1) in
      ap (option_and_then (λ (key : K × ℕ). option_map (λ (value : V × ℕ). ((key.0, value.0), key.1 + value.1)) (job.value.read_at (drop key.1 bytes)))) read

  -- such a pair, if it was read
  pub named_some : (k : K) (name bytes : List ℕ) (found : Option (V × ℕ)) (value : V × ℕ) → found ≡ Some value → option_map (λ (value : V × ℕ). ((k, value.0), value.1)) found ≡ named_at job name bytes → pair_at job bytes ≡ Some ((k, value.0), value.1)
  named_some k name bytes found value is e =
      elim (starts_with eqb bytes name) as (λ b. option_map (λ (value : V × ℕ). ((k, value.0), value.1)) found ≡ cond b (pair_at job bytes) None → pair_at job bytes ≡ Some ((k, value.0), value.1)) [
        | true ↦ λ e. sym e ∙ ap (option_map (λ (value : V × ℕ). ((k, value.0), value.1))) is
        | false ↦ λ e. absurd (let none = sym (ap (option_map (λ (value : V × ℕ). ((k, value.0), value.1))) is) ∙ e in cc)
      ] e

  -- a pair that was written is read again, whatever follows it
  pub pair_again : (p : K × V) (rest : List ℕ) → PairFits job p → pair_at job (spelled_pair job p ++ rest) ≡ Some (p, length (spelled_pair job p))
  pair_again p rest h =
      let k = job.key.written p.0 in
      let v = job.value.written p.1 in
      let at_key : job.key.read_at (spelled_pair job p ++ rest) ≡ Some (p.0, length k) =
      ap job.key.read_at (append_assoc k v rest) ∙ key_laws.read_written p.0 (v ++ rest) h.0 in
      let at_value : job.value.read_at (drop (length k) (spelled_pair job p ++ rest)) ≡ Some (p.1, length v) =
      ap job.value.read_at (ap (drop (length k)) (append_assoc k v rest) ∙ drop_at k (v ++ rest) (length k) refl) ∙ value_laws.read_written p.1 rest h.1 in
      ap (option_and_then (λ (key : K × ℕ). option_map (λ (value : V × ℕ). ((key.0, value.0), key.1 + value.1)) (job.value.read_at (drop key.1 (spelled_pair job p ++ rest))))) at_key
      ∙ ap (option_map (λ (value : V × ℕ). ((p.0, value.0), length k + value.1))) at_value
      ∙ ap (λ n. Some (p, n)) (sym (length-append k v))

  -- pairs that were written are read again
  pub read_back : (ps : List (K × V)) → PairsFit job ps → pairs_in job (spelled job ps) ≡ ps
  read_back [] fit = refl
  read_back (p ∷ ps) fit =
      first_pair (spelled job (p ∷ ps)) (p, length (spelled_pair job p)) (pair_again p (spelled job ps) fit.0)
      ∙ ap (λ bytes. p ∷ pairs_in job bytes) (drop_at (spelled_pair job p) (spelled job ps) (length (spelled_pair job p)) refl)
      ∙ ap (λ qs. p ∷ qs) (read_back ps fit.1)

  -- and then no byte is left
  pub pairs_written : (ps : List (K × V)) → PairsFit job ps → ArePairs job (spelled job ps)
  pairs_written [] fit = refl
  pairs_written (p ∷ ps) fit =
      unread_first (spelled job (p ∷ ps)) (p, length (spelled_pair job p)) (pair_again p (spelled job ps) fit.0)
      ∙ ap (λ bytes. unread_upto job (length bytes) bytes) (drop_at (spelled_pair job p) (spelled job ps) (length (spelled_pair job p)) refl)
      ∙ pairs_written ps fit.1

-- bytes that can't be read, where memory was not wanting
pub bad_wire : (fault : UserFault) {P : Type 0} → fault ≢ user.NoMemory → BadWireIf fault P → P
bad_wire user.NoMemory n h = absurd (n refl)
bad_wire user.Refused n h = absurd h
bad_wire user.BadWire n h = h

module _ {K V : Type 0} (job : Computation K V) where
  -- one pair more of a key
  pub begins_more : (k : K) (v : V) (len : ℕ) (vs : List V) (bytes rest : List ℕ) → BeginWith job k vs bytes rest → pair_at job rest ≡ Some ((k, v), len) → BeginWith job k (vs ++ v ∷ []) bytes (drop len rest)
  begins_more k v len [] bytes rest is first = (len, ap (pair_at job) is ∙ first, ap (drop len) is)
  begins_more k v len (w ∷ vs) bytes rest (n, begun, more) first = (n, begun, begins_more k v len vs (drop n bytes) rest more first)

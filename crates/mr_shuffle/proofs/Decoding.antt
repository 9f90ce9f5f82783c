-- A piece is read pair by pair.
use Rattle.std.proofs.Common.{◌≡◌, ℕ, zero, suc, ◌<◌, ◌≤◌, true, false, cond, List, [], ◌∷◌, ◌++◌, length, drop, Option, Some, None, Result, Ok, Err, refl, sym, ap, subst, ◌∙◌, arith, length-drop}
use Rattle.std.proofs.lemmas.Cmp.{tied_itself}
use Rattle.std.specs.Cmp.{IsTotalOrder}
use Rattle.std.specs.Ordering.{is_lt}
use Rattle.std.proofs.lemmas.Result.{err_from_is_err_and}
use Rattle.std.specs.Result.{result_err, IfErr, IsErrAnd}
use Rattle.std.specs.Option.{option_map_or}
use Rattle.mr_user.specs.Computation.{Computation}
use Rattle.mr_user.specs.Laws.{CodecLaws}
use Rattle.mr_user.specs.Faults.{BadWireIf}
use Rattle.mr_user.specs.declared.fault.UserFault.{UserFault}
use Rattle.mr_user.specs.declared.fault.UserFault.TheVariants as user
use Rattle.mr_shuffle.specs.inner.Fault.{ReadFaultIs, read_fault}
use Rattle.mr_shuffle.specs.inner.Reading.{ReadsPair, NoPairIs}
use Rattle.mr_mapside.specs.declared.fault.ShuffleFault.{ShuffleFault}
use Rattle.mr_mapside.specs.declared.fault.ShuffleFault.TheVariants.{Truncated, Disorder}
use Rattle.mr_mapside.specs.declared.fault.ShuffleFault.TheVariants as shuffle
use Rattle.mr_mapside.specs.Runs.{pair_at}
use Rattle.mr_mapside.proofs.RunReading.{pair_some}
use Rattle.mr_shuffle.specs.Part.{in_front, goes_down, pairs_at}

-- pairs in front of a list, where there is a list
abbrev pub in_front_all : {A E : Type 0} → List A → Result (List A) E → Result (List A) E
in_front_all xs (Ok ys) = Ok (xs ++ ys)
in_front_all xs (Err e) = Err e

module _ {K V : Type 0} (job : Computation K V) (key_laws : CodecLaws job.key) (value_laws : CodecLaws job.value) where
  -- a greater number of pairs changes nothing
  pub enough : (m n : ℕ) (before : Option K) (bytes : List ℕ) → length bytes ≤ m → length bytes ≤ n → pairs_at job m before bytes ≡ pairs_at job n before bytes
  enough zero zero before [] h k = refl
  enough zero (suc n) before [] h k = refl
  enough (suc m) zero before [] h k = refl
  enough (suc m) (suc n) before [] h k = refl
  enough zero n before (b ∷ bytes) h k = absurd (omega arith)
  enough (suc m) zero before (b ∷ bytes) h k = absurd (omega arith)
  enough (suc m) (suc n) before (b ∷ bytes) h k = step (pair_at job (b ∷ bytes)) (λ found e. pair_some job key_laws value_laws (b ∷ bytes) found e) (λ last rest l r. enough m n last rest l r) where
    step : (o : Option ((K × V) × ℕ)) → ((found : (K × V) × ℕ) → o ≡ Some found → 0 < found.1) → ((last : Option K) (rest : List ℕ) → length rest ≤ m → length rest ≤ n → pairs_at job m last rest ≡ pairs_at job n last rest) →
        option_map_or (λ (found : (K × V) × ℕ). cond (goes_down job before found.0.0) (Err Disorder) (in_front found.0 (pairs_at job m (Some found.0.0) (drop found.1 (b ∷ bytes))))) o (Err Truncated)
        ≡ option_map_or (λ (found : (K × V) × ℕ). cond (goes_down job before found.0.0) (Err Disorder) (in_front found.0 (pairs_at job n (Some found.0.0) (drop found.1 (b ∷ bytes))))) o (Err Truncated)
    step None some same = refl
    step (Some found) some same =
        let left = length-drop found.1 (b ∷ bytes) in
        let byte = some found refl in
        ap (λ r. cond (goes_down job before found.0.0) (Err Disorder) (in_front found.0 r)) (same (Some found.0.0) (drop found.1 (b ∷ bytes)) (omega arith) (omega arith))

  -- the pair at the front is less than the one before
  pub read_down : (before : Option K) (bytes : List ℕ) (found : (K × V) × ℕ) → 0 < length bytes → pair_at job bytes ≡ Some found → goes_down job before found.0.0 ≡ true → pairs_at job (length bytes) before bytes ≡ Err Disorder
  read_down before [] found some is down = absurd (omega arith)
  read_down before (b ∷ bytes) found some is down =
      ap (λ o. option_map_or (λ (found : (K × V) × ℕ). cond (goes_down job before found.0.0) (Err Disorder) (in_front found.0 (pairs_at job (length bytes) (Some found.0.0) (drop found.1 (b ∷ bytes))))) o (Err Truncated)) is
      ∙ ap (λ t. cond t (Err Disorder) (in_front found.0 (pairs_at job (length bytes) (Some found.0.0) (drop found.1 (b ∷ bytes))))) down

  -- the pair at the front is not, and the rest is read
  pub read_more : (before : Option K) (bytes : List ℕ) (found : (K × V) × ℕ) → 0 < length bytes → pair_at job bytes ≡ Some found → goes_down job before found.0.0 ≡ false → pairs_at job (length bytes) before bytes ≡ in_front found.0 (pairs_at job (length (drop found.1 bytes)) (Some found.0.0) (drop found.1 bytes))
  read_more before [] found some is level = absurd (omega arith)
  read_more before (b ∷ bytes) found some is level =
      let byte = pair_some job key_laws value_laws (b ∷ bytes) found is in
      let left = length-drop found.1 (b ∷ bytes) in
      ap (λ o. option_map_or (λ (found : (K × V) × ℕ). cond (goes_down job before found.0.0) (Err Disorder) (in_front found.0 (pairs_at job (length bytes) (Some found.0.0) (drop found.1 (b ∷ bytes))))) o (Err Truncated)) is
      ∙ ap (λ t. cond t (Err Disorder) (in_front found.0 (pairs_at job (length bytes) (Some found.0.0) (drop found.1 (b ∷ bytes))))) level
      ∙ ap (in_front found.0) (enough (length bytes) (length (drop found.1 (b ∷ bytes))) (Some found.0.0) (drop found.1 (b ∷ bytes)) (omega arith) (omega arith))

in_front-fault : {A E : Type 0} (x : A) (r : Result (List A) E) → result_err (in_front x r) ≡ result_err r
in_front-fault x (Ok ys) = refl
in_front-fault x (Err e) = refl

-- a fault that a `?` hands on
pub on_exit : {A E : Type 0} (P : E → Type 0) (r : Result A E) (e : E) → IsErrAnd r (λ f. f ≡ e) → P e → IfErr r P
on_exit P r e is h = let at = err_from_is_err_and r is in subst (λ s. IfErr s P) (sym at.1) (subst P (sym at.2) h)

-- a result whose fault is known
pub err_only : {A E : Type 0} (r : Result A E) (e : E) → result_err r ≡ Some e → r ≡ Err e
err_only (Ok x) e h = cc
err_only (Err f) e h = let same : f ≡ e = cc in ap Err same

module _ {K V : Type 0} (job : Computation K V) (key_laws : CodecLaws job.key) (value_laws : CodecLaws job.value) where
  -- one pair more was read: what follows has the fault of all
  pub one_more : (all : Option ShuffleFault) (before : Option K) (rest after : List ℕ) (pair : K × V) (len : ℕ) →
      all ≡ result_err (pairs_at job (length rest) before rest) → 0 < length rest → pair_at job rest ≡ Some (pair, len) → goes_down job before pair.0 ≡ false → after ≡ drop len rest →
      all ≡ result_err (pairs_at job (length after) (Some pair.0) after)
  one_more all before rest after pair len was some found level cut =
      was
      ∙ ap result_err (read_more job key_laws value_laws before rest (pair, len) some found level)
      ∙ in_front-fault pair (pairs_at job (length (drop len rest)) (Some pair.0) (drop len rest))
      ∙ ap (λ (bytes : List ℕ). result_err (pairs_at job (length bytes) (Some pair.0) bytes)) (sym cut)

  -- no pair can be read
  pub cut_short : (all : Result (List (K × V)) ShuffleFault) (before : Option K) (rest : List ℕ) → result_err all ≡ result_err (pairs_at job (length rest) before rest) → 0 < length rest → pair_at job rest ≡ None → all ≡ Err Truncated
  cut_short all before [] was some none = absurd (omega arith)
  cut_short all before (b ∷ bytes) was some none =
      err_only all Truncated (was ∙ ap result_err (ap (λ o. option_map_or (λ (found : (K × V) × ℕ). cond (goes_down job before found.0.0) (Err Disorder) (in_front found.0 (pairs_at job (length bytes) (Some found.0.0) (drop found.1 (b ∷ bytes))))) o (Err Truncated)) none))

  -- a key is less than the one before it
  pub gone_down : (all : Result (List (K × V)) ShuffleFault) (before : Option K) (rest : List ℕ) (pair : K × V) (len : ℕ) → result_err all ≡ result_err (pairs_at job (length rest) before rest) → 0 < length rest → pair_at job rest ≡ Some (pair, len) → goes_down job before pair.0 ≡ true → all ≡ Err Disorder
  gone_down all before rest pair len was some found down = err_only all Disorder (was ∙ ap result_err (read_down job key_laws value_laws before rest (pair, len) some found down))

  -- nothing is left to read
  pub read_whole : (all : Option ShuffleFault) (before : Option K) (rest : List ℕ) → all ≡ result_err (pairs_at job (length rest) before rest) → length rest ≡ 0 → all ≡ None
  read_whole all before [] was e = was
  read_whole all before (b ∷ bytes) was e = absurd (omega arith)

  -- a reading gave no pair
  pub no_pair : (all : Result (List (K × V)) ShuffleFault) (before : Option K) (rest : List ℕ) (fault : ShuffleFault) → result_err all ≡ result_err (pairs_at job (length rest) before rest) → 0 < length rest → NoPairIs fault job before rest → ReadFaultIs fault all
  no_pair all before rest shuffle.NoMemory was some bad = tt
  no_pair all before rest shuffle.WrongPiece was some bad = bad
  no_pair all before rest shuffle.Truncated was some bad = cut_short all before rest was some bad
  no_pair all before rest shuffle.Disorder was some (pair, len, found, down) = gone_down all before rest pair len was some found down

  -- what a reading of one pair answers
  pub not_read : (before : Option K) (bytes : List ℕ) (fault : UserFault) → BadWireIf fault (pair_at job bytes ≡ None) → NoPairIs (read_fault fault) job before bytes
  not_read before bytes user.NoMemory bad = tt
  not_read before bytes user.Refused bad = absurd bad
  not_read before bytes user.BadWire bad = bad

  -- a pair of the key before it
  pub same_again : IsTotalOrder job.cmp → (key : K) (value : V) (bytes : List ℕ) (len : ℕ) → pair_at job bytes ≡ Some ((key, value), len) → ReadsPair job (Some key) bytes len (Some key)
  same_again order key value bytes len read = record { pair = (key, value); read = read; level = ap is_lt (tied_itself order key); is_last = refl }

-- The pairs of all pieces, piece by piece.
use Rattle.std.proofs.Common.{◌≡◌, ℕ, zero, suc, ◌+◌, ◌<◌, ◌≤◌, List, [], ◌∷◌, length, get_or, drop, Option, Some, None, Result, Ok, Err, refl, subst, IfOk, IfErr, Bor, map, ◌^◌, sym, ap, ◌∙◌, arith}
use Rattle.std.specs.List.{flat_map}
use Rattle.std.specs.Result.{IsErrAnd, result_err}
use Rattle.std.proofs.lemmas.List.{drop_all}
use Rattle.mr_user.specs.Computation.{Computation}
use Rattle.mr_mapside.specs.declared.fault.ShuffleFault.{ShuffleFault}
use Rattle.mr_mapside.specs.declared.fault.ShuffleFault.TheVariants as shuffle
use Rattle.mr_shuffle.specs.Part.{result_map, first_then, pairs_of_piece, pairs_of_pieces, pairs_of_all}
use Rattle.mr_shuffle.specs.inner.Fault.{ReadFaultIs}
use Rattle.mr_shuffle.specs.Work.{in_work, ReduceFaultIs}
use Rattle.mr_mapside.specs.declared.fault.WorkFault.{WorkFault}
use Rattle.mr_mapside.specs.declared.fault.WorkFault.TheVariants as work
use Rattle.mr_mapside.specs.Work.{FullIf}
use Rattle.mr_shuffle.proofs.Decoding.{err_only}

drop-get : {A : Type 0} (xs : List A) (i : ℕ) (d : A) → i < length xs → drop i xs ≡ get_or xs i d ∷ drop (i + 1) xs
drop-get [] i d h = absurd (omega arith)
drop-get (x ∷ xs) zero d h = refl
drop-get (x ∷ xs) (suc i) d h = drop-get xs i d (omega arith) ∙ ap (λ n. get_or xs i d ∷ drop n (x ∷ xs)) (sym (step i)) where
  step : (n : ℕ) → suc n + 1 ≡ suc (n + 1)
  step n = omega arith

-- a fault that `?` hands on
pub handed_on : {A E : Type 0} (r : Result A E) (e : E) (P : E → Type 0) → IsErrAnd r (λ f. f ≡ e) → P e → IfErr r P
handed_on (Ok x) e P is h = absurd is
handed_on (Err f) e P is h = subst P (sym is) h

skipped : {A E : Type 0} (x : Result A E) (r : Result (List A) E) → result_err x ≡ None → result_err (first_then x r) ≡ result_err r
skipped (Ok x) (Ok xs) h = refl
skipped (Ok x) (Err e) h = refl
skipped (Err e) r h = cc

-- what is lent
abbrev pub lent : List (Bor (List ℕ)) → List (List ℕ)
lent lists = map (λ (bytes : Bor (List ℕ)). bytes.now) lists

module _ {K V : Type 0} (job : Computation K V) where
  -- one piece more was read through
  pub piece_more : (all : Option ShuffleFault) (parts : List (Bor (List ℕ))) (i : ℕ) (p : Bor (List ℕ)) →
      all ≡ result_err (pairs_of_pieces job (lent (drop i parts))) → i < length parts → p ≡ get_or parts i p → result_err (pairs_of_piece job p.now) ≡ None →
      all ≡ result_err (pairs_of_pieces job (lent (drop (i + 1) parts)))
  piece_more all parts i p h l at read =
      let rest = drop (i + 1) parts in
      h
      ∙ ap (λ (parts : List (Bor (List ℕ))). result_err (pairs_of_pieces job (lent parts))) (drop-get parts i p l ∙ ap (λ (p : Bor (List ℕ)). p ∷ rest) (sym at))
      ∙ skipped (pairs_of_piece job p.now) (pairs_of_pieces job (lent rest)) read

  stopped : (x : Result (List (K × V)) ShuffleFault) (r : Result (List (List (K × V))) ShuffleFault) (fault : ShuffleFault) → x ≡ Err fault → result_err (first_then x r) ≡ Some fault
  stopped (Ok ps) r fault h = cc
  stopped (Err e) r fault h = let same : e ≡ fault = cc in ap Some same

  -- a piece has a fault, and it is that of all
  pub piece_fault : (pieces : List (List ℕ)) (parts : List (Bor (List ℕ))) (i : ℕ) (p : Bor (List ℕ)) (fault : ShuffleFault) →
      result_err (pairs_of_pieces job pieces) ≡ result_err (pairs_of_pieces job (lent (drop i parts))) → i < length parts → p ≡ get_or parts i p → ReadFaultIs fault (pairs_of_piece job p.now) → ReadFaultIs fault (pairs_of_all job pieces)
  piece_fault pieces parts i p fault h l at is = by fault is where
    to : (fault : ShuffleFault) → pairs_of_piece job p.now ≡ Err fault → pairs_of_all job pieces ≡ Err fault
    to fault e =
        ap (result_map (flat_map (λ ps. ps))) (err_only (pairs_of_pieces job pieces) fault (
        h
        ∙ ap (λ (parts : List (Bor (List ℕ))). result_err (pairs_of_pieces job (lent parts))) (drop-get parts i p l ∙ ap (λ (p : Bor (List ℕ)). p ∷ drop (i + 1) parts) (sym at))
        ∙ stopped (pairs_of_piece job p.now) (pairs_of_pieces job (lent (drop (i + 1) parts))) fault e
        ))

    by : (fault : ShuffleFault) → ReadFaultIs fault (pairs_of_piece job p.now) → ReadFaultIs fault (pairs_of_all job pieces)
    by shuffle.NoMemory is = tt
    by shuffle.WrongPiece is = absurd is
    by shuffle.Truncated is = to shuffle.Truncated is
    by shuffle.Disorder is = to shuffle.Disorder is

  -- all pieces were read through
  pub pieces_end : (all : Option ShuffleFault) (parts : List (Bor (List ℕ))) (i : ℕ) → all ≡ result_err (pairs_of_pieces job (lent (drop i parts))) → length parts ≤ i → all ≡ None
  pieces_end all parts i h l = h ∙ ap (λ (parts : List (Bor (List ℕ))). result_err (pairs_of_pieces job (lent parts))) (drop_all i parts l)

-- the fault of pieces is that of the work
pub work_fault : {A : Type 0} (GateRefuses InPlace : Type 0) (f : A → List ℕ) (meant : Result A ShuffleFault) (most : ℕ) (fault : ShuffleFault) (is : WorkFault) → is ≡ in_work fault → InPlace → ReadFaultIs fault meant → ReduceFaultIs GateRefuses InPlace (result_map f meant) most is
work_fault GateRefuses InPlace f meant most fault is e right h = subst (ReduceFaultIs GateRefuses InPlace (result_map f meant) most) (sym e) (by fault h) where
  by : (fault : ShuffleFault) → ReadFaultIs fault meant → ReduceFaultIs GateRefuses InPlace (result_map f meant) most (in_work fault)
  by shuffle.NoMemory h = right
  by shuffle.WrongPiece h = absurd h
  by shuffle.Truncated h = (right, ap (result_map f) h)
  by shuffle.Disorder h = (right, ap (result_map f) h)

pub ok_always : {A E : Type 0} (r : Result A E) (P : Type 0) → P → IfOk r (λ _. P)
ok_always (Ok x) P h = h
ok_always (Err e) P h = tt

pub err_weaker : {A E : Type 0} (r : Result A E) (P Q : E → Type 0) → ((e : E) → P e → Q e) → IfErr r P → IfErr r Q
err_weaker (Ok x) P Q f h = tt
err_weaker (Err e) P Q f h = f e h

-- the fault of a text that is too long is that of the work
pub full_fault : (GateRefuses InPlace : Type 0) (part : Result (List ℕ) ShuffleFault) (text : List ℕ) (fault : WorkFault) → InPlace → part ≡ Ok text → FullIf fault text → ReduceFaultIs GateRefuses InPlace part (2 ^ 24) fault
full_fault GateRefuses InPlace part text (work.User f) right is h = absurd h
full_fault GateRefuses InPlace part text (work.Gate f) right is h = absurd h
full_fault GateRefuses InPlace part text (work.Shuffle f) right is h = absurd h
full_fault GateRefuses InPlace part text work.Full right is h = (right, (text, is, h))
full_fault GateRefuses InPlace part text work.NoMemory right is h = right

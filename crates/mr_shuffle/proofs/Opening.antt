-- Pieces that can be read and are in order are runs.
use Rattle.std.proofs.Common.{◌≡◌, ℕ, zero, suc, true, false, cond, List, [], ◌∷◌, ◌++◌, length, drop, Option, Some, None, Result, Ok, Err, refl, sym, ap, subst, ◌∙◌}
use Rattle.std.proofs.lemmas.Cmp.{upto}
use Rattle.std.specs.Cmp.{IsTotalOrder}
use Rattle.std.specs.List.{flat_map, AllByRecursion}
use Rattle.std.specs.Option.{option_map_or}
use Rattle.std.specs.Ordering.{is_lt, is_gt, ordering_reverse}
use Rattle.std.specs.Result.{result_err}
use Rattle.std.specs.declared.cmp.Ordering.{Ordering}
use Rattle.std.specs.declared.cmp.Ordering.TheVariants.{Less, Equal, Greater}
use Rattle.mr_user.specs.Computation.{Computation}
use Rattle.mr_user.specs.Laws.{CodecLaws}
use Rattle.mr_user.specs.Sequential.{text_of, key_lines}
use Rattle.mr_user.specs.Groups.{groups_of}
use Rattle.mr_mapside.specs.declared.fault.ShuffleFault.{ShuffleFault}
use Rattle.mr_mapside.specs.declared.fault.ShuffleFault.TheVariants.{Truncated, Disorder}
use Rattle.mr_mapside.specs.Runs.{pair_at, pairs_upto, pairs_in, pairs_in_all, unread_upto, IsRun, AreRuns}
use Rattle.mr_mapside.proofs.RunReading.{nothing_upto, unread_nothing}
use Rattle.mr_mapside.proofs.RunMerging.{turned}
use Rattle.mr_shuffle.specs.Part.{result_map, in_front, first_then, goes_down, pairs_at, pairs_of_piece, pairs_of_pieces, pairs_of_all}
use Rattle.mr_shuffle.specs.PieceMeaning.{IsLevel}

same_ok : {A E : Type 0} (x y : A) → ◌≡◌ {A = Result A E} (Ok x) (Ok y) → x ≡ y
same_ok x y e = cc

module _ {K V : Type 0} (job : Computation K V) (key_laws : CodecLaws job.key) (value_laws : CodecLaws job.value) (order : IsTotalOrder job.cmp) where
  -- what is read in order is read, to its end
  reads : (most : ℕ) (before : Option K) (bytes : List ℕ) (ps : List (K × V)) → pairs_at job most before bytes ≡ Ok ps → (pairs_upto job most bytes ≡ ps) × (unread_upto job most bytes ≡ []) × IsLevel job before ps
  reads most before [] ps e = let none : [] ≡ ps = same_ok {E = ShuffleFault} [] ps e in (nothing_upto job key_laws value_laws most ∙ none, unread_nothing job key_laws value_laws most, subst (IsLevel job before) none tt)
  reads zero before (b ∷ bytes) ps e = cc
  reads (suc most) before (b ∷ bytes) ps e = by (λ before bytes qs e. reads most before bytes qs e) (pair_at job (b ∷ bytes)) e where
    more : ((before : Option K) (bytes : List ℕ) (qs : List (K × V)) → pairs_at job most before bytes ≡ Ok qs → (pairs_upto job most bytes ≡ qs) × (unread_upto job most bytes ≡ []) × IsLevel job before qs) → (found : (K × V) × ℕ) (r : Result (List (K × V)) ShuffleFault) → r ≡ pairs_at job most (Some found.0.0) (drop found.1 (b ∷ bytes)) → goes_down job before found.0.0 ≡ false → in_front found.0 r ≡ Ok ps →
        (found.0 ∷ pairs_upto job most (drop found.1 (b ∷ bytes)) ≡ ps) × (unread_upto job most (drop found.1 (b ∷ bytes)) ≡ []) × IsLevel job before ps
    more again found (Err fault) is level e = cc
    more again found (Ok qs) is level e =
        let rest = again (Some found.0.0) (drop found.1 (b ∷ bytes)) qs (sym is) in
        let whole : found.0 ∷ qs ≡ ps = same_ok {E = ShuffleFault} (found.0 ∷ qs) ps e in
        (ap (λ qs. found.0 ∷ qs) rest.0 ∙ whole, rest.1, subst (IsLevel job before) whole (level, rest.2))

    by : ((before : Option K) (bytes : List ℕ) (qs : List (K × V)) → pairs_at job most before bytes ≡ Ok qs → (pairs_upto job most bytes ≡ qs) × (unread_upto job most bytes ≡ []) × IsLevel job before qs) → (o : Option ((K × V) × ℕ)) → option_map_or (λ (found : (K × V) × ℕ). cond (goes_down job before found.0.0) (Err Disorder) (in_front found.0 (pairs_at job most (Some found.0.0) (drop found.1 (b ∷ bytes))))) o (Err Truncated) ≡ Ok ps →
        (option_map_or (λ (found : (K × V) × ℕ). found.0 ∷ pairs_upto job most (drop found.1 (b ∷ bytes))) o [] ≡ ps) × (option_map_or (λ (found : (K × V) × ℕ). unread_upto job most (drop found.1 (b ∷ bytes))) o (b ∷ bytes) ≡ []) × IsLevel job before ps
    by again None e = cc
    by again (Some found) e =
        elim (goes_down job before found.0.0) as (λ t. goes_down job before found.0.0 ≡ t → cond t (Err Disorder) (in_front found.0 (pairs_at job most (Some found.0.0) (drop found.1 (b ∷ bytes)))) ≡ Ok ps → (found.0 ∷ pairs_upto job most (drop found.1 (b ∷ bytes)) ≡ ps) × (unread_upto job most (drop found.1 (b ∷ bytes)) ≡ []) × IsLevel job before ps) [
          | true ↦ λ down e. cc
          | false ↦ λ level e. more again found (pairs_at job most (Some found.0.0) (drop found.1 (b ∷ bytes))) refl level e
        ] refl e

  not_less_back : (x y : K) → is_gt (job.cmp x y) ≡ false → is_lt (job.cmp y x) ≡ false
  not_less_back x y h = ap is_lt (order.antisymm y x) ∙ by (job.cmp x y) h where
    by : (o : Ordering) → is_gt o ≡ false → is_lt (ordering_reverse o) ≡ false
    by Less h = refl
    by Equal h = refl
    by Greater h = cc

  -- keys that go down nowhere rise
  above : (k : K) (ps : List (K × V)) → IsLevel job (Some k) ps → AllByRecursion (λ q. is_lt (job.cmp q.0 k) ≡ false) ps
  above k [] h = tt
  above k (p ∷ ps) h = (h.0, lower ps (above p.0 ps h.1)) where
    lower : (qs : List (K × V)) → AllByRecursion (λ q. is_lt (job.cmp q.0 p.0) ≡ false) qs → AllByRecursion (λ q. is_lt (job.cmp q.0 k) ≡ false) qs
    lower [] a = tt
    lower (q ∷ qs) a = (not_less_back k q.0 (upto order k p.0 q.0 (turned job.cmp order k p.0 h.0) (turned job.cmp order p.0 q.0 a.0)), lower qs a.1)

  rises : (before : Option K) (ps : List (K × V)) → IsLevel job before ps → IsRun job ps
  rises before [] h = tt
  rises before (p ∷ ps) h = (above p.0 ps h.1, rises (Some p.0) ps h.1)

  -- pieces without a fault are runs, and all their pairs are those in the runs
  pub opened : (pieces : List (List ℕ)) → result_err (pairs_of_pieces job pieces) ≡ None → AreRuns job pieces × (pairs_of_all job pieces ≡ Ok (pairs_in_all job pieces))
  opened [] h = (tt, refl)
  opened (piece ∷ pieces) h = by (λ e. opened pieces e) (pairs_of_piece job piece) (pairs_of_pieces job pieces) refl refl h where
    by : (result_err (pairs_of_pieces job pieces) ≡ None → AreRuns job pieces × (pairs_of_all job pieces ≡ Ok (pairs_in_all job pieces))) → (x : Result (List (K × V)) ShuffleFault) (r : Result (List (List (K × V))) ShuffleFault) → pairs_of_piece job piece ≡ x → pairs_of_pieces job pieces ≡ r → result_err (first_then x r) ≡ None →
        AreRuns job (piece ∷ pieces) × (result_map (flat_map (λ ps. ps)) (first_then (pairs_of_piece job piece) (pairs_of_pieces job pieces)) ≡ Ok (pairs_in job piece ++ pairs_in_all job pieces))
    by again (Err fault) r is all h = cc
    by again (Ok ps) (Err fault) is all h = cc
    by again (Ok ps) (Ok pss) is all h =
        let here = reads (length piece) None piece ps is in
        let rest = again (ap result_err all) in
        let flat : flat_map (λ ps. ps) pss ≡ pairs_in_all job pieces = same_ok {E = ShuffleFault} (flat_map (λ ps. ps) pss) (pairs_in_all job pieces) (ap (result_map (flat_map (λ ps. ps))) (sym all) ∙ rest.1) in (
          ((here.1, subst (IsRun job) (sym here.0) (rises None ps here.2)), rest.0),
          (λ i. result_map (flat_map (λ ps. ps)) (first_then (is i) (all i))) ∙ (λ i. Ok (sym here.0 i ++ flat i)),
        )

-- the part, from the groups
pub part_from_groups : {K V : Type 0} (job : Computation K V) (r : Result (List (K × V)) ShuffleFault) (groups : List (K × List V)) → result_map (groups_of job.cmp) r ≡ Ok groups → result_map (text_of job) r ≡ Ok (flat_map (key_lines job) groups)
part_from_groups job (Ok ps) groups e = ap (λ (groups : List (_ × List _)). Ok (flat_map (key_lines job) groups)) (same_ok {E = ShuffleFault} (groups_of job.cmp ps) groups e)
part_from_groups job (Err fault) groups e = cc

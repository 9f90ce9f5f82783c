-- What a merge of pieces gives, where they are read as a whole.
use Rattle.std.proofs.Common.{◌≡◌, ◌≢◌, ℕ, List, [], ◌∷◌, Option, Some, None, Ok, Err, refl, ap, ◌∙◌}
use Rattle.mr_user.specs.Computation.{Computation}
use Rattle.mr_user.specs.Groups.{groups_of}
use Rattle.mr_mapside.specs.declared.fault.ShuffleFault.{ShuffleFault}
use Rattle.mr_mapside.specs.declared.fault.ShuffleFault.TheVariants as shuffle
use Rattle.mr_shuffle.specs.inner.Fault.{ReadFaultIs}
use Rattle.mr_shuffle.specs.Part.{pairs_of_all}
use Rattle.mr_shuffle.specs.Merging.{items_of, IsMergeOf}

-- no items have no groups
pub no_items : {K V : Type 0} (groups : List (K × List V)) (fault : Option ShuffleFault) → items_of groups fault ≡ [] → groups ≡ []
no_items [] fault e = refl
no_items (group ∷ groups) fault e = cc

module _ {K V : Type 0} (job : Computation K V) where
  -- all pieces were read
  pub merge_whole : (pieces : List (List ℕ)) (ps : List (K × V)) (groups : List (K × List V)) → pairs_of_all job pieces ≡ Ok ps → groups ≡ groups_of job.cmp ps → IsMergeOf job pieces (items_of groups None)
  merge_whole pieces ps groups read is = record {
    whole = λ qs e. let same : ps ≡ qs = cc in ap (λ gs. items_of gs None) (is ∙ ap (groups_of job.cmp) same);
    broken = λ first e. absurd cc;
  }

  -- a piece has a fault
  pub merge_broken : (pieces : List (List ℕ)) (fault : ShuffleFault) → fault ≢ shuffle.NoMemory → ReadFaultIs fault (pairs_of_all job pieces) → IsMergeOf job pieces (items_of [] (Some fault))
  merge_broken pieces fault some is = from (by fault some is) where
    by : (fault : ShuffleFault) → fault ≢ shuffle.NoMemory → ReadFaultIs fault (pairs_of_all job pieces) → pairs_of_all job pieces ≡ Err fault
    by shuffle.NoMemory some is = absurd (some refl)
    by shuffle.WrongPiece some is = absurd is
    by shuffle.Truncated some is = is
    by shuffle.Disorder some is = is

    from : pairs_of_all job pieces ≡ Err fault → IsMergeOf job pieces (items_of [] (Some fault))
    from e = record {
      whole = λ ps read. absurd cc;
      broken = λ first f. let same : fault ≡ first = cc in ap (λ x. items_of [] (Some x)) same;
    }

-- A map's output is its blocks.
use Rattle.std.proofs.Common.{◌≡◌, ℕ, ◌<◌, ◌≤◌, ◌^◌, List, [], ◌∷◌, ◌++◌, map, length, get_or, take, Option, Some, None, ◌+◌, sym, ap, subst, ◌∙◌, arith}
use Rattle.std.specs.Option.{option_map}
use Rattle.std.specs.List.{AllByRecursion, flat_map, range_with_len, slice_get}
use Rattle.std.specs.Int.{w32, to_be_bytes}
use Rattle.std.proofs.lemmas.List.{length-append, append-nil, take_more}
use Rattle.std.proofs.lemmas.List.Concat.{flat_map-append}
use Rattle.std.proofs.lemmas.List.Folds.{flat_map-map, length-flat_map-take}
use Rattle.std.proofs.lemmas.List.FromFn.{length-map-range_with_len, get_or-map-range_with_len}
use Rattle.std.proofs.lemmas.Option.{slice_get-get_or}
use Rattle.mr_user.specs.Computation.{Computation}
use Rattle.mr_user.specs.Sequential.{pairs_of_split}
use Rattle.mr_mapside.specs.Block.{framed, block_of, block, output_of, map_output}
use Rattle.mr_mapside.specs.Cutting.{IsShort, AreBlocks}
use Rattle.mr_mapside.specs.declared.fault.WorkFault.{WorkFault}
use Rattle.mr_mapside.specs.declared.fault.WorkFault.TheVariants.{User, Gate, Shuffle, Full, NoMemory}
use Rattle.mr_mapside.specs.Work.{FullIf, MapFaultIs}

each_short : (blocks : List (List ℕ)) → length (flat_map framed blocks) ≤ 2 ^ 24 → AllByRecursion IsShort blocks
each_short [] h = tt
each_short (block ∷ blocks) h =
    let all = length-append (framed block) (flat_map framed blocks) in
    let one = length-append (to_be_bytes w32 (length block)) block in
    (omega arith, each_short blocks (omega arith))

module _ {K V : Type 0} (job : Computation K V) where
  -- the blocks of pairs, by reduce
  abbrev pub blocks_of : ℕ → List (K × V) → List (List ℕ)
  blocks_of reduces ps = map (λ r. block_of job reduces r ps) (range_with_len 0 reduces)

  pub pairs_cut : (reduces : ℕ) (ps : List (K × V)) → length (output_of job reduces ps) ≤ 2 ^ 24 → AreBlocks (output_of job reduces ps) reduces (blocks_of reduces ps)
  pairs_cut reduces ps short =
      let whole : output_of job reduces ps ≡ flat_map framed (blocks_of reduces ps) = sym (flat_map-map framed (λ r. block_of job reduces r ps) (range_with_len 0 reduces)) in
      record {
        whole = whole;
        many = length-map-range_with_len (λ r. block_of job reduces r ps) 0 reduces;
        short = each_short (blocks_of reduces ps) (omega (arith, ap length whole));
      }

  pub block_at : (reduces : ℕ) (ps : List (K × V)) (r : ℕ) → r < reduces → Some (block_of job reduces r ps) ≡ slice_get (blocks_of reduces ps) r
  block_at reduces ps r l =
      let f : ℕ → List ℕ = λ r. block_of job reduces r ps in
      sym (slice_get-get_or (blocks_of reduces ps) r [] (omega (arith, length-map-range_with_len f 0 reduces)) ∙ ap Some (get_or-map-range_with_len f 0 reduces r r [] l (omega arith)))

  -- cutting a map's output gives, at each reduce's place, its block
  pub output_cut : (reduces m : ℕ) (split bytes : List ℕ) → map_output job reduces m split ≡ Some bytes → length bytes ≤ 2 ^ 24 →
      (blocks : List (List ℕ)) × AreBlocks bytes reduces blocks × ((r : ℕ) → r < reduces → block job reduces r m split ≡ slice_get blocks r)
  output_cut reduces m split bytes e short =
      elim (pairs_of_split job m split) as (λ o. option_map (output_of job reduces) o ≡ Some bytes → (blocks : List (List ℕ)) × AreBlocks bytes reduces blocks × ((r : ℕ) → r < reduces → option_map (block_of job reduces r) o ≡ slice_get blocks r)) [
        | None ↦ λ e. absurd cc
        | Some ps ↦ λ e.
            let is : output_of job reduces ps ≡ bytes = cc in
            (blocks_of reduces ps, subst (λ bytes. AreBlocks bytes reduces (blocks_of reduces ps)) is (pairs_cut reduces ps (omega (arith, ap length is))), block_at reduces ps)
      ] e

-- where some of the bytes pass what an output may have, all of them do
pub full_more : (fault : WorkFault) (some all : List ℕ) → length some ≤ length all → FullIf fault some → FullIf fault all
full_more (User fault) some all h f = f
full_more (Gate fault) some all h f = f
full_more (Shuffle fault) some all h f = f
full_more Full some all h f = omega arith
full_more NoMemory some all h f = tt

-- one more was written
pub out_more : {W : Type 0} (f : W → List ℕ) (xs : List W) (i : ℕ) (x : W) (old new : List ℕ) → i < length xs → x ≡ get_or xs i x → old ≡ flat_map f (take i xs) → new ≡ old ++ f x → new ≡ flat_map f (take (i + 1) xs)
out_more f xs i x old new l at was is =
    is
    ∙ ap (λ bytes. bytes ++ f x) was
    ∙ ap (λ bytes. flat_map f (take i xs) ++ bytes) (sym (append-nil (f x)))
    ∙ sym (flat_map-append f (take i xs) (x ∷ []))
    ∙ ap (flat_map f) (sym (take_more xs i x l ∙ ap (λ y. take i xs ++ y ∷ []) (sym at)))

-- what was written so far and one more are no more than all
pub one_more : {W : Type 0} (f : W → List ℕ) (xs : List W) (i : ℕ) (x : W) (bytes more : List ℕ) → i < length xs → x ≡ get_or xs i x → bytes ≡ flat_map f (take i xs) → more ≡ f x → length (bytes ++ more) ≤ length (flat_map f xs)
one_more f xs i x bytes more l at is one =
    let all = length-flat_map-take f xs i x l in
    let front : length bytes ≡ length (flat_map f (take i xs)) = ap length is in
    let back : length more ≡ length (f (get_or xs i x)) = ap length (one ∙ ap f at) in
    omega (arith, length-append bytes more)

-- bytes that pass what an output may have are the fault of the work
pub work_fault : (GateRefuses : Type 0) (fault : WorkFault) (output : Option (List ℕ)) (bytes : List ℕ) → output ≡ Some bytes → FullIf fault bytes → MapFaultIs GateRefuses fault output
work_fault GateRefuses (User fault) output bytes is h = absurd h
work_fault GateRefuses (Gate fault) output bytes is h = absurd h
work_fault GateRefuses (Shuffle fault) output bytes is h = absurd h
work_fault GateRefuses Full output bytes is h = (bytes, is, h)
work_fault GateRefuses NoMemory output bytes is h = tt

-- The pieces that are cut from the outputs of map works are the blocks.
use Rattle.std.proofs.Common.{◌≡◌, ℕ, ◌+◌, ◌<◌, List, [], ◌∷◌, Option, Some, None, Ok, refl, sym, ap, ◌∙◌}
use Rattle.std.specs.List.{slice_get}
use Rattle.std.specs.Option.{option_map}
use Rattle.mr_user.specs.Computation.{Computation}
use Rattle.mr_user.specs.Sequential.{both, output}
use Rattle.mr_mapside.specs.Block.{block, blocks_from}
use Rattle.mr_mapside.proofs.Cuts.{blocks_one}
use Rattle.mr_mapside.proofs.Outputs.{output_cut}
use Rattle.mr_shuffle.specs.Part.{part}
use Rattle.mr_shuffle.specs.SequentialText.{IsPieceOf, ArePiecesOfSplits, WorksGiveSequentialText}
use Rattle.mr_shuffle.proofs.Composing.{Lawful, composition}

module _ {K V : Type 0} (job : Computation K V) where
  piece_is : (reduces r m : ℕ) (split piece : List ℕ) → r < reduces → IsPieceOf job reduces r m split piece → block job reduces r m split ≡ Some piece
  piece_is reduces r m split piece l is =
      let known = output_cut job reduces m split is.output is.made is.fits in
      let same : known.0 ≡ is.blocks = blocks_one is.output reduces known.0 is.blocks known.1 is.cut in
      known.2 r l ∙ ap (λ (blocks : List (List ℕ)). slice_get blocks r) same ∙ is.taken

  pieces_are : (reduces r m : ℕ) (splits pieces : List (List ℕ)) → r < reduces → ArePiecesOfSplits job reduces r m splits pieces → blocks_from job reduces r m splits ≡ Some pieces
  pieces_are reduces r m [] [] l are = refl
  pieces_are reduces r m [] (piece ∷ pieces) l are = absurd are
  pieces_are reduces r m (split ∷ splits) [] l are = absurd are
  pieces_are reduces r m (split ∷ splits) (piece ∷ pieces) l are =
      (λ i. both (option_map (λ bytes. bytes ∷ []) (piece_is reduces r m split piece l are.0 i)) (pieces_are reduces r (m + 1) splits pieces l are.1 i))

  pub works_give : Lawful job → WorksGiveSequentialText job
  works_give laws splits pieces reduces r are l of =
      by (output job reduces r splits) refl (ap (option_map (part job)) (sym (pieces_are reduces r 0 splits pieces l of)) ∙ composition job laws reduces r splits are) where
        by : (o : Option (List ℕ)) → output job reduces r splits ≡ o → Some (part job pieces) ≡ option_map Ok o → (text : List ℕ) × (output job reduces r splits ≡ Some text) × (part job pieces ≡ Ok text)
        by None is e = absurd cc
        by (Some text) is e = (text, is, cc)

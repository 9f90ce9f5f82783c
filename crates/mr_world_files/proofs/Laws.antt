-- The laws of the crates are the two that the model of the cluster asks for.
use Rattle.std.proofs.Common.{◌≡◌, ℕ, ◌+◌, List, [], ◌∷◌, Option, Some, None, Result, Ok, refl, sym, ap, ◌∙◌, arith}
use Rattle.std.specs.Option.{option_map}
use Rattle.mr_user.specs.Computation.{Computation}
use Rattle.mr_user.specs.Sequential.{both}
use Rattle.mr_mapside.specs.Block.{block, blocks_from}
use Rattle.mr_mapside.proofs.Cuts.{cut_all}
use Rattle.mr_mapside.proofs.Outputs.{output_cut}
use Rattle.mr_shuffle.specs.Part.{part}
use Rattle.mr_shuffle.specs.SequentialText.{AreSplits}
use Rattle.mr_shuffle.proofs.Composing.{Lawful, composition}
use Rattle.mr_world_model.specs.Packets.{Config}
use Rattle.mr_world_model.specs.Sequential as cluster
use Rattle.mr_world_model.specs.Sequential.{JobLaws, most_output, in_front}
use Rattle.mr_world_model.proofs.Faithful.{whole_is_sequential, marked_files_are_sequential}
use Rattle.mr_world_files.specs.Jobs.{ok_of, job_of, FilesOf}

module _ {K V : Type 0} (job : Computation K V) where
  front-is : (x : Option (List ℕ)) (y : Option (List (List ℕ))) → both (option_map (λ bytes. bytes ∷ []) x) y ≡ in_front x y
  front-is None y = refl
  front-is (Some b) None = refl
  front-is (Some b) (Some bs) = refl

  same-blocks : (reduces r m : ℕ) (splits : List (List ℕ)) → blocks_from job reduces r m splits ≡ cluster.blocks_from (job_of job) reduces r m splits
  same-blocks reduces r m [] = refl
  same-blocks reduces r m (split ∷ splits) = front-is (block job reduces r m split) (blocks_from job reduces r (m + 1) splits) ∙ ap (in_front (block job reduces r m split)) (same-blocks reduces r (m + 1) splits)

  text-is : {E : Type 0} (f : List (List ℕ) → Result (List ℕ) E) (x : Option (List (List ℕ))) (y : Option (List ℕ)) → option_map f x ≡ option_map Ok y → option_map (λ pieces. ok_of (f pieces)) x ≡ option_map Some y
  text-is f None None e = refl
  text-is f None (Some t) e = cc
  text-is f (Some p) None e = cc
  text-is f (Some p) (Some t) e = let g : f p ≡ Ok t = cc in ap (λ z. Some (ok_of z)) g

  pub laws_of : Lawful job → (cfg : Config) → AreSplits cfg.splits → JobLaws (job_of job) cfg
  unfolding most_output
  laws_of laws cfg are = record {
    output_is_its_blocks = λ m split bytes e short.
        let o = output_cut job cfg.reduces m split bytes e (omega (arith, short)) in
        (o.0, cut_all bytes cfg.reduces o.0 o.1, o.2);
    part_of_blocks = λ r. text-is (part job) _ _ (ap (option_map (part job)) (sym (same-blocks cfg.reduces r 0 cfg.splits)) ∙ composition job laws cfg.reduces r cfg.splits are);
  }

  pub files_of : Lawful job → FilesOf job
  files_of laws cfg within are bound = let l = laws_of laws cfg are in (whole_is_sequential (job_of job) cfg within l bound, marked_files_are_sequential (job_of job) cfg within l bound)

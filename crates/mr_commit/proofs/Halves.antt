-- Whether lines are left once some take the place of the first one.
use Rattle.std.proofs.Common.{◌≡◌, refl, false, List, [], ◌∷◌, ◌++◌, length, ◌==◌, true≢false}
use Rattle.mr_commit.specs.declared.fault.StepDone.TheVariants as done
use Rattle.mr_commit.specs.Line.{Line}
use Rattle.mr_commit.specs.Steps.{done_at}

pub some-follow : (lines rest : List Line) → (length lines == 0) ≡ false → done.More ≡ done_at (lines ++ rest)
some-follow [] rest e = absurd (true≢false e)
some-follow (line ∷ lines) rest e = refl

-- What a yes says of a directory of mrout, in the words of what was recorded and seen.
use Rattle.std.specs.Prelude.{◌≡◌, ◌⊎◌, ℕ, Bool, true, false, List, [], ◌∷◌, Option, Some}
use Rattle.std.specs.List.{AllByRecursion}
use Rattle.mr_out_listing.specs.declared.entry.Kind.TheVariants.{File}
use Rattle.mr_out_check.specs.declared.verdict.Answer.TheVariants.{Yes}
use Rattle.mr_out_winners.specs.Tasks.{NameSeen, Part}
use Rattle.mr_out_winners.specs.Findings.{answer_of, findings}

-- it stands among what was seen
abbrev pub Among : NameSeen → List NameSeen → Type 0
Among n [] = ⊥
Among n (m ∷ ms) = (m ≡ n) ⊎ Among n ms

-- the task is won, and a file of that length was seen at its part's name
pub record IsThere (ns : List NameSeen) (p : Part) : Type 0 where
  pub len : ℕ
  pub won : p.won ≡ Some (record { len = Some len })
  pub seen : Among (record { name = p.name; look = record { kind = File; len = len } }) ns

pub record IsWhole (marked over : Bool) (ps : List Part) (ns : List NameSeen) : Type 0 where
  pub marker : marked ≡ true
  pub stands : over ≡ false
  pub tasks : AllByRecursion (IsThere ns) ps

-- yes is told only where the marker was seen first, the job was not ended as failed, and of each task the winner's file was seen, of the length that was noted
abbrev pub YesMeansWhole : Type 0
YesMeansWhole = (marked over : Bool) (told : Option ℕ) (ps : List Part) (ns : List NameSeen) → answer_of (findings marked told over ps ns) ≡ Yes → IsWhole marked over ps ns

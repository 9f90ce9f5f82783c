-- The map outputs that lie on a node (Dean and Ghemawat 2004, section 3.1). The intermediate files of a map stay on
-- its worker's local disk, from where the reduce workers read them. Which of them are kept, and until when, is our
-- own profile.
use Rattle.std.specs.Prelude.{◌≡◌, ◌↔◌, ℕ, true, List, [], ◌∷◌, Option, refl}
use Rattle.std.specs.Coded.{Coded, code_by, coded×, coded_ℕ, coded_list}
use Rattle.std.specs.Cmp.Lexicographic.{slice_cmp}
use Rattle.std.specs.FinMap as finite
use Rattle.std.specs.List.{slice_get}
use Rattle.std.specs.Option.{option_and_then}
use Rattle.std.specs.Ordering.{nat_cmp, eq_by_cmp}
use Rattle.std.specs.declared.cmp.Ordering.{Ordering}
use Rattle.mr_ids.specs.Attempt.{Attempt}
use Rattle.mr_ids.specs.Code.{attempt_code}
use Rattle.mr_ids.specs.declared.id.TaskKind.{TaskKind}
use Rattle.mr_ids.specs.declared.id.TaskKind.TheVariants.{Map, Reduce}
use Rattle.mr_mapside.specs.Cutting.{cut}

abbrev pub kind_number : TaskKind → ℕ
kind_number Map = 0
kind_number Reduce = 1

-- the numbers that make up an attempt
abbrev pub numbers_of : Attempt → List ℕ
numbers_of a = a.task.job.start ∷ a.task.job.number ∷ kind_number a.task.kind ∷ a.task.number ∷ a.number ∷ []

-- an order of attempts, by their numbers
abbrev pub attempt_cmp : Attempt → Attempt → Ordering
attempt_cmp a b = slice_cmp nat_cmp (numbers_of a) (numbers_of b)

-- the order tells different attempts apart
abbrev pub AttemptsAreApart : Type 0
AttemptsAreApart = (a b : Attempt) → (eq_by_cmp attempt_cmp a b ≡ true) ↔ (a ≡ b)

-- the bytes of outputs by the attempts that made them
abbrev pub Outputs : Type 0
Outputs = finite.FinMap attempt_cmp (List ℕ)

-- a shelf: how many reduces the outputs are cut for, and what was put of each attempt since all was dropped
pub record Shelf : Type 0 where
  pub reduces : ℕ
  pub outputs : Outputs

-- an output is put, and replaces one of the same attempt
abbrev pub with_output : Shelf → Attempt → List ℕ → Shelf
with_output shelf a bytes = record { reduces = shelf.reduces; outputs = finite.insert shelf.outputs a bytes }

-- nothing is on the shelf
abbrev pub without_outputs : ℕ → Shelf
without_outputs reduces = record { reduces = reduces; outputs = finite.empty }

-- the block of a reduce in what was put of an attempt, if something was put that is as many blocks as there are
-- reduces
abbrev pub block_there : Shelf → Attempt → ℕ → Option (List ℕ)
block_there shelf a reduce = option_and_then (λ bytes. option_and_then (λ blocks. slice_get blocks reduce) (cut shelf.reduces bytes)) (finite.get shelf.outputs a)

abbrev pub shelf_code : Coded Shelf
shelf_code = code_by (ℕ × Outputs) (coded× coded_ℕ (finite.code attempt_code (coded_list coded_ℕ))) (λ s. (s.reduces, s.outputs)) (λ p. record { reduces = p.0; outputs = p.1 }) (λ s. refl)

-- The order of segments: the oldest master's first. A master records its own attempts alone, and their numbers hold its generation (mr_ids' `generation_of`), so the records show
-- whether the segments stand in this order. It matters since the first record of a reduce makes its winner. That segments out of it are refused is our own profile.
use Rattle.std.specs.Prelude.{◌≡◌, ℕ, Bool, false, nat_lt, List, [], ◌∷◌, Option, Some, None}
use Rattle.std.specs.List.{AllByRecursion}
use Rattle.mr_ids.specs.Generations.{generation_of}
use Rattle.mr_history.specs.declared.record.Record.{Record}
use Rattle.mr_history.specs.declared.record.Record.TheVariants.{AttemptStarted, MapSucceeded, ReduceSucceeded, AttemptFailed, JobUnsuccessful}

-- the generation of the master that wrote the record; that the job failed is told of no attempt
abbrev pub generation_told : Record → Option ℕ
generation_told (AttemptStarted a node) = Some (generation_of a.number)
generation_told (MapSucceeded a node incarnation) = Some (generation_of a.number)
generation_told (ReduceSucceeded a bytes) = Some (generation_of a.number)
generation_told (AttemptFailed a) = Some (generation_of a.number)
generation_told JobUnsuccessful = None

-- both are told, and the first is earlier
abbrev pub is_earlier : Option ℕ → Option ℕ → Bool
is_earlier (Some g) (Some k) = nat_lt g k
is_earlier (Some g) None = false
is_earlier None k = false

-- none of the records is of a generation earlier than k
abbrev pub AreFrom : Option ℕ → List Record → Type 0
AreFrom k rs = AllByRecursion (λ r. is_earlier (generation_told r) k ≡ false) rs

-- no record is of an earlier generation than one before it
abbrev pub AreInOrder : List Record → Type 0
AreInOrder [] = Unit {0}
AreInOrder (r ∷ rs) = AreFrom (generation_told r) rs × AreInOrder rs

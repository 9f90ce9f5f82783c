-- The merge of pieces by key (Dean and Ghemawat 2004, section 3.1: sorted by key, so that all values of a key stand
-- together). The order of one key's values and the faults are our own profile.
use Rattle.std.specs.Prelude.{◌≡◌, ◌≢◌, ◌⊎◌, ℕ, List, [], ◌∷◌, ◌++◌, map, Option, Some, None, Result, Ok, Err}
use Rattle.std.specs.Option.{option_to_list}
use Rattle.mr_user.specs.Computation.{Computation}
use Rattle.mr_user.specs.Groups.{groups_of}
use Rattle.mr_mapside.specs.declared.fault.ShuffleFault.{ShuffleFault}
use Rattle.mr_mapside.specs.declared.fault.ShuffleFault.TheVariants.{NoMemory}
use Rattle.mr_shuffle.specs.Part.{pairs_of_all}

-- what a merge gives, one after the other: a key with its values, or a fault
abbrev pub Item : Type 0 → Type 0 → Type 0
Item K V = Result (K × List V) ShuffleFault

-- groups, and a fault after them if there is one
abbrev pub items_of : {K V : Type 0} → List (K × List V) → Option ShuffleFault → List (Item K V)
items_of groups fault = map Ok groups ++ map Err (option_to_list fault)

module _ {K V : Type 0} (job : Computation K V) where
  -- The items of the merge of pieces. Where all pieces can be read and are in order, they are the keys in any piece,
  -- rising, each with its values by piece and then by place. Else it is the first fault alone, in the order of the
  -- pieces and then of the bytes, and no group comes before it.
  pub record IsMergeOf (pieces : List (List ℕ)) (items : List (Item K V)) : Type 0 where
    pub whole : (ps : List (K × V)) → pairs_of_all job pieces ≡ Ok ps → items ≡ items_of (groups_of job.cmp ps) None
    pub broken : (first : ShuffleFault) → pairs_of_all job pieces ≡ Err first → items ≡ items_of [] (Some first)

-- What a call answers, where the items of the first list were to come and those of the second are left. It is the
-- first that was to come, or an allocation failure, after which nothing comes. Where nothing was to come it is
-- nothing.
abbrev pub Gives : {K V W : Type 0} → (W → List V) → List (Item K V) → Option (Result (K × W) ShuffleFault) → List (Item K V) → Type 0
Gives values before None after = (before ≡ []) × (after ≡ [])
Gives values before (Some (Ok group)) after = before ≡ Ok (group.0, values group.1) ∷ after
Gives values before (Some (Err fault)) after = (before ≡ Err fault ∷ after) ⊎ ((fault ≡ NoMemory) × (before ≢ []) × (after ≡ []))

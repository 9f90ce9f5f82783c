-- Keys of a job text that say nothing (our own profile): those of its object that no job has.
use Rattle.std.specs.Prelude.{ℕ, ◌||◌, Bool, List, [], ◌∷◌, codes, if◌then◌else◌, Option, Some, None}
use Rattle.std.specs.Str.{bytes_eq}
use Rattle.serde_json.specs.Data.{Data, Members, no_members, member}
use Rattle.serde_json.specs.Find.{as_object}

abbrev pub is_job_key : List ℕ → Bool
is_job_key key =
    bytes_eq key (codes "id") || bytes_eq key (codes "job") || bytes_eq key (codes "reduces") || bytes_eq key (codes "splits")
    || bytes_eq key (codes "nodes") || bytes_eq key (codes "limit") || bytes_eq key (codes "faults") || bytes_eq key (codes "v2from")

abbrev pub idle_in : Members → List (List ℕ)
idle_in no_members = []
idle_in (member key d more) = if is_job_key key then idle_in more else key ∷ idle_in more

abbrev pub idle_of : Option Members → List (List ℕ)
idle_of None = []
idle_of (Some members) = idle_in members

unfoldable pub idle_keys : Data → List (List ℕ)
idle_keys d = idle_of (as_object d)

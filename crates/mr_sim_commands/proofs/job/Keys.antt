-- The keys of an object that no job has.
use Rattle.std.proofs.Common.{◌≡◌, ℕ, Bool, true, false, cond, List, [], ◌∷◌, String, string_bytes, map, Global, Some, None, refl, ap, ◌∙◌}
use Rattle.serde_json.specs.Data.{Data}
use Rattle.serde_json.specs.Find.{as_object}
use Rattle.serde_json.specs.View.{members_view, view}
use Rattle.serde_json.specs.declared.value.Value.{Value}
use Rattle.mr_sim_commands.specs.job.IdleKeys.{idle_in, idle_keys, idle_of, is_job_key}

-- of these keys those that no job has
abbrev pub idle_among : List (String Global) → List (List ℕ)
idle_among [] = []
idle_among (key ∷ keys) = cond (is_job_key (string_bytes key)) (idle_among keys) (string_bytes key ∷ idle_among keys)

pub among-members : (entries : List (String Global × Value)) → idle_among (map (λ e. e.0) entries) ≡ idle_in (members_view entries)
among-members [] = refl
among-members (e ∷ es) = by (is_job_key (string_bytes e.0)) (among-members es) where
  by : (b : Bool) → idle_among (map (λ e. e.0) es) ≡ idle_in (members_view es) →
      cond b (idle_among (map (λ e. e.0) es)) (string_bytes e.0 ∷ idle_among (map (λ e. e.0) es)) ≡ cond b (idle_in (members_view es)) (string_bytes e.0 ∷ idle_in (members_view es))
  by true h = h
  by false h = ap (λ xs. string_bytes e.0 ∷ xs) h

-- a value that is no object has none
pub no_object : (d : Data) → None ≡ as_object d → [] ≡ idle_keys d
unfolding idle_keys
no_object d e = ap idle_of e

-- those among the keys of an object
pub of_object : (d : Data) (entries : List (String Global × Value)) (keys : List (String Global)) → Some (members_view entries) ≡ as_object d → keys ≡ map (λ e. e.0) entries → idle_among keys ≡ idle_keys d
unfolding idle_keys
of_object d entries keys e is = ap idle_among is ∙ (among-members entries ∙ ap idle_of e)

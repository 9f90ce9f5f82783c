-- One task more.
use Rattle.std.proofs.Common.{◌≡◌, ◌+◌, ◌++◌, ◌∷◌, [], ℕ, List, map, refl, sym, ap, ◌∙◌, add-one}
use Rattle.std.proofs.lemmas.List.{map-append}
use Rattle.mr_ids.specs.declared.id.JobId.{JobId}
use Rattle.mr_history.specs.declared.record.Record.{Record}
use Rattle.mr_out_winners.specs.Tasks.{Part, as_part, part_at, parts}
use Rattle.mr_out_winners.specs.declared.task.Measured.{Measured}
use Rattle.mr_out_winners.specs.declared.task.Task.{Task}

pub one_more : (job : JobId) (suffix : List ℕ) (rs : List Record) (ms : List Measured) (n : ℕ) → parts job suffix rs ms (n + 1) ≡ parts job suffix rs ms n ++ part_at job suffix rs ms n ∷ []
unfolding parts
one_more job suffix rs ms n = ap (λ m. parts job suffix rs ms m) (add-one n)

pub no_task : (job : JobId) (suffix : List ℕ) (rs : List Record) (ms : List Measured) → parts job suffix rs ms 0 ≡ []
unfolding parts
no_task job suffix rs ms = refl

pub with_one : (job : JobId) (suffix : List ℕ) (rs : List Record) (ms : List Measured) (n : ℕ) (ts us : List Task) (t : Task) → map as_part ts ≡ parts job suffix rs ms n → as_part t ≡ part_at job suffix rs ms n → us ≡ ts ++ t ∷ [] → map as_part us ≡ parts job suffix rs ms (n + 1)
with_one job suffix rs ms n ts us t before is all =
    ap (map as_part) all ∙ (map-append as_part ts (t ∷ []) ∙ (ap (λ (ps : List Part). ps ++ as_part t ∷ []) before
    ∙ (ap (λ (p : Part). parts job suffix rs ms n ++ p ∷ []) is ∙ sym (one_more job suffix rs ms n))))

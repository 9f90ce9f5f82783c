use Rattle.std.proofs.Common.{◌≡◌, ◌≢◌, ◌++◌, ℕ, List, subst}
use Rattle.std.specs.Prelude.{MatchOption}
use Rattle.std.proofs.lemmas.Bool.Decides.{Decides-eqb}
use Rattle.std.proofs.lemmas.Slice.Eq.{strip_prefix_is}
use Rattle.mr_log_entries.proofs.reading.after.Goals as goal

pub returns : goal.returns
returns c = subst (λ (w : List ℕ). MatchOption c.strip_prefix.result ((rest : List ℕ) → c.args.text.now ≢ w ++ rest) (λ x. c.args.text.now ≡ w ++ x.now)) c.as_bytes.ensures.value
    (strip_prefix_is Decides-eqb c.args.text.now c.as_bytes.result.now c.strip_prefix.result c.strip_prefix.ensures.cases)

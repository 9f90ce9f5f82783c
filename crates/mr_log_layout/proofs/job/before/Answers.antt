use Rattle.std.proofs.Common.{◌≡◌, ◌≢◌, ◌++◌, ℕ, List, subst}
use Rattle.std.specs.Prelude.{MatchOption}
use Rattle.std.proofs.lemmas.Bool.Decides.{Decides-eqb}
use Rattle.std.proofs.lemmas.Slice.Eq.{strip_suffix_is}
use Rattle.mr_log_layout.proofs.job.before.Goals as goal

pub returns : goal.returns
returns c = subst (λ (w : List ℕ). MatchOption c.strip_suffix.result ((front : List ℕ) → c.args.text.now ≢ front ++ w) (λ x. c.args.text.now ≡ x.now ++ w)) c.as_bytes.ensures.value
    (strip_suffix_is Decides-eqb c.args.text.now c.as_bytes.result.now c.strip_suffix.result c.strip_suffix.ensures.cases)

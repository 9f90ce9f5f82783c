use Rattle.std.proofs.Common.{◌≡◌, ◌∙◌, ◌+◌, ℕ, List, [], ◌∷◌, ◌++◌, length, sym, ap, subst}
use Rattle.std.proofs.lemmas.List.{length_push}
use Rattle.std.specs.List.{AllByRecursion}
use Rattle.mr_user.proofs.Exits.{at_end}
use Rattle.mr_mapside.proofs.kept.no_runs.Goals as goal

-- No runs for one reduce more.
empty_more : (kept : List (List (List ℕ))) (runs : List (List ℕ)) → runs ≡ [] → AllByRecursion (λ runs. runs ≡ []) kept → AllByRecursion (λ runs. runs ≡ []) (kept ++ runs ∷ [])
empty_more [] runs none was = (none, tt)
empty_more (first ∷ kept) runs none was = (was.0, empty_more kept runs none was.1)

pub loop-preserved : goal.loop-preserved
loop-preserved c = record {
  many = ap length c.in_ok-push.ensures.items ∙ length_push c.loop.kept.items c.new.result ∙ ap (λ n. n + 1) c.loop.invariant.many;
  empty = subst (AllByRecursion (λ (runs : List (List ℕ)). runs ≡ [])) (sym c.in_ok-push.ensures.items) (empty_more c.loop.kept.items c.new.result c.new.ensures c.loop.invariant.empty);
}

pub returns-clause-many : goal.returns-clause-many
returns-clause-many c = c.loop.invariant.many ∙ at_end c.loop.counter c.args.reduces c.loop.auto.counter-end c.loop-test.false

pub returns-clause-empty : goal.returns-clause-empty
returns-clause-empty c = c.loop.invariant.empty

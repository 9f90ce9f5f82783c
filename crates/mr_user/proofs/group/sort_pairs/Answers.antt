use Rattle.std.proofs.Common.{rules}
use Rattle.std.proofs.lemmas.List.Sorted.{answers_always, ranks_by}
use Rattle.std.proofs.lemmas.Result.{on_ok_weaker}
use Rattle.mr_user.proofs.group.sort_pairs.Goals as goal

pub returns-clause-sorted : goal.returns-clause-sorted
returns-clause-sorted g c =
    on_ok_weaker c.sort_by.result (λ h. h _ (ranks_by g.met.K.Ord.total (λ (p : g.row.K.Denot × g.row.V.Denot). p.0)) (answers_always _ _ _ (λ f a r q k. search rules))) c.sort_by.ensures.sorted

pub returns-clause-stable : goal.returns-clause-stable
returns-clause-stable g c = c.sort_by.ensures.stable _ (ranks_by g.met.K.Ord.total (λ (p : g.row.K.Denot × g.row.V.Denot). p.0)) (answers_always _ _ _ (λ f a r q k. search rules))

use Rattle.std.proofs.Common.{◌∙◌, sym, ap, []}
use Rattle.std.proofs.lemmas.Iterator.Adapters.{YieldsList-from_vec}
use Rattle.std.proofs.lemmas.Iterator.Consumers.{YieldsList-end}
use Rattle.std.proofs.lemmas.List.Sums.{fold_push}
use Rattle.std.specs.List.{fold}
use Rattle.mr_user.specs.Groups.{with_pair}
use Rattle.mr_user.proofs.Rising.{map-same}
use Rattle.mr_user.proofs.group.gather.Goals as goal

pub loop-key-preserved : goal.loop-key-preserved
loop-key-preserved g c =
    c.in_ok-add.ensures
    ∙ ap (λ gs. with_pair g.K.Ord.cmp gs (c.in-Some.key, c.in-Some.value)) c.loop-key.invariant
    ∙ sym (fold_push (with_pair g.K.Ord.cmp) [] c.loop-key.yielded (c.in-Some.key, c.in-Some.value))

pub returns : goal.returns
returns g c =
    let gives = c.into_iter-key-iterator.ensures.into_iter_gives in
    let ok = c.args.pairs.ok in
    c.loop-key.invariant
    ∙ ap (fold (with_pair g.K.Ord.cmp) [])
    (sym (map-same c.loop-key.yielded)
    ∙ (YieldsList-end (YieldsList-from_vec c.args.pairs.items gives.0 (gives.1 ∙ ok.0)) c.loop-key.yielded c.loop-key.key-iterator c.loop-key.yielded_by c.next.result c.next.new.self c.in-None.is c.next.ensures.steps).0)

use Rattle.std.proofs.Common.{◌≡◌, ◌∙◌, ◌∷◌, ◌++◌, [], ap, map, reverse}
use Rattle.mr_names_tree.specs.inner.Tree.{ahead_of}
use Rattle.mr_names_tree.proofs.Visiting.{pushed_on, pushed_all}
use Rattle.mr_names_tree.proofs.links.push_ahead.Goals as goal

pub loop-name-preserved : goal.loop-name-preserved
loop-name-preserved c =
    let path : c.in_ok-child.field-0 ≡ c.args.path.now ++ c.in-Some.name.now ∷ [] = c.in_ok-child.ensures ∙ ap (λ n. c.args.path.now ++ n ∷ []) c.in_ok-copy.ensures in
    pushed_on (ahead_of c.args.path.now) c.loop-name.ahead.items c.push.new.self.items _ _ (c.in-Some.name.now, c.in-Some.key.now) c.loop-name.name-iterator.iter c.next.new.self.iter
    c.in-Some.ensures.steps (λ i. record { path = path i; at = c.in-Some.key.now }) c.in_ok-push.ensures.items c.loop-name.invariant

pub returns-clause-pushed : goal.returns-clause-pushed
returns-clause-pushed c =
    pushed_all (ahead_of c.args.path.now) c.loop-name.ahead.items _ c.loop-name.name-iterator.iter c.in-None.ensures.steps.0 c.loop-name.invariant
    ∙ ap (λ it. c.args.ahead.now.items ++ map (ahead_of c.args.path.now) (reverse it)) (ap (λ r. r.iter) c.into_iter-name-iterator.ensures.into_iter_gives ∙ c.rev-name-items.ensures.source ∙ c.iter.ensures.rest)

use Rattle.std.proofs.Common.{IfOk, IfErr, IfSome, subst}
use Rattle.std.specs.List.{All}
use Rattle.std.proofs.lemmas.List.Elements.{All-append, All-pop, All-same}
use Rattle.mr_explore_search.specs.Steps.{IsNotFull}
use Rattle.mr_explore_threads.specs.inner.Counting.{IsCountedAt}
use Rattle.mr_explore_threads.proofs.counting.gathered.Goals as goal

pub loop-some-preserved : goal.loop-some-preserved
loop-some-preserved c = (
  λ most goal parts all.
      let before = c.loop-some.invariant.0 most goal parts all in
      let popped = All-pop (λ some. IfOk some (λ all. All (IsCountedAt most goal parts) all.items)) c.loop-some.each.items c.pop.new.self.items c.pop.result c.pop.ensures.items before.0 in
      let one = subst (λ o. IfSome o (λ some. IfOk some (λ all. All (IsCountedAt most goal parts) all.items))) c.in-Some.is popped.1 in
      let some = subst (λ r. IfOk r (λ all. All (IsCountedAt most goal parts) all.items)) c.in_ok-some.was one in (
        popped.0,
        All-same (IsCountedAt most goal parts) _ _ c.in_ok-append.ensures.items (All-append (IsCountedAt most goal parts) c.loop-some.all.items c.in_ok-some.some.items before.1 some),
      ),
  λ all. (All-pop (λ some. IfErr some IsNotFull) c.loop-some.each.items c.pop.new.self.items c.pop.result c.pop.ensures.items (c.loop-some.invariant.1 all)).0,
)

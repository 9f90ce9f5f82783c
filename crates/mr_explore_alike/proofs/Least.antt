-- The least run to an end.
use Rattle.std.proofs.Common.{◌≡◌, inl, inr, ℕ, Bool, List, sym, arith, nat_lt}
use Rattle.std.proofs.lemmas.Bool.{ltb-true, ltb-false}
use Rattle.mr_explore_search.specs.Steps.{Steps}
use Rattle.mr_explore_alike.specs.Leaving.{IsFound}
use Rattle.mr_explore_alike.specs.Least.{LeastAreOne, LeastFoundIsLeast, SearchesFindOne}
use Rattle.mr_explore_alike.proofs.Leaving.{no_end, through}
use Rattle.mr_explore_alike.proofs.Void.{either}

module _ {S F : Type 0} (steps : Steps S F) (rest : S → ℕ) (before : S → S → Bool) (void : S → Bool) (like : S → List F → S → List F → Type 0) (ends : S → S → Type 0) where
  pub least_are_one : LeastAreOne steps rest before void like ends
  least_are_one most budget first j k u s a b there back f g =
      either (nat_lt j k) (λ x. let l = ltb-true j k x in absurd (g j u a back (inl l))) (λ x.
      either (nat_lt k j) (λ y. let l = ltb-true k j y in absurd (f k s b there (inl l))) (λ y.
      let l = ltb-false j k x in
      let m = ltb-false k j y in
      let same : j ≡ k = omega (arith, l, m) in (
        same,
        either (before u s) (λ z. absurd (g j u a back (inr (same, z)))) (λ z. z),
        either (before s u) (λ z. absurd (f k s b there (inr (sym same, z)))) (λ z. z),
      )))

  pub least_is_least : LeastFoundIsLeast steps rest before void like ends
  least_is_least most budget made found first l on alike few enough at k s none j u is one earlier = by (no_end steps rest before void like ends most budget made found first l alike few enough at j u is.0 is.1)
    where
      by : IsFound steps rest before void like ends found j u → ⊥
      by (inl told) = none j u told one earlier
      by (inr x) = none x.faults x.run x.found_so (on s u x.run one x.one) (through before l.in_order x.faults j k x.run u s x.earlier earlier)

  pub searches_find_one : SearchesFindOne steps rest before void like ends
  searches_find_one most budget first made others found told l on alike few one other j k u s a b there back f g =
      least_are_one most budget first j k u s (one.are_runs j u a) (other.are_runs k s b) there back
      (least_is_least most budget made found first l on alike few one.enough one.begins j u f)
      (least_is_least most budget others told first l on alike few other.enough other.begins k s g)

-- What two tables tell together.
use Rattle.std.proofs.Common.{◌≡◌, ◌⊎◌, inl, inr, ◌||◌, ℕ, Bool, true, List, ◌++◌, ◌∙◌}
use Rattle.mr_world_events.specs.declared.event.Event.{Event}
use Rattle.mr_explore_search.specs.Steps.{Steps}
use Rattle.mr_explore_search.specs.Runs.{Found, Run}
use Rattle.mr_explore_search.specs.Laws.{In}
use Rattle.mr_explore_places.proofs.Joining.{given_joined}
use Rattle.mr_explore_places.proofs.Lists.{in_either, in_left, in_right}
use Rattle.mr_explore_ends.specs.Outcomes.{Outcome}
use Rattle.mr_explore_least.specs.Laws.{EachHasOneEnd, Has}
use Rattle.mr_explore_least.specs.Table.{Arrival, Table, all_noted, rows_of}
use Rattle.mr_explore_least.proofs.LeastRows.{are_least, one_end_within}
use Rattle.mr_explore_noted.specs.Noting.{CameBy, CameOf, OnePassesLimit, Tells}
use Rattle.mr_explore_noted.specs.Laws.{FoundCame, JoinedHasAll, JoinedTellsBoth, LimitIsOfOne}
use Rattle.mr_explore_noted.proofs.Lists.{first_of_two, has_back, has_either, has_front, one_of_two, second_of_two}

module _ {S : Type 0} (void : S → Bool) (end : S → Outcome) (events : S → List Event) where
  abbrev Came : List (Found S) → Arrival → Type 0
  Came found a = CameOf void end events found a

  abbrev Passes : List (Found S) → Type 0
  Passes found = OnePassesLimit void end events found

  module _ (found more : List (Found S)) (t u : Table) (h : Tells void end events found t) (k : Tells void end events more u) where
    came-of-both : (a : Arrival) → Has h.came a ⊎ Has k.came a → Came (more ++ found) a
    came-of-both a (inl x) = let c = (h.are a).0 x in (c.0, in_right (Run a.faults c.0) more found c.1, c.2, c.3)
    came-of-both a (inr x) = let c = (k.are a).0 x in (c.0, in_left (Run a.faults c.0) more found c.1, c.2, c.3)

    forth : (a : Arrival) → Has (h.came ++ k.came) a → Came (more ++ found) a
    forth a x = came-of-both a (has_either h.came k.came a x)

    back : (a : Arrival) → Came (more ++ found) a → Has (h.came ++ k.came) a
    back a c = by (in_either (Run a.faults c.0) more found c.1) where
      by : In (Run a.faults c.0) more ⊎ In (Run a.faults c.0) found → Has (h.came ++ k.came) a
      by (inl i) = has_back h.came k.came a ((k.are a).1 (c.0, i, c.2, c.3))
      by (inr i) = has_front h.came k.came a ((h.are a).1 (c.0, i, c.2, c.3))

    passes-of-both : (t.past_limit ≡ true) ⊎ (u.past_limit ≡ true) → Passes (more ++ found)
    passes-of-both (inl e) = let p = h.limit.0 e in (p.0, p.1, in_right (Run p.0 p.1) more found p.2, p.3)
    passes-of-both (inr e) = let p = k.limit.0 e in (p.0, p.1, in_left (Run p.0 p.1) more found p.2, p.3)

    one-passes : Passes (more ++ found) → (t.past_limit || u.past_limit) ≡ true
    one-passes p = by (in_either (Run p.0 p.1) more found p.2) where
      by : In (Run p.0 p.1) more ⊎ In (Run p.0 p.1) found → (t.past_limit || u.past_limit) ≡ true
      by (inl i) = second_of_two t.past_limit u.past_limit (k.limit.1 (p.0, p.1, i, p.3))
      by (inr i) = first_of_two t.past_limit u.past_limit (h.limit.1 (p.0, p.1, i, p.3))

    rows-of-both : EachHasOneEnd (Came (more ++ found)) → all_noted u.rows t.rows ≡ rows_of (h.came ++ k.came)
    rows-of-both one = (λ i. all_noted (k.rows i) (h.rows i)) ∙ are_least.apart h.came k.came (one_end_within (Came (more ++ found)) (Has (h.came ++ k.came)) forth one)

  pub tells_both : JoinedTellsBoth void end events
  tells_both found more t u h k one =
      record {
        came = h.came ++ k.came;
        are = λ a. (forth found more t u h k a, back found more t u h k a);
        rows = rows-of-both found more t u h k one;
        limit = ((λ e. passes-of-both found more t u h k (one_of_two t.past_limit u.past_limit e)), one-passes found more t u h k);
      }

module _ {S F : Type 0} (steps : Steps S F) (rest : S → ℕ) (before : S → S → Bool) (void : S → Bool) (like : S → List F → S → List F → Type 0) (ends : S → S → Type 0) (end : S → Outcome) (events : S → List Event) where
  pub one_of_found : FoundCame steps rest before void like ends end events
  one_of_found bounds first parts given found a d c = record { run = c.0; one = d.2.runs (Run a.faults c.0) c.1; goes = c.2; is = c.3 }

  pub limit_of_one : LimitIsOfOne steps rest before void like ends end events
  limit_of_one bounds first parts given t h e = let p = h.2.limit.0 e in (p.0, p.1, h.1.2.runs (Run p.0 p.1) p.2, p.3)

  pub all_joined : JoinedHasAll steps rest before void like ends end events
  all_joined bounds first parts given some others t u one f g b h k =
      let done = given_joined steps rest before void like ends bounds first parts given some others h.0 k.0 f g b h.1 k.1 in
      let of_both = one_end_within (CameBy void end events steps bounds first) (CameOf void end events (k.0 ++ h.0)) (λ a c. one_of_found bounds first parts others (k.0 ++ h.0) a done c) one in
      (k.0 ++ h.0, done, tells_both void end events h.0 k.0 t u h.2 k.2 of_both)

-- The rows of all that a search found are the least of all runs.
use Rattle.std.proofs.Common.{◌≡◌, inl, inr, ◌&&◌, ◌==◌, ℕ, Bool, true, false, nat_lt, List, [], refl, sym, ◌∙◌, ap, subst}
use Rattle.std.proofs.lemmas.Bool.Decides.{Decides-eqb, Decides-ltb}
use Rattle.mr_world_events.specs.declared.event.Event.{Event}
use Rattle.mr_explore_search.specs.Steps.{Steps}
use Rattle.mr_explore_search.specs.Runs.{Found}
use Rattle.mr_explore_alike.specs.Leaving.{IsEarlier, IsFound}
use Rattle.mr_explore_places.specs.State.{whole}
use Rattle.mr_explore_places.specs.declared.bounds.Bounds.{Bounds}
use Rattle.mr_script_order.specs.Order.{sooner}
use Rattle.mr_explore_ends.specs.Outcomes.{Outcome}
use Rattle.mr_explore_least.specs.Laws.{StandFor}
use Rattle.mr_explore_least.specs.Table.{Arrival, earlier}
use Rattle.mr_explore_least.proofs.Earlier.{never_back, never_itself}
use Rattle.mr_explore_least.proofs.LeastRows.{few_are_enough, one_end_within}
use Rattle.mr_explore_noted.specs.Noting.{CameBy, CameOf, arrival_of}
use Rattle.mr_explore_noted.specs.Laws.{RowsAreLeastOfAll, SaysWhatIsNoted}
use Rattle.mr_explore_noted.proofs.Lists.{both_of_two, first_of_two, second_of_two}
use Rattle.mr_explore_noted.proofs.Telling.{least_found}
use Rattle.mr_explore_noted.proofs.Joining.{one_of_found}
use Rattle.mr_explore_noted.proofs.Awake.{alive, alive_in, each_alive}

module _ {S F : Type 0} (steps : Steps S F) (rest : S → ℕ) (before : S → S → Bool) (void : S → Bool) (like : S → List F → S → List F → Type 0) (ends : S → S → Type 0) (end : S → Outcome) (events : S → List Event) where
  abbrev Says : Type 0
  Says = SaysWhatIsNoted steps rest before void like ends end events

  abbrev at_end : ℕ → S → Arrival
  at_end k s = arrival_of void end events k s

  -- the runs of these orders are in the order of runs
  is_earlier : Says → (j k : ℕ) (u s : S) → IsEarlier before j u k s → earlier (at_end j u) (at_end k s) ≡ true
  is_earlier says j k u s (inl less) = first_of_two (nat_lt j k) ((j == k) && sooner (events u) (events s)) ((Decides-ltb j k).1 less)
  is_earlier says j k u s (inr same) =
      second_of_two (nat_lt j k) ((j == k) && sooner (events u) (events s)) (both_of_two (j == k) (sooner (events u) (events s)) ((Decides-eqb j k).1 same.0) (says.in_order u s same.1))

  module _ (bounds : Bounds) (first : S) (found : List (Found S)) (says : Says) where
    abbrev Came : Arrival → Type 0
    Came a = CameBy void end events steps bounds first a

    -- one that was found stands for a run
    stands : (a : Arrival) (c : Came a) → IsFound steps rest before void like ends (alive void found) a.faults c.run → (b : Arrival) × (CameOf void end events found b × ((b.end ≡ a.end) × (earlier a b ≡ false)))
    stands a c (inl i) = let z = alive_in void a.faults c.run found i in (a, ((c.run, z.0, c.goes, c.is), (refl, never_itself a)))
    stands a c (inr f) =
        let z = alive_in void f.faults f.run found f.found_so in
        let b : Arrival = at_end f.faults f.run in
        let before-it : earlier b a ≡ true = subst (λ (x : Arrival). earlier b x ≡ true) (sym c.is) (is_earlier says f.faults a.faults f.run c.run f.earlier) in
        (b, ((f.run, z.0, z.1, refl), (sym (says.one_end c.run f.run f.one) ∙ ap (λ (x : Arrival). x.end) (sym c.is), never_back b a before-it)))

  pub least_of_all : RowsAreLeastOfAll steps rest before void like ends end events
  least_of_all bounds first t l says itself few one h =
      let came : ((a : Arrival) → CameOf void end events h.0 a → CameBy void end events steps bounds first a) = λ a c. one_of_found steps rest before void like ends end events bounds first (whole first) [] h.0 a h.1 c in
      let stand : StandFor (CameOf void end events h.0) (CameBy void end events steps bounds first) = record {
        are = came;
        every = λ a c. stands bounds first h.0 says a c (each_alive steps rest before void like ends says.goes says.stops bounds first h.0 l itself few h.1 a.faults c.run c.one c.goes);
      } in
      few_are_enough (CameOf void end events h.0) (CameBy void end events steps bounds first) t.rows stand
      (least_found void end events h.0 t h.2 (one_end_within (CameBy void end events steps bounds first) (CameOf void end events h.0) came one))

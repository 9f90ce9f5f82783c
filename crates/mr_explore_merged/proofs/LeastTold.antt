-- What a table tells of the runs that a search found, where some were left out.
use Rattle.std.proofs.Common.{◌≡◌, ◌⊎◌, ◌<◌, ◌↔◌, inl, inr, ◌&&◌, ◌==◌, ℕ, Bool, true, false, nat_lt, List, refl, sym, ap, subst, ◌∙◌}
use Rattle.std.proofs.lemmas.Bool.Decides.{Decides-and, Decides-or, Decides-eqb, Decides-ltb}
use Rattle.mr_world_events.specs.declared.event.Event.{Event}
use Rattle.mr_script_order.specs.Order.{sooner}
use Rattle.mr_explore_search.specs.Steps.{Steps}
use Rattle.mr_explore_search.specs.Runs.{Found, Run}
use Rattle.mr_explore_search.specs.Laws.{In, IsOneBy}
use Rattle.mr_explore_alike.specs.Leaving.{IsEarlier, IsFound}
use Rattle.mr_explore_ends.specs.Outcomes.{Outcome}
use Rattle.mr_explore_least.specs.Laws.{AreLeastOf, EachHasOneEnd, Has, HasEnd}
use Rattle.mr_explore_least.specs.Table.{Arrival, earlier, rows_of}
use Rattle.mr_explore_least.proofs.Earlier.{never_back, never_itself, not_onward}
use Rattle.mr_explore_least.proofs.LeastRows.{one_end_within, only_one, rows_are_least, told_alike}
use Rattle.mr_explore_merged.specs.Least.{AreLeast}
use Rattle.mr_explore_merged.proofs.Alive.{alive, alive_in}

-- ---- rows alone

earlier_by : (a b : Arrival) → (a.faults < b.faults) ⊎ ((a.faults ≡ b.faults) × (sooner a.events b.events ≡ true)) → earlier a b ≡ true
earlier_by a b h =
    (Decides-or (nat_lt a.faults b.faults) ((a.faults == b.faults) && sooner a.events b.events) (Decides-ltb a.faults b.faults)
    (Decides-and (a.faults == b.faults) (sooner a.events b.events) (Decides-eqb a.faults b.faults) (λ e. e, λ e. e))).1 h

-- where all runs that came are sure to be told, the rows are the least of them
sure_are_least : (Came Sure : Arrival → Type 0) (rows : List Arrival) → ((a : Arrival) → Came a → Sure a) → AreLeast Came Sure rows → AreLeastOf Came rows
sure_are_least Came Sure rows f l = record { rise = l.rise; are = l.are; least = λ r a h c e. l.least r a h (f a c) e; every = λ a c. l.every a (f a c) }

-- and there is only one such list
pub one_list : (Came Sure : Arrival → Type 0) (rows other : List Arrival) → ((a : Arrival) → Came a → Sure a) → AreLeast Came Sure rows → AreLeast Came Sure other → rows ≡ other
one_list Came Sure rows other f l k = only_one Came rows other (sure_are_least Came Sure rows f l) (sure_are_least Came Sure other f k)

-- ---- rows of runs that were found

module _ {S F : Type 0} (steps sure : Steps S F) (rest : S → ℕ) (before : S → S → Bool) (void : S → Bool) (like : S → List F → S → List F → Type 0) (ends : S → S → Type 0) (end : S → Outcome) (events : S → List Event) (most budget : ℕ) (first : S) where
  abbrev arrival : ℕ → S → Arrival
  arrival k s = record { end = end s; faults = k; events = events s }

  -- a run that is not void is among these, and came so
  abbrev pub Came : List (Found S) → Arrival → Type 0
  Came found a = (s : S) × In (Run a.faults s) found × (void s ≡ false) × (a ≡ arrival a.faults s)

  -- a run of the definition came so
  abbrev pub IsRunBy : Steps S F → Arrival → Type 0
  IsRunBy go a = (s : S) × IsOneBy go most budget first (Run a.faults s) × (void s ≡ false) × (a ≡ arrival a.faults s)

  -- What is known of runs. Those that are sure are found, or earlier ones with their end.
  pub record Knows (found : List (Found S)) : Type 0 where
    pub are_runs : (r : Found S) → In r found → IsOneBy steps most budget first r
    pub lost : (k : ℕ) (s : S) → IsOneBy sure most budget first (Run k s) → void s ≡ false → IsFound sure rest before void like ends (alive void found) k s
    pub same : (s t : S) → ends s t → end s ≡ end t
    pub orders : (s t : S) → before s t ≡ sooner (events s) (events t)
    pub one_end : EachHasOneEnd (IsRunBy steps)

  module _ (found : List (Found S)) (k : Knows found) where
    came_is_run : (a : Arrival) → Came found a → IsRunBy steps a
    came_is_run a c = (c.0, k.are_runs (Run a.faults c.0) c.1, c.2, c.3)

    of_alive : (n : ℕ) (s : S) → In (Run n s) (alive void found) → Came found (arrival n s)
    of_alive n s i = let z = alive_in void n s found i in (s, z.0, z.1, refl)

    -- a run that is sure is found, or one to its end that it does not come before
    told : (a : Arrival) → IsRunBy sure a → (b : Arrival) × (Came found b × ((b.end ≡ a.end) × (earlier a b ≡ false)))
    told a c = by (k.lost a.faults c.0 c.1 c.2) where
      is : a ≡ arrival a.faults c.0
      is = c.3

      no_later : (j : ℕ) (t : S) → IsEarlier before j t a.faults c.0 → (j < a.faults) ⊎ ((j ≡ a.faults) × (sooner (events t) a.events ≡ true))
      no_later j t (inl l) = inl l
      no_later j t (inr e) = inr (e.0, ap (λ (x : Arrival). sooner (events t) x.events) is ∙ (sym (k.orders t c.0) ∙ e.1))

      by : IsFound sure rest before void like ends (alive void found) a.faults c.0 → (b : Arrival) × (Came found b × ((b.end ≡ a.end) × (earlier a b ≡ false)))
      by (inl i) = (arrival a.faults c.0, (of_alive a.faults c.0 i, (ap (λ (x : Arrival). x.end) (sym is), subst (λ (x : Arrival). earlier a x ≡ false) is (never_itself a))))
      by (inr f) = (arrival f.faults f.run, (of_alive f.faults f.run f.found_so, (sym (k.same c.0 f.run f.one) ∙ ap (λ (x : Arrival). x.end) (sym is), never_back (arrival f.faults f.run) a (earlier_by (arrival f.faults f.run) a (no_later f.faults f.run f.earlier)))))

    -- the rows of the runs that were found
    pub rows_tell : (came rows : List Arrival) → ((a : Arrival) → Has came a ↔ Came found a) → rows ≡ rows_of came → AreLeast (IsRunBy steps) (IsRunBy sure) rows
    rows_tell came rows are is = record { are = λ r h. came_is_run r (all.are r h); rise = all.rise; every = every; least = least } where
      all : AreLeastOf (Came found) rows
      all =
          told_alike (Has came) (Came found) rows (λ a h. (are a).0 h) (λ a c. (are a).1 c)
          (subst (λ (rs : List Arrival). AreLeastOf (Has came) rs) (sym is) (rows_are_least came (one_end_within (IsRunBy steps) (Has came) (λ a h. came_is_run a ((are a).0 h)) k.one_end)))

      every : (a : Arrival) → IsRunBy sure a → HasEnd rows a.end
      every a c = let z = told a c in let e = all.every z.0 z.1.0 in (e.0, (e.1.0, e.1.1 ∙ z.1.1.0))

      least : (r a : Arrival) → Has rows r → IsRunBy sure a → a.end ≡ r.end → earlier a r ≡ false
      least r a h c e = let z = told a c in not_onward a z.0 r z.1.1.1 (all.least r z.0 h z.1.0 (z.1.1.0 ∙ e))

-- What a table tells of runs, and what it tells after one run more.
use Rattle.std.proofs.Common.{◌≡◌, ◌⊎◌, inl, inr, ℕ, Bool, true, false, List, [], ◌∷◌, ◌++◌, refl, sym, ◌∙◌, ap, subst}
use Rattle.std.specs.Prelude.{if◌then◌else◌}
use Rattle.mr_world_events.specs.declared.event.Event.{Event}
use Rattle.mr_explore_search.specs.Runs.{Found, Run}
use Rattle.mr_explore_search.specs.Laws.{In}
use Rattle.mr_explore_ends.specs.Outcomes.{Outcome}
use Rattle.mr_explore_least.specs.Laws.{AreLeastOf, Has}
use Rattle.mr_explore_least.specs.Table.{Arrival, Table, empty, noted, rows_of}
use Rattle.mr_explore_least.proofs.Earlier.{not_onward}
use Rattle.mr_explore_least.proofs.LeastRows.{one_end_within, rows_are_least, told_alike}
use Rattle.mr_explore_noted.specs.Noting.{CameOf, OnePassesLimit, Tells, arrival_of, noted_run}
use Rattle.mr_explore_noted.specs.Laws.{RowsAreLeastFound, WhatIsStoodForIsTold}
use Rattle.mr_explore_noted.proofs.Lists.{has_back, has_either, has_front, noted_last, same_faults, same_run, true_and_false}

module _ {S : Type 0} (void : S → Bool) (end : S → Outcome) (events : S → List Event) where
  abbrev Told : List (Found S) → Table → Type 0
  Told found t = Tells void end events found t

  abbrev Came : List (Found S) → Arrival → Type 0
  Came found a = CameOf void end events found a

  abbrev Passes : List (Found S) → Type 0
  Passes found = OnePassesLimit void end events found

  abbrev at_end : ℕ → S → Arrival
  at_end k s = arrival_of void end events k s

  pub tells_none : Told [] empty
  tells_none = record { came = []; are = λ a. ((λ h. absurd h), (λ c. absurd c.1)); rows = refl; limit = ((λ e. absurd (true_and_false e refl)), (λ p. absurd p.2)) }

  module _ (k : ℕ) (s : S) (found : List (Found S)) where
    came-before : (a : Arrival) → Came found a → Came (Run k s ∷ found) a
    came-before a c = (c.0, inr c.1, c.2, c.3)

    -- a void run came to no end
    not-void : (a : Arrival) → void s ≡ true → Came (Run k s ∷ found) a → Came found a
    not-void a v c = by c.1 where
      by : ◌≡◌ {A = Found S} (Run k s) (Run a.faults c.0) ⊎ In (Run a.faults c.0) found → Came found a
      by (inl q) = absurd (true_and_false v (subst (λ (z : S). void z ≡ false) (sym (same_run k a.faults s c.0 q)) c.2))
      by (inr i) = (c.0, i, c.2, c.3)

    -- it is the new run, or one of the others
    new-or-old : (a : Arrival) → Came (Run k s ∷ found) a → (at_end k s ≡ a) ⊎ Came found a
    new-or-old a c = by c.1 where
      by : ◌≡◌ {A = Found S} (Run k s) (Run a.faults c.0) ⊎ In (Run a.faults c.0) found → (at_end k s ≡ a) ⊎ Came found a
      by (inl q) = let e = same_faults k a.faults s c.0 q in let f = same_run k a.faults s c.0 q in inl ((λ i. at_end (e i) (f i)) ∙ sym c.3)
      by (inr i) = inr (c.0, i, c.2, c.3)

    new-came : (a : Arrival) → void s ≡ false → at_end k s ≡ a → Came (Run k s ∷ found) a
    new-came a v e = (s, inl (ap (λ (z : Arrival). Run z.faults s) e), v, subst (λ (z : Arrival). z ≡ at_end z.faults s) e refl)

    passes-before : Passes found → Passes (Run k s ∷ found)
    passes-before p = (p.0, p.1, inr p.2, p.3)

    passed-before : void s ≡ false → Passes (Run k s ∷ found) → Passes found
    passed-before v p = by p.2 where
      by : ◌≡◌ {A = Found S} (Run k s) (Run p.0 p.1) ⊎ In (Run p.0 p.1) found → Passes found
      by (inl q) = absurd (true_and_false (subst (λ (z : S). void z ≡ true) (sym (same_run k p.0 s p.1 q)) p.3) v)
      by (inr i) = (p.0, p.1, i, p.3)

    void_told : (t : Table) → void s ≡ true → Told found t → Told (Run k s ∷ found) (record t { past_limit = true })
    void_told t v h =
        record {
          came = h.came;
          are = λ a. ((λ x. came-before a ((h.are a).0 x)), (λ c. (h.are a).1 (not-void a v c)));
          rows = h.rows;
          limit = ((λ e. (k, s, inl refl, v)), (λ p. refl));
        }

    end_told : (t : Table) → void s ≡ false → Told found t → Told (Run k s ∷ found) (record t { rows = noted (at_end k s) t.rows })
    end_told t v h =
        record {
          came = h.came ++ at_end k s ∷ [];
          are = λ a. ((λ x. forth a (has_either h.came (at_end k s ∷ []) a x)), (λ c. back a (new-or-old a c)));
          rows = ap (noted (at_end k s)) h.rows ∙ sym (noted_last h.came (at_end k s) []);
          limit = ((λ e. passes-before (h.limit.0 e)), (λ p. h.limit.1 (passed-before v p)));
        } where
          forth : (a : Arrival) → Has h.came a ⊎ Has (at_end k s ∷ []) a → Came (Run k s ∷ found) a
          forth a (inl x) = came-before a ((h.are a).0 x)
          forth a (inr (inl e)) = new-came a v e
          forth a (inr (inr x)) = absurd x

          back : (a : Arrival) → (at_end k s ≡ a) ⊎ Came found a → Has (h.came ++ at_end k s ∷ []) a
          back a (inl e) = has_back h.came (at_end k s ∷ []) a (inl e)
          back a (inr c) = has_front h.came (at_end k s ∷ []) a ((h.are a).1 c)

    -- one run more is told
    pub told_more : (t : Table) → Told found t → Told (Run k s ∷ found) (noted_run void end events k s t)
    told_more t h = by (void s) refl where
      by : (b : Bool) → void s ≡ b → Told (Run k s ∷ found) (if b then record t { past_limit = true } else record t { rows = noted (at_end k s) t.rows })
      by true v = void_told t v h
      by false v = end_told t v h

  pub least_found : RowsAreLeastFound void end events
  least_found found t h one =
      subst (AreLeastOf (Came found)) (sym h.rows)
      (told_alike (Has h.came) (Came found) (rows_of h.came) (λ a. (h.are a).0) (λ a. (h.are a).1) (rows_are_least h.came (one_end_within (Came found) (Has h.came) (λ a. (h.are a).0) one)))

  pub stood_for : WhatIsStoodForIsTold void end events
  stood_for found t a h one w =
      let l = least_found found t h one in
      let row = l.every w.by w.came in (
        (row.0, (row.1.0, row.1.1 ∙ w.same)),
        λ r i e. not_onward a w.by r w.no_later (l.least r w.by i w.came (w.same ∙ e)),
      )

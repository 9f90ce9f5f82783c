-- Careful runs are runs of mr_explore, and what is enough of these is enough of careful ones.
use Rattle.std.proofs.Common.{ℕ, ◌≡◌, inl, inr, refl, sym, ◌∙◌, ap, suc, Bool, true, false, List, [], ◌++◌, length, remove, option_to_list, if◌then◌else◌}
use Rattle.std.proofs.lemmas.Bool.{true≢false}
use Rattle.mr_world_state.specs.Limits.{within}
use Rattle.mr_play.specs.Text.{job_as}
use Rattle.mr_explore_search.specs.Steps.{Onward, Goes, Ends, Full}
use Rattle.mr_explore_search.specs.Runs.{Found, Run, PassesLimit}
use Rattle.mr_explore_search.specs.Laws.{Departs, Has_ended, Has_made_all, Would_pass, Went, Was_befallen, Came_later, In}
use Rattle.mr_explore_alike.specs.Leaving.{Here, IsEnough, IsTaken}
use Rattle.mr_explore_alike.proofs.Leaving.{no_end}
use Rattle.mr_explore_alike.proofs.Least.{least_is_least}
use Rattle.mr_explore_faults.specs.declared.fault.Fault.{Fault}
use Rattle.mr_explore.specs.Faults.{most_events, onward}
use Rattle.mr_explore.specs.Runs.{Exploring, explored, onward_with}
use Rattle.mr_explore_likeness.specs.Careful.{cannot_look, careful, ends_careful, onward_careful, unless_full}
use Rattle.mr_explore_likeness.specs.Losing.{CarefulRunsAreRuns, NoCarefulEndIsLost, NoCarefulRunIsEarlier}
use Rattle.mr_explore_likeness.specs.Runs.{before, ends, like, rest, void}
use Rattle.mr_explore_likeness.proofs.Alike.{few-left}
use Rattle.mr_explore_likeness.proofs.Itself.{first-itself}
use Rattle.mr_explore_likeness.proofs.Wary.{wary_likens}

abbrev is-goes : Onward Exploring → Bool
is-goes (Goes s) = true
is-goes (Ends s) = false
is-goes Full = false

abbrev is-full : Onward Exploring → Bool
is-full (Goes s) = false
is-full (Ends s) = false
is-full Full = true

goes-too : (s t : Exploring) → onward_careful s ≡ Goes t → explored.onward s ≡ Goes t
goes-too s t q = by s.past_limit (cannot_look s) q
  where
    by : (b c : Bool) → (if b then Ends s else (if c then Full else explored.onward s)) ≡ Goes t → explored.onward s ≡ Goes t
    by true c q = absurd (true≢false (ap is-goes (sym q)))
    by false true q = absurd (true≢false (ap is-goes (sym q)))
    by false false q = q

ends-too : (s t : Exploring) → onward_careful s ≡ Ends t → explored.onward s ≡ Ends t
ends-too s t q = by s.past_limit (cannot_look s) refl q
  where
    by : (b c : Bool) → s.past_limit ≡ b → (if b then Ends s else (if c then Full else explored.onward s)) ≡ Ends t → explored.onward s ≡ Ends t
    by true c e q = (λ i. if e i then Ends s else onward_with s (onward (job_as s.job) s.config (within s.config) s.deep s.played)) ∙ q
    by false true e q = absurd (true≢false (ap is-full q))
    by false false e q = q

tried-too : (s : Exploring) (f : Fault) → In f (unless_full (onward_careful s) (explored.faults s)) → In f (explored.faults s)
tried-too s f i = by (onward_careful s) i
  where
    by : (o : Onward Exploring) → In f (unless_full o (explored.faults s)) → In f (explored.faults s)
    by (Goes t) i = i
    by (Ends t) i = i
    by Full i = absurd i

-- ---- a careful run is one

module _ (most total : ℕ) where
  -- a run that departs so
  abbrev Departs-so : (n ripe left : ℕ) → List Fault → Exploring → Found Exploring → Type 0
  Departs-so n ripe left o s (Run k t) = Departs explored most total n ripe left o s (Run k t)
  Departs-so n ripe left o s PassesLimit = Unit {0}

  behind : (n ripe left m r l : ℕ) (o p : List Fault) (s t : Exploring) (q : Found Exploring)
      → ((k : ℕ) (u : Exploring) → Departs explored most total m r l p t (Run k u) → Departs explored most total n ripe left o s (Run k u)) → Departs-so m r l p t q → Departs-so n ripe left o s q
  behind n ripe left m r l o p s t (Run k u) f d = f k u d
  behind n ripe left m r l o p s t PassesLimit f d = tt

  departs-so : (n ripe left : ℕ) (o : List Fault) (s : Exploring) (q : Found Exploring) → Departs careful most total n ripe left o s q → Departs-so n ripe left o s q
  departs-so m i a os v q (Has_ended ripe left o s t w) = Has_ended ripe left o s t (ends-too s t w)
  departs-so m i a os v q (Has_made_all ripe o s) = Has_made_all ripe o s
  departs-so m i a os v q (Would_pass n ripe left o s w) = tt
  departs-so m i a os v q (Went n ripe left o s t r w d) =
      behind n ripe (suc left) n (length o) left o o s t r (λ k u e. Went n ripe left o s t (Run k u) (goes-too s t w) e) (departs-so n (length o) left o t r d)
  departs-so m i a os v q (Was_befallen n ripe left o s t r f may w d) =
      behind (suc n) ripe left n (length o) most o (o ++ option_to_list (explored.later f)) s t r (λ k u e. Was_befallen n ripe left o s t (Run k u) f (tried-too s f may) w e)
      (departs-so n (length o) most (o ++ option_to_list (explored.later f)) t r d)
  departs-so m i a os v q (Came_later n ripe left o s t r place f lt g w d) =
      behind n ripe left n (length (remove o place)) most o (remove o place) s t r (λ k u e. Came_later n ripe left o s t (Run k u) place f lt g w e)
      (departs-so n (length (remove o place)) most (remove o place) t r d)

pub careful_are_runs : CarefulRunsAreRuns
careful_are_runs most budget first k s d = (d.0, d.1, departs-so most d.0 d.0 0 most [] first (Run k s) d.2)

-- ---- what is enough

module _ (made : List (Here Exploring Fault)) where
  taken : (k ripe : ℕ) (o : List Fault) (s : Exploring) → IsTaken explored rest before void (like false) ends made k ripe o s → IsTaken careful rest before void (like false) ends_careful made k ripe o s
  taken k ripe o s (inl i) = inl i
  taken k ripe o s (inr c) = inr (record { by = c.by; made_by = c.made_by; alike = c.alike; ripe_there = c.ripe_there; earlier = c.earlier })

  enough-careful : (budget : ℕ) (found : List (Found Exploring)) → IsEnough explored rest before void (like false) ends budget made found → IsEnough careful rest before void (like false) ends_careful budget made found
  enough-careful budget found e = record {
    goes = λ h t i q. taken h.faults (length h.owed) h.owed t (e.goes h t i (goes-too h.run t q));
    ended = λ h t i q. e.ended h t i (ends-too h.run t q);
    befalls = λ h f t i l j q n. taken (suc h.faults) (length h.owed) (h.owed ++ option_to_list (explored.later f)) t (e.befalls h f t i l (tried-too h.run f j) q n);
    comes = λ h place f t i l g q n. taken h.faults (length (remove h.owed place)) (remove h.owed place) t (e.comes h place f t i l g q n);
  }

pub no_careful_end : NoCarefulEndIsLost
no_careful_end input budget made found first is enough at =
    let itself = first-itself false input first is in
    no_end careful rest before void (like false) ends_careful most_events budget made found first wary_likens itself (few-left (length first.played.events) itself.begun) (enough-careful made budget found enough) (taken made 0 0 [] first at)

through-end : (s t u : Exploring) → ends_careful s t → ends_careful t u → ends_careful s u
through-end s t u a b = record { outcome = a.outcome ∙ b.outcome; stalled = λ v. b.stalled (a.stalled v) }

pub no_careful_earlier : NoCarefulRunIsEarlier
no_careful_earlier input budget made found first is enough at =
    let itself = first-itself false input first is in
    least_is_least careful rest before void (like false) ends_careful most_events budget made found first wary_likens through-end itself (few-left (length first.played.events) itself.begun) (enough-careful made budget found enough) (taken made 0 0 [] first at)

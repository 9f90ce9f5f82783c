-- Runs of an exploration that are alike, and as near to each limit: the law of mr_explore_alike.
use Rattle.std.proofs.Common.{ℕ, ◌≡◌, refl, sym, subst, Bool, true, false, List, ◌++◌, remove, slice_get, Some, None, option_to_list, if◌then◌else◌}
use Rattle.mr_sim_commands.specs.declared.job.submission.JobKind.{JobKind}
use Rattle.mr_world_model.specs.Packets.{Config}
use Rattle.mr_world_state.specs.Limits.{within}
use Rattle.mr_play.specs.Played.{Played}
use Rattle.mr_play.specs.Text.{job_as}
use Rattle.mr_explore_search.specs.Steps.{Goes, Ends}
use Rattle.mr_explore_search.specs.Laws.{In}
use Rattle.mr_explore_alike.specs.Likens.{Likens, GoesToo, EndsToo, BefallsToo, ComesToo}
use Rattle.mr_explore_faults.specs.declared.fault.Fault.{Fault}
use Rattle.mr_explore.specs.Faults.{befallen, most_events, next_event, onward}
use Rattle.mr_explore.specs.Runs.{Exploring, befallen_with, explored, onward_with}
use Rattle.mr_explore_likeness.specs.Plays.{LikePlays, cluster}
use Rattle.mr_explore_likeness.specs.Runs.{before, ends, like, rest, void}
use Rattle.mr_explore_likeness.proofs.Alike.{Both, as-run, befalls-by, comes-by, ends-by, goes-by, one-outcome, that-at, this-at}
use Rattle.mr_explore_likeness.proofs.Befalling.{as-fault, same-fate}
use Rattle.mr_explore_likeness.proofs.Going.{SameOnward, SameNextEvent, next-same, onward-same}
use Rattle.mr_explore_likeness.proofs.Listing.{other-fault}
use Rattle.mr_explore_likeness.proofs.Looking.{vain-same}
use Rattle.mr_explore_likeness.proofs.Moves.{other-at}
use Rattle.mr_explore_likeness.proofs.Preorder.{as-many-owed, itself, scripts-in-order, through}

-- the same of plays
both-of : (level : Bool) (s t : Exploring) (o p : List Fault) → like level s o t p → Both level s.job s.config s.played t.played o p
both-of level s t o p e = record { begun = e.begun; begun_too = e.begun_too; plays = e.plays; owed = e.owed }

module _ (job : JobKind) (cfg : Config) where
  abbrev at : Played → Exploring
  at s = as-run job cfg s

  abbrev Plays : Played → Played → Type 0
  Plays s t = LikePlays true (job_as job) cfg s t

  on-same : (s t : Played) → Plays s t → SameOnward true (job_as job) cfg s t (onward (job_as job) cfg (within cfg) false s) (onward (job_as job) cfg (within cfg) false t)
  on-same s t e = onward-same true (job_as job) cfg s t e (λ w n. refl)

  one-end : (s t : Played) → Plays s t → ends (at s) (at t)
  one-end s t e = record { outcome = one-outcome true (job_as job) cfg s t e; stalled = vain-same true (job_as job) cfg s t e (λ w n. refl) }

  goes-at : (s t : Played) (o p : List Fault) → Both true job cfg s t o p → (s' : Exploring) → explored.onward (at s) ≡ Goes s' → GoesToo explored rest before void (like true) ends (at s) s' o (at t) p
  goes-at s t o p e s' q =
      goes-by true explored.onward explored.faults ends job cfg s t o p e (onward (job_as job) cfg (within cfg) false s) (onward (job_as job) cfg (within cfg) false t) refl (on-same s t e.plays) s' q

  stops-at : (s t : Played) (o p : List Fault) → Both true job cfg s t o p → (s' : Exploring) → explored.onward (at s) ≡ Ends s' → EndsToo explored rest before void (like true) ends (at s) s' (at t)
  stops-at s t o p e s' q =
      ends-by true explored.onward explored.faults ends job cfg s t one-end (onward (job_as job) cfg (within cfg) false s) (onward (job_as job) cfg (within cfg) false t) refl (on-same s t e.plays) s' q

  next-at : (s t : Played) → Plays s t → SameNextEvent s.cursor t.cursor (next_event (job_as job) cfg (within cfg) false s) (next_event (job_as job) cfg (within cfg) false t)
  next-at s t e = next-same true (job_as job) cfg s t (onward (job_as job) cfg (within cfg) false s) (onward (job_as job) cfg (within cfg) false t) (on-same s t e) (λ q. refl)

  befalls-at : (s t : Played) (o p : List Fault) (f : Fault) → Both true job cfg s t o p → In f (explored.faults (at s)) → (s' : Exploring) → explored.befallen f (at s) ≡ Some s' → void s' ≡ false
      → BefallsToo explored rest before void (like true) ends most_events (at s) s' (o ++ option_to_list (explored.later f)) (at t) p
  befalls-at s t o p f e i s' q n =
      let r = other-fault true (job_as job) cfg s t e.plays (next_event (job_as job) cfg (within cfg) false s) (next_event (job_as job) cfg (within cfg) false t) (next-at s t e.plays) f i in
      befalls-by true explored.onward explored.faults ends job cfg s t o p f r.other e r.is_in r.one (befallen (job_as job) cfg (within cfg) f s) (befallen (job_as job) cfg (within cfg) r.other t) refl
      (same-fate true (job_as job) cfg s t e.plays f r.other r.one) s' q n

  comes-at : (s t : Played) (o p : List Fault) (place : ℕ) (f : Fault) → Both true job cfg s t o p → slice_get o place ≡ Some f → (s' : Exploring) → explored.befallen f (at s) ≡ Some s' → void s' ≡ false
      → ComesToo explored rest before void (like true) ends most_events (at s) s' (remove o place) place (at t) p
  comes-at s t o p place f e i s' q n =
      let r = other-at (cluster cfg s).bag (cluster cfg t).bag s.cursor t.cursor place o p f e.owed i in
      let one = as-fault (cluster cfg s).bag (cluster cfg t).bag s.cursor t.cursor f r.other r.one in
      comes-by true explored.onward explored.faults ends job cfg s t o p place f r.other e r.at (befallen (job_as job) cfg (within cfg) f s) (befallen (job_as job) cfg (within cfg) r.other t) refl
      (same-fate true (job_as job) cfg s t e.plays f r.other one) s' q n

-- ---- any two runs

module _ (s t : Exploring) (o p : List Fault) (e : like true s o t p) where
  here : s ≡ as-run s.job s.config s.played
  here = this-at s e.goes e.shallow

  there : t ≡ as-run s.job s.config t.played
  there = that-at t s.job s.config e.job e.config e.goes_too e.shallow_too

  -- what holds of two runs that no limit stops
  of-both : (P : Exploring → Exploring → Type 0) → P (as-run s.job s.config s.played) (as-run s.job s.config t.played) → P s t
  of-both P x = subst (λ (z : Exploring). P s z) (sym there) (subst (λ (z : Exploring). P z (as-run s.job s.config t.played)) (sym here) x)

  both : Both true s.job s.config s.played t.played o p
  both = both-of true s t o p e

  goes-on : (s' : Exploring) → explored.onward s ≡ Goes s' → GoesToo explored rest before void (like true) ends s s' o t p
  goes-on s' = of-both (λ x y. explored.onward x ≡ Goes s' → GoesToo explored rest before void (like true) ends x s' o y p) (goes-at s.job s.config s.played t.played o p both s')

  stops-too : (s' : Exploring) → explored.onward s ≡ Ends s' → EndsToo explored rest before void (like true) ends s s' t
  stops-too s' = of-both (λ x y. explored.onward x ≡ Ends s' → EndsToo explored rest before void (like true) ends x s' y) (stops-at s.job s.config s.played t.played o p both s')

  befalls-both : (s' : Exploring) (f : Fault) → In f (explored.faults s) → explored.befallen f s ≡ Some s' → void s' ≡ false → BefallsToo explored rest before void (like true) ends most_events s s' (o ++ option_to_list (explored.later f)) t p
  befalls-both s' f =
      of-both (λ x y. In f (explored.faults x) → explored.befallen f x ≡ Some s' → void s' ≡ false → BefallsToo explored rest before void (like true) ends most_events x s' (o ++ option_to_list (explored.later f)) y p)
      (λ i q n. befalls-at s.job s.config s.played t.played o p f both i s' q n)

  comes-both : (s' : Exploring) (place : ℕ) (f : Fault) → slice_get o place ≡ Some f → explored.befallen f s ≡ Some s' → void s' ≡ false → ComesToo explored rest before void (like true) ends most_events s s' (remove o place) place t p
  comes-both s' place f i =
      of-both (λ x y. explored.befallen f x ≡ Some s' → void s' ≡ false → ComesToo explored rest before void (like true) ends most_events x s' (remove o place) place y p)
      (λ q n. comes-at s.job s.config s.played t.played o p place f both i s' q n)

-- a run that a limit stops
nothing-comes : (s : Exploring) → void s ≡ true → (explored.onward s ≡ Ends s) × ((f : Fault) → explored.befallen f s ≡ None)
nothing-comes s e = (
  λ i. if e i then Ends s else onward_with s (onward (job_as s.job) s.config (within s.config) s.deep s.played),
  λ f i. if e i then None else befallen_with s (befallen (job_as s.job) s.config (within s.config) f s.played),
)

pub level_likens : Likens explored rest before void (like true) ends most_events
level_likens = record {
  in_order = scripts-in-order;
  owed = as-many-owed true;
  itself = itself true;
  through = through true;
  goes = λ s t s' o p e q. goes-on s t o p e s' q;
  stops = λ s t s' o p e q. stops-too s t o p e s' q;
  befalls = λ s t s' o p f e i q n. befalls-both s t o p e s' f i q n;
  comes = λ s t s' o p place f e i q n. comes-both s t o p e s' place f i q n;
  not_void = λ s t o p e n. e.goes_too;
  nothing = nothing-comes;
}

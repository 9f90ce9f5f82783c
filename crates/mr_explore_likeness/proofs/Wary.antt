-- Careful runs that are alike: the second may have more room.
use Rattle.std.proofs.Common.{ℕ, ◌≡◌, refl, sym, ◌∙◌, ap, subst, Bool, true, false, ◌&&◌, List, ◌++◌, length, remove, slice_get, Option, Some, None, is_none, option_to_list, if◌then◌else◌}
use Rattle.std.proofs.lemmas.Bool.{true≢false, and_parts}
use Rattle.mr_sim_commands.specs.declared.job.submission.JobKind.{JobKind}
use Rattle.mr_packet.specs.declared.packet.ContainerId.{ContainerId}
use Rattle.mr_world_model.specs.Packets.{Config}
use Rattle.mr_world_shows.proofs.Shown.{show_the_same}
use Rattle.mr_world_state.specs.Limits.{within}
use Rattle.mr_world.specs.Readings.{living}
use Rattle.mr_play.specs.Played.{Played}
use Rattle.mr_play.specs.Text.{job_as}
use Rattle.mr_explore_search.specs.Steps.{Onward, Goes, Ends, Full}
use Rattle.mr_explore_search.specs.Laws.{In}
use Rattle.mr_explore_alike.specs.Likens.{Likens, GoesToo, EndsToo, BefallsToo, ComesToo}
use Rattle.mr_explore_faults.specs.declared.fault.Fault.{Fault}
use Rattle.mr_explore.specs.Vain.{all_wait, most_ahead}
use Rattle.mr_explore.specs.Faults.{asks_on, befallen, calm, goes_in_vain, most_events, next_event, only_asked, onward}
use Rattle.mr_explore.specs.Runs.{Exploring, befallen_with, explored, onward_with}
use Rattle.mr_explore_likeness.specs.Careful.{cannot_look, careful, ends_careful, onward_careful, unless_full}
use Rattle.mr_explore_likeness.specs.Plays.{LikePlays, cluster}
use Rattle.mr_explore_likeness.specs.Runs.{before, like, rest, void}
use Rattle.mr_explore_likeness.proofs.Alike.{Both, as-run, befalls-by, comes-by, ends-by, goes-by, one-outcome, that-at, this-at}
use Rattle.mr_explore_likeness.proofs.Befalling.{as-fault, same-fate}
use Rattle.mr_explore_likeness.proofs.Calms.{SameCame, calm-same}
use Rattle.mr_explore_likeness.proofs.Going.{SameOnward, next-same, onward-same}
use Rattle.mr_explore_likeness.proofs.Listing.{other-fault}
use Rattle.mr_explore_likeness.proofs.Looking.{LooksOn, vain-same, wait-same}
use Rattle.mr_explore_likeness.proofs.Moves.{other-at}
use Rattle.mr_explore_likeness.proofs.Preorder.{as-many-owed, itself, scripts-in-order, through}

-- what is tried
abbrev tried : Exploring → List Fault
tried e = unless_full (onward_careful e) (explored.faults e)

abbrev is-full : Onward Exploring → Bool
is-full (Goes s) = false
is-full (Ends s) = false
is-full Full = true

abbrev is-going : Onward Played → Bool
is-going (Goes s) = true
is-going (Ends s) = true
is-going Full = false

-- the same of plays
both-of : (level : Bool) (s t : Exploring) (o p : List Fault) → like level s o t p → Both level s.job s.config s.played t.played o p
both-of level s t o p e = record { begun = e.begun; begun_too = e.begun_too; plays = e.plays; owed = e.owed }

module _ (job : JobKind) (cfg : Config) where
  abbrev at : Played → Exploring
  at s = as-run job cfg s

  abbrev Plays : Played → Played → Type 0
  Plays s t = LikePlays false (job_as job) cfg s t

  -- ---- what a look-ahead would pass

  abbrev stuck : Played → Bool
  stuck s = cannot_look (at s)

  looks : (s : Played) → stuck s ≡ false → LooksOn false (job_as job) cfg s
  looks s e w n = absurd (true≢false (sym (λ i. w i && is_none (n i)) ∙ e))

  none-stuck : (s t : Played) → Plays s t → stuck s ≡ false → stuck t ≡ false
  none-stuck s t o e =
      let shown = show_the_same cfg (within cfg) s.events t.events o.same.alike in
      let cs = living cfg (cluster cfg s) in
      let P : List ContainerId → Type 0 = λ ds. (all_wait cfg (cluster cfg t) ds && is_none (calm (job_as job) cfg (within cfg) (most_ahead ds) t)) ≡ false in
      subst P shown.lives (by (all_wait cfg (cluster cfg s) cs) (all_wait cfg (cluster cfg t) cs) (calm (job_as job) cfg (within cfg) (most_ahead cs) s) (calm (job_as job) cfg (within cfg) (most_ahead cs) t)
      (wait-same false (job_as job) cfg s t o cs) (calm-same false (job_as job) cfg (most_ahead cs) s t o) e)
    where
      by : (b c : Bool) (x y : Option Played) → b ≡ c → SameCame false (job_as job) cfg s t x y → (b && is_none x) ≡ false → (c && is_none y) ≡ false
      by b false x y p c e = refl
      by false true x y p c e = absurd (true≢false (sym p))
      by true true None y p c e = absurd (true≢false e)
      by true true (Some x) None p c e = absurd c
      by true true (Some x) (Some y) p c e = refl

  -- where it goes on in vain, the look-ahead passes no limit
  vain-looks : (s : Played) → goes_in_vain (job_as job) cfg (within cfg) s ≡ true → LooksOn false (job_as job) cfg s
  vain-looks s v w n =
      let cs = living cfg (cluster cfg s) in
      let p = and_parts (all_wait cfg (cluster cfg s) cs) (asks_on (job_as job) cfg (within cfg) cs s) v in
      absurd (true≢false (sym p.1 ∙ ap (only_asked (job_as job) cfg (within cfg) cs (length s.events) (length (cluster cfg s).bag)) n))

  one-end : (s t : Played) → Plays s t → ends_careful (at s) (at t)
  one-end s t e = record {
    outcome = one-outcome false (job_as job) cfg s t e;
    stalled = λ v. sym (vain-same false (job_as job) cfg s t e (vain-looks s v)) ∙ v;
  }

  -- ---- how they go on

  on-same : (s t : Played) → Plays s t → stuck s ≡ false → SameOnward false (job_as job) cfg s t (onward (job_as job) cfg (within cfg) false s) (onward (job_as job) cfg (within cfg) false t)
  on-same s t e n = onward-same false (job_as job) cfg s t e (looks s n)

  -- a run that looks ahead goes on as mr_explore's
  on-is : (s : Played) → stuck s ≡ false → onward_careful (at s) ≡ onward_with (at s) (onward (job_as job) cfg (within cfg) false s)
  on-is s n = λ i. if n i then Full else onward_with (at s) (onward (job_as job) cfg (within cfg) false s)

  on-stuck : (s : Played) → stuck s ≡ true → onward_careful (at s) ≡ Full
  on-stuck s n = λ i. if n i then Full else onward_with (at s) (onward (job_as job) cfg (within cfg) false s)

  goes-at : (s t : Played) (o p : List Fault) → Both false job cfg s t o p → (s' : Exploring) → onward_careful (at s) ≡ Goes s' → GoesToo careful rest before void (like false) ends_careful (at s) s' o (at t) p
  goes-at s t o p e s' q = by (stuck s) refl
    where
      by : (b : Bool) → stuck s ≡ b → GoesToo careful rest before void (like false) ends_careful (at s) s' o (at t) p
      by true n = absurd (true≢false (ap is-full (sym (on-stuck s n) ∙ q)))
      by false n =
          goes-by false onward_careful tried ends_careful job cfg s t o p e (onward (job_as job) cfg (within cfg) false s) (onward (job_as job) cfg (within cfg) false t) (on-is t (none-stuck s t e.plays n)) (on-same s t e.plays n) s' (sym (on-is s n) ∙ q)

  stops-at : (s t : Played) (o p : List Fault) → Both false job cfg s t o p → (s' : Exploring) → onward_careful (at s) ≡ Ends s' → EndsToo careful rest before void (like false) ends_careful (at s) s' (at t)
  stops-at s t o p e s' q = by (stuck s) refl
    where
      by : (b : Bool) → stuck s ≡ b → EndsToo careful rest before void (like false) ends_careful (at s) s' (at t)
      by true n = absurd (true≢false (ap is-full (sym (on-stuck s n) ∙ q)))
      by false n =
          ends-by false onward_careful tried ends_careful job cfg s t one-end (onward (job_as job) cfg (within cfg) false s) (onward (job_as job) cfg (within cfg) false t) (on-is t (none-stuck s t e.plays n)) (on-same s t e.plays n) s' (sym (on-is s n) ∙ q)

  -- ---- what befalls them

  -- one of whose faults some are tried goes on or has ended, and looks ahead
  record IsOpen (s : Played) (f : Fault) : Type 0 where
    looks_on : stuck s ≡ false
    not_full : onward (job_as job) cfg (within cfg) false s ≡ Full → ⊥
    is_tried : In f (explored.faults (at s))

  is-open : (s : Played) (f : Fault) → In f (tried (at s)) → IsOpen s f
  is-open s f i = by (stuck s) (onward (job_as job) cfg (within cfg) false s) refl refl i
    where
      by : (b : Bool) (v : Onward Played) → stuck s ≡ b → onward (job_as job) cfg (within cfg) false s ≡ v → In f (unless_full (if b then Full else onward_with (at s) v) (explored.faults (at s))) → IsOpen s f
      by true v n g i = absurd i
      by false (Goes x) n g i = record { looks_on = n; not_full = λ q. true≢false (ap is-going (sym g ∙ q)); is_tried = i }
      by false (Ends x) n g i = record { looks_on = n; not_full = λ q. true≢false (ap is-going (sym g ∙ q)); is_tried = i }
      by false Full n g i = absurd i

  -- so is one of alike plays
  to-tried : (s t : Played) → Plays s t → stuck s ≡ false → (onward (job_as job) cfg (within cfg) false s ≡ Full → ⊥) → (g : Fault) → In g (explored.faults (at t)) → In g (tried (at t))
  to-tried s t e n f g i = by (stuck t) (onward (job_as job) cfg (within cfg) false s) (onward (job_as job) cfg (within cfg) false t) (none-stuck s t e n) f (on-same s t e n)
    where
      by : (b : Bool) (v w : Onward Played) → b ≡ false → (v ≡ Full → ⊥) → SameOnward false (job_as job) cfg s t v w → In g (unless_full (if b then Full else onward_with (at t) w) (explored.faults (at t)))
      by true v w n f c = absurd (true≢false n)
      by false (Goes x) (Goes y) n f c = i
      by false (Ends x) (Ends y) n f c = i
      by false Full w n f c = absurd (f refl)
      by false (Goes x) (Ends y) n f c = absurd c
      by false (Goes x) Full n f c = absurd c
      by false (Ends x) (Goes y) n f c = absurd c
      by false (Ends x) Full n f c = absurd c

  befalls-at : (s t : Played) (o p : List Fault) (f : Fault) → Both false job cfg s t o p → In f (tried (at s)) → (s' : Exploring) → explored.befallen f (at s) ≡ Some s' → void s' ≡ false
      → BefallsToo careful rest before void (like false) ends_careful most_events (at s) s' (o ++ option_to_list (explored.later f)) (at t) p
  befalls-at s t o p f e i s' q n =
      let a = is-open s f i in
      let next = next-same false (job_as job) cfg s t (onward (job_as job) cfg (within cfg) false s) (onward (job_as job) cfg (within cfg) false t) (on-same s t e.plays a.looks_on) (λ g. absurd (a.not_full g)) in
      let r = other-fault false (job_as job) cfg s t e.plays (next_event (job_as job) cfg (within cfg) false s) (next_event (job_as job) cfg (within cfg) false t) next f a.is_tried in
      befalls-by false onward_careful tried ends_careful job cfg s t o p f r.other e (to-tried s t e.plays a.looks_on a.not_full r.other r.is_in) r.one (befallen (job_as job) cfg (within cfg) f s) (befallen (job_as job) cfg (within cfg) r.other t) refl
      (same-fate false (job_as job) cfg s t e.plays f r.other r.one) s' q n

  comes-at : (s t : Played) (o p : List Fault) (place : ℕ) (f : Fault) → Both false job cfg s t o p → slice_get o place ≡ Some f → (s' : Exploring) → explored.befallen f (at s) ≡ Some s' → void s' ≡ false
      → ComesToo careful rest before void (like false) ends_careful most_events (at s) s' (remove o place) place (at t) p
  comes-at s t o p place f e i s' q n =
      let r = other-at (cluster cfg s).bag (cluster cfg t).bag s.cursor t.cursor place o p f e.owed i in
      let one = as-fault (cluster cfg s).bag (cluster cfg t).bag s.cursor t.cursor f r.other r.one in
      comes-by false onward_careful tried ends_careful job cfg s t o p place f r.other e r.at (befallen (job_as job) cfg (within cfg) f s) (befallen (job_as job) cfg (within cfg) r.other t) refl
      (same-fate false (job_as job) cfg s t e.plays f r.other one) s' q n

-- ---- any two runs

module _ (s t : Exploring) (o p : List Fault) (e : like false s o t p) where
  here : s ≡ as-run s.job s.config s.played
  here = this-at s e.goes e.shallow

  there : t ≡ as-run s.job s.config t.played
  there = that-at t s.job s.config e.job e.config e.goes_too e.shallow_too

  -- what holds of two runs that no limit stops
  of-both : (P : Exploring → Exploring → Type 0) → P (as-run s.job s.config s.played) (as-run s.job s.config t.played) → P s t
  of-both P x = subst (λ (z : Exploring). P s z) (sym there) (subst (λ (z : Exploring). P z (as-run s.job s.config t.played)) (sym here) x)

  both : Both false s.job s.config s.played t.played o p
  both = both-of false s t o p e

  goes-on : (s' : Exploring) → onward_careful s ≡ Goes s' → GoesToo careful rest before void (like false) ends_careful s s' o t p
  goes-on s' = of-both (λ x y. onward_careful x ≡ Goes s' → GoesToo careful rest before void (like false) ends_careful x s' o y p) (goes-at s.job s.config s.played t.played o p both s')

  stops-too : (s' : Exploring) → onward_careful s ≡ Ends s' → EndsToo careful rest before void (like false) ends_careful s s' t
  stops-too s' = of-both (λ x y. onward_careful x ≡ Ends s' → EndsToo careful rest before void (like false) ends_careful x s' y) (stops-at s.job s.config s.played t.played o p both s')

  befalls-both : (s' : Exploring) (f : Fault) → In f (tried s) → explored.befallen f s ≡ Some s' → void s' ≡ false → BefallsToo careful rest before void (like false) ends_careful most_events s s' (o ++ option_to_list (explored.later f)) t p
  befalls-both s' f =
      of-both (λ x y. In f (tried x) → explored.befallen f x ≡ Some s' → void s' ≡ false → BefallsToo careful rest before void (like false) ends_careful most_events x s' (o ++ option_to_list (explored.later f)) y p)
      (λ i q n. befalls-at s.job s.config s.played t.played o p f both i s' q n)

  comes-both : (s' : Exploring) (place : ℕ) (f : Fault) → slice_get o place ≡ Some f → explored.befallen f s ≡ Some s' → void s' ≡ false → ComesToo careful rest before void (like false) ends_careful most_events s s' (remove o place) place t p
  comes-both s' place f i =
      of-both (λ x y. explored.befallen f x ≡ Some s' → void s' ≡ false → ComesToo careful rest before void (like false) ends_careful most_events x s' (remove o place) place y p)
      (λ q n. comes-at s.job s.config s.played t.played o p place f both i s' q n)

-- a run that a limit stops
nothing-comes : (s : Exploring) → void s ≡ true → (onward_careful s ≡ Ends s) × ((f : Fault) → explored.befallen f s ≡ None)
nothing-comes s e = (
  λ i. if e i then Ends s else (if cannot_look s then Full else explored.onward s),
  λ f i. if e i then None else befallen_with s (befallen (job_as s.job) s.config (within s.config) f s.played),
)

pub wary_likens : Likens careful rest before void (like false) ends_careful most_events
wary_likens = record {
  in_order = scripts-in-order;
  owed = as-many-owed false;
  itself = itself false;
  through = through false;
  goes = λ s t s' o p e q. goes-on s t o p e s' q;
  stops = λ s t s' o p e q. stops-too s t o p e s' q;
  befalls = λ s t s' o p f e i q n. befalls-both s t o p e s' f i q n;
  comes = λ s t s' o p place f e i q n. comes-both s t o p e s' place f i q n;
  not_void = λ s t o p e n. e.goes_too;
  nothing = nothing-comes;
}

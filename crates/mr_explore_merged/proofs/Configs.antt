-- A run keeps its config, so runs with the same events came to one end. What comes by itself of a run that is not void is not void.
use Rattle.std.proofs.Common.{◌≡◌, ℕ, Bool, true, false, List, [], ◌++◌, length, remove, Option, Some, None, option_to_list, refl, sym, ap, ◌∙◌}
use Rattle.std.specs.Prelude.{if◌then◌else◌}
use Rattle.mr_play.specs.mr_world.specs.Limits.{within}
use Rattle.mr_play.specs.Played.{Played}
use Rattle.mr_play.specs.Text.{job_as}
use Rattle.mr_explore_search.specs.Steps.{Onward, Goes, Ends, Full}
use Rattle.mr_explore_search.specs.Runs.{Found, Run, PassesLimit}
use Rattle.mr_explore_search.specs.Laws.{Departs, Has_ended, Has_made_all, Would_pass, Went, Was_befallen, Came_later, IsOneBy}
use Rattle.mr_explore_faults.specs.declared.fault.Fault.{Fault}
use Rattle.mr_explore.specs.Faults.{Fate, Happens, NotPermitted, PastLimit, befallen, onward}
use Rattle.mr_explore.specs.Runs.{Exploring, befallen_with, explored, onward_with, with}
use Rattle.mr_explore_likeness.specs.Runs.{like, void}
use Rattle.mr_explore_merged.specs.Came.{end_of}
use Rattle.mr_explore_merged.proofs.Alive.{StaysAlive}

-- it is of the same config, and as void
abbrev Keeps : (s t : Exploring) → Type 0
Keeps s t = (t.config ≡ s.config) × (t.past_limit ≡ s.past_limit)

goes_to : (s t : Exploring) → ◌≡◌ {A = Onward Exploring} (Goes s) (Goes t) → s ≡ t
goes_to s t e = cc

ends_as : (s t : Exploring) → ◌≡◌ {A = Onward Exploring} (Ends s) (Ends t) → s ≡ t
ends_as s t e = cc

some_is : (s t : Exploring) → ◌≡◌ {A = Option Exploring} (Some s) (Some t) → s ≡ t
some_is s t e = cc

kept_as : (s t u : Exploring) → Keeps s t → t ≡ u → Keeps s u
kept_as s t u k e = (ap (λ (x : Exploring). x.config) (sym e) ∙ k.0, ap (λ (x : Exploring). x.past_limit) (sym e) ∙ k.1)

-- ---- by itself

goes_with : (s t : Exploring) (w : Onward Played) → onward_with s w ≡ Goes t → Keeps s t
goes_with s t (Goes p) q = kept_as s (with s p) t (refl, refl) (goes_to (with s p) t q)
goes_with s t (Ends p) q = absurd (cc)
goes_with s t Full q = absurd (cc)

ends_with : (s t : Exploring) (w : Onward Played) → onward_with s w ≡ Ends t → Keeps s t
ends_with s t (Goes p) q = absurd (cc)
ends_with s t (Ends p) q = kept_as s (with s p) t (refl, refl) (ends_as (with s p) t q)
ends_with s t Full q = absurd (cc)

abbrev on : Exploring → Onward Played
on s = onward (job_as s.job) s.config (within s.config) s.deep s.played

goes_on : (s t : Exploring) → explored.onward s ≡ Goes t → Keeps s t
goes_on s t q = by s.past_limit q where
  by : (b : Bool) → (if b then Ends s else onward_with s (on s)) ≡ Goes t → Keeps s t
  by true q = absurd (cc)
  by false q = goes_with s t (on s) q

ends_on : (s t : Exploring) → explored.onward s ≡ Ends t → Keeps s t
ends_on s t q = by s.past_limit q where
  by : (b : Bool) → (if b then Ends s else onward_with s (on s)) ≡ Ends t → Keeps s t
  by true q = kept_as s s t (refl, refl) (ends_as s t q)
  by false q = ends_with s t (on s) q

pub stays_alive : StaysAlive explored void (like false)
stays_alive = record {
  alike = λ s t o p l v. l.goes_too;
  goes = λ s t v q. (goes_on s t q).1 ∙ v;
  ends = λ s t v q. (ends_on s t q).1 ∙ v;
}

-- ---- behind a fault

fares : (s t : Exploring) (w : Fate) → befallen_with s w ≡ Some t → t.config ≡ s.config
fares s t (Happens p) q = ap (λ (x : Exploring). x.config) (sym (some_is (with s p) t q))
fares s t NotPermitted q = absurd (cc)
fares s t (PastLimit p) q = ap (λ (x : Exploring). x.config) (sym (some_is (record s { played = p; past_limit = true }) t q))

befalls : (f : Fault) (s t : Exploring) → explored.befallen f s ≡ Some t → t.config ≡ s.config
befalls f s t q = by s.past_limit q where
  by : (b : Bool) → ◌≡◌ {A = Option Exploring} (if b then None else befallen_with s (befallen (job_as s.job) s.config (within s.config) f s.played)) (Some t) → t.config ≡ s.config
  by true q = absurd (cc)
  by false q = fares s t (befallen (job_as s.job) s.config (within s.config) f s.played) q

-- ---- whole runs

module _ (most total : ℕ) where
  abbrev HasConfig : Exploring → Found Exploring → Type 0
  HasConfig s (Run k t) = t.config ≡ s.config
  HasConfig s PassesLimit = Unit {0}

  behind : (s t : Exploring) (q : Found Exploring) → t.config ≡ s.config → HasConfig t q → HasConfig s q
  behind s t (Run k u) e h = h ∙ e
  behind s t PassesLimit e h = tt

  has_config : (n ripe left : ℕ) (o : List Fault) (s : Exploring) (q : Found Exploring) → Departs explored most total n ripe left o s q → HasConfig s q
  has_config m i a os v q (Has_ended ripe left o s t w) = (ends_on s t w).0
  has_config m i a os v q (Has_made_all ripe o s) = refl
  has_config m i a os v q (Would_pass n ripe left o s w) = tt
  has_config m i a os v q (Went n ripe left o s t r w d) = behind s t r (goes_on s t w).0 (has_config n (length o) left o t r d)
  has_config m i a os v q (Was_befallen n ripe left o s t r f may w d) = behind s t r (befalls f s t w) (has_config n (length o) most (o ++ option_to_list (explored.later f)) t r d)
  has_config m i a os v q (Came_later n ripe left o s t r place f lt g w d) = behind s t r (befalls f s t w) (has_config n (length (remove o place)) most (remove o place) t r d)

config_kept : (most budget k : ℕ) (first s : Exploring) → IsOneBy explored most budget first (Run k s) → s.config ≡ first.config
config_kept most budget k first s d = has_config most d.0 d.0 0 most [] first (Run k s) d.2

-- two runs of the definition with the same events came to one end
pub one_end : (most budget j k : ℕ) (first s t : Exploring) → IsOneBy explored most budget first (Run j s) → IsOneBy explored most budget first (Run k t) → s.played.events ≡ t.played.events → end_of s ≡ end_of t
one_end most budget j k first s t d e same =
    let config : s.config ≡ t.config = config_kept most budget j first s d ∙ sym (config_kept most budget k first t e) in
    λ i. end_of (record s { config = config i; played = record s.played { events = same i } })

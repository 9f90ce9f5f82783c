-- Runs that are alike: whatever comes of the first comes of the second.
use Rattle.std.proofs.Common.{ℕ, ◌-◌, ◌≤◌, ◌<◌, ◌≡◌, refl, sym, ◌∙◌, ap, subst, arith, Bool, true, false, List, ◌++◌, length, length-append, map, remove, slice_get, Option, Some, None, is_some, option_to_list}
use Rattle.std.specs.List.{flat_map, range_with_len}
use Rattle.std.proofs.lemmas.Bool.{true≢false}
use Rattle.mr_sim_commands.specs.declared.job.submission.JobKind.{JobKind}
use Rattle.mr_world_model.specs.Ids.{reduce_of}
use Rattle.mr_world_model.specs.Packets.{Config}
use Rattle.mr_world_model.specs.World.{Event}
use Rattle.mr_world_model.specs.Sequential.{Job}
use Rattle.mr_world_alike.proofs.Worlds.{ends_are_one}
use Rattle.mr_world_state.specs.Limits.{within}
use Rattle.mr_world.specs.declared.limits.TheConstants.{MAX_EVENTS}
use Rattle.mr_play.specs.Played.{Played}
use Rattle.mr_play.specs.Text.{job_as}
use Rattle.mr_play.specs.WorldText.{visible_text}
use Rattle.mr_explore_search.specs.Steps.{Onward, Goes, Ends, Full, Steps}
use Rattle.mr_explore_search.specs.Laws.{In}
use Rattle.mr_explore_alike.specs.Likens.{GoesToo, EndsToo, BefallsToo, ComesToo}
use Rattle.mr_explore_faults.specs.declared.fault.Fault.{Fault}
use Rattle.mr_explore_faults.specs.Kinds.{later}
use Rattle.mr_script_order.specs.Order.{sooner}
use Rattle.mr_script_order.proofs.Ordered.{stays}
use Rattle.mr_explore.specs.Exploring.{outcome_of}
use Rattle.mr_explore.specs.Faults.{Fate, Happens, NotPermitted, PastLimit, befallen, most_events}
use Rattle.mr_explore.specs.Runs.{Exploring, befallen_with, explored, onward_with}
use Rattle.mr_explore_likeness.specs.Owed.{AreOneLater}
use Rattle.mr_explore_likeness.specs.Plays.{LikePlays, cluster}
use Rattle.mr_explore_likeness.specs.Runs.{before, like, rest, void}
use Rattle.mr_explore_likeness.proofs.Befalling.{BefellBoth, SameFate, laters-on, more-later}
use Rattle.mr_explore_likeness.proofs.Calms.{CameOn, as-many-events}
use Rattle.mr_explore_likeness.proofs.Going.{SameOnward, WentOn}
use Rattle.mr_explore_likeness.proofs.Listing.{IsOneFault}
use Rattle.mr_explore_likeness.proofs.Moves.{Moves, both-without, laters-since}

-- ---- answers

this-onward : (s t : Exploring) → Goes s ≡ Goes t → s ≡ t
this-onward s t q = ap (or-this s) q
  where
    or-this : Exploring → Onward Exploring → Exploring
    or-this x (Goes y) = y
    or-this x (Ends y) = x
    or-this x Full = x

this-end : (s t : Exploring) → Ends s ≡ Ends t → s ≡ t
this-end s t q = ap (or-this s) q
  where
    or-this : Exploring → Onward Exploring → Exploring
    or-this x (Goes y) = x
    or-this x (Ends y) = y
    or-this x Full = x

this-run : (s t : Exploring) → Some s ≡ Some t → s ≡ t
this-run s t q = ap (or-this s) q
  where
    or-this : Exploring → Option Exploring → Exploring
    or-this x None = x
    or-this x (Some y) = y

abbrev is-goes : Onward Exploring → Bool
is-goes (Goes s) = true
is-goes (Ends s) = false
is-goes Full = false

abbrev is-end : Onward Exploring → Bool
is-end (Goes s) = false
is-end (Ends s) = true
is-end Full = false

-- ---- runs of one job

most-events-are : most_events ≡ MAX_EVENTS
unfolding most_events
most-events-are = refl

-- how many events there may be still
fewer-left : (a b : ℕ) → a < b → a < MAX_EVENTS → most_events - b < most_events - a
fewer-left a b l m = let e = most-events-are in omega (arith, e, l, m)

pub few-left : (a : ℕ) → 1 ≤ a → most_events - a < most_events
few-left a l = let e = most-events-are in let x : most_events ≡ 1000000 = e in omega (arith, x, l)

-- alike plays have come to one outcome
pub one-outcome : (level : Bool) (job : Job) (cfg : Config) (s t : Played) → LikePlays level job cfg s t → outcome_of cfg (cluster cfg s) ≡ outcome_of cfg (cluster cfg t)
one-outcome level job cfg s t e =
    let x = ends_are_one cfg (within cfg) s.events t.events e.same.alike in
    λ i. record { winners = map (λ r. x.winners (reduce_of cfg.job r) i) (range_with_len 0 cfg.reduces); marker = x.marked i; outcome = x.told i; files = flat_map visible_text (x.files i) }

-- a script that comes before another one does so where both went on by as many events
stays-sooner : (cfg : Config) (s t a b : Played) (es fs : List Event) → Moves cfg s t a b es fs → length es ≡ length fs → sooner t.events s.events ≡ true → sooner b.events a.events ≡ true
stays-sooner cfg s t a b es fs m l q =
    subst (λ (xs : List Event). sooner xs a.events ≡ true) (sym m.events_there)
    (subst (λ (ys : List Event). sooner (t.events ++ fs) ys ≡ true) (sym m.events) (stays.behind t.events s.events fs es (sym l) q))

-- a run that no limit stops
abbrev pub as-run : JobKind → Config → Played → Exploring
as-run job cfg s = record { job = job; config = cfg; played = s; past_limit = false; deep = false }

-- plays of such runs that are alike, in which these were put off
pub record Both (level : Bool) (job : JobKind) (cfg : Config) (s t : Played) (o p : List Fault) : Type 0 where
  pub begun : 1 ≤ length s.events
  pub begun_too : 1 ≤ length t.events
  pub plays : LikePlays level (job_as job) cfg s t
  pub owed : AreOneLater (cluster cfg s).bag (cluster cfg t).bag s.cursor t.cursor o p

-- how it goes on, and what is tried
module _ (level : Bool) (on : Exploring → Onward Exploring) (tried : Exploring → List Fault) (one-end : Exploring → Exploring → Type 0) (job : JobKind) (cfg : Config) where
  abbrev pub steps : Steps Exploring Fault
  steps = record { onward = on; faults = tried; befallen = explored.befallen; later = later }

  abbrev at : Played → Exploring
  at s = as-run job cfg s

  abbrev Ones : Played → Played → List Fault → List Fault → Type 0
  Ones s t o p = AreOneLater (cluster cfg s).bag (cluster cfg t).bag s.cursor t.cursor o p

  like-at : (s t : Played) (o p : List Fault) → Both level job cfg s t o p → like level (at s) o (at t) p
  like-at s t o p e = record { job = refl; config = refl; goes = refl; goes_too = refl; shallow = refl; shallow_too = refl; begun = e.begun; begun_too = e.begun_too; plays = e.plays; owed = e.owed }

  longer : (s s' : Played) (es : List Event) → s'.events ≡ s.events ++ es → 1 ≤ length s.events → 1 ≤ length s'.events
  longer s s' es e l = let m = ap (λ (xs : List Event). length xs) e ∙ length-append s.events es in omega (arith, m, l)

  both-on : (s t a b : Played) (o p q r : List Fault) (es fs : List Event) → Both level job cfg s t o p → Moves cfg s t a b es fs → LikePlays level (job_as job) cfg a b → Ones a b q r → Both level job cfg a b q r
  both-on s t a b o p q r es fs e m still owed = record { begun = longer s a es m.events e.begun; begun_too = longer t b fs m.events_there e.begun_too; plays = still; owed = owed }

  -- ---- they go on

  abbrev Going : Played → Exploring → List Fault → Played → List Fault → Type 0
  Going s s' o t p = GoesToo steps rest before void (like level) one-end (at s) s' o (at t) p

  went : (s t a b : Played) (o p : List Fault) → Both level job cfg s t o p → WentOn level (job_as job) cfg s t a b → on (at t) ≡ Goes (at b) → Going s (at a) o t p
  went s t a b o p e w g =
      let c = w.came in
      record {
        there = at b;
        goes = g;
        still = like-at a b o p (both-on s t a b o p o p c.es c.fs e c.moves c.still (laters-since cfg s t a b c.es c.fs e.plays.same.packets c.moves o p e.owed));
        fewer = fewer-left (length s.events) (length a.events) w.more (c.room w.more);
        fewer_there = fewer-left (length t.events) (length b.events) w.more_there (c.room_there w.more_there);
        stays_before = stays-sooner cfg s t a b c.es c.fs c.moves (as-many-events s.cursor t.cursor c.es c.fs c.shifted);
      }

  pub goes-by : (s t : Played) (o p : List Fault) → Both level job cfg s t o p → (v w : Onward Played) → on (at t) ≡ onward_with (at t) w → SameOnward level (job_as job) cfg s t v w → (s' : Exploring) → onward_with (at s) v ≡ Goes s' → Going s s' o t p
  goes-by s t o p e (Goes a) (Goes b) g c s' q = subst (λ (z : Exploring). Going s z o t p) (this-onward (at a) s' q) (went s t a b o p e c g)
  goes-by s t o p e (Goes a) (Ends b) g c s' q = absurd c
  goes-by s t o p e (Goes a) Full g c s' q = absurd c
  goes-by s t o p e (Ends a) w g c s' q = absurd (true≢false (ap is-goes (sym q)))
  goes-by s t o p e Full w g c s' q = absurd (true≢false (ap is-goes (sym q)))

  -- ---- they end

  abbrev Ending : Played → Exploring → Played → Type 0
  Ending s s' t = EndsToo steps rest before void (like level) one-end (at s) s' (at t)

  ended : (s t a b : Played) → CameOn level (job_as job) cfg s t a b → one-end (at a) (at b) → on (at t) ≡ Ends (at b) → Ending s (at a) t
  ended s t a b c one g =
      record {
        there = at b;
        stops = g;
        one = one;
        stays_before = stays-sooner cfg s t a b c.es c.fs c.moves (as-many-events s.cursor t.cursor c.es c.fs c.shifted);
      }

  pub ends-by : (s t : Played) → ((a b : Played) → LikePlays level (job_as job) cfg a b → one-end (at a) (at b)) → (v w : Onward Played) → on (at t) ≡ onward_with (at t) w → SameOnward level (job_as job) cfg s t v w → (s' : Exploring) → onward_with (at s) v ≡ Ends s' → Ending s s' t
  ends-by s t f (Ends a) (Ends b) g c s' q = subst (λ (z : Exploring). Ending s z t) (this-end (at a) s' q) (ended s t a b c (f a b c.still) g)
  ends-by s t f (Ends a) (Goes b) g c s' q = absurd c
  ends-by s t f (Ends a) Full g c s' q = absurd c
  ends-by s t f (Goes a) w g c s' q = absurd (true≢false (ap is-end (sym q)))
  ends-by s t f Full w g c s' q = absurd (true≢false (ap is-end (sym q)))

  -- ---- something befalls them

  abbrev Befalling : Played → Exploring → List Fault → Played → List Fault → Type 0
  Befalling s s' o t p = BefallsToo steps rest before void (like level) one-end most_events (at s) s' o (at t) p

  abbrev Coming : Played → Exploring → List Fault → ℕ → Played → List Fault → Type 0
  Coming s s' o place t p = ComesToo steps rest before void (like level) one-end most_events (at s) s' o place (at t) p

  befell : (s t a b : Played) (o p : List Fault) (f g : Fault) → Both level job cfg s t o p → In g (tried (at t)) → IsOneFault (cluster cfg s).bag (cluster cfg t).bag s.cursor t.cursor f g
      → BefellBoth level (job_as job) cfg s t a b → befallen (job_as job) cfg (within cfg) g t ≡ Happens b → Befalling s (at a) (o ++ option_to_list (later f)) t p
  befell s t a b o p f g e i one c h =
      let both = both-on s t a b o p (o ++ option_to_list (later f)) (p ++ option_to_list (later g)) c.es c.fs e c.moves c.still (more-later level (job_as job) cfg s t e.plays a b c o p f g e.owed one) in
      record {
        fault = g;
        may = i;
        there = at b;
        befalls = ap (befallen_with (at t)) h;
        still = like-at a b (o ++ option_to_list (later f)) (p ++ option_to_list (later g)) both;
        few = few-left (length a.events) both.begun;
        few_there = few-left (length b.events) both.begun_too;
        stays_before = stays-sooner cfg s t a b c.es c.fs c.moves c.as_many;
      }

  pub befalls-by : (s t : Played) (o p : List Fault) (f g : Fault) → Both level job cfg s t o p → In g (tried (at t)) → IsOneFault (cluster cfg s).bag (cluster cfg t).bag s.cursor t.cursor f g
      → (v w : Fate) → befallen (job_as job) cfg (within cfg) g t ≡ w → SameFate level (job_as job) cfg s t v w → (s' : Exploring) → befallen_with (at s) v ≡ Some s' → void s' ≡ false → Befalling s s' (o ++ option_to_list (later f)) t p
  befalls-by s t o p f g e i one (Happens a) (Happens b) h c s' q n = subst (λ (z : Exploring). Befalling s z (o ++ option_to_list (later f)) t p) (this-run (at a) s' q) (befell s t a b o p f g e i one c h)
  befalls-by s t o p f g e i one (Happens a) NotPermitted h c s' q n = absurd c
  befalls-by s t o p f g e i one (Happens a) (PastLimit b) h c s' q n = absurd c
  befalls-by s t o p f g e i one NotPermitted w h c s' q n = absurd (true≢false (ap is_some (sym q)))
  befalls-by s t o p f g e i one (PastLimit a) w h c s' q n = absurd (true≢false (ap (λ (z : Exploring). z.past_limit) (this-run (record (at s) { played = a; past_limit = true }) s' q) ∙ n))

  came : (s t a b : Played) (o p : List Fault) (place : ℕ) (f g : Fault) → Both level job cfg s t o p → slice_get p place ≡ Some g
      → BefellBoth level (job_as job) cfg s t a b → befallen (job_as job) cfg (within cfg) g t ≡ Happens b → Coming s (at a) (remove o place) place t p
  came s t a b o p place f g e i c h =
      let owed = both-without (cluster cfg a).bag (cluster cfg b).bag a.cursor b.cursor place o p (laters-on level (job_as job) cfg s t e.plays a b c o p e.owed) in
      let both = both-on s t a b o p (remove o place) (remove p place) c.es c.fs e c.moves c.still owed in
      record {
        fault = g;
        owed = i;
        there = at b;
        befalls = ap (befallen_with (at t)) h;
        still = like-at a b (remove o place) (remove p place) both;
        few = few-left (length a.events) both.begun;
        few_there = few-left (length b.events) both.begun_too;
        stays_before = stays-sooner cfg s t a b c.es c.fs c.moves c.as_many;
      }

  pub comes-by : (s t : Played) (o p : List Fault) (place : ℕ) (f g : Fault) → Both level job cfg s t o p → slice_get p place ≡ Some g
      → (v w : Fate) → befallen (job_as job) cfg (within cfg) g t ≡ w → SameFate level (job_as job) cfg s t v w → (s' : Exploring) → befallen_with (at s) v ≡ Some s' → void s' ≡ false → Coming s s' (remove o place) place t p
  comes-by s t o p place f g e i (Happens a) (Happens b) h c s' q n = subst (λ (z : Exploring). Coming s z (remove o place) place t p) (this-run (at a) s' q) (came s t a b o p place f g e i c h)
  comes-by s t o p place f g e i (Happens a) NotPermitted h c s' q n = absurd c
  comes-by s t o p place f g e i (Happens a) (PastLimit b) h c s' q n = absurd c
  comes-by s t o p place f g e i NotPermitted w h c s' q n = absurd (true≢false (ap is_some (sym q)))
  comes-by s t o p place f g e i (PastLimit a) w h c s' q n = absurd (true≢false (ap (λ (z : Exploring). z.past_limit) (this-run (record (at s) { played = a; past_limit = true }) s' q) ∙ n))

-- ---- any two

-- any run that no limit stops
pub this-at : (s : Exploring) → s.past_limit ≡ false → s.deep ≡ false → s ≡ as-run s.job s.config s.played
this-at s e d = λ i. record { job = s.job; config = s.config; played = s.played; past_limit = e i; deep = d i }

-- one that is of the same job
pub that-at : (t : Exploring) (job : JobKind) (cfg : Config) → job ≡ t.job → cfg ≡ t.config → t.past_limit ≡ false → t.deep ≡ false → t ≡ as-run job cfg t.played
that-at t job cfg j c e d = λ i. record { job = sym j i; config = sym c i; played = t.played; past_limit = e i; deep = d i }

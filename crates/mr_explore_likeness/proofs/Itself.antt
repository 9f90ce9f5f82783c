-- The run of an input is like itself.
use Rattle.std.proofs.Common.{ℕ, ◌≤◌, ◌≡◌, ◌≢◌, inl, inr, refl, sym, ◌∙◌, ap, subst, arith, Bool, true, false, ◌&&◌, List, [], ◌∷◌, ◌++◌, length, length-append, nat_lt, Option, Some, None, is_none, is_some, if◌then◌else◌}
use Rattle.std.specs.Option.{option_and_then, option_map}
use Rattle.std.proofs.lemmas.Bool.{true≢false}
use Rattle.mr_sim_commands.specs.declared.job.submission.JobKind.{JobKind}
use Rattle.mr_packet.specs.declared.packet.ContainerId.{ContainerId}
use Rattle.mr_script.specs.declared.command.Command.{Command}
use Rattle.mr_script.specs.declared.command.Command.TheVariants as command
use Rattle.mr_world_events.specs.declared.why.Why.{Why}
use Rattle.mr_world_model.specs.Packets.{Config}
use Rattle.mr_world_model.specs.World.{World, Event, Deliver, Start}
use Rattle.mr_world_model.specs.Effect.{not_now, run}
use Rattle.mr_world_model.specs.Claims.{world_of}
use Rattle.mr_world_model.specs.Sequential.{Job}
use Rattle.mr_world_alike.specs.Alike.{IsSame}
use Rattle.mr_world_alike.proofs.Agreeing.{equivalence}
use Rattle.mr_world_state.specs.Limits.{within}
use Rattle.mr_world_state.proofs.Saying.{bounds_bytes}
use Rattle.mr_world.specs.declared.limits.TheConstants.{MAX_EVENTS}
use Rattle.mr_script.specs.declared.expectation.Expectation.{Expectation}
use Rattle.mr_play.specs.Expectations.{is_met, unmet_line, value_in}
use Rattle.mr_play.specs.Played.{Played, begun, computing, expecting, losing, made, most_of, obeyed, played, refused_line, stepped_by, stop_of, taken, unless_refused}
use Rattle.mr_play.specs.Text.{config_of, job_as, played_of}
use Rattle.mr_play_alike.specs.Plays.{SamePlay}
use Rattle.mr_play_alike.proofs.Calming.{calm_alike, take_alike}
use Rattle.mr_explore.specs.Faults.{told}
use Rattle.mr_explore.specs.Runs.{Exploring, IsRunOf, StartsFrom, with}
use Rattle.mr_explore_likeness.specs.Plays.{cluster}
use Rattle.mr_explore_likeness.specs.Runs.{like}
use Rattle.mr_explore_likeness.proofs.Alike.{as-run}
use Rattle.mr_explore_likeness.proofs.Preorder.{likes-itself}

same-itself : (w : World) (e : Event) → IsSame w w e e
same-itself w (Deliver i) = refl
same-itself w e = refl

this-is : (s t : Played) → Some s ≡ Some t → s ≡ t
this-is s t q = ap (or-this s) q
  where
    or-this : Played → Option Played → Played
    or-this x None = x
    or-this x (Some y) = y

module _ (job : Job) (cfg : Config) where
  abbrev Self : Played → Type 0
  Self s = SamePlay job cfg (within cfg) s s

  abbrev W : Played → World
  W s = cluster cfg s

  begun-self : Self begun
  begun-self = record {
    alike = equivalence.itself cfg (within cfg) [];
    packets = record { from = omega arith; to = omega arith; ahead = refl; are_sent = λ i d. absurd d; delivered = λ x d. d };
    dropped = λ i. refl;
    stepped = refl;
  }

  -- what else is told of a play makes no difference
  told-self : (s : Played) (lines : List ℕ) (met : Bool) → Self s → Self (record s { told = lines; met = met })
  told-self s lines met o = record { alike = o.alike; packets = o.packets; dropped = o.dropped; stepped = o.stepped }

  taken-self : (e : Event) (last : Option ContainerId) (s s' : Played) → Self s → not_now cfg (W s) e ≡ None → taken job cfg (within cfg) e last s ≡ Some s' → Self s'
  taken-self e last s s' o now q = take_alike job cfg (within cfg) (bounds_bytes cfg) e e last s s s' s' o (same-itself (W s) e) now q q

  made-self : (line : ℕ) (e : Event) (last : Option ContainerId) (s s' : Played) → Self s → made job cfg (within cfg) line e last s ≡ Some s' → Self s'
  made-self line e last s s' o q = by (not_now cfg (W s) e) refl q
    where
      by : (w : Option Why) → not_now cfg (W s) e ≡ w → unless_refused job cfg (within cfg) line e last s w ≡ Some s' → Self s'
      by None n q = taken-self e last s s' o n q
      by (Some r) n q = subst Self (this-is (record s { told = s.told ++ refused_line line r }) s' q) (told-self s (s.told ++ refused_line line r) s.met o)

  computed-self : (line : ℕ) (c : ContainerId) (s s' : Played) → Self s → (e : Option Event) → option_and_then (λ x. made job cfg (within cfg) line x (Some c) s) e ≡ Some s' → Self s'
  computed-self line c s s' o None q = absurd (true≢false (ap is_some (sym q)))
  computed-self line c s s' o (Some e) q = made-self line e (Some c) s s' o q

  lost-self : (place : ℕ) (s : Played) → Self s → Self (losing job cfg (within cfg) place s)
  lost-self place s o = record { alike = o.alike; packets = o.packets; dropped = λ i. refl; stepped = o.stepped }

  expected-self : (line : ℕ) (e : Expectation) (s : Played) → Self s → Self (expecting job cfg (within cfg) line e s)
  expected-self line e s o = by (is_met cfg (W s) e)
    where
      by : (b : Bool) → Self (if b then s else record s { told = s.told ++ unmet_line line e (value_in cfg (W s) e); met = false })
      by true = o
      by false = told-self s (s.told ++ unmet_line line e (value_in cfg (W s) e)) false o

  obeyed-self : (line : ℕ) (c : Command) (s s' : Played) → Self s → obeyed job cfg (within cfg) line c s ≡ Some s' → Self s'
  obeyed-self line (command.Makes e) s s' o q = made-self line e (stepped_by job cfg (within cfg) e s.stepped) s s' o q
  obeyed-self line (command.Compute c) s s' o q = computed-self line c s s' o (computing job cfg (within cfg) (W s) c) q
  obeyed-self line (command.Calm k until) s s' o q = calm_alike job cfg (within cfg) (bounds_bytes cfg) k (stop_of until) (most_of until) s s s' s' o q q
  obeyed-self line (command.Drop place) s s' o q = subst Self (this-is (losing job cfg (within cfg) place s) s' q) (lost-self place s o)
  obeyed-self line (command.Expect e) s s' o q = subst Self (this-is (expecting job cfg (within cfg) line e s) s' q) (expected-self line e s o)

  played-self : (cs : List (ℕ × Command)) (s s' : Played) → Self s → played job cfg (within cfg) cs s ≡ Some s' → Self s'
  played-self [] s s' o q = subst Self (this-is s s' q) o
  played-self (c ∷ cs) s s' o q = by (obeyed job cfg (within cfg) c.0 c.1 s) refl q (played-self cs)
    where
      by : (x : Option Played) → obeyed job cfg (within cfg) c.0 c.1 s ≡ x → option_and_then (played job cfg (within cfg) cs) x ≡ Some s'
          → ((a b : Played) → Self a → played job cfg (within cfg) cs a ≡ Some b → Self b) → Self s'
      by None n q more = absurd (true≢false (ap is_some (sym q)))
      by (Some a) n q more = more a s' (obeyed-self c.0 c.1 s a o n) q

  -- the first master's start
  record Started (s : Played) : Type 0 where
    self : Self s
    begun_so : 1 ≤ length s.events

  told-so : (e : Event) (s s' : Played) → Self s → told job cfg (within cfg) e s ≡ Some s' → Started s'
  told-so e s s' o q = by (not_now cfg (W s) e) refl q
    where
      long : (b : Bool) (z : Played) → z.events ≡ s.events ++ e ∷ [] → (if b then Some z else None) ≡ Some s' → 1 ≤ length s'.events
      long true z is q = let l = ap (λ (x : Played). length x.events) (sym (this-is z s' q)) ∙ (ap (λ (xs : List Event). length xs) is ∙ length-append s.events (e ∷ [])) in omega (arith, l)
      long false z is q = absurd (true≢false (ap is_some (sym q)))

      by : (w : Option Why) → not_now cfg (W s) e ≡ w → (if is_none w then taken job cfg (within cfg) e (stepped_by job cfg (within cfg) e s.stepped) s else None) ≡ Some s' → Started s'
      by None n q = record {
        self = taken-self e (stepped_by job cfg (within cfg) e s.stepped) s s' o n q;
        begun_so = long (nat_lt (length s.events) MAX_EVENTS && within cfg (W s) e) (record s { events = s.events ++ e ∷ []; stepped = stepped_by job cfg (within cfg) e s.stepped }) refl q;
      }
      by (Some r) n q = absurd (true≢false (ap is_some (sym q)))

  no-fence : (es : List Event) → es ≡ [] → (world_of cfg (within cfg) es).fence ≡ 0
  unfolding run
  no-fence es e = ap (λ (xs : List Event). (world_of cfg (within cfg) xs).fence) e

  has-begun : (es : List Event) → (world_of cfg (within cfg) es).fence ≢ 0 → 1 ≤ length es
  has-begun [] n = absurd (n (no-fence [] refl))
  has-begun (e ∷ es) n = omega arith

run-itself : (level : Bool) (job : JobKind) (cfg : Config) (s : Played) → SamePlay (job_as job) cfg (within cfg) s s → 1 ≤ length s.events → like level (as-run job cfg s) [] (as-run job cfg s) []
run-itself level job cfg s o l = record { job = refl; config = refl; goes = refl; goes_too = refl; shallow = refl; shallow_too = refl; begun = l; begun_too = l; plays = likes-itself level (job_as job) cfg s o; owed = tt }

this-run : (s t : Exploring) → Some s ≡ Some t → s ≡ t
this-run s t q = ap (or-this s) q
  where
    or-this : Exploring → Option Exploring → Exploring
    or-this x None = x
    or-this x (Some y) = y

-- the first master starts, or it has started
starts-itself : (level : Bool) (job : JobKind) (cfg : Config) (s : Played) → SamePlay (job_as job) cfg (within cfg) s s → (e : Exploring) → StartsFrom (as-run job cfg s) e → like level e [] e []
starts-itself level job cfg s o e (inl p) = by (told (job_as job) cfg (within cfg) (Start 1 0) s) refl p.1
  where
    by : (x : Option Played) → told (job_as job) cfg (within cfg) (Start 1 0) s ≡ x → option_map (with (as-run job cfg s)) x ≡ Some e → like level e [] e []
    by None n q = absurd (true≢false (ap is_some (sym q)))
    by (Some a) n q =
        let b = told-so (job_as job) cfg (Start 1 0) s a o n in
        subst (λ (z : Exploring). like level z [] z []) (this-run (as-run job cfg a) e q) (run-itself level job cfg a b.self b.begun_so)
starts-itself level job cfg s o e (inr p) = subst (λ (z : Exploring). like level z [] z []) (sym p.1) (run-itself level job cfg s o (has-begun (job_as job) cfg s.events p.0))

pub first-itself : (level : Bool) (input : List ℕ) (e : Exploring) → IsRunOf input e → like level e [] e []
unfolding played_of
first-itself level input e r =
    let l = r.left in
    let p = l.prints in
    let self = played-self (job_as p.job.job) (config_of p.job) p.commands begun p.left (begun-self (job_as p.job.job) (config_of p.job)) p.comes in
    let P : Exploring → Type 0 = λ b. StartsFrom b e → like level e [] e [] in
    subst P (sym l.is) (starts-itself level p.job.job (config_of p.job) p.left self e) r.starts

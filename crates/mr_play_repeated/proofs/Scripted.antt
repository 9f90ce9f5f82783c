-- What a script leads to can be repeated.
use Rattle.std.proofs.Common.{◌≡◌, ℕ, zero, suc, ◌+◌, ◌%◌, Bool, true, false, cond, ◌&&◌, nat_lt, nat_le, List, [], ◌∷◌, ◌++◌, length, option_map, Option, Some, None, refl, sym, subst, append-nil, append_assoc}
use Rattle.std.specs.Option.{option_and_then, option_or}
use Rattle.mr_ids.specs.declared.id.JobId.{JobId}
use Rattle.mr_world_events.specs.declared.why.Why.{Why}
use Rattle.mr_packet.specs.declared.packet.ContainerId.{ContainerId}
use Rattle.mr_script.specs.declared.command.Command.{Command}
use Rattle.mr_script.specs.declared.command.Command.TheVariants as command
use Rattle.mr_script.specs.declared.event_name.EventName.{EventName}
use Rattle.mr_script.specs.declared.expectation.Expectation.{Expectation}
use Rattle.mr_script.specs.Script.{AreCommands, IsCommand}
use Rattle.mr_world_model.specs.Packets.{Config}
use Rattle.mr_world_model.specs.World.{World, Event, Start, Crash, Duty, LaunchOn, Deliver, ContainerStep, Compute, Die, NodeRestart, Expire, Calm, duty, seen_by, wish_of}
use Rattle.mr_world_model.specs.Effect.{not_now, wants_compute}
use Rattle.mr_world_model.specs.Claims.{Limits}
use Rattle.mr_world_model.specs.Sequential.{Input, Job, made_of, most_output}
use Rattle.mr_world_model.specs.Wanted.{wanted}
use Rattle.mr_world_model.proofs.Lists.{Each}
use Rattle.mr_master_refinement.specs.Works.{named}
use Rattle.mr_world.specs.declared.limits.TheConstants.{MAX_EVENTS}
use Rattle.mr_world.specs.Limits.{within}
use Rattle.mr_world.specs.Readings.{input_in, living, next_living}
use Rattle.mr_sim_commands.specs.declared.job.submission.Submission.{Submission}
use Rattle.mr_play.specs.EventNames.{stops_at}
use Rattle.mr_play.specs.Expectations.{is_met, unmet_line, value_in}
use Rattle.mr_play.specs.Played.{Played, Next, begun, world, result_of, computed_of, computing, stepping, next_packet, next_duty, next_launch, next_step, next_of, taken, unless_refused, made, calmed, calmed_by, calms, is_through, cursor_at, stepped_by, stop_of, most_of, losing, expecting, obeyed, played}
use Rattle.mr_play.specs.Text.{config_of, job_as, played_of}
use Rattle.mr_play_repeated.specs.Repeated.{AreRepeatable, IsComputed, IsRepeatable, KeepsFew, ScriptsAreRepeatable}

some_is : {A : Type 0} (x y : A) → Some x ≡ Some y → x ≡ y
some_is x y e = cc

none_is : {A : Type 0} (x : A) → None ≡ Some x → ⊥
none_is x e = cc

-- what a script may say
says : (lines : List (List ℕ)) (id : JobId) (n : ℕ) (cs : List (ℕ × Command)) → AreCommands id n lines cs → Each (λ (c : ℕ × Command). IsCommand id c.1) cs
says [] id n [] h = tt
says [] id n (c ∷ cs) h = absurd h
says ([] ∷ lines) id n cs h = says lines id _ cs h
says ((b ∷ line) ∷ lines) id n [] h = tt
says ((b ∷ line) ∷ lines) id n (c ∷ cs) h = (h.1.0, says lines id _ cs h.2)

module _ (sub : Submission) where
  abbrev job : Job
  job = job_as sub.job

  abbrev cfg : Config
  cfg = config_of sub

  abbrev lim : Limits
  lim = within cfg

  -- all its events can be repeated
  abbrev pub Repeats : Played → Type 0
  Repeats s = AreRepeatable sub [] s.events

  more : (before es : List Event) (e : Event) → AreRepeatable sub before es → IsRepeatable sub (before ++ es) e → AreRepeatable sub before (es ++ e ∷ [])
  more before [] e h g = (subst (λ b. IsRepeatable sub b e) (append-nil before) g, tt)
  more before (x ∷ es) e h g = (h.0, more (before ++ x ∷ []) es e h.1 (subst (λ b. IsRepeatable sub b e) (sym (append_assoc before (x ∷ []) es)) g))

  -- ---- what a calm hands in

  module _ (w : World) where
    abbrev Fits : Event → Type 0
    Fits e = IsComputed sub w e × KeepsFew e

    abbrev pub Good : Option Event → Type 0
    Good o = (e : Event) → o ≡ Some e → Fits e

    one_good : (e : Event) → Fits e → Good (Some e)
    one_good e h f is = subst Fits (some_is e f is) h

    whose : (c d : ContainerId) (bytes : List ℕ) (o : Option Input) → computed_of job cfg lim c o ≡ Some (Compute d bytes) → c ≡ d
    whose c d bytes None e = cc
    whose c d bytes (Some input) e = by (made_of job cfg input) e
      where
        short : (b : Bool) (bs : List ℕ) → cond b (Some (Compute c bs)) None ≡ Some (Compute d bytes) → c ≡ d
        short true bs q = cc
        short false bs q = absurd (none_is _ q)

        by : (o : Option (List ℕ)) → result_of job cfg lim c o ≡ Some (Compute d bytes) → c ≡ d
        by None q = absurd (cc q)
        by (Some bs) q = short (nat_le (length bs) most_output) bs q

    -- it is neither a start nor a crash
    few : (c : ContainerId) (e : Event) (o : Option Input) → computed_of job cfg lim c o ≡ Some e → KeepsFew e
    few c e None q = subst KeepsFew (some_is (Compute c []) e q) tt
    few c e (Some input) q = by (made_of job cfg input) q
      where
        short : (b : Bool) (bs : List ℕ) → cond b (Some (Compute c bs)) None ≡ Some e → KeepsFew e
        short true bs q = subst KeepsFew (some_is (Compute c bs) e q) tt
        short false bs q = absurd (none_is e q)

        by : (o : Option (List ℕ)) → result_of job cfg lim c o ≡ Some e → KeepsFew e
        by None q = subst KeepsFew (some_is (Die c) e q) tt
        by (Some bs) q = short (nat_le (length bs) most_output) bs q

    computed : (c : ContainerId) (e : Event) → computing job cfg lim w c ≡ Some e → IsComputed sub w e
    computed c (Compute d bytes) is = subst (λ z. computing job cfg lim w z ≡ Some (Compute d bytes)) (whose c d bytes (input_in cfg w c) is) is
    computed c (Start k kept) is = tt
    computed c (Crash k kept) is = tt
    computed c (Duty k f) is = tt
    computed c (LaunchOn k t n) is = tt
    computed c (Deliver i) is = tt
    computed c (ContainerStep d f) is = tt
    computed c (Die d) is = tt
    computed c (NodeRestart n) is = tt
    computed c (Expire k n) is = tt

    computing_good : (c : ContainerId) → Good (computing job cfg lim w c)
    computing_good c e is = (computed c e is, few c e (input_in cfg w c) is)

    stepping_good : (c : ContainerId) → Good (stepping job cfg lim w c)
    stepping_good c = by (wants_compute (wish_of cfg w c))
      where
        by : (b : Bool) → Good (cond b (computing job cfg lim w c) (Some (ContainerStep c Calm)))
        by true = computing_good c
        by false = one_good (ContainerStep c Calm) (tt, tt)

    abbrev Fine : Option Next → Type 0
    Fine o = (next : Next) → o ≡ Some next → Good next.event

    or_fine : (a b : Option Next) → Fine a → Fine b → Fine (option_or a b)
    or_fine None b f g next e = g next e
    or_fine (Some x) b f g next e = f next e

    mapped_fine : {A : Type 0} (f : A → Next) (o : Option A) → ((x : A) → Good (f x).event) → Fine (option_map f o)
    mapped_fine f None good next e = absurd (none_is next e)
    mapped_fine f (Some x) good next e = subst (λ (n : Next). Good n.event) (some_is (f x) next e) (good x)

    packet_fine : (last : Option ContainerId) (at : ℕ) → Fine (next_packet job cfg lim w last at)
    packet_fine last at = by (nat_lt at (length w.bag))
      where
        by : (b : Bool) → Fine (cond b (Some (record { names = []; event = Some (Deliver at); stepped = last; cursor = at + 1 })) None)
        by true next e = subst (λ (n : Next). Good n.event) (some_is _ next e) (one_good (Deliver at) (tt, tt))
        by false next e = absurd (none_is next e)

    next_fine : (k : ℕ) (last : Option ContainerId) (at : ℕ) → Fine (next_of job cfg lim w k last at)
    next_fine k last at =
        or_fine (next_packet job cfg lim w last at) _ (packet_fine last at)
        (or_fine (next_duty job cfg lim w k last at) _ (mapped_fine _ (named (seen_by cfg w k).phase (duty cfg w k)) (λ d. one_good (Duty k Calm) (tt, tt)))
        (or_fine (next_launch job cfg lim w k last at) (next_step job cfg lim w last at) (mapped_fine _ (wanted cfg (seen_by cfg w k)) (λ t. one_good (LaunchOn k t (t.number % cfg.nodes)) (tt, tt)))
        (mapped_fine _ (next_living (living cfg w) last) (λ c. stepping_good c))))

  told_good : (w : World) (id : JobId) (e : Event) → IsCommand id (command.Makes e) → Fits w e
  told_good w id (Start k kept) h = (tt, h.1)
  told_good w id (Crash k kept) h = (tt, h.1)
  told_good w id (Duty k f) h = (tt, tt)
  told_good w id (LaunchOn k t n) h = (tt, tt)
  told_good w id (Deliver i) h = (tt, tt)
  told_good w id (ContainerStep c f) h = (tt, tt)
  told_good w id (Compute c bytes) h = absurd h
  told_good w id (Die c) h = (tt, tt)
  told_good w id (NodeRestart m) h = (tt, tt)
  told_good w id (Expire k m) h = (tt, tt)

  -- ---- events and calms

  pub taken_repeats : (e : Event) (last : Option ContainerId) (s t : Played) → Repeats s → not_now cfg (world job cfg lim s) e ≡ None → Fits (world job cfg lim s) e → taken job cfg lim e last s ≡ Some t → Repeats t
  taken_repeats e last s t h n g q = by (nat_lt (length s.events) MAX_EVENTS && lim (world job cfg lim s) e) refl q
    where
      by : (b : Bool) → (nat_lt (length s.events) MAX_EVENTS && lim (world job cfg lim s) e) ≡ b → cond b (Some (record s { events = s.events ++ e ∷ []; stepped = last })) None ≡ Some t → Repeats t
      by true f q = subst Repeats (some_is _ t q) (more [] s.events e h (record { can = record { now = n; fits = f }; computed = g.0; few = g.1 }))
      by false f q = absurd (none_is t q)

  made_repeats : (line : ℕ) (e : Event) (last : Option ContainerId) (s t : Played) → Repeats s → Fits (world job cfg lim s) e → made job cfg lim line e last s ≡ Some t → Repeats t
  made_repeats line e last s t h g q = by (not_now cfg (world job cfg lim s) e) refl q
    where
      by : (o : Option Why) → not_now cfg (world job cfg lim s) e ≡ o → unless_refused job cfg lim line e last s o ≡ Some t → Repeats t
      by None n q = taken_repeats e last s t h n g q
      by (Some reason) n q = subst Repeats (some_is _ t q) h

  abbrev pub Keeps : (Played → Option Played) → Type 0
  Keeps f = (s t : Played) → Repeats s → f s ≡ Some t → Repeats t

  then_repeats : (more : Played → Option Played) → Keeps more → (o : Option Played) (t : Played) → ((u : Played) → o ≡ Some u → Repeats u) → option_and_then more o ≡ Some t → Repeats t
  then_repeats more keeps None t first q = absurd (none_is t q)
  then_repeats more keeps (Some u) t first q = keeps u t (first u refl) q

  if_there : (f : Event → Option Played) (o : Option Event) (t : Played) → ((e : Event) → o ≡ Some e → f e ≡ Some t → Repeats t) → option_and_then f o ≡ Some t → Repeats t
  if_there f None t go q = absurd (none_is t q)
  if_there f (Some e) t go q = go e refl q

  calmed_repeats : (more : Played → Option Played) → Keeps more → (e : Event) (last : Option ContainerId) (s t : Played) → Repeats s → Fits (world job cfg lim s) e → (o : Option Why) → not_now cfg (world job cfg lim s) e ≡ o → calmed job cfg lim more e last s o ≡ Some t → Repeats t
  calmed_repeats more keeps e last s t h g None n q = then_repeats more keeps (taken job cfg lim e last s) t (λ u p. taken_repeats e last s u h n g p) q
  calmed_repeats more keeps e last s t h g (Some reason) n q = subst Repeats (some_is s t q) h

  calmed_by_repeats : (stop : Option EventName) (more : Played → Option Played) → Keeps more → (s t : Played) → Repeats s → (o : Option Next) → Fine (world job cfg lim s) o → calmed_by job cfg lim stop more s o ≡ Some t → Repeats t
  calmed_by_repeats stop more keeps s t h None fine q = subst Repeats (some_is s t q) h
  calmed_by_repeats stop more keeps s t h (Some next) fine q = by (stops_at stop next.names) q
    where
      by : (b : Bool) → cond b (Some s) (option_and_then (λ e. calmed job cfg lim more e next.stepped (record s { cursor = next.cursor }) (not_now cfg (world job cfg lim s) e)) next.event) ≡ Some t → Repeats t
      by true q = subst Repeats (some_is s t q) h
      by false q = if_there _ next.event t (λ e is q. calmed_repeats more keeps e next.stepped (record s { cursor = next.cursor }) t h (fine next refl e is) (not_now cfg (world job cfg lim s) e) refl q) q

  pub calms_repeat : (k : ℕ) (stop : Option EventName) (most : ℕ) → Keeps (calms job cfg lim k stop most)
  calms_repeat k stop zero s t h q = subst Repeats (some_is s t q) h
  calms_repeat k stop (suc most) s t h q = by (calms_repeat k stop most) (is_through cfg (world job cfg lim s) k) q
    where
      by : Keeps (calms job cfg lim k stop most) → (b : Bool) → cond b (Some s) (calmed_by job cfg lim stop (calms job cfg lim k stop most) (record s { cursor = cursor_at (world job cfg lim s) s.dropped s.cursor }) (next_of job cfg lim (world job cfg lim s) k s.stepped (cursor_at (world job cfg lim s) s.dropped s.cursor))) ≡ Some t → Repeats t
      by keeps true q = subst Repeats (some_is s t q) h
      by keeps false q = calmed_by_repeats stop (calms job cfg lim k stop most) keeps (record s { cursor = cursor_at (world job cfg lim s) s.dropped s.cursor }) t h _ (next_fine (world job cfg lim s) k s.stepped (cursor_at (world job cfg lim s) s.dropped s.cursor)) q

  -- ---- a script

  expecting_repeats : (line : ℕ) (e : Expectation) (s : Played) → Repeats s → Repeats (expecting job cfg lim line e s)
  expecting_repeats line e s h = by (is_met cfg (world job cfg lim s) e)
    where
      by : (b : Bool) → Repeats (cond b s (record s { told = s.told ++ unmet_line line e (value_in cfg (world job cfg lim s) e); met = false }))
      by true = h
      by false = h

  obeyed_repeats : (id : JobId) (line : ℕ) (c : Command) → IsCommand id c → Keeps (obeyed job cfg lim line c)
  obeyed_repeats id line (command.Makes e) i s t h q = made_repeats line e (stepped_by job cfg lim e s.stepped) s t h (told_good (world job cfg lim s) id e i) q
  obeyed_repeats id line (command.Compute c) i s t h q = if_there _ (computing job cfg lim (world job cfg lim s) c) t (λ e is q. made_repeats line e (Some c) s t h (computing_good (world job cfg lim s) c e is) q) q
  obeyed_repeats id line (command.Calm k until) i s t h q = calms_repeat k (stop_of until) (most_of until) s t h q
  obeyed_repeats id line (command.Drop place) i s t h q = subst Repeats (some_is (losing job cfg lim place s) t q) h
  obeyed_repeats id line (command.Expect e) i s t h q = subst Repeats (some_is (expecting job cfg lim line e s) t q) (expecting_repeats line e s h)

  played_repeats : (id : JobId) (cs : List (ℕ × Command)) → Each (λ (c : ℕ × Command). IsCommand id c.1) cs → Keeps (played job cfg lim cs)
  played_repeats id [] i s t h q = subst Repeats (some_is s t q) h
  played_repeats id (c ∷ cs) i s t h q = then_repeats (played job cfg lim cs) (played_repeats id cs i.1) (obeyed job cfg lim c.0 c.1 s) t (λ u p. obeyed_repeats id c.0 c.1 i.0 s u h p) q

pub scripts_are_repeatable_law : ScriptsAreRepeatable
unfolding played_of
scripts_are_repeatable_law sub n lines cs left are comes = played_repeats sub sub.id cs (says lines sub.id n cs are) begun left tt comes

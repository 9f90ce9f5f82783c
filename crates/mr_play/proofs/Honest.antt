-- The events that a script makes are faithful.
use Rattle.std.proofs.Common.{◌≡◌, ◌⊎◌, ℕ, zero, suc, ◌+◌, ◌%◌, ◌<◌, Bool, true, false, cond, ◌&&◌, nat_lt, nat_le, List, [], ◌∷◌, ◌++◌, length, slice_get, option_map, Option, Some, None, inl, inr, refl, sym, ap, subst, ◌∙◌}
use Rattle.std.proofs.lemmas.Option.{slice_get-get_or}
use Rattle.std.specs.Option.{option_and_then, option_or}
use Rattle.mr_ids.specs.declared.id.JobId.{JobId}
use Rattle.mr_ids.specs.declared.id.TaskKind.{TaskKind}
use Rattle.mr_ids.specs.declared.id.TaskKind.TheVariants.{Map, Reduce}
use Rattle.mr_world_events.specs.declared.why.Why.{Why}
use Rattle.mr_packet.specs.declared.packet.ContainerId.{ContainerId}
use Rattle.mr_script.specs.declared.command.Command.{Command}
use Rattle.mr_script.specs.declared.command.Command.TheVariants as command
use Rattle.mr_script.specs.declared.event_name.EventName.{EventName}
use Rattle.mr_script.specs.declared.expectation.Expectation.{Expectation}
use Rattle.mr_script.specs.Script.{AreCommands, IsCommand}
use Rattle.mr_world_model.specs.Ids.{of_reduces}
use Rattle.mr_world_model.specs.Packets.{Config}
use Rattle.mr_world_model.specs.Pasts.{Place, wish, fetched}
use Rattle.mr_world_model.specs.World.{World, Event, Start, Crash, Duty, LaunchOn, Deliver, ContainerStep, Compute, Die, NodeRestart, Expire, Calm, duty, seen_by, wish_at, wish_of}
use Rattle.mr_world_model.specs.Effect.{unless, not_now, wants_compute, tasks_of}
use Rattle.mr_world_model.specs.Claims.{Limits, world_of}
use Rattle.mr_world_model.specs.Sequential.{Job, Input, Split, Pieces, given, input_at, input_of, made_of, most_output, CarriesDefinition, IsFaithful}
use Rattle.mr_world_model.specs.Wanted.{wanted}
use Rattle.mr_world_model.proofs.Lists.{Each}
use Rattle.mr_world_model.proofs.Cluster.{open_place}
use Rattle.mr_world_model.proofs.Ranges.{always-placed}
use Rattle.mr_master_refinement.specs.Works.{named}
use Rattle.mr_world.specs.declared.limits.TheConstants.{MAX_EVENTS}
use Rattle.mr_world.specs.Readings.{input_in, living, next_living}
use Rattle.mr_play.specs.EventNames.{stops_at}
use Rattle.mr_play.specs.Expectations.{is_met, unmet_line, value_in}
use Rattle.mr_play.specs.Played.{Played, Next, begun, world, result_of, computed_of, computing, stepping, next_packet, next_duty, next_launch, next_step, next_of, taken, unless_refused, made, calmed, calmed_by, calms, is_through, cursor_at, stepped_by, stop_of, most_of, losing, expecting, obeyed, played}
use Rattle.mr_play.specs.Text.{job_as, config_of, played_of}
use Rattle.mr_play.specs.Faithful.{ScriptsAreFaithful}

some_is : {A : Type 0} (x y : A) → Some x ≡ Some y → x ≡ y
some_is x y e = cc

none_is : {A : Type 0} (x : A) → None ≡ Some x → ⊥
none_is x e = cc

not_some : {A : Type 0} (x : A) → Some x ≡ None → ⊥
not_some x e = cc

-- ---- one event more

front_of : (y b e : Event) (bs after : List Event) → y ∷ [] ≡ b ∷ (bs ++ e ∷ after) → ⊥
front_of y b e [] after q = cc
front_of y b e (c ∷ bs) after q = cc

last_of : (xs : List Event) (y : Event) (before after : List Event) (e : Event) → xs ++ y ∷ [] ≡ before ++ e ∷ after → ((before ≡ xs) × (e ≡ y)) ⊎ ((rest : List Event) × (xs ≡ before ++ e ∷ rest))
last_of [] y [] after e q = let r : e ≡ y = cc in inl (refl, r)
last_of [] y (b ∷ bs) after e q = absurd (front_of y b e bs after q)
last_of (x ∷ xs) y [] after e q = let r : x ≡ e = cc in inr (xs, ap (λ z. z ∷ xs) r)
last_of (x ∷ xs) y (b ∷ bs) after e q = by (last_of xs y bs after e (let r : xs ++ y ∷ [] ≡ bs ++ e ∷ after = cc in r))
  where
    first : x ≡ b
    first = cc

    by : ((bs ≡ xs) × (e ≡ y)) ⊎ ((rest : List Event) × (xs ≡ bs ++ e ∷ rest)) → ((b ∷ bs ≡ x ∷ xs) × (e ≡ y)) ⊎ ((rest : List Event) × (x ∷ xs ≡ b ∷ bs ++ e ∷ rest))
    by (inl p) = inl ((λ i. sym first i ∷ p.0 i), p.1)
    by (inr p) = inr (p.0, (λ i. first i ∷ p.1 i))

-- ---- what a script may say

says : (lines : List (List ℕ)) (id : JobId) (n : ℕ) (cs : List (ℕ × Command)) → AreCommands id n lines cs → Each (λ (c : ℕ × Command). IsCommand id c.1) cs
says [] id n [] h = tt
says [] id n (c ∷ cs) h = absurd h
says ([] ∷ lines) id n cs h = says lines id _ cs h
says ((b ∷ line) ∷ lines) id n [] h = tt
says ((b ∷ line) ∷ lines) id n (c ∷ cs) h = (h.1.0, says lines id _ cs h.2)

unless_none : (b : Bool) (reason : Why) (rest : Option Why) → unless b reason rest ≡ None → (b ≡ true) × (rest ≡ None)
unless_none true reason rest e = (refl, e)
unless_none false reason rest e = absurd (not_some reason e)

module _ (job : Job) (cfg : Config) (within : Limits) where
  abbrev Honest : Played → Type 0
  Honest s = IsFaithful job cfg within s.events

  honest_more : (es : List Event) (e : Event) → IsFaithful job cfg within es → CarriesDefinition job cfg (world_of cfg within es) e → IsFaithful job cfg within (es ++ e ∷ [])
  honest_more es e h g before after x is t = by (last_of es e before after x is)
    where
      by : ((before ≡ es) × (x ≡ e)) ⊎ ((rest : List Event) × (es ≡ before ++ x ∷ rest)) → CarriesDefinition job cfg (world_of cfg within before) x
      by (inl p) = subst (λ z. CarriesDefinition job cfg (world_of cfg within before) z) (sym p.1) (subst (λ z. CarriesDefinition job cfg (world_of cfg within z) e) (sym p.0) g)
      by (inr p) = h before p.0 x p.1 t

  -- ---- an event carries the definition's bytes, if it is permitted
  module _ (es : List Event) where
    abbrev w : World
    w = world_of cfg within es

    abbrev Carries : Event → Type 0
    Carries e = not_now cfg w e ≡ None → CarriesDefinition job cfg w e

    abbrev Good : Option Event → Type 0
    Good o = (e : Event) → o ≡ Some e → Carries e

    one_good : (e : Event) → Carries e → Good (Some e)
    one_good e h f is = subst Carries (some_is e f is) h

    -- a container that is to compute has an input
    has_input : (c : ContainerId) → not_now cfg w (Compute c []) ≡ None → input_in cfg w c ≡ None → ⊥
    unfolding not_now
    has_input c now none =
        let alive = unless_none (w.is_alive c) _ _ now in
        let wants = unless_none (wants_compute (wish_of cfg w c)) _ _ alive.1 in
        let all = always-placed cfg within es in
        let at = open_place cfg w all.sures.known.cluster c alive.0 in
        input at.0 at.1 (all.launched c.app _ at.2).number alive.0 wants.0
      where
        kinds : (p : Place) (kind : TaskKind) → p.attempt.task.kind ≡ kind → p.attempt.task.number < tasks_of cfg p.attempt.task.kind → given cfg p.attempt (w.container_past c) ≡ None → ⊥
        kinds p Reduce is number none =
            not_some _ (sym (ap (λ k. cond (of_reduces k) (Some (Pieces p.attempt.task.number (fetched (length cfg.splits) p.attempt (w.container_past c)))) (option_map (Split p.attempt.task.number) (slice_get cfg.splits p.attempt.task.number))) is) ∙ none)
        kinds p Map is number none =
            let below : p.attempt.task.number < length cfg.splits = subst (λ k. p.attempt.task.number < tasks_of cfg k) is number in
            let there = slice_get-get_or cfg.splits p.attempt.task.number [] below in
            not_some _ (sym (ap (λ k. cond (of_reduces k) (Some (Pieces p.attempt.task.number (fetched (length cfg.splits) p.attempt (w.container_past c)))) (option_map (Split p.attempt.task.number) (slice_get cfg.splits p.attempt.task.number))) is
            ∙ ap (option_map (Split p.attempt.task.number)) there) ∙ none)

        input : (p : Place) → w.place c ≡ Some p → p.attempt.task.number < tasks_of cfg p.attempt.task.kind → w.is_alive c ≡ true → wants_compute (wish_of cfg w c) ≡ true → ⊥
        input p place number alive wants =
            let wants_it : wants_compute (wish (length cfg.splits) p.attempt (w.container_past c)) ≡ true = ap (λ o. wants_compute (wish_at cfg c o (w.container_past c))) (sym place) ∙ wants in
            let same : cond (w.is_alive c) (input_of cfg w c) None ≡ given cfg p.attempt (w.container_past c) =
            ap (λ b. cond b (input_of cfg w c) None) alive ∙ ap (λ o. input_at cfg o (w.container_past c)) place ∙ ap (λ b. cond b (given cfg p.attempt (w.container_past c)) None) wants_it in
            kinds p p.attempt.task.kind refl number (sym same ∙ none)

    computing_good : (c : ContainerId) → Good (computing job cfg within w c)
    computing_good c = by (input_in cfg w c) refl
      where
        input_is : (b : Bool) (input : Input) → cond b (input_of cfg w c) None ≡ Some input → input_of cfg w c ≡ Some input
        input_is true input e = e
        input_is false input e = absurd (none_is input e)

        result : (input : Input) → input_of cfg w c ≡ Some input → (o : Option (List ℕ)) → made_of job cfg input ≡ o → Good (result_of job cfg within c o)
        result input is None m = one_good (Die c) (λ n. tt)
        result input is (Some bytes) m = short (nat_le (length bytes) most_output)
          where
            short : (b : Bool) → Good (cond b (Some (Compute c bytes)) None)
            short true = one_good (Compute c bytes) (λ n. ap (option_and_then (made_of job cfg)) is ∙ m)
            short false = λ e f. absurd (none_is e f)

        by : (o : Option Input) → input_in cfg w c ≡ o → Good (computed_of job cfg within c o)
        by None is = one_good (Compute c []) (λ n. absurd (has_input c n is))
        by (Some input) is = result input (input_is (w.is_alive c) input is) (made_of job cfg input) refl

    stepping_good : (c : ContainerId) → Good (stepping job cfg within w c)
    stepping_good c = by (wants_compute (wish_of cfg w c))
      where
        by : (b : Bool) → Good (cond b (computing job cfg within w c) (Some (ContainerStep c Calm)))
        by true = computing_good c
        by false = one_good (ContainerStep c Calm) (λ n. tt)

    abbrev Fine : Option Next → Type 0
    Fine o = (next : Next) → o ≡ Some next → Good next.event

    or_fine : (a b : Option Next) → Fine a → Fine b → Fine (option_or a b)
    or_fine None b f g next e = g next e
    or_fine (Some x) b f g next e = f next e

    mapped_fine : {A : Type 0} (f : A → Next) (o : Option A) → ((x : A) → Good (f x).event) → Fine (option_map f o)
    mapped_fine f None good next e = absurd (none_is next e)
    mapped_fine f (Some x) good next e = subst (λ (n : Next). Good n.event) (some_is (f x) next e) (good x)

    packet_fine : (last : Option ContainerId) (at : ℕ) → Fine (next_packet job cfg within w last at)
    packet_fine last at = by (nat_lt at (length w.bag))
      where
        by : (b : Bool) → Fine (cond b (Some (record { names = []; event = Some (Deliver at); stepped = last; cursor = at + 1 })) None)
        by true next e = subst (λ (n : Next). Good n.event) (some_is _ next e) (one_good (Deliver at) (λ n. tt))
        by false next e = absurd (none_is next e)

    next_fine : (k : ℕ) (last : Option ContainerId) (at : ℕ) → Fine (next_of job cfg within w k last at)
    next_fine k last at =
        or_fine (next_packet job cfg within w last at) _ (packet_fine last at)
        (or_fine (next_duty job cfg within w k last at) _ (mapped_fine _ (named (seen_by cfg w k).phase (duty cfg w k)) (λ d. one_good (Duty k Calm) (λ n. tt)))
        (or_fine (next_launch job cfg within w k last at) (next_step job cfg within w last at) (mapped_fine _ (wanted cfg (seen_by cfg w k)) (λ t. one_good (LaunchOn k t (t.number % cfg.nodes)) (λ n. tt)))
        (mapped_fine _ (next_living (living cfg w) last) (λ c. stepping_good c))))

    told_good : (id : JobId) (e : Event) → IsCommand id (command.Makes e) → Carries e
    told_good id (Start k kept) h n = tt
    told_good id (Crash k kept) h n = tt
    told_good id (Duty k f) h n = tt
    told_good id (LaunchOn k t n) h m = tt
    told_good id (Deliver i) h n = tt
    told_good id (ContainerStep c f) h n = tt
    told_good id (Compute c bytes) h n = absurd h
    told_good id (Die c) h n = tt
    told_good id (NodeRestart m) h n = tt
    told_good id (Expire k m) h n = tt

  -- ---- a script

  taken_honest : (e : Event) (last : Option ContainerId) (s t : Played) → Honest s → CarriesDefinition job cfg (world job cfg within s) e → taken job cfg within e last s ≡ Some t → Honest t
  taken_honest e last s t h g q = by (nat_lt (length s.events) MAX_EVENTS && within (world job cfg within s) e) q
    where
      by : (b : Bool) → cond b (Some (record s { events = s.events ++ e ∷ []; stepped = last })) None ≡ Some t → Honest t
      by true q = subst Honest (some_is _ t q) (honest_more s.events e h g)
      by false q = absurd (none_is t q)

  made_honest : (line : ℕ) (e : Event) (last : Option ContainerId) (s t : Played) → Honest s → Carries s.events e → made job cfg within line e last s ≡ Some t → Honest t
  made_honest line e last s t h g q = by (not_now cfg (world job cfg within s) e) refl q
    where
      by : (o : Option Why) → not_now cfg (world job cfg within s) e ≡ o → unless_refused job cfg within line e last s o ≡ Some t → Honest t
      by None n q = taken_honest e last s t h (g n) q
      by (Some reason) n q = subst Honest (some_is _ t q) h

  abbrev Keeps : (Played → Option Played) → Type 0
  Keeps f = (s t : Played) → Honest s → f s ≡ Some t → Honest t

  then_honest : (more : Played → Option Played) → Keeps more → (o : Option Played) (t : Played) → ((u : Played) → o ≡ Some u → Honest u) → option_and_then more o ≡ Some t → Honest t
  then_honest more keeps None t first q = absurd (none_is t q)
  then_honest more keeps (Some u) t first q = keeps u t (first u refl) q

  if_there : (f : Event → Option Played) (o : Option Event) (t : Played) → ((e : Event) → o ≡ Some e → f e ≡ Some t → Honest t) → option_and_then f o ≡ Some t → Honest t
  if_there f None t go q = absurd (none_is t q)
  if_there f (Some e) t go q = go e refl q

  calmed_honest : (more : Played → Option Played) → Keeps more → (e : Event) (last : Option ContainerId) (s t : Played) → Honest s → Carries s.events e → (o : Option Why) → not_now cfg (world job cfg within s) e ≡ o → calmed job cfg within more e last s o ≡ Some t → Honest t
  calmed_honest more keeps e last s t h g None n q = then_honest more keeps (taken job cfg within e last s) t (λ u p. taken_honest e last s u h (g n) p) q
  calmed_honest more keeps e last s t h g (Some reason) n q = subst Honest (some_is s t q) h

  calmed_by_honest : (stop : Option EventName) (more : Played → Option Played) → Keeps more → (s t : Played) → Honest s → (o : Option Next) → Fine s.events o → calmed_by job cfg within stop more s o ≡ Some t → Honest t
  calmed_by_honest stop more keeps s t h None fine q = subst Honest (some_is s t q) h
  calmed_by_honest stop more keeps s t h (Some next) fine q = by (stops_at stop next.names) q
    where
      by : (b : Bool) → cond b (Some s) (option_and_then (λ e. calmed job cfg within more e next.stepped (record s { cursor = next.cursor }) (not_now cfg (world job cfg within s) e)) next.event) ≡ Some t → Honest t
      by true q = subst Honest (some_is s t q) h
      by false q = if_there _ next.event t (λ e is q. calmed_honest more keeps e next.stepped (record s { cursor = next.cursor }) t h (fine next refl e is) (not_now cfg (world job cfg within s) e) refl q) q

  calms_honest : (k : ℕ) (stop : Option EventName) (most : ℕ) → Keeps (calms job cfg within k stop most)
  calms_honest k stop zero s t h q = subst Honest (some_is s t q) h
  calms_honest k stop (suc most) s t h q = by (calms_honest k stop most) (is_through cfg (world job cfg within s) k) q
    where
      by : Keeps (calms job cfg within k stop most) → (b : Bool) → cond b (Some s) (calmed_by job cfg within stop (calms job cfg within k stop most) (record s { cursor = cursor_at (world job cfg within s) s.dropped s.cursor }) (next_of job cfg within (world job cfg within s) k s.stepped (cursor_at (world job cfg within s) s.dropped s.cursor))) ≡ Some t → Honest t
      by keeps true q = subst Honest (some_is s t q) h
      by keeps false q = calmed_by_honest stop (calms job cfg within k stop most) keeps (record s { cursor = cursor_at (world job cfg within s) s.dropped s.cursor }) t h _ (next_fine s.events k s.stepped (cursor_at (world job cfg within s) s.dropped s.cursor)) q

  expecting_honest : (line : ℕ) (e : Expectation) (s : Played) → Honest s → Honest (expecting job cfg within line e s)
  expecting_honest line e s h = by (is_met cfg (world job cfg within s) e)
    where
      by : (b : Bool) → Honest (cond b s (record s { told = s.told ++ unmet_line line e (value_in cfg (world job cfg within s) e); met = false }))
      by true = h
      by false = h

  obeyed_honest : (id : JobId) (line : ℕ) (c : Command) → IsCommand id c → Keeps (obeyed job cfg within line c)
  obeyed_honest id line (command.Makes e) i s t h q = made_honest line e (stepped_by job cfg within e s.stepped) s t h (told_good s.events id e i) q
  obeyed_honest id line (command.Compute c) i s t h q = if_there _ (computing job cfg within (world job cfg within s) c) t (λ e is q. made_honest line e (Some c) s t h (computing_good s.events c e is) q) q
  obeyed_honest id line (command.Calm k until) i s t h q = calms_honest k (stop_of until) (most_of until) s t h q
  obeyed_honest id line (command.Drop place) i s t h q = subst Honest (some_is (losing job cfg within place s) t q) h
  obeyed_honest id line (command.Expect e) i s t h q = subst Honest (some_is (expecting job cfg within line e s) t q) (expecting_honest line e s h)

  played_honest : (id : JobId) (cs : List (ℕ × Command)) → Each (λ (c : ℕ × Command). IsCommand id c.1) cs → Keeps (played job cfg within cs)
  played_honest id [] i s t h q = subst Honest (some_is s t q) h
  played_honest id (c ∷ cs) i s t h q = then_honest (played job cfg within cs) (played_honest id cs i.1) (obeyed job cfg within c.0 c.1 s) t (λ u p. obeyed_honest id c.0 c.1 i.0 s u h p) q

  no_events : IsFaithful job cfg within []
  no_events [] after e q t = absurd cc
  no_events (b ∷ bs) after e q t = absurd cc

pub scripts_are_faithful_law : ScriptsAreFaithful
unfolding played_of
scripts_are_faithful_law within job n lines cs left are comes =
    played_honest (job_as job.job) (config_of job) (within (config_of job)) job.id cs (says lines job.id n cs are) begun left (no_events (job_as job.job) (config_of job) (within (config_of job))) comes

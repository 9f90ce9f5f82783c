-- A script has words for the events of a run.
use Rattle.std.proofs.Common.{◌≡◌, ◌≤◌, ◌<◌, ◌+◌, ◌^◌, ℕ, suc, Bool, true, false, cond, ◌&&◌, nat_lt, nat_le, List, [], ◌∷◌, ◌++◌, length, length-append, slice_get, is_none, Option, Some, None, refl, sym, ap, subst, ◌∙◌, arith, leb-true}
use Rattle.std.proofs.lemmas.Bool.{and_parts, ltb-true, leb-false}
use Rattle.std.proofs.lemmas.Option.{slice_get_within}
use Rattle.mr_ids.specs.declared.id.TaskId.{TaskId}
use Rattle.mr_ids.specs.declared.id.TaskKind.{TaskKind}
use Rattle.mr_ids.specs.declared.id.TaskKind.TheVariants.{Map, Reduce}
use Rattle.mr_ids.specs.declared.id.TheConstants.{MAX_APP_ATTEMPTS}
use Rattle.mr_packet.specs.declared.bag.TheConstants.{MAX_PACKETS}
use Rattle.mr_packet.specs.declared.packet.ContainerId.{ContainerId}
use Rattle.mr_packet.specs.declared.packet.Envelope.{Envelope}
use Rattle.mr_script.specs.Script.{IsCommand, IsContainer, IsGeneration, IsTaskOf}
use Rattle.mr_script_writer.specs.Laws.{CanBeSaid}
use Rattle.mr_script_writer.specs.Repeating.{said_by}
use Rattle.mr_world_model.specs.Ids.{same_job}
use Rattle.mr_world_model.specs.Packets.{Config}
use Rattle.mr_world_model.specs.Hearing.{Launched, Seen, is_running}
use Rattle.mr_world_model.specs.Duties.{Master_step, Came, Launches, Expires, Asks, seen}
use Rattle.mr_world_model.specs.World.{World, Event, Start, Crash, Duty, LaunchOn, Deliver, ContainerStep, Compute, Die, NodeRestart, Expire, master_act, opening_world, seen_by}
use Rattle.mr_world_model.specs.Effect.{NoContainer, NoMaster, NoNode, NoTask, NotRunning, addressee, effect, fence_after, happens, is_task, not_now, task_fault, tasks_of}
use Rattle.mr_world_model.specs.Sending.{sent}
use Rattle.mr_world_model.specs.Claims.{In, Limits, world_of}
use Rattle.mr_world_model.proofs.Allowed.{seen_after}
use Rattle.mr_world_model.proofs.Basic.{along, unless_parts}
use Rattle.mr_world_model.proofs.Closed.{Closed, LaunchFits, next-closed}
use Rattle.mr_world_model.proofs.Cluster.{launched_as, open_place}
use Rattle.mr_world_model.proofs.Found.{always}
use Rattle.mr_world_model.proofs.Grows.{crash_master, duty_master, is_started}
use Rattle.mr_world_model.proofs.Living.{masters_are_raised}
use Rattle.mr_world_model.proofs.Names.{same_job-true}
use Rattle.mr_world_model.proofs.Numbers.{Numbers, numbers, opening-numbers}
use Rattle.mr_world.specs.declared.limits.TheConstants.{MAX_EVENTS}
use Rattle.mr_world.specs.Applying.{CanHappen}
use Rattle.mr_world.specs.Journal.{run_of}
use Rattle.mr_world.specs.Limits.{fits_bag, fits_own, within}
use Rattle.mr_world.proofs.Journals.{run-one}
use Rattle.mr_sim_commands.specs.declared.job.submission.Submission.{Submission}
use Rattle.mr_play.specs.Text.{config_of}
use Rattle.mr_play_repeated.specs.Repeated.{AreRepeatable, KeepsFew, RunsCanBeSaid}
use Rattle.mr_play_repeated.proofs.Bounded.{IsNarrow, jobs_are_narrow}

numbers_of : (cfg : Config) (lim : Limits) (es : List Event) → Numbers cfg (world_of cfg lim es)
numbers_of cfg lim es = along (Numbers cfg) cfg lim (λ w e o n. numbers cfg w e o n) opening_world es (opening-numbers cfg)

-- ---- launches are no more than events

module _ (cfg : Config) (n : ℕ) where
  abbrev Few : Seen → Type 0
  Few s = length s.launched ≤ suc n

  abbrev Fewer : Seen → Launched → Type 0
  Fewer s l = length s.launched ≤ n

  few_closed : Closed cfg Fewer Few
  few_closed = record {
    asks = λ s a o. o;
    ends = λ s a f due p o. o;
    accepts = λ s a st due o. o;
    knows = λ s f ps o. o;
    calls = λ s p ws st rs ks h due tail o. o;
    launches = λ s l due u o. omega (arith, u);
    expires = λ s ks bs o. o;
  }

  fits : (s : Seen) (x : Master_step) → length s.launched ≤ n → LaunchFits Fewer s x
  fits s (Came p) h = tt
  fits s (Launches l) h = h
  fits s (Expires m) h = tt
  fits s (Asks call r) h = tt

  few_after : (w : World) (e : Event) → ((k : ℕ) → length (seen_by cfg w k).launched ≤ n) → (k : ℕ) → length (seen_by cfg (effect cfg w e) k).launched ≤ suc n
  few_after w e h k = seen_after Few cfg w (master_act cfg w e) k (let few = h k in omega (arith, few)) (λ a q m. next-closed cfg Fewer Few few_closed k (seen_by cfg w k) a.step (fits (seen_by cfg w k) a.step (h k)) (let few = h k in omega (arith, few)))

not_above : (cfg : Config) (w : World) (k : ℕ) (l : Launched) → ((j : ℕ) → w.fence < j → w.master_past j ≡ []) → In l (seen_by cfg w k).launched → k ≤ w.fence
unfolding seen
not_above cfg w k l unborn i = by (nat_le k w.fence) refl
  where
    by : (b : Bool) → nat_le k w.fence ≡ b → k ≤ w.fence
    by true e = leb-true k w.fence e
    by false e = absurd (subst (λ h. In l (seen cfg k h).launched) (unborn k (leb-false k w.fence e)) i)

-- ---- what is so behind events that were taken

record Narrow (cfg : Config) (n : ℕ) (w : World) : Type 0 where
  fence : w.fence ≤ 1000
  bag : length w.bag ≤ MAX_PACKETS
  launched : (k : ℕ) → length (seen_by cfg w k).launched ≤ n

opening_narrow : (cfg : Config) → Narrow cfg 0 opening_world
unfolding seen
opening_narrow cfg = record { fence = omega arith; bag = omega arith; launched = λ k. omega arith }

within_parts : (cfg : Config) (w : World) (e : Event) → within cfg w e ≡ true → (fits_own w e ≡ true) × (fits_bag cfg w e ≡ true)
unfolding within
within_parts cfg w e h = let a = and_parts (fits_own w e) _ h in (a.0, (and_parts _ (fits_bag cfg w e) a.1).1)

module _ (sub : Submission) where
  abbrev cfg : Config
  cfg = config_of sub

  abbrev Can : List Event → Event → Type 0
  Can before e = CanHappen (record { config = cfg; events = before }) e

  fits_parts : (before : List Event) (e : Event) → Can before e → (length before < MAX_EVENTS) × (within cfg (run_of cfg before) e ≡ true)
  fits_parts before e can = let p = and_parts (nat_lt (length before) MAX_EVENTS) (within cfg (run_of cfg before) e) can.fits in (ltb-true (length before) MAX_EVENTS p.0, p.1)

  happens_is : (before : List Event) (e : Event) → Can before e → run_of cfg (before ++ e ∷ []) ≡ effect cfg (run_of cfg before) e
  unfolding happens
  happens_is before e can =
      let w = run_of cfg before in
      run-one cfg before e ∙ ap (λ o. cond (is_none o && within cfg w e) (effect cfg w e) w) can.now ∙ ap (λ b. cond b (effect cfg w e) w) (fits_parts before e can).1

  fence_small : (w : World) (e : Event) → w.fence ≤ 1000 → fits_own w e ≡ true → fence_after w e ≤ 1000
  fence_small w (Start k kept) h f = leb-true k MAX_APP_ATTEMPTS f
  fence_small w (Crash k kept) h f = h
  fence_small w (Duty k g) h f = h
  fence_small w (LaunchOn k t n) h f = h
  fence_small w (Deliver i) h f = h
  fence_small w (ContainerStep c g) h f = h
  fence_small w (Compute c bytes) h f = h
  fence_small w (Die c) h f = h
  fence_small w (NodeRestart n) h f = h
  fence_small w (Expire k n) h f = h

  narrow_after : (n : ℕ) (w : World) (e : Event) → Narrow cfg n w → within cfg w e ≡ true → Narrow cfg (suc n) (effect cfg w e)
  narrow_after n w e h f =
      let p = within_parts cfg w e f in
      let room = leb-true (length w.bag + length (sent cfg w e)) MAX_PACKETS p.1 in
      let both = length-append w.bag (sent cfg w e) in
      record { fence = fence_small w e h.fence p.0; bag = omega (arith, room, both); launched = few_after cfg n w e h.launched }

  -- ---- the words of an event
  module _ (narrow : IsNarrow sub) (before : List Event) (n : ℕ) (few : n ≤ MAX_EVENTS) (h : Narrow (config_of sub) n (run_of (config_of sub) before)) where
    abbrev w : World
    w = run_of cfg before

    generation : (k : ℕ) → w.is_master k ≡ true → IsGeneration k
    generation k e = let r = masters_are_raised.raised cfg (within cfg) before k e in let u = r.1 in let f = h.fence in (r.0, omega (arith, u, f))

    container : (c : ContainerId) → w.is_alive c ≡ true → IsContainer c
    container c alive =
        let known = (always cfg (within cfg) before).known in
        let at = open_place cfg w known.cluster c alive in
        let l = launched_as c at.0.attempt at.0.node at.0.incarnation in
        let first = ((numbers_of cfg (within cfg) before).ranged c.app l at.2).0 in
        let last = not_above cfg w c.app l known.honest.unborn at.2 in
        let number = (known.cluster.distinct c.app).numbers l at.2 in
        let many = h.launched c.app in
        let f = h.fence in
        ((first, omega (arith, last, f)), omega (arith, number, many, few))

    task_number : (kind : TaskKind) (m : ℕ) → m < tasks_of cfg kind → m < 2 ^ 32
    task_number Reduce m l = let r = narrow.reduces in omega (arith, l, r)
    task_number Map m l = let r = narrow.splits in omega (arith, l, r)

    node : (m : ℕ) → nat_lt m cfg.nodes ≡ true → m < 2 ^ 32
    node m e = let l = ltb-true m cfg.nodes e in let r = narrow.nodes in omega (arith, l, r)

    task : (t : TaskId) → is_task cfg t ≡ true → IsTaskOf sub.id t
    task t e = let p = and_parts (same_job t.job cfg.job) (nat_lt t.number (tasks_of cfg t.kind)) e in (same_job-true t.job cfg.job p.0, task_number t.kind t.number (ltb-true t.number (tasks_of cfg t.kind) p.1))

    lives : (c : ContainerId) (rest : Option _) → Rattle.mr_world_model.specs.Effect.unless (w.is_alive c) NoContainer rest ≡ None → IsContainer c
    lives c rest now = container c (unless_parts (w.is_alive c) NoContainer rest now).0

    packet : (i : ℕ) (o : Option Envelope) → slice_get w.bag i ≡ o → addressee w o ≡ None → i < 2 ^ 64
    packet i None is now = absurd (cc now)
    packet i (Some e) is now = let l = slice_get_within w.bag i e is in let b = h.bag in omega (arith, l, b)

    said : (e : Event) → Can before e → KeepsFew e → IsCommand sub.id (said_by e)
    unfolding not_now
    said (Start k kept) can small =
        let own = (within_parts cfg w (Start k kept) (fits_parts before (Start k kept) can).1).0 in
        let is = is_started cfg w k kept can.now in let most = leb-true k MAX_APP_ATTEMPTS own in
        ((omega (arith, is), most), small)
    said (Crash k kept) can small = (generation k (crash_master cfg w k kept can.now), small)
    said (Duty k f) can small = generation k (duty_master cfg w k f can.now)
    said (LaunchOn k t m) can small =
        let a = unless_parts (w.is_master k) NoMaster _ can.now in let b = unless_parts (is_running (seen_by cfg w k).phase) NotRunning _ a.1 in
        let c = unless_parts (is_task cfg t) NoTask _ b.1 in let d = unless_parts (nat_lt m cfg.nodes) NoNode (task_fault (seen_by cfg w k) t) c.1 in
        (generation k a.0, (task t c.0, node m d.0))
    said (Deliver i) can small = packet i (slice_get w.bag i) refl can.now
    said (ContainerStep c f) can small = lives c _ can.now
    said (Compute c bytes) can small = lives c _ can.now
    said (Die c) can small = lives c _ can.now
    said (NodeRestart m) can small = node m (unless_parts (nat_lt m cfg.nodes) NoNode None can.now).0
    said (Expire k m) can small =
        let a = unless_parts (w.is_master k) NoMaster _ can.now in let b = unless_parts (is_running (seen_by cfg w k).phase) NotRunning _ a.1 in
        (generation k a.0, node m (unless_parts (nat_lt m cfg.nodes) NoNode None b.1).0)

  all_said : (narrow : IsNarrow sub) (before es : List Event) → Narrow cfg (length before) (run_of cfg before) → AreRepeatable sub before es → CanBeSaid sub.id es
  all_said narrow before [] h are = tt
  all_said narrow before (e ∷ es) h are =
      let can = are.0.can in let f = fits_parts before e can in
      let one : length (before ++ e ∷ []) ≡ suc (length before) = let l = length-append before (e ∷ []) in omega (arith, l) in
      let next : Narrow cfg (length (before ++ e ∷ [])) (run_of cfg (before ++ e ∷ [])) =
      subst (λ m. Narrow cfg m (run_of cfg (before ++ e ∷ []))) (sym one) (subst (Narrow cfg (suc (length before))) (sym (happens_is before e can)) (narrow_after (length before) (run_of cfg before) e h f.1)) in
      let room = f.0 in
      (said narrow before (length before) (omega (arith, room)) h e can are.0.few, all_said narrow (before ++ e ∷ []) es next are.1)

pub runs_can_be_said_law : RunsCanBeSaid
unfolding Rattle.mr_world_model.specs.Effect.run
runs_can_be_said_law text sub es is are = all_said sub (jobs_are_narrow text sub is) [] es (opening_narrow (config_of sub)) are

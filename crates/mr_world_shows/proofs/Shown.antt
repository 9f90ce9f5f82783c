-- What is read of two alike worlds of runs is the same.
use Rattle.std.proofs.Common.{ℕ, ◌<◌, ◌≡◌, refl, sym, ◌∙◌, ap, arith, Bool, true, false, ◌&&◌, not, List, filter, length, nat_lt, slice_get, Option, Some, None, is_none, if◌then◌else◌}
use Rattle.std.specs.List.{find, flat_map, range_with_len}
use Rattle.std.specs.Option.{option_map}
use Rattle.mr_ids.specs.declared.id.TaskId.{TaskId}
use Rattle.mr_grant.specs.Attempts.{first_of}
use Rattle.mr_history.specs.Recorded.{tail_width}
use Rattle.mr_container.specs.Readings as container_readings
use Rattle.mr_master_model.specs.declared.setting.Setting.{Setting}
use Rattle.mr_master_model.specs.Job.{all_maps, all_reduces}
use Rattle.mr_master_model.specs.Past as machine
use Rattle.mr_master_model.specs.Readings as read
use Rattle.mr_master_model.specs.Readings.{is_running, of_task, or_else, wants_launch}
use Rattle.mr_world_model.specs.Ids.{ContainerId, is_reduce}
use Rattle.mr_world_model.specs.Packets.{Config}
use Rattle.mr_world_model.specs.Pasts.{Place, Step, wish, wish_of_seen, fetched}
use Rattle.mr_world_model.specs.Effect.{wants_compute}
use Rattle.mr_world_model.specs.Wanted.{wanted}
use Rattle.mr_world_model.specs.World.{World, Event, duty, seen_by}
use Rattle.mr_world_model.specs.Claims.{Limits, world_of}
use Rattle.mr_world_model.specs.Sequential as sequential
use Rattle.mr_world_model.proofs.Cluster.{open_place, launched_as}
use Rattle.mr_world_model.proofs.Living.{masters_are_raised}
use Rattle.mr_world_model.proofs.Made.{pasts_are_made}
use Rattle.mr_world_model.proofs.Ranges.{always-placed}
use Rattle.mr_master_refinement.specs.Steps.{setting}
use Rattle.mr_master_refinement.specs.Works.{phase_of, named}
use Rattle.mr_master_refinement.specs.Agreement.{machine_seen}
use Rattle.mr_master_refinement.specs.MastersAgree.{MasterAgrees}
use Rattle.mr_master_refinement.proofs.Whole.{masters_agree}
use Rattle.mr_world_alike.specs.Masters.{SameMasters}
use Rattle.mr_world_alike.specs.Alike.{Alike}
use Rattle.mr_world_alike.proofs.Shown.{reads-at, lives-same, all-same, duty-same}
use Rattle.mr_world.specs.Readings.{wish_by, launched_by, living}
use Rattle.mr_world_shows.specs.Shows.{AlikeWorldsShowTheSame}
use Rattle.mr_world_shows.proofs.Order.{Below, trimmed, blocks-same}

-- the task that a machine launches next
wants-same : (w : Setting) (r s : read.Seen) → SameMasters w r s → (t : TaskId) → wants_launch (of_task w r t) ≡ wants_launch (of_task w s t)
wants-same w r s e t =
    let q = reads-at w r s e t in
    let l = lives-same w r s e t in
    λ i. is_none (first_of (l i)) && (not (q.won i) && nat_lt (q.numbered i) 1000)

wanted-same : (w : Setting) (r s : read.Seen) → SameMasters w r s → read.wanted w r ≡ read.wanted w s
wanted-same w r s e =
    let maps = all-same w r s e (all_maps w) in
    λ i. if not (is_running (e.work i)) then None else
    or_else (find (λ t. wants-same w r s e t i) (all_maps w))
    (if maps i then find (λ t. wants-same w r s e t i) (all_reduces w) else None)

-- of whoever lives, by a test that is the same
if-lives : {A : Type 0} (b c : Bool) (x y : Option A) → b ≡ c → (b ≡ true → x ≡ y) → (if b then x else None) ≡ (if c then y else None)
if-lives {A} true c x y p f = f refl ∙ ap (λ (d : Bool). if d then y else None) p
if-lives {A} false c x y p f = ap (λ (d : Bool). if d then y else None) p

-- who lives has a number below how many its master launched
number-below : (cfg : Config) (within : Limits) (es : List Event) (c : ContainerId) → (world_of cfg within es).is_alive c ≡ true → c.number < length (seen_by cfg (world_of cfg within es) c.app).launched
number-below cfg within es c t =
    let known = (always-placed cfg within es).sures.known in
    let at = open_place cfg (world_of cfg within es) known.cluster c t in
    (known.cluster.distinct c.app).numbers (launched_as c at.0.attempt at.0.node at.0.incarnation) at.2

-- its input, by what is read off its past
input-at : (cfg : Config) (p : Place) (g h : List Step) → container_readings.seen (length cfg.splits) p.attempt g ≡ container_readings.seen (length cfg.splits) p.attempt h → sequential.input_at cfg (Some p) g ≡ sequential.input_at cfg (Some p) h
unfolding wish fetched
input-at cfg p g h q = λ i.
    if wants_compute (wish_of_seen (q i))
    then (if is_reduce p.attempt then Some (sequential.Pieces p.attempt.task.number (q i).pieces.blocks) else option_map (sequential.Split p.attempt.task.number) (slice_get cfg.splits p.attempt.task.number))
    else None

module _ (cfg : Config) (within : Limits) (es fs : List Event) (e : Alike cfg (world_of cfg within es) (world_of cfg within fs)) where
  abbrev W : World
  W = world_of cfg within es

  abbrev U : World
  U = world_of cfg within fs

  -- ---- masters

  here : (k : ℕ) → MasterAgrees cfg k (seen_by cfg W k) (machine_seen cfg k (W.master_past k))
  here k = masters_agree cfg k (W.master_past k) (pasts_are_made.made cfg within es k)

  there : (k : ℕ) → MasterAgrees cfg k (seen_by cfg U k) (machine_seen cfg k (U.master_past k))
  there k = masters_agree cfg k (U.master_past k) (pasts_are_made.made cfg within fs k)

  pub phase-same : (k : ℕ) → W.is_master k ≡ true → phase_of (seen_by cfg W k).phase ≡ phase_of (seen_by cfg U k).phase
  phase-same k t = let a = here k in let b = there k in let m = e.masters k t in sym a.point.phase ∙ (ap (λ (x : machine.Work). machine.phase_of x) m.work ∙ b.point.phase)

  pub due-same : (k : ℕ) → W.is_master k ≡ true → named (seen_by cfg W k).phase (duty cfg W k) ≡ named (seen_by cfg U k).phase (duty cfg U k)
  due-same k t =
      let a = here k in
      let b = there k in
      sym a.point.duty ∙ (duty-same (setting cfg k) (machine_seen cfg k (W.master_past k)) (machine_seen cfg k (U.master_past k)) (e.masters k t) ∙ b.point.duty)

  pub next-same : (k : ℕ) → W.is_master k ≡ true → wanted cfg (seen_by cfg W k) ≡ wanted cfg (seen_by cfg U k)
  next-same k t =
      let a = here k in
      let b = there k in
      sym a.wanted ∙ (wanted-same (setting cfg k) (machine_seen cfg k (W.master_past k)) (machine_seen cfg k (U.master_past k)) (e.masters k t) ∙ b.wanted)

  unflushed-same : (k : ℕ) → W.is_master k ≡ true → tail_width (W.history k) ≡ tail_width (U.history k)
  unflushed-same k t = let at = masters_are_raised.raised cfg within es k t in let h = e.history k at.0 at.1 in λ i. tail_width (h i)

  -- ---- containers

  pub place-same : (c : ContainerId) → W.is_alive c ≡ true → W.place c ≡ U.place c
  place-same c t =
      let o = e.containers c t in
      let x : W.place c ≡ Some o.machine.place = o.one.place ∙ ap Some (sym o.one.stands.place) in
      let y : U.place c ≡ Some o.machine.place = o.other.place ∙ ap Some (sym o.other.stands.place) in
      x ∙ sym y

  pub seen-same : (c : ContainerId) (t : W.is_alive c ≡ true) → container_readings.seen (length cfg.splits) (e.containers c t).machine.place.attempt (W.container_past c) ≡ container_readings.seen (length cfg.splits) (e.containers c t).machine.place.attempt (U.container_past c)
  seen-same c t =
      let o = e.containers c t in
      let x = ap (λ (p : Place). container_readings.seen (length cfg.splits) p.attempt (W.container_past c)) o.one.stands.place in
      let y = ap (λ (p : Place). container_readings.seen (length cfg.splits) p.attempt (U.container_past c)) o.other.stands.place in
      x ∙ (sym o.one.stands.seen ∙ (o.other.stands.seen ∙ sym y))

  pub wish-same : (c : ContainerId) → W.is_alive c ≡ true → wish_by cfg (W.place c) (W.container_past c) ≡ wish_by cfg (U.place c) (U.container_past c)
  wish-same c t =
      let o = e.containers c t in
      let x : W.place c ≡ Some o.machine.place = o.one.place ∙ ap Some (sym o.one.stands.place) in
      let y : U.place c ≡ Some o.machine.place = o.other.place ∙ ap Some (sym o.other.stands.place) in
      ap (λ (p : Option Place). wish_by cfg p (W.container_past c)) x
      ∙ (ap (λ (s : container_readings.Seen). s.wish) (seen-same c t) ∙ sym (ap (λ (p : Option Place). wish_by cfg p (U.container_past c)) y))

  pub input-same : (c : ContainerId) → W.is_alive c ≡ true → sequential.input_of cfg W c ≡ sequential.input_of cfg U c
  input-same c t =
      let o = e.containers c t in
      let x : W.place c ≡ Some o.machine.place = o.one.place ∙ ap Some (sym o.one.stands.place) in
      let y : U.place c ≡ Some o.machine.place = o.other.place ∙ ap Some (sym o.other.stands.place) in
      ap (λ (p : Option Place). sequential.input_at cfg p (W.container_past c)) x
      ∙ (input-at cfg o.machine.place (W.container_past c) (U.container_past c) (seen-same c t) ∙ sym (ap (λ (p : Option Place). sequential.input_at cfg p (U.container_past c)) y))

  lives-are : living cfg W ≡ living cfg U
  unfolding living
  lives-are =
      (λ i. filter (λ c. e.is_alive c i) (flat_map (launched_by cfg W) (range_with_len 1 (e.fence i))))
      ∙ blocks-same U.is_alive (launched_by cfg W) (launched_by cfg U) (λ k. trimmed U.is_alive k 0 (length (seen_by cfg W k).launched) (length (seen_by cfg U k).launched) (below k)) (range_with_len 1 U.fence)
    where
      below : (k : ℕ) → Below U.is_alive k 0 (length (seen_by cfg W k).launched) (length (seen_by cfg U k).launched)
      below k i t =
          let x = number-below cfg within es (record { app = k; number = i }) (e.is_alive (record { app = k; number = i }) ∙ t) in
          let y = number-below cfg within fs (record { app = k; number = i }) t in
          (omega (arith, x), omega (arith, y))

pub show_the_same : AlikeWorldsShowTheSame
show_the_same cfg within es fs e = record {
  phases = λ k. if-lives ((world_of cfg within es).is_master k) ((world_of cfg within fs).is_master k) (Some (phase_of (seen_by cfg (world_of cfg within es) k).phase)) (Some (phase_of (seen_by cfg (world_of cfg within fs) k).phase)) (e.is_master k) (λ t. ap Some (phase-same cfg within es fs e k t));
  due = due-same cfg within es fs e;
  wanted = λ k. if-lives ((world_of cfg within es).is_master k) ((world_of cfg within fs).is_master k) (wanted cfg (seen_by cfg (world_of cfg within es) k)) (wanted cfg (seen_by cfg (world_of cfg within fs) k)) (e.is_master k) (next-same cfg within es fs e k);
  unflushed = λ k. if-lives ((world_of cfg within es).is_master k) ((world_of cfg within fs).is_master k) (Some (tail_width ((world_of cfg within es).history k))) (Some (tail_width ((world_of cfg within fs).history k))) (e.is_master k) (λ t. ap Some (unflushed-same cfg within es fs e k t));
  places = λ c. if-lives ((world_of cfg within es).is_alive c) ((world_of cfg within fs).is_alive c) ((world_of cfg within es).place c) ((world_of cfg within fs).place c) (e.is_alive c) (place-same cfg within es fs e c);
  wishes = λ c. if-lives ((world_of cfg within es).is_alive c) ((world_of cfg within fs).is_alive c) (Some (wish_by cfg ((world_of cfg within es).place c) ((world_of cfg within es).container_past c))) (Some (wish_by cfg ((world_of cfg within fs).place c) ((world_of cfg within fs).container_past c))) (e.is_alive c) (λ t. ap Some (wish-same cfg within es fs e c t));
  inputs = λ c. if-lives ((world_of cfg within es).is_alive c) ((world_of cfg within fs).is_alive c) (sequential.input_of cfg (world_of cfg within es) c) (sequential.input_of cfg (world_of cfg within fs) c) (e.is_alive c) (input-same cfg within es fs e c);
  lives = lives-are cfg within es fs e;
}

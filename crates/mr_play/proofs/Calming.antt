-- What a calm makes next is permitted.
use Rattle.std.proofs.Common.{◌≡◌, ℕ, zero, suc, ◌+◌, ◌<◌, ◌≤◌, ◌%◌, Bool, true, false, ◌||◌, not, cond, List, [], ◌∷◌, filter, length, drop, slice_get, get_or, Option, Some, None, is_some, option_map, nat_lt, nat_le, refl, sym, ap, subst, ◌∙◌, arith, length-drop, ltb-true, leb-true}
use Rattle.std.proofs.lemmas.Bool.{lt-ltb}
use Rattle.std.proofs.lemmas.Nat.{mod_below}
use Rattle.std.proofs.lemmas.Option.{slice_get-get_or}
use Rattle.std.specs.Option.{option_or}
use Rattle.std.specs.List.{AllByRecursion, flat_map, range_with_len}
use Rattle.mr_ids.specs.declared.id.TaskKind.{TaskKind}
use Rattle.mr_ids.specs.declared.id.TaskKind.TheVariants.{Map, Reduce}
use Rattle.mr_packet.specs.declared.packet.ContainerId.{ContainerId}
use Rattle.mr_packet.specs.declared.packet.Envelope.{Envelope}
use Rattle.mr_mapside.specs.Cutting.{cut}
use Rattle.mr_world_events.specs.declared.why.Why.{Why}
use Rattle.mr_world_events.specs.declared.why.Why.TheVariants as why
use Rattle.mr_world_model.specs.Ids.{of_reduces}
use Rattle.mr_world_model.specs.Packets.{Config, Store}
use Rattle.mr_world_model.specs.Pasts.{Place, wish, fetched}
use Rattle.mr_world_model.specs.World.{World, Event, Calm, Compute, ContainerStep, Deliver, Die, Duty, LaunchOn, duty, seen_by, wish_at, wish_of}
use Rattle.mr_world_model.specs.Effect.{addressee, unless, not_now, wants_compute, is_blocks, tasks_of}
use Rattle.mr_world_model.specs.Claims.{Limits, world_of}
use Rattle.mr_world_model.specs.Sequential.{Job, JobLaws, Input, Split, Pieces, given, input_at, input_of, made_of, most_output}
use Rattle.mr_world_model.specs.Wanted.{wanted}
use Rattle.mr_world_model.proofs.Cluster.{open_place}
use Rattle.mr_world_model.proofs.Ranges.{always-placed}
use Rattle.mr_world_model.proofs.Wanted.{wanted_may_be_launched}
use Rattle.mr_master_refinement.specs.Works.{named}
use Rattle.mr_world.specs.Readings.{living, launched_by, is_behind, next_living}
use Rattle.mr_play.specs.Played.{Next, is_dropped, passed, cursor_at, has_ended, is_through, result_of, computed_of, computing, stepping, next_packet, next_duty, next_launch, next_step, next_of}
use Rattle.mr_play.specs.Laws.{CalmsArePermitted}

some_is : {A : Type 0} (x y : A) → Some x ≡ Some y → x ≡ y
some_is x y e = cc

none_is : {A : Type 0} (x : A) → None ≡ Some x → ⊥
none_is x e = cc

-- ---- lists

at_drop : {A : Type 0} (n : ℕ) (xs : List A) (i : ℕ) → slice_get (drop n xs) i ≡ slice_get xs (n + i)
at_drop zero xs i = ap (slice_get xs) (omega arith)
at_drop (suc n) [] i = refl
at_drop (suc n) (x ∷ xs) i = at_drop n xs i ∙ ap (slice_get (x ∷ xs)) (let e : suc (n + i) ≡ suc n + i = omega arith in e)

pub all_pass : {A : Type 0} (t : A → Bool) (xs : List A) → AllByRecursion (λ x. t x ≡ true) (filter t xs)
all_pass t [] = tt
all_pass t (x ∷ xs) = elim (t x) as (λ b. t x ≡ b → AllByRecursion (λ x. t x ≡ true) (cond b (x ∷ filter t xs) (filter t xs))) [ true ↦ λ e. (e, all_pass t xs) | false ↦ λ e. all_pass t xs ] refl

all_kept : {A : Type 0} (P : A → Type 0) (t : A → Bool) (xs : List A) → AllByRecursion P xs → AllByRecursion P (filter t xs)
all_kept P t [] h = tt
all_kept P t (x ∷ xs) h = elim (t x) as (λ b. AllByRecursion P (cond b (x ∷ filter t xs) (filter t xs))) [ true ↦ (h.0, all_kept P t xs h.1) | false ↦ all_kept P t xs h.1 ]

first_has : {A : Type 0} (P : A → Type 0) (xs : List A) (x : A) → slice_get xs 0 ≡ Some x → AllByRecursion P xs → P x
first_has P [] x e h = absurd (none_is x e)
first_has P (y ∷ xs) x e h = subst P (some_is y x e) h.0

pub next_has : (P : ContainerId → Type 0) (cs : List ContainerId) (last : Option ContainerId) (c : ContainerId) → next_living cs last ≡ Some c → AllByRecursion P cs → P c
next_has P cs last c e h = by (slice_get (filter (is_behind last) cs) 0) refl e where
  by : (o : Option ContainerId) → slice_get (filter (is_behind last) cs) 0 ≡ o → option_or o (slice_get cs 0) ≡ Some c → P c
  by None is e = first_has P cs c e h
  by (Some d) is e = first_has P (filter (is_behind last) cs) c (is ∙ e) (all_kept P (is_behind last) cs h)

-- the first packet that is not passed over goes to someone
addressed : (w : World) (dropped : List ℕ) (n : ℕ) (xs : List Envelope) → passed w dropped n xs < length xs → addressee w (slice_get xs (passed w dropped n xs)) ≡ None
addressed w dropped n [] l = absurd (omega arith)
addressed w dropped n (x ∷ xs) l = by (is_dropped dropped n) (addressee w (Some x)) refl l (λ m. addressed w dropped (suc n) xs m) where
  rest : ℕ
  rest = passed w dropped (suc n) xs

  by : (b : Bool) (o : Option Why) → addressee w (Some x) ≡ o → cond (b || is_some o) (suc rest) 0 < suc (length xs) → (rest < length xs → addressee w (slice_get xs rest) ≡ None) → addressee w (slice_get (x ∷ xs) (cond (b || is_some o) (suc rest) 0)) ≡ None
  by true o is l go = go (omega arith)
  by false None is l go = is
  by false (Some reason) is l go = go (omega arith)

module _ (job : Job) (cfg : Config) (within : Limits) (laws : JobLaws job cfg) (some_node : 0 < cfg.nodes) (es : List Event) where
  abbrev w : World
  w = world_of cfg within es

  abbrev Good : Option Event → Type 0
  Good o = (e : Event) → o ≡ Some e → not_now cfg w e ≡ None

  abbrev Fine : Option Next → Type 0
  Fine o = (next : Next) → o ≡ Some next → Good next.event

  or_fine : (a b : Option Next) → Fine a → Fine b → Fine (option_or a b)
  or_fine None b f g next e = g next e
  or_fine (Some x) b f g next e = f next e

  made_fine : {A : Type 0} (f : A → Next) (o : Option A) → ((x : A) → o ≡ Some x → Good (f x).event) → Fine (option_map f o)
  made_fine f None good next e = absurd (none_is next e)
  made_fine f (Some x) good next e = subst (λ (n : Next). Good n.event) (some_is (f x) next e) (good x refl)

  one_good : (e : Event) → not_now cfg w e ≡ None → Good (Some e)
  one_good e h f is = subst (λ e. not_now cfg w e ≡ None) (some_is e f is) h

  unless_true : (b : Bool) (reason : Why) (rest : Option Why) → b ≡ true → unless b reason rest ≡ rest
  unless_true true reason rest e = refl
  unless_true false reason rest e = absurd cc

  -- a packet
  packet_fine : (last : Option ContainerId) (dropped : List ℕ) (n : ℕ) → Fine (next_packet job cfg within w last (cursor_at w dropped n))
  unfolding not_now
  packet_fine last dropped n next e = by (nat_lt (cursor_at w dropped n) (length w.bag)) refl e where
    by : (b : Bool) → nat_lt (cursor_at w dropped n) (length w.bag) ≡ b → cond b (Some (record { names = []; event = Some (Deliver (cursor_at w dropped n)); stepped = last; cursor = cursor_at w dropped n + 1 })) None ≡ Some next → Good next.event
    by false is e = absurd (none_is next e)
    by true is e =
        let less = ltb-true (cursor_at w dropped n) (length w.bag) is in
        let left = length-drop n w.bag in
        let there = addressed w dropped n (drop n w.bag) (omega arith) in
        subst (λ (x : Next). Good x.event) (some_is _ next e) (one_good (Deliver (cursor_at w dropped n)) (ap (addressee w) (sym (at_drop n w.bag (passed w dropped n (drop n w.bag)))) ∙ there))

  -- a duty
  due_now : (k : ℕ) (call : Store) → w.is_master k ≡ true → duty cfg w k ≡ Some call → not_now cfg w (Duty k Calm) ≡ None
  unfolding not_now
  due_now k call alive is = unless_true (w.is_master k) why.NoMaster _ alive ∙ unless_true (is_some (duty cfg w k)) why.NoDuty None (ap is_some is)

  duty_fine : (k : ℕ) (last : Option ContainerId) (at : ℕ) → w.is_master k ≡ true → Fine (next_duty job cfg within w k last at)
  duty_fine k last at alive = made_fine _ (named (seen_by cfg w k).phase (duty cfg w k)) (λ d is. one_good (Duty k Calm) (due (duty cfg w k) refl d is)) where
    due : (o : Option Store) → duty cfg w k ≡ o → (d : _) → named (seen_by cfg w k).phase o ≡ Some d → not_now cfg w (Duty k Calm) ≡ None
    due None is d e = absurd (none_is d e)
    due (Some call) is d e = due_now k call alive is

  -- a launch
  launch_fine : (k : ℕ) (last : Option ContainerId) (at : ℕ) → w.is_master k ≡ true → Fine (next_launch job cfg within w k last at)
  launch_fine k last at alive = made_fine _ (wanted cfg (seen_by cfg w k)) (λ t is.
      one_good (LaunchOn k t (t.number % cfg.nodes)) (wanted_may_be_launched.may cfg w k (t.number % cfg.nodes) t alive (lt-ltb (t.number % cfg.nodes) cfg.nodes (mod_below t.number cfg.nodes some_node)) is))

  module _ (c : ContainerId) (alive : w.is_alive c ≡ true) where
    step_now : wants_compute (wish_of cfg w c) ≡ false → not_now cfg w (ContainerStep c Calm) ≡ None
    unfolding not_now
    step_now other = unless_true (w.is_alive c) why.NoContainer _ alive ∙ unless_true (not (wants_compute (wish_of cfg w c))) why.WrongWish _ (ap not other)

    step_good : wants_compute (wish_of cfg w c) ≡ false → Good (Some (ContainerStep c Calm))
    step_good other = one_good (ContainerStep c Calm) (step_now other)

    module _ (wants : wants_compute (wish_of cfg w c) ≡ true) (p : Place) (place : w.place c ≡ Some p) (number : p.attempt.task.number < tasks_of cfg p.attempt.task.kind) where
      bytes_good : (bytes : List ℕ) → is_blocks cfg (Some p) bytes ≡ true → not_now cfg w (Compute c bytes) ≡ None
      unfolding not_now
      bytes_good bytes h =
          unless_true (w.is_alive c) why.NoContainer _ alive ∙ unless_true (wants_compute (wish_of cfg w c)) why.WrongWish _ wants
          ∙ unless_true (is_blocks cfg (w.place c) bytes) why.NotBlocks None (ap (λ o. is_blocks cfg o bytes) place ∙ h)

      death_good : not_now cfg w (Die c) ≡ None
      unfolding not_now
      death_good = unless_true (w.is_alive c) why.NoContainer None alive

      result_good : (o : Option (List ℕ)) → ((bytes : List ℕ) → o ≡ Some bytes → length bytes ≤ most_output → is_blocks cfg (Some p) bytes ≡ true) → Good (result_of job cfg within c o)
      result_good None h = one_good (Die c) death_good
      result_good (Some bytes) h = by (nat_le (length bytes) most_output) refl where
        by : (b : Bool) → nat_le (length bytes) most_output ≡ b → Good (cond b (Some (Compute c bytes)) None)
        by true is e f = one_good (Compute c bytes) (bytes_good bytes (h bytes refl (leb-true (length bytes) most_output is))) e f
        by false is e f = absurd (none_is e f)

      blocks_made : (m : ℕ) (split bytes : List ℕ) → job.output cfg.reduces m split ≡ Some bytes → length bytes ≤ most_output → is_some (cut cfg.reduces bytes) ≡ true
      blocks_made m split bytes e l = let made = laws.output_is_its_blocks m split bytes e l in ap is_some made.1

      input_good : (kind : TaskKind) → p.attempt.task.kind ≡ kind → Good (computed_of job cfg within c (given cfg p.attempt (w.container_past c)))
      input_good Reduce is =
          subst (λ (o : Option Input). Good (computed_of job cfg within c o)) (sym (ap (λ k. cond (of_reduces k) (Some (Pieces p.attempt.task.number (fetched (length cfg.splits) p.attempt (w.container_past c)))) (option_map (Split p.attempt.task.number) (slice_get cfg.splits p.attempt.task.number))) is))
          (result_good (made_of job cfg (Pieces p.attempt.task.number (fetched (length cfg.splits) p.attempt (w.container_past c)))) (λ bytes e l. ap (λ k. of_reduces k || is_some (cut cfg.reduces bytes)) is))
      input_good Map is =
          let below : p.attempt.task.number < length cfg.splits = subst (λ k. p.attempt.task.number < tasks_of cfg k) is number in
          let split = get_or cfg.splits p.attempt.task.number [] in
          let there = slice_get-get_or cfg.splits p.attempt.task.number [] below in
          subst (λ (o : Option Input). Good (computed_of job cfg within c o))
          (sym (ap (λ k. cond (of_reduces k) (Some (Pieces p.attempt.task.number (fetched (length cfg.splits) p.attempt (w.container_past c)))) (option_map (Split p.attempt.task.number) (slice_get cfg.splits p.attempt.task.number))) is ∙ ap (option_map (Split p.attempt.task.number)) there))
          (result_good (made_of job cfg (Split p.attempt.task.number split)) (λ bytes e l. ap (λ k. of_reduces k || is_some (cut cfg.reduces bytes)) is ∙ blocks_made p.attempt.task.number split bytes e l))

      computes_good : Good (computing job cfg within w c)
      computes_good =
          let wants_it : wants_compute (wish (length cfg.splits) p.attempt (w.container_past c)) ≡ true = ap (λ o. wants_compute (wish_at cfg c o (w.container_past c))) (sym place) ∙ wants in
          let input : cond (w.is_alive c) (input_of cfg w c) None ≡ given cfg p.attempt (w.container_past c) =
          ap (λ b. cond b (input_of cfg w c) None) alive ∙ ap (λ o. input_at cfg o (w.container_past c)) place ∙ ap (λ b. cond b (given cfg p.attempt (w.container_past c)) None) wants_it in
          subst (λ (o : Option Input). Good (computed_of job cfg within c o)) (sym input) (input_good p.attempt.task.kind refl)

  -- a step
  stepping_good : (c : ContainerId) → w.is_alive c ≡ true → Good (stepping job cfg within w c)
  stepping_good c alive = by (wants_compute (wish_of cfg w c)) refl where
    by : (b : Bool) → wants_compute (wish_of cfg w c) ≡ b → Good (cond b (computing job cfg within w c) (Some (ContainerStep c Calm)))
    by false is = step_good c alive is
    by true is =
        let all = always-placed cfg within es in
        let at = open_place cfg w all.sures.known.cluster c alive in
        computes_good c alive is at.0 at.1 (all.launched c.app _ at.2).number

  step_fine : (last : Option ContainerId) (at : ℕ) → Fine (next_step job cfg within w last at)
  unfolding living
  step_fine last at = made_fine _ (next_living (living cfg w) last) (λ c is.
      stepping_good c (next_has (λ c. w.is_alive c ≡ true) (living cfg w) last c is (all_pass w.is_alive (flat_map (launched_by cfg w) (range_with_len 1 w.fence)))))

  next_fine : (k : ℕ) (last : Option ContainerId) (dropped : List ℕ) (n : ℕ) → is_through cfg w k ≡ false → Fine (next_of job cfg within w k last (cursor_at w dropped n))
  next_fine k last dropped n on =
      let at = cursor_at w dropped n in
      let alive : w.is_master k ≡ true = lives (w.is_master k) (has_ended (seen_by cfg w k).phase) on in
      or_fine (next_packet job cfg within w last at) _ (packet_fine last dropped n)
      (or_fine (next_duty job cfg within w k last at) _ (duty_fine k last at alive)
      (or_fine (next_launch job cfg within w k last at) (next_step job cfg within w last at) (launch_fine k last at alive) (step_fine last at))) where
        lives : (b t : Bool) → (not b || t) ≡ false → b ≡ true
        lives true t e = refl
        lives false t e = absurd cc

pub calms_are_permitted_law : CalmsArePermitted
calms_are_permitted_law job cfg within laws some s k next e on is event = next_fine job cfg within laws some s.events k s.stepped s.dropped s.cursor on next is e event

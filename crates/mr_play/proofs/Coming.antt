-- What a calm makes next, as the code finds it.
use Rattle.std.proofs.Common.{◌≡◌, ◌+◌, ◌<◌, ◌≤◌, ◌||◌, ℕ, zero, suc, Bool, true, false, not, cond, List, [], ◌∷◌, length, drop, slice_get, Option, Some, None, option_map, is_some, refl, sym, ap, ◌∙◌, arith}
use Rattle.std.proofs.lemmas.Bool.{lt-ltb, le-ltb}
use Rattle.std.specs.Option.{option_or, option_to_list}
use Rattle.std.specs.List.{flat_map, range_with_len}
use Rattle.mr_ids.specs.declared.id.TaskId.{TaskId}
use Rattle.mr_packet.specs.declared.packet.ContainerId.{ContainerId}
use Rattle.mr_container.specs.declared.wish.Wish as container_wish
use Rattle.mr_container.specs.declared.wish.Wish.TheVariants as wished
use Rattle.mr_container.specs.Readings as container
use Rattle.mr_master_model.specs.declared.phase.DutyName.{DutyName}
use Rattle.mr_master_model.specs.Duty.{Duty}
use Rattle.mr_world_model.specs.Packets.{Config}
use Rattle.mr_world_model.specs.Pasts.{Place, Step, wish}
use Rattle.mr_world_model.specs.World.{World, Event, Calm, ContainerStep, duty, seen_by, wish_at, wish_of}
use Rattle.mr_world_model.specs.Effect.{addressee, wants_compute}
use Rattle.mr_world_model.specs.Claims.{Limits}
use Rattle.mr_world_model.specs.Sequential.{Job}
use Rattle.mr_world_model.specs.Wanted.{wanted}
use Rattle.mr_master_refinement.specs.Works.{named}
use Rattle.mr_world.specs.Readings.{due_in, wanted_in, wish_by, wish_in, living, launched_by, next_living}
use Rattle.mr_play.specs.declared.calm.Coming.{Coming}
use Rattle.mr_play.specs.declared.calm.Coming.TheVariants as coming
use Rattle.mr_play.specs.EventNames.{duty_event, wish_event}
use Rattle.mr_play.specs.Played.{Next, computing, cursor_at, has_ended, is_dropped, is_through, next_duty, next_launch, next_of, next_step, passed, stepping}
use Rattle.mr_play.specs.Players.{next_as}
use Rattle.mr_play.proofs.Calming.{all_pass, next_has}

some_is : {A : Type 0} (x y : A) → Some x ≡ Some y → x ≡ y
some_is x y e = cc

none_is : {A : Type 0} (x : A) → None ≡ Some x → ⊥
none_is x e = cc

-- ---- the cursor

-- past the last packet nothing is passed
at_end : {A : Type 0} (n : ℕ) (xs : List A) → length xs ≤ n → drop n xs ≡ []
at_end zero [] l = refl
at_end zero (x ∷ xs) l = absurd (omega arith)
at_end (suc n) [] l = refl
at_end (suc n) (x ∷ xs) l = at_end n xs (omega arith)

pub cursor_end : (w : World) (dropped : List ℕ) (n : ℕ) → length w.bag ≤ n → cursor_at w dropped n ≡ n
cursor_end w dropped n l = ap (λ xs. n + passed w dropped n xs) (at_end n w.bag l) ∙ (let e : n + 0 ≡ n = omega arith in e)

front_is : {A : Type 0} (n : ℕ) (xs : List A) (x : A) → slice_get xs n ≡ Some x → drop n xs ≡ x ∷ drop (suc n) xs
front_is zero [] x e = absurd (none_is x e)
front_is zero (y ∷ ys) x e = ap (λ z. z ∷ ys) (some_is y x e)
front_is (suc n) [] x e = absurd (none_is x e)
front_is (suc n) (y ∷ ys) x e = front_is n ys x e

there : {A : Type 0} (n : ℕ) (xs : List A) → n < length xs → (x : A) × (slice_get xs n ≡ Some x)
there n [] l = absurd (omega arith)
there zero (x ∷ xs) l = (x, refl)
there (suc n) (x ∷ xs) l = there n xs (omega arith)

module _ (w : World) (dropped : List ℕ) (n : ℕ) (l : n < length w.bag) where
  -- whether the packet at the cursor is passed over
  abbrev pub passes : Bool
  passes = is_dropped dropped n || is_some (addressee w (slice_get w.bag n))

  here : (b : Bool) → passes ≡ b → cursor_at w dropped n ≡ n + cond b (suc (passed w dropped (suc n) (drop (suc n) w.bag))) 0
  here b e =
      let x = there n w.bag l in
      let is : (is_dropped dropped n || is_some (addressee w (Some x.0))) ≡ b = ap (λ o. is_dropped dropped n || is_some (addressee w o)) (sym x.1) ∙ e in
      ap (λ xs. n + passed w dropped n xs) (front_is n w.bag x.0 x.1) ∙ ap (λ b. n + cond b (suc (passed w dropped (suc n) (drop (suc n) w.bag))) 0) is

  -- a packet that is not passed over stays at the cursor
  pub cursor_stays : passes ≡ false → cursor_at w dropped n ≡ n
  cursor_stays e = here false e ∙ (let z : n + 0 ≡ n = omega arith in z)

  -- behind one that is, the cursor comes to the same place
  pub cursor_goes : passes ≡ true → cursor_at w dropped (n + 1) ≡ cursor_at w dropped n
  cursor_goes e =
      let next : suc n ≡ n + 1 = omega arith in
      let p = passed w dropped (suc n) (drop (suc n) w.bag) in
      let z : n + suc p ≡ suc n + p = omega arith in
      sym (here true e ∙ z ∙ ap (cursor_at w dropped) next)

-- ---- what is next

-- a master that is not through is alive
pub through_alive : (cfg : Config) (w : World) (k : ℕ) → is_through cfg w k ≡ false → w.is_master k ≡ true
through_alive cfg w k on = by (w.is_master k) (has_ended (seen_by cfg w k).phase) on where
  by : (b t : Bool) → (not b || t) ≡ false → b ≡ true
  by true t e = refl
  by false t e = absurd cc

module _ (job : Job) (cfg : Config) (limits : Limits) (w : World) (k : ℕ) (last : Option ContainerId) (at : ℕ) where
  pub packet_is : at < length w.bag → Some (next_as job cfg limits w k last at coming.Deliver) ≡ next_of job cfg limits w k last at
  packet_is l = rw (lt-ltb at (length w.bag) l) refl

  rest_of : length w.bag ≤ at → next_of job cfg limits w k last at ≡ option_or (next_duty job cfg limits w k last at) (option_or (next_launch job cfg limits w k last at) (next_step job cfg limits w last at))
  rest_of l = rw (le-ltb at (length w.bag) l) refl

  abbrev duty_as : Duty → Next
  duty_as d = record { names = duty_event d.name ∷ []; event = Some (Rattle.mr_world_model.specs.World.Duty k Calm); stepped = last; cursor = at }

  due_some : (o : Option Duty) (d : DutyName) → option_map (λ (x : Duty). x.name) o ≡ Some d → option_map duty_as o ≡ Some (next_as job cfg limits w k last at (coming.Duty (duty_event d)))
  due_some None d e = absurd (none_is d e)
  due_some (Some x) d e = ap (λ n. Some (next_as job cfg limits w k last at (coming.Duty (duty_event n)))) (some_is x.name d e)

  due_none : (o : Option Duty) → option_map (λ (x : Duty). x.name) o ≡ None → option_map duty_as o ≡ None
  due_none None e = refl
  due_none (Some x) e = absurd (none_is x.name (sym e))

  due_alive : w.is_master k ≡ true → due_in cfg w k ≡ option_map (λ (x : Duty). x.name) (named (seen_by cfg w k).phase (duty cfg w k))
  due_alive m = rw m refl

  pub duty_is : is_through cfg w k ≡ false → length w.bag ≤ at → (d : DutyName) → due_in cfg w k ≡ Some d → Some (next_as job cfg limits w k last at (coming.Duty (duty_event d))) ≡ next_of job cfg limits w k last at
  duty_is on l d e =
      let f = due_some (named (seen_by cfg w k).phase (duty cfg w k)) d (sym (due_alive (through_alive cfg w k on)) ∙ e) in
      sym (rest_of l ∙ ap (λ o. option_or o (option_or (next_launch job cfg limits w k last at) (next_step job cfg limits w last at))) f)

  no_duty : is_through cfg w k ≡ false → length w.bag ≤ at → due_in cfg w k ≡ None → next_of job cfg limits w k last at ≡ option_or (next_launch job cfg limits w k last at) (next_step job cfg limits w last at)
  no_duty on l e =
      let f = due_none (named (seen_by cfg w k).phase (duty cfg w k)) (sym (due_alive (through_alive cfg w k on)) ∙ e) in
      rest_of l ∙ ap (λ o. option_or o (option_or (next_launch job cfg limits w k last at) (next_step job cfg limits w last at))) f

  wanted_alive : w.is_master k ≡ true → wanted_in cfg w k ≡ wanted cfg (seen_by cfg w k)
  wanted_alive m = rw m refl

  pub launch_is : is_through cfg w k ≡ false → length w.bag ≤ at → due_in cfg w k ≡ None → (t : TaskId) → wanted_in cfg w k ≡ Some t → Some (next_as job cfg limits w k last at (coming.Launch t)) ≡ next_of job cfg limits w k last at
  launch_is on l n t e =
      let f : wanted cfg (seen_by cfg w k) ≡ Some t = sym (wanted_alive (through_alive cfg w k on)) ∙ e in
      sym (no_duty on l n ∙ ap (λ o. option_or (option_map (λ t. next_as job cfg limits w k last at (coming.Launch t)) o) (next_step job cfg limits w last at)) f)

  pub step_is : is_through cfg w k ≡ false → length w.bag ≤ at → due_in cfg w k ≡ None → wanted_in cfg w k ≡ None → (o : Option Coming) →
      option_map (next_as job cfg limits w k last at) o ≡ next_step job cfg limits w last at → option_map (next_as job cfg limits w k last at) o ≡ next_of job cfg limits w k last at
  step_is on l n m o e =
      let f : wanted cfg (seen_by cfg w k) ≡ None = sym (wanted_alive (through_alive cfg w k on)) ∙ m in
      e ∙ sym (no_duty on l n ∙ ap (λ o. option_or (option_map (λ t. next_as job cfg limits w k last at (coming.Launch t)) o) (next_step job cfg limits w last at)) f)

  -- ---- steps

  pub no_step : next_living (living cfg w) last ≡ None → None ≡ next_step job cfg limits w last at
  no_step e = rw e refl

  -- who is next lives
  pub next_lives : (c : ContainerId) → next_living (living cfg w) last ≡ Some c → w.is_alive c ≡ true
  unfolding living
  next_lives c is = next_has (λ c. w.is_alive c ≡ true) (living cfg w) last c is (all_pass w.is_alive (flat_map (launched_by cfg w) (range_with_len 1 w.fence)))

  pub next_wishes : (c : ContainerId) → next_living (living cfg w) last ≡ Some c → wish_in cfg w c ≡ None → ⊥
  next_wishes c is e = let a = next_lives c is in let f : Some (wish_by cfg (w.place c) (w.container_past c)) ≡ None = (rw a refl) ∙ e in absurd cc

  computes_alike : (c : ContainerId) → wants_compute (wish_of cfg w c) ≡ container.is_computing (wish_by cfg (w.place c) (w.container_past c))
  unfolding wish
  computes_alike c = by (w.place c) where
    seen : (v : container_wish.Wish) (p : container.Pieces) → wants_compute (Rattle.mr_world_model.specs.Pasts.as_wish p v) ≡ container.is_computing v
    seen (wished.Where m) p = refl
    seen (wished.Fetch a n i) p = refl
    seen (wished.Lost a) p = refl
    seen wished.Compute p = refl
    seen wished.Mkdirs p = refl
    seen wished.Create p = refl
    seen wished.Write p = refl
    seen wished.Close p = refl
    seen wished.Needs p = refl
    seen wished.Pending p = refl
    seen wished.Poll p = refl
    seen wished.Look p = refl
    seen wished.Clear p = refl
    seen wished.Rename p = refl
    seen wished.Report p = refl
    seen wished.Abort p = refl
    seen wished.Failed p = refl
    seen wished.Over p = refl

    by : (o : Option Place) → wants_compute (wish_at cfg c o (w.container_past c)) ≡ container.is_computing (wish_by cfg o (w.container_past c))
    by None = refl
    by (Some p) = let s = container.seen (length cfg.splits) p.attempt (w.container_past c) in seen s.wish s.pieces

  wish_is : (c : ContainerId) (v : container_wish.Wish) → next_living (living cfg w) last ≡ Some c → wish_in cfg w c ≡ Some v → wish_by cfg (w.place c) (w.container_past c) ≡ v
  wish_is c v is e = let a = next_lives c is in some_is _ v (sym (let f : wish_in cfg w c ≡ Some (wish_by cfg (w.place c) (w.container_past c)) = rw a refl in f) ∙ e)

  abbrev step_as : ContainerId → Option Event → container_wish.Wish → Next
  step_as c e v = record { names = Rattle.mr_script.specs.declared.event_name.EventName.TheVariants.Step ∷ option_to_list (wish_event v); event = e; stepped = Some c; cursor = at }

  next_step_is : (c : ContainerId) (v : container_wish.Wish) → next_living (living cfg w) last ≡ Some c → wish_in cfg w c ≡ Some v →
      next_step job cfg limits w last at ≡ Some (step_as c (cond (container.is_computing v) (computing job cfg limits w c) (Some (ContainerStep c Calm))) v)
  next_step_is c v is e =
      let same = wish_is c v is e in
      let asks : wants_compute (wish_of cfg w c) ≡ container.is_computing v = computes_alike c ∙ ap container.is_computing same in
      ap (option_map (λ c. step_as c (stepping job cfg limits w c) (wish_by cfg (w.place c) (w.container_past c)))) is
      ∙ ap (λ v. Some (step_as c (stepping job cfg limits w c) v)) same
      ∙ ap (λ b. Some (step_as c (cond b (computing job cfg limits w c) (Some (ContainerStep c Calm))) v)) asks

  pub compute_is : (c : ContainerId) (v : container_wish.Wish) → next_living (living cfg w) last ≡ Some c → wish_in cfg w c ≡ Some v → container.is_computing v ≡ true →
      Some (next_as job cfg limits w k last at (coming.Compute c)) ≡ next_step job cfg limits w last at
  compute_is c wished.Compute is e t = sym (next_step_is c wished.Compute is e)
  compute_is c v is e t = absurd cc

  pub other_is : (c : ContainerId) (v : container_wish.Wish) → next_living (living cfg w) last ≡ Some c → wish_in cfg w c ≡ Some v → container.is_computing v ≡ false →
      Some (next_as job cfg limits w k last at (coming.Step c (wish_event v))) ≡ next_step job cfg limits w last at
  other_is c v is e t = sym (next_step_is c v is e ∙ ap (λ b. Some (step_as c (cond b (computing job cfg limits w c) (Some (ContainerStep c Calm))) v)) t)

-- A calm goes on with two alike plays by the same event.
use Rattle.std.proofs.Common.{ℕ, suc, ◌+◌, ◌%◌, ◌≤◌, ◌≡◌, refl, sym, ◌∙◌, ap, subst, arith, Bool, true, false, ◌||◌, List, [], ◌∷◌, filter, length, length-drop, drop, nat_lt, nat_le, slice_get, Option, Some, None, is_some, option_to_list, if◌then◌else◌}
use Rattle.std.specs.Option.{option_map, option_or}
use Rattle.std.specs.List.{flat_map, range_with_len}
use Rattle.std.proofs.lemmas.Bool.{true≢false, ltb-true, ltb-false}
use Rattle.mr_ids.specs.declared.id.TaskId.{TaskId}
use Rattle.mr_master_model.specs.Duty as due
use Rattle.mr_world_model.specs.Ids.{ContainerId}
use Rattle.mr_world_model.specs.Packets.{Config, Packet, Address, Envelope, Master, Container, Node}
use Rattle.mr_world_model.specs.Pasts.{Place, wish, wish_of_seen}
use Rattle.mr_world_model.specs.Effect.{NoAddressee, unless, addressee, wants_compute}
use Rattle.mr_world_model.specs.World.{World, Event, Calm, Compute, ContainerStep, Deliver, Duty, LaunchOn, duty, seen_by, wish_at, wish_of}
use Rattle.mr_world_model.specs.Claims.{Limits, world_of}
use Rattle.mr_world_model.specs.Sequential.{Job, Input, made_of, most_output}
use Rattle.mr_world_model.specs.Wanted.{wanted}
use Rattle.mr_master_refinement.specs.Works.{named}
use Rattle.mr_world_alike.specs.Alike.{Alike}
use Rattle.mr_world_alike.proofs.Packets.{packets_stay}
use Rattle.mr_world_shows.proofs.Shown.{show_the_same, due-same, next-same, seen-same, wish-same}
use Rattle.mr_world.specs.Readings.{input_in, living, launched_by, next_living, is_behind, wish_by}
use Rattle.mr_script.specs.declared.event_name.EventName.TheVariants as name
use Rattle.mr_play.specs.EventNames.{duty_event, wish_event}
use Rattle.mr_play.specs.Played.{Played, Next, world, is_dropped, is_passed, passed, cursor_at, result_of, computed_of, computing, stepping, next_packet, next_duty, next_launch, next_step, next_of}
use Rattle.mr_play_alike.specs.Plays.{SamePlay, SameEvent, SameNext, AlikePlaysGoOnAlike}

-- ---- lists

some-is : (d c : ContainerId) → Some d ≡ Some c → d ≡ c
some-is d c q = ap (or-this d) q
  where
    or-this : ContainerId → Option ContainerId → ContainerId
    or-this x None = x
    or-this x (Some y) = y

first-passes : (p : ContainerId → Bool) (ys : List ContainerId) (c : ContainerId) → slice_get (filter p ys) 0 ≡ Some c → p c ≡ true
first-passes p [] c q = absurd (true≢false (sym (ap is_some q)))
first-passes p (y ∷ ys) c q = by (p y) refl q (first-passes p ys c)
  where
    by : (b : Bool) → p y ≡ b → slice_get (if b then y ∷ filter p ys else filter p ys) 0 ≡ Some c → (slice_get (filter p ys) 0 ≡ Some c → p c ≡ true) → p c ≡ true
    by true e q more = ap p (sym (some-is y c q)) ∙ e
    by false e q more = more q

both-pass : (r p : ContainerId → Bool) (ys : List ContainerId) (c : ContainerId) → slice_get (filter r (filter p ys)) 0 ≡ Some c → p c ≡ true
both-pass r p [] c q = absurd (true≢false (sym (ap is_some q)))
both-pass r p (y ∷ ys) c q = by (p y) refl q (both-pass r p ys c)
  where
    at : (b : Bool) → p y ≡ true → slice_get (if b then y ∷ filter r (filter p ys) else filter r (filter p ys)) 0 ≡ Some c → (slice_get (filter r (filter p ys)) 0 ≡ Some c → p c ≡ true) → p c ≡ true
    at true e q more = ap p (sym (some-is y c q)) ∙ e
    at false e q more = more q

    by : (b : Bool) → p y ≡ b → slice_get (filter r (if b then y ∷ filter p ys else filter p ys)) 0 ≡ Some c → (slice_get (filter r (filter p ys)) 0 ≡ Some c → p c ≡ true) → p c ≡ true
    by true e q more = at (r y) e q more
    by false e q more = more q

-- alive or not
abbrev everyone : Config → World → List ContainerId
everyone cfg w = flat_map (launched_by cfg w) (range_with_len 1 w.fence)

-- who is next lives
next-lives : (cfg : Config) (w : World) (last : Option ContainerId) (c : ContainerId) → next_living (living cfg w) last ≡ Some c → w.is_alive c ≡ true
unfolding living
next-lives cfg w last c q = by (slice_get (filter (is_behind last) (living cfg w)) 0) refl q
  where
    by : (o : Option ContainerId) → slice_get (filter (is_behind last) (living cfg w)) 0 ≡ o → option_or o (slice_get (living cfg w) 0) ≡ Some c → w.is_alive c ≡ true
    by (Some d) e q = both-pass (is_behind last) w.is_alive (everyone cfg w) c (e ∙ q)
    by None e q = first-passes w.is_alive (everyone cfg w) c q

-- ---- what is passed over

addressee-same : (cfg : Config) (w u : World) → Alike cfg w u → (x : Envelope) → addressee w (Some x) ≡ addressee u (Some x)
addressee-same cfg w u e x = by x.to x.body
  where
    by : (a : Address) (p : Packet) → addressee w (Some (record { to = a; body = p })) ≡ addressee u (Some (record { to = a; body = p }))
    by (Master k) p = let l = e.is_master k in λ i. unless (l i) NoAddressee None
    by (Container c) p = let l = e.is_alive c in λ i. unless (l i) NoAddressee None
    by (Node n) p = refl

passed-same : (cfg : Config) (w u : World) → Alike cfg w u → (ds es : List ℕ) (m n : ℕ) → ((i : ℕ) → is_dropped ds (m + i) ≡ is_dropped es (n + i)) → (xs : List Envelope) → passed w ds m xs ≡ passed u es n xs
passed-same cfg w u e ds es m n f [] = refl
passed-same cfg w u e ds es m n f (x ∷ xs) =
    let a : m ≡ m + 0 = omega arith in
    let b : n + 0 ≡ n = omega arith in
    let dropped : is_dropped ds m ≡ is_dropped es n = ap (λ k. is_dropped ds k) a ∙ (f 0 ∙ ap (λ k. is_dropped es k) b) in
    let gone = addressee-same cfg w u e x in
    let rest = passed-same cfg w u e ds es (suc m) (suc n) (λ i. let c : suc m + i ≡ m + suc i = omega arith in let d : n + suc i ≡ suc n + i = omega arith in ap (λ k. is_dropped ds k) c ∙ (f (suc i) ∙ ap (λ k. is_dropped es k) d)) xs in
    λ i. if dropped i || is_some (gone i) then suc (rest i) else 0

passed-fits : (w : World) (ds : List ℕ) (m : ℕ) (xs : List Envelope) → passed w ds m xs ≤ length xs
passed-fits w ds m [] = omega arith
passed-fits w ds m (x ∷ xs) = by (is_passed w ds m x) (passed-fits w ds (suc m) xs)
  where
    by : (b : Bool) → passed w ds (suc m) xs ≤ length xs → (if b then suc (passed w ds (suc m) xs) else 0) ≤ suc (length xs)
    by true l = omega (arith, l)
    by false l = omega arith

-- ---- the first of several

or-same : (w u : World) (m n : ℕ) (x x' y y' : Option Next) → SameNext w u m n x x' → SameNext w u m n y y' → SameNext w u m n (option_or x y) (option_or x' y')
or-same w u m n None None y y' s r = r
or-same w u m n (Some x) None y y' s r = absurd s
or-same w u m n None (Some x) y y' s r = absurd s
or-same w u m n (Some x) (Some x') y y' s r = s

-- ---- what each of the four makes

abbrev as-duty : ℕ → Option ContainerId → ℕ → due.Duty → Next
as-duty k last at d = record { names = duty_event d.name ∷ []; event = Some (Duty k Calm); stepped = last; cursor = at }

abbrev as-launch : Config → ℕ → Option ContainerId → ℕ → TaskId → Next
as-launch cfg k last at t = record { names = name.Launch ∷ []; event = Some (LaunchOn k t (t.number % cfg.nodes)); stepped = last; cursor = at }

abbrev as-step : Job → Config → Limits → World → ℕ → ContainerId → Next
as-step job cfg within w at c = record { names = name.Step ∷ option_to_list (wish_event (wish_by cfg (w.place c) (w.container_past c))); event = stepping job cfg within w c; stepped = Some c; cursor = at }

module _ (job : Job) (cfg : Config) (within : Limits) (s t : Played) (k : ℕ) (o : SamePlay job cfg within s t) (lives : (world job cfg within s).is_master k ≡ true) where
  abbrev W : World
  W = world_of cfg within s.events

  abbrev U : World
  U = world_of cfg within t.events

  abbrev Same : Option Next → Option Next → Type 0
  Same x y = SameNext W U s.cursor t.cursor x y

  -- ---- a packet

  packet-same : (i : ℕ) → Same (next_packet job cfg within W s.stepped (s.cursor + i)) (next_packet job cfg within U t.stepped (t.cursor + i))
  packet-same i = by (nat_lt (s.cursor + i) (length W.bag)) (nat_lt (t.cursor + i) (length U.bag)) refl refl
    where
      lengths : length (drop s.cursor W.bag) ≡ length (drop t.cursor U.bag)
      lengths = ap (λ (xs : List Envelope). length xs) o.packets.ahead

      by : (b c : Bool) → nat_lt (s.cursor + i) (length W.bag) ≡ b → nat_lt (t.cursor + i) (length U.bag) ≡ c
          → Same (if b then Some (record { names = []; event = Some (Deliver (s.cursor + i)); stepped = s.stepped; cursor = s.cursor + i + 1 }) else None)
          (if c then Some (record { names = []; event = Some (Deliver (t.cursor + i)); stepped = t.stepped; cursor = t.cursor + i + 1 }) else None)
      by true true e f = record {
        names = refl;
        event = packets_stay.comes W U s.events t.events s.cursor t.cursor i o.packets;
        stepped = o.stepped;
        passed = i + 1;
        here = omega arith;
        there = omega arith;
        fits = let x = ltb-true (s.cursor + i) (length W.bag) e in omega (arith, x);
      }
      by false false e f = tt
      by true false e f =
          let x = ltb-true (s.cursor + i) (length W.bag) e in
          let y = ltb-false (t.cursor + i) (length U.bag) f in
          let a = length-drop s.cursor W.bag in
          let b = length-drop t.cursor U.bag in
          let l = lengths in
          let p = o.packets.from in
          let q = o.packets.to in
          absurd (omega (arith, x, y, a, b, l, p, q))
      by false true e f =
          let x = ltb-false (s.cursor + i) (length W.bag) e in
          let y = ltb-true (t.cursor + i) (length U.bag) f in
          let a = length-drop s.cursor W.bag in
          let b = length-drop t.cursor U.bag in
          let l = lengths in
          let p = o.packets.from in
          let q = o.packets.to in
          absurd (omega (arith, x, y, a, b, l, p, q))

  -- ---- a store call, a launch

  duty-same : (i : ℕ) → s.cursor + i ≤ length W.bag → Same (next_duty job cfg within W k s.stepped (s.cursor + i)) (next_duty job cfg within U k t.stepped (t.cursor + i))
  duty-same i l =
      let P : Option due.Duty → Type 0 = λ z. Same (option_map (as-duty k s.stepped (s.cursor + i)) (named (seen_by cfg W k).phase (duty cfg W k))) (option_map (as-duty k t.stepped (t.cursor + i)) z) in
      subst P (due-same cfg within s.events t.events o.alike k lives) (by (named (seen_by cfg W k).phase (duty cfg W k)))
    where
      by : (z : Option due.Duty) → Same (option_map (as-duty k s.stepped (s.cursor + i)) z) (option_map (as-duty k t.stepped (t.cursor + i)) z)
      by None = tt
      by (Some d) = record { names = refl; event = refl; stepped = o.stepped; passed = i; here = refl; there = refl; fits = l }

  launch-same : (i : ℕ) → s.cursor + i ≤ length W.bag → Same (next_launch job cfg within W k s.stepped (s.cursor + i)) (next_launch job cfg within U k t.stepped (t.cursor + i))
  launch-same i l =
      let P : Option TaskId → Type 0 = λ z. Same (option_map (as-launch cfg k s.stepped (s.cursor + i)) (wanted cfg (seen_by cfg W k))) (option_map (as-launch cfg k t.stepped (t.cursor + i)) z) in
      subst P (next-same cfg within s.events t.events o.alike k lives) (by (wanted cfg (seen_by cfg W k)))
    where
      by : (z : Option TaskId) → Same (option_map (as-launch cfg k s.stepped (s.cursor + i)) z) (option_map (as-launch cfg k t.stepped (t.cursor + i)) z)
      by None = tt
      by (Some x) = record { names = refl; event = refl; stepped = o.stepped; passed = i; here = refl; there = refl; fits = l }

  -- ---- a step of a container

  wish-of-same : (c : ContainerId) → W.is_alive c ≡ true → wish_of cfg W c ≡ wish_of cfg U c
  unfolding wish
  wish-of-same c a =
      let one = o.alike.containers c a in
      let x : W.place c ≡ Some one.machine.place = one.one.place ∙ ap Some (sym one.one.stands.place) in
      let y : U.place c ≡ Some one.machine.place = one.other.place ∙ ap Some (sym one.other.stands.place) in
      ap (λ (p : Option Place). wish_at cfg c p (W.container_past c)) x
      ∙ (ap wish_of_seen (seen-same cfg within s.events t.events o.alike c a) ∙ sym (ap (λ (p : Option Place). wish_at cfg c p (U.container_past c)) y))

  -- what it steps by is no delivery
  made-itself : (c : ContainerId) (x : Option (List ℕ)) → SameEvent W U (result_of job cfg within c x) (result_of job cfg within c x)
  made-itself c None = refl
  made-itself c (Some bytes) = by (nat_le (length bytes) most_output)
    where
      by : (b : Bool) → SameEvent W U (if b then Some (Compute c bytes) else None) (if b then Some (Compute c bytes) else None)
      by true = refl
      by false = tt

  input-itself : (c : ContainerId) (x : Option Input) → SameEvent W U (computed_of job cfg within c x) (computed_of job cfg within c x)
  input-itself c None = refl
  input-itself c (Some x) = made-itself c (made_of job cfg x)

  stepping-itself : (c : ContainerId) → SameEvent W U (stepping job cfg within W c) (stepping job cfg within W c)
  stepping-itself c = by (wants_compute (wish_of cfg W c))
    where
      by : (b : Bool) → SameEvent W U (if b then computing job cfg within W c else Some (ContainerStep c Calm)) (if b then computing job cfg within W c else Some (ContainerStep c Calm))
      by true = input-itself c (input_in cfg W c)
      by false = refl

  stepping-same : (c : ContainerId) → W.is_alive c ≡ true → SameEvent W U (stepping job cfg within W c) (stepping job cfg within U c)
  stepping-same c a =
      let shown = show_the_same cfg within s.events t.events o.alike in
      let v = wish-of-same c a in
      let inputs = shown.inputs c in
      let is : stepping job cfg within W c ≡ stepping job cfg within U c = λ i. if wants_compute (v i) then computed_of job cfg within c (inputs i) else Some (ContainerStep c Calm) in
      let P : Option Event → Type 0 = λ z. SameEvent W U (stepping job cfg within W c) z in
      subst P is (stepping-itself c)

  step-same : (i : ℕ) → s.cursor + i ≤ length W.bag → Same (next_step job cfg within W s.stepped (s.cursor + i)) (next_step job cfg within U t.stepped (t.cursor + i))
  step-same i l =
      let shown = show_the_same cfg within s.events t.events o.alike in
      let q : next_living (living cfg W) s.stepped ≡ next_living (living cfg U) t.stepped = λ j. next_living (shown.lives j) (o.stepped j) in
      let P : Option ContainerId → Type 0 = λ z. Same (option_map (as-step job cfg within W (s.cursor + i)) (next_living (living cfg W) s.stepped)) (option_map (as-step job cfg within U (t.cursor + i)) z) in
      subst P q (by (next_living (living cfg W) s.stepped) refl)
    where
      by : (z : Option ContainerId) → next_living (living cfg W) s.stepped ≡ z → Same (option_map (as-step job cfg within W (s.cursor + i)) z) (option_map (as-step job cfg within U (t.cursor + i)) z)
      by None e = tt
      by (Some c) e =
          let a = next-lives cfg W s.stepped c e in
          let v = wish-same cfg within s.events t.events o.alike c a in
          record { names = λ j. name.Step ∷ option_to_list (wish_event (v j)); event = stepping-same c a; stepped = refl; passed = i; here = refl; there = refl; fits = l }

  -- ---- the first of these

  at-same : (i : ℕ) → s.cursor + i ≤ length W.bag → Same (next_of job cfg within W k s.stepped (s.cursor + i)) (next_of job cfg within U k t.stepped (t.cursor + i))
  at-same i l =
      or-same W U s.cursor t.cursor (next_packet job cfg within W s.stepped (s.cursor + i)) (next_packet job cfg within U t.stepped (t.cursor + i))
      (option_or (next_duty job cfg within W k s.stepped (s.cursor + i)) (option_or (next_launch job cfg within W k s.stepped (s.cursor + i)) (next_step job cfg within W s.stepped (s.cursor + i))))
      (option_or (next_duty job cfg within U k t.stepped (t.cursor + i)) (option_or (next_launch job cfg within U k t.stepped (t.cursor + i)) (next_step job cfg within U t.stepped (t.cursor + i))))
      (packet-same i)
      (or-same W U s.cursor t.cursor (next_duty job cfg within W k s.stepped (s.cursor + i)) (next_duty job cfg within U k t.stepped (t.cursor + i))
      (option_or (next_launch job cfg within W k s.stepped (s.cursor + i)) (next_step job cfg within W s.stepped (s.cursor + i)))
      (option_or (next_launch job cfg within U k t.stepped (t.cursor + i)) (next_step job cfg within U t.stepped (t.cursor + i)))
      (duty-same i l)
      (or-same W U s.cursor t.cursor (next_launch job cfg within W k s.stepped (s.cursor + i)) (next_launch job cfg within U k t.stepped (t.cursor + i))
      (next_step job cfg within W s.stepped (s.cursor + i)) (next_step job cfg within U t.stepped (t.cursor + i)) (launch-same i l) (step-same i l)))

  pub shifts : passed W s.dropped s.cursor (drop s.cursor W.bag) ≡ passed U t.dropped t.cursor (drop t.cursor U.bag)
  shifts = passed-same cfg W U o.alike s.dropped t.dropped s.cursor t.cursor o.dropped (drop s.cursor W.bag) ∙ ap (λ (xs : List Envelope). passed U t.dropped t.cursor xs) o.packets.ahead

  pub fits : s.cursor + passed W s.dropped s.cursor (drop s.cursor W.bag) ≤ length W.bag
  fits =
      let a = passed-fits W s.dropped s.cursor (drop s.cursor W.bag) in
      let b = length-drop s.cursor W.bag in
      let c = o.packets.from in
      omega (arith, a, b, c)

  pub go_on : Same (next_of job cfg within W k s.stepped (cursor_at W s.dropped s.cursor)) (next_of job cfg within U k t.stepped (cursor_at U t.dropped t.cursor))
  go_on =
      let P : ℕ → Type 0 = λ z. Same (next_of job cfg within W k s.stepped (cursor_at W s.dropped s.cursor)) (next_of job cfg within U k t.stepped (t.cursor + z)) in
      subst P shifts (at-same (passed W s.dropped s.cursor (drop s.cursor W.bag)) fits)

pub go_on_alike : AlikePlaysGoOnAlike
go_on_alike job cfg within s t k o lives = go_on job cfg within s t k o lives

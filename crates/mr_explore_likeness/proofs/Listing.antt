-- Each fault that may befall a play may befall one that is alike, as a fault of the same packet, container, node or task.
use Rattle.std.proofs.Common.{ℕ, zero, suc, ◌+◌, ◌≤◌, ◌<◌, ◌≡◌, ◌⊎◌, inl, inr, refl, sym, ◌∙◌, ap, subst, arith, Bool, true, false, ◌&&◌, not, List, [], ◌∷◌, ◌++◌, filter, map, length, length-drop, nat_eq, Option, Some, None, is_none, if◌then◌else◌}
use Rattle.std.specs.List.{flat_map, list_all, range_with_len}
use Rattle.std.proofs.lemmas.Bool.{and_parts, true≢false, eqb-true, eq-eqb, ne_eqb}
use Rattle.std.proofs.lemmas.List.Folds.{list_all-append}
use Rattle.mr_ids.specs.declared.id.JobId.{JobId}
use Rattle.mr_ids.specs.declared.id.TaskId.{TaskId}
use Rattle.mr_ids.specs.declared.id.TaskKind.{TaskKind}
use Rattle.mr_ids.specs.declared.id.TaskKind.TheVariants.{Map, Reduce}
use Rattle.mr_history.specs.State.{State}
use Rattle.mr_packet.specs.declared.packet.ContainerId.{ContainerId}
use Rattle.mr_world_events.specs.declared.why.Why.{Why}
use Rattle.mr_world_model.specs.Packets.{Config, Envelope}
use Rattle.mr_world_model.specs.World.{World, Event, Crash, Duty, Deliver, ContainerStep}
use Rattle.mr_world_model.specs.Effect.{not_now}
use Rattle.mr_world_model.specs.Sequential.{Job}
use Rattle.mr_world_shows.proofs.Shown.{show_the_same}
use Rattle.mr_world_state.specs.Histories.{change_of, changed}
use Rattle.mr_world_state.specs.Limits.{within}
use Rattle.mr_world.specs.Histories.{history_of, stable_bytes}
use Rattle.mr_world.specs.Readings.{living, unflushed_in}
use Rattle.mr_world.proofs.Histories.{history-one}
use Rattle.mr_play.specs.Played.{Played}
use Rattle.mr_explore_search.specs.Laws.{In}
use Rattle.mr_explore_faults.specs.declared.fault.Fault.{Fault}
use Rattle.mr_explore_faults.specs.declared.fault.Fault.TheVariants as fault
use Rattle.mr_explore_faults.specs.Kinds.{of_attempts, of_delivered, of_kept, of_node, of_tasks}
use Rattle.mr_explore_faults.specs.Next.{is_next}
use Rattle.mr_explore.specs.Faults.{ends_behind, faults_by, kept, kept_all, kept_in, listed, of_crashes, of_event, of_world, told}
use Rattle.mr_explore_likeness.specs.Plays.{IsOnePacket, LikePlays, cluster, was_delivered}
use Rattle.mr_explore_likeness.proofs.Calms.{IsShifted}
use Rattle.mr_explore_likeness.proofs.Going.{SameNextEvent}
use Rattle.mr_explore_likeness.proofs.Looking.{eq-shift}
use Rattle.mr_explore_likeness.proofs.Steps.{fits-at, fits-too, stays, with-event}

-- ---- what stands in a list

in-left : (f : Fault) (xs ys : List Fault) → In f xs → In f (xs ++ ys)
in-left f [] ys i = absurd i
in-left f (x ∷ xs) ys (inl e) = inl e
in-left f (x ∷ xs) ys (inr i) = inr (in-left f xs ys i)

in-right : (f : Fault) (xs ys : List Fault) → In f ys → In f (xs ++ ys)
in-right f [] ys i = i
in-right f (x ∷ xs) ys i = inr (in-right f xs ys i)

in-parts : (f : Fault) (xs ys : List Fault) → In f (xs ++ ys) → In f xs ⊎ In f ys
in-parts f [] ys i = inr i
in-parts f (x ∷ xs) ys (inl e) = inl (inl e)
in-parts f (x ∷ xs) ys (inr i) = by (in-parts f xs ys i)
  where
    by : In f xs ⊎ In f ys → In f (x ∷ xs) ⊎ In f ys
    by (inl j) = inl (inr j)
    by (inr j) = inr j

in-filter : (p : Fault → Bool) (f : Fault) (xs : List Fault) → In f (filter p xs) → In f xs × (p f ≡ true)
in-filter p f [] i = absurd i
in-filter p f (x ∷ xs) i = by (p x) refl i (in-filter p f xs)
  where
    by : (b : Bool) → p x ≡ b → In f (if b then x ∷ filter p xs else filter p xs) → (In f (filter p xs) → In f xs × (p f ≡ true)) → In f (x ∷ xs) × (p f ≡ true)
    by true e (inl q) more = (inl q, ap p (sym q) ∙ e)
    by true e (inr j) more = let m = more j in (inr m.0, m.1)
    by false e j more = let m = more j in (inr m.0, m.1)

to-filter : (p : Fault → Bool) (f : Fault) (xs : List Fault) → In f xs → p f ≡ true → In f (filter p xs)
to-filter p f [] i q = absurd i
to-filter p f (x ∷ xs) (inl e) q = subst (λ (b : Bool). In f (if b then x ∷ filter p xs else filter p xs)) (sym (ap p e ∙ q)) (inl e)
to-filter p f (x ∷ xs) (inr i) q = by (p x) (to-filter p f xs i q)
  where
    by : (b : Bool) → In f (filter p xs) → In f (if b then x ∷ filter p xs else filter p xs)
    by true j = inr j
    by false j = j

all-in : (p : Fault → Bool) (f : Fault) (xs : List Fault) → list_all p xs ≡ true → In f xs → p f ≡ true
all-in p f [] a i = absurd i
all-in p f (x ∷ xs) a (inl e) = ap p (sym e) ∙ (and_parts (p x) (list_all p xs) a).0
all-in p f (x ∷ xs) a (inr i) = all-in p f xs (and_parts (p x) (list_all p xs) a).1 i

all-and : (p : Fault → Bool) (xs ys : List Fault) → list_all p xs ≡ true → list_all p ys ≡ true → list_all p (xs ++ ys) ≡ true
all-and p xs ys a b = list_all-append p xs ys ∙ (λ i. a i && b i)

all-mapped : {A : Type 0} (p : Fault → Bool) (g : A → Fault) → ((x : A) → p (g x) ≡ true) → (xs : List A) → list_all p (map g xs) ≡ true
all-mapped p g f [] = refl
all-mapped p g f (x ∷ xs) = let a = f x in let b = all-mapped p g f xs in λ i. a i && b i

all-flat : {A : Type 0} (p : Fault → Bool) (g : A → List Fault) → ((x : A) → list_all p (g x) ≡ true) → (xs : List A) → list_all p (flat_map g xs) ≡ true
all-flat p g f [] = refl
all-flat p g f (x ∷ xs) = all-and p (g x) (flat_map g xs) (f x) (all-flat p g f xs)

-- ---- one fault of two plays

-- two bags, of which calms have passed over m and n packets
module _ (xs ys : List Envelope) (m n : ℕ) where
  abbrev pub IsOneFault : Fault → Fault → Type 0
  IsOneFault (fault.Lost i) (fault.Lost j) = (d : ℕ) × (i ≡ m + d) × (j ≡ n + d)
  IsOneFault (fault.Lost i) g = ⊥
  IsOneFault (fault.Late i) (fault.Late j) = IsOnePacket xs ys m n i j
  IsOneFault (fault.Late i) g = ⊥
  IsOneFault (fault.Again i) (fault.Again j) = IsOnePacket xs ys m n i j
  IsOneFault (fault.Again i) g = ⊥
  IsOneFault f g = f ≡ g

-- it is of no packet
abbrev is-own : Fault → Bool
is-own (fault.Lost i) = false
is-own (fault.Late i) = false
is-own (fault.Again i) = false
is-own _ = true

one-itself : (xs ys : List Envelope) (m n : ℕ) (f : Fault) → is-own f ≡ true → IsOneFault xs ys m n f f
one-itself xs ys m n (fault.Lost i) q = absurd (true≢false (sym q))
one-itself xs ys m n (fault.Late i) q = absurd (true≢false (sym q))
one-itself xs ys m n (fault.Again i) q = absurd (true≢false (sym q))
one-itself xs ys m n f q = refl

-- What comes next of a run is not such a fault of the one where it is not of the other.
own-next : (m n : ℕ) (x y : Option Event) → SameNextEvent m n x y → (f : Fault) → is-own f ≡ true → is_next x f ≡ is_next y f
own-next m n None None s f q = refl
own-next m n None (Some y) s f q = absurd s
own-next m n (Some x) None s f q = absurd s
own-next m n (Some x) (Some y) s f q = by x y s
  where
    never : (i j : ℕ) (f : Fault) → is-own f ≡ true → is_next (Some (Deliver i)) f ≡ is_next (Some (Deliver j)) f
    never i j (fault.Lost k) q = absurd (true≢false (sym q))
    never i j (fault.Late k) q = absurd (true≢false (sym q))
    never i j (fault.Again k) q = absurd (true≢false (sym q))
    never i j g q = refl

    by : (x y : Event) → IsShifted m n x y → is_next (Some x) f ≡ is_next (Some y) f
    by (Deliver i) (Deliver j) s = never i j f q
    by (Deliver i) y s = absurd s
    by x y s = ap (λ (e : Event). is_next (Some e) f) s

-- ---- lists of faults

module _ (level : Bool) (job : Job) (cfg : Config) (s t : Played) (o : LikePlays level job cfg s t) (x y : Option Event) (next : SameNextEvent s.cursor t.cursor x y) where
  abbrev W : World
  W = cluster cfg s

  abbrev U : World
  U = cluster cfg t

  abbrev IsOne : Fault → Fault → Type 0
  IsOne f g = IsOneFault W.bag U.bag s.cursor t.cursor f g

  -- the fault of the other play
  pub record OtherFault (f : Fault) (gs : List Fault) : Type 0 where
    pub other : Fault
    pub is_in : In other gs
    pub is_fault : not (is_next y other) ≡ true
    pub one : IsOne f other

  abbrev Matched : List Fault → List Fault → Type 0
  Matched fs gs = (f : Fault) → In f fs → not (is_next x f) ≡ true → OtherFault f gs

  both : (fs gs hs ks : List Fault) → Matched fs gs → Matched hs ks → Matched (fs ++ hs) (gs ++ ks)
  both fs gs hs ks a b f i q = by (in-parts f fs hs i)
    where
      by : In f fs ⊎ In f hs → OtherFault f (gs ++ ks)
      by (inl j) = let r = a f j q in record { other = r.other; is_in = in-left r.other gs ks r.is_in; is_fault = r.is_fault; one = r.one }
      by (inr j) = let r = b f j q in record { other = r.other; is_in = in-right r.other gs ks r.is_in; is_fault = r.is_fault; one = r.one }

  -- the same faults of no packet
  own : (fs gs : List Fault) → fs ≡ gs → list_all is-own fs ≡ true → Matched fs gs
  own fs gs e a f i q =
      let is = all-in is-own f fs a i in
      record {
        other = f;
        is_in = subst (λ (hs : List Fault). In f hs) e i;
        is_fault = ap not (sym (own-next s.cursor t.cursor x y next f is)) ∙ q;
        one = one-itself W.bag U.bag s.cursor t.cursor f is;
      }

  -- ---- of what comes next

  lost-next : (i j : ℕ) → IsShifted s.cursor t.cursor (Deliver i) (Deliver j) → Some (Deliver j) ≡ y → Matched (fault.Lost i ∷ []) (fault.Lost j ∷ [])
  lost-next i j n q f (inl e) r = record {
    other = fault.Lost j;
    is_in = inl refl;
    is_fault = ap (λ (z : Option Event). not (is_next z (fault.Lost j))) (sym q);
    one = subst (λ (h : Fault). IsOne h (fault.Lost j)) e n;
  }
  lost-next i j n q f (inr e) r = absurd e

  of-event-next : (a b : Event) → IsShifted s.cursor t.cursor a b → Some b ≡ y → Matched (of_event (Some a)) (of_event (Some b))
  of-event-next (Deliver i) (Deliver j) n q = lost-next i j n q
  of-event-next (Deliver i) b n q = absurd n
  of-event-next (Duty k w) b n q = own (of_event (Some (Duty k w))) (of_event (Some b)) (ap (λ (e : Event). of_event (Some e)) n) refl
  of-event-next (ContainerStep c w) b n q = own (of_event (Some (ContainerStep c w))) (of_event (Some b)) (ap (λ (e : Event). of_event (Some e)) n) refl
  of-event-next a b n q = own (of_event (Some a)) (of_event (Some b)) (ap (λ (e : Event). of_event (Some e)) n) refl

  of-next : (a b : Option Event) → SameNextEvent s.cursor t.cursor a b → b ≡ y → Matched (of_event a) (of_event b)
  of-next None None n q = own [] [] refl refl
  of-next None (Some b) n q = absurd n
  of-next (Some a) None n q = absurd n
  of-next (Some a) (Some b) n q = of-event-next a b n q

  -- ---- of what was delivered

  record WasBefore (es : List Event) (f : Fault) (n : ℕ) : Type 0 where
    place : ℕ
    is : fault.Again place ≡ f
    delivered : was_delivered es place ≡ true
    before : place < n

  find : (es : List Event) (f : Fault) (a n : ℕ) → In f (flat_map (of_delivered es) (range_with_len a n)) → WasBefore es f (a + n)
  find es f a zero i = absurd i
  find es f a (suc n) i = by (was_delivered es a) refl (in-parts f (of_delivered es a) (flat_map (of_delivered es) (range_with_len (a + 1) n)) i) (find es f (a + 1) n)
    where
      behind : (In f (flat_map (of_delivered es) (range_with_len (a + 1) n)) → WasBefore es f ((a + 1) + n)) → In f (flat_map (of_delivered es) (range_with_len (a + 1) n)) → WasBefore es f (a + suc n)
      behind more j = let m = more j in let l = m.before in record { place = m.place; is = m.is; delivered = m.delivered; before = omega (arith, l) }

      by : (b : Bool) → was_delivered es a ≡ b → In f (if b then fault.Again a ∷ [] else []) ⊎ In f (flat_map (of_delivered es) (range_with_len (a + 1) n))
          → (In f (flat_map (of_delivered es) (range_with_len (a + 1) n)) → WasBefore es f ((a + 1) + n)) → WasBefore es f (a + suc n)
      by true e (inl (inl q)) more = record { place = a; is = q; delivered = e; before = omega arith }
      by true e (inl (inr j)) more = absurd j
      by false e (inl j) more = absurd j
      by b e (inr j) more = behind more j

  listed-so : (es : List Event) (j a n : ℕ) → a ≤ j → j < a + n → was_delivered es j ≡ true → In (fault.Again j) (flat_map (of_delivered es) (range_with_len a n))
  listed-so es j a zero l m d = absurd (omega (arith, l, m))
  listed-so es j a (suc n) l m d = by (nat_eq a j) refl (listed-so es j (a + 1) n)
    where
      by : (b : Bool) → nat_eq a j ≡ b → (a + 1 ≤ j → j < (a + 1) + n → was_delivered es j ≡ true → In (fault.Again j) (flat_map (of_delivered es) (range_with_len (a + 1) n)))
          → In (fault.Again j) (of_delivered es a ++ flat_map (of_delivered es) (range_with_len (a + 1) n))
      by true e more =
          let q = eqb-true a j e in
          let here : In (fault.Again j) (of_delivered es a) = subst (λ (k : ℕ). In (fault.Again j) (of_delivered es k)) (sym q) (subst (λ (b : Bool). In (fault.Again j) (if b then fault.Again j ∷ [] else [])) (sym d) (inl refl)) in
          in-left (fault.Again j) (of_delivered es a) (flat_map (of_delivered es) (range_with_len (a + 1) n)) here
      by false e more =
          let ne : a ≡ j → ⊥ = λ q. true≢false (sym (eq-eqb a j q) ∙ e) in
          in-right (fault.Again j) (of_delivered es a) (flat_map (of_delivered es) (range_with_len (a + 1) n)) (more (grind (arith, ne, l)) (omega (arith, m)) d)

  -- it lies in the other bag
  in-bag : (i j : ℕ) → IsOnePacket W.bag U.bag s.cursor t.cursor i j → i < length W.bag → j < length U.bag
  in-bag i j (inl p) l = let a = p.1 in let b = o.same.packets.to in omega (arith, a, b)
  in-bag i j (inr p) l =
      let a = p.1 in
      let b = p.2 in
      let f = o.same.packets.from in
      let g = o.same.packets.to in
      let c = length-drop s.cursor W.bag in
      let d = length-drop t.cursor U.bag in
      let e = ap (λ (zs : List Envelope). length zs) o.same.packets.ahead in
      omega (arith, a, b, f, g, c, d, e, l)

  -- what was passed over does not come next
  no-next : (i j : ℕ) → IsOnePacket W.bag U.bag s.cursor t.cursor i j → not (is_next x (fault.Again i)) ≡ true → not (is_next y (fault.Again j)) ≡ true
  no-next i j p q = by x y next q
    where
      other-place : (a b : ℕ) (v : IsShifted s.cursor t.cursor (Deliver a) (Deliver b)) → IsOnePacket W.bag U.bag s.cursor t.cursor i j → not (nat_eq a i) ≡ true → not (nat_eq b j) ≡ true
      other-place a b v (inl p) q =
          let l = p.1 in
          let c = v.2 in
          ap not (ne_eqb b j (λ r. omega (arith, l, c, r)))
      other-place a b v (inr p) q =
          let one : nat_eq a i ≡ nat_eq b j =
          (λ k. nat_eq (v.1 k) (p.1 k)) ∙ (eq-shift s.cursor t.cursor v.0 p.0 ∙ (λ k. nat_eq (sym v.2 k) (sym p.2 k))) in
          ap not (sym one) ∙ q

      by : (x y : Option Event) → SameNextEvent s.cursor t.cursor x y → not (is_next x (fault.Again i)) ≡ true → not (is_next y (fault.Again j)) ≡ true
      by None None n q = refl
      by None (Some y) n q = absurd n
      by (Some x) None n q = absurd n
      by (Some (Deliver a)) (Some (Deliver b)) n q = other-place a b n p q
      by (Some (Deliver a)) (Some y) n q = absurd n
      by (Some x) (Some y) n q = subst (λ (e : Event). not (is_next (Some e) (fault.Again j)) ≡ true) n refl

  again : Matched (flat_map (of_delivered s.events) (range_with_len 0 (length W.bag))) (flat_map (of_delivered t.events) (range_with_len 0 (length U.bag)))
  again f i q =
      let w = find s.events f 0 (length W.bag) i in
      let d = o.delivered w.place w.delivered in
      let b = w.before in
      let l = in-bag w.place d.0 d.2 (omega (arith, b)) in
      record {
        other = fault.Again d.0;
        is_in = listed-so t.events d.0 0 (length U.bag) (omega arith) (omega (arith, l)) d.1;
        is_fault = no-next w.place d.0 d.2 (subst (λ (h : Fault). not (is_next x h) ≡ true) (sym w.is) q);
        one = subst (λ (h : Fault). IsOne h (fault.Again d.0)) w.is d.2;
      }

  -- ---- of containers, nodes and tasks

  attempts-own : (task : TaskId) (nodes : ℕ) → list_all is-own (of_attempts nodes task) ≡ true
  attempts-own task nodes = all-mapped is-own (fault.Attempt task) (λ n. refl) (range_with_len 0 nodes)

  tasks-own : (j : JobId) (kind : TaskKind) (count nodes : ℕ) → list_all is-own (of_tasks j kind count nodes) ≡ true
  tasks-own j kind count nodes = all-flat is-own (λ n. of_attempts nodes (record { job = j; kind = kind; number = n })) (λ n. attempts-own (record { job = j; kind = kind; number = n }) nodes) (range_with_len 0 count)

  of-world : Matched (of_world job cfg (within cfg) s) (of_world job cfg (within cfg) t)
  of-world =
      let shown = show_the_same cfg (within cfg) s.events t.events o.same.alike in
      let packets = flat_map (of_delivered s.events) (range_with_len 0 (length W.bag)) in
      let packets-there = flat_map (of_delivered t.events) (range_with_len 0 (length U.bag)) in
      let deaths = map fault.Death (living cfg W) in
      let deaths-there = map fault.Death (living cfg U) in
      let nodes = flat_map of_node (range_with_len 0 cfg.nodes) in
      let maps = of_tasks cfg.job Map (length cfg.splits) cfg.nodes in
      let reduces = of_tasks cfg.job Reduce cfg.reduces cfg.nodes in
      both (((packets ++ deaths) ++ nodes) ++ maps) (((packets-there ++ deaths-there) ++ nodes) ++ maps) reduces reduces
      (both ((packets ++ deaths) ++ nodes) ((packets-there ++ deaths-there) ++ nodes) maps maps
      (both (packets ++ deaths) (packets-there ++ deaths-there) nodes nodes
      (both packets packets-there deaths deaths-there again
      (own deaths deaths-there (ap (λ (cs : List ContainerId). map fault.Death cs) shown.lives) (all-mapped is-own fault.Death (λ c. refl) (living cfg W))))
      (own nodes nodes refl (all-flat is-own of_node (λ n. refl) (range_with_len 0 cfg.nodes))))
      (own maps maps refl (tasks-own cfg.job Map (length cfg.splits) cfg.nodes)))
      (own reduces reduces refl (tasks-own cfg.job Reduce cfg.reduces cfg.nodes))

  -- ---- of crashes

  -- the same may stay of what is not flushed, or nothing more where the first would pass a limit
  abbrev KeepsSame : List ℕ → List ℕ → Type 0
  KeepsSame ks ls = (ks ≡ ls) ⊎ (ks ≡ [])

  stable-same : (k : ℕ) (bytes : ℕ) → stable_bytes (history_of cfg (s.events ++ Crash k bytes ∷ [])) k ≡ stable_bytes (history_of cfg (t.events ++ Crash k bytes ∷ [])) k
  stable-same k bytes = ap (λ (h : State). stable_bytes h k) (history-one cfg s.events (Crash k bytes) ∙ ((λ i. changed (o.history i) (change_of cfg W (Crash k bytes))) ∙ sym (history-one cfg t.events (Crash k bytes))))

  ends-same : (k bytes : ℕ) → ends_behind (stable_bytes (history_of cfg s.events) k) (stable_bytes (history_of cfg (s.events ++ Crash k bytes ∷ [])) k)
      ≡ ends_behind (stable_bytes (history_of cfg t.events) k) (stable_bytes (history_of cfg (t.events ++ Crash k bytes ∷ [])) k)
  ends-same k bytes = let a = ap (λ (h : State). stable_bytes h k) o.history in let b = stable-same k bytes in λ i. ends_behind (a i) (b i)

  kept-same : (k bytes : ℕ) → KeepsSame (kept_in job cfg (within cfg) k s (told job cfg (within cfg) (Crash k bytes) s)) (kept_in job cfg (within cfg) k t (told job cfg (within cfg) (Crash k bytes) t))
  kept-same k bytes =
      let a = stays level job cfg s t o (Crash k bytes) (Crash k bytes) refl in
      by (not_now cfg W (Crash k bytes)) (not_now cfg U (Crash k bytes)) refl a.permitted (fits-at cfg (Crash k bytes) s) (fits-at cfg (Crash k bytes) t) refl refl
    where
      by : (v w : Option Why) → not_now cfg W (Crash k bytes) ≡ v → v ≡ w → (b c : Bool) → fits-at cfg (Crash k bytes) s ≡ b → fits-at cfg (Crash k bytes) t ≡ c
          → KeepsSame (kept_in job cfg (within cfg) k s (if is_none v then (if b then Some (with-event (Crash k bytes) s.stepped s) else None) else None))
          (kept_in job cfg (within cfg) k t (if is_none w then (if c then Some (with-event (Crash k bytes) t.stepped t) else None) else None))
      by (Some r) w n d b c p q = inr refl
      by None (Some r) n d b c p q = absurd (true≢false (ap is_none d))
      by None None n d true true p q = inl (ends-same k bytes)
      by None None n d true false p q = absurd (true≢false (sym (fits-too level job cfg s t o (Crash k bytes) (Crash k bytes) refl n p) ∙ q))
      by None None n d false c p q = inr refl

  all-kept-same : (k : ℕ) (b c : Option ℕ) → b ≡ c → KeepsSame (kept_all job cfg (within cfg) k s b) (kept_all job cfg (within cfg) k t c)
  all-kept-same k b c e = subst (λ (z : Option ℕ). KeepsSame (kept_all job cfg (within cfg) k s b) (kept_all job cfg (within cfg) k t z)) e (by b)
    where
      by : (z : Option ℕ) → KeepsSame (kept_all job cfg (within cfg) k s z) (kept_all job cfg (within cfg) k t z)
      by None = inl refl
      by (Some bytes) = kept-same k bytes

  keeps-same : KeepsSame (kept job cfg (within cfg) s) (kept job cfg (within cfg) t)
  keeps-same =
      let shown = show_the_same cfg (within cfg) s.events t.events o.same.alike in
      let P : ℕ → Type 0 = λ k. KeepsSame (kept job cfg (within cfg) s) (kept_all job cfg (within cfg) k t (unflushed_in U k)) in
      subst P o.same.alike.fence (all-kept-same W.fence (unflushed_in W W.fence) (unflushed_in U W.fence) (shown.unflushed W.fence))

  of-crashes : Matched (of_crashes job cfg (within cfg) s) (of_crashes job cfg (within cfg) t)
  of-crashes = both (of_kept 0) (of_kept 0) (flat_map of_kept (kept job cfg (within cfg) s)) (flat_map of_kept (kept job cfg (within cfg) t)) (own (of_kept 0) (of_kept 0) refl refl) (by keeps-same)
    where
      by : KeepsSame (kept job cfg (within cfg) s) (kept job cfg (within cfg) t) → Matched (flat_map of_kept (kept job cfg (within cfg) s)) (flat_map of_kept (kept job cfg (within cfg) t))
      by (inl e) = own (flat_map of_kept (kept job cfg (within cfg) s)) (flat_map of_kept (kept job cfg (within cfg) t)) (ap (λ (ks : List ℕ). flat_map of_kept ks) e) (all-flat is-own of_kept (λ k. refl) (kept job cfg (within cfg) s))
      by (inr e) = λ f i q. absurd (subst (λ (ks : List ℕ). In f (flat_map of_kept ks)) e i)

  -- ---- all that may be tried

  all-listed : Matched (listed job cfg (within cfg) x s) (listed job cfg (within cfg) y t)
  all-listed =
      both (of_event x ++ of_world job cfg (within cfg) s) (of_event y ++ of_world job cfg (within cfg) t) (of_crashes job cfg (within cfg) s) (of_crashes job cfg (within cfg) t)
      (both (of_event x) (of_event y) (of_world job cfg (within cfg) s) (of_world job cfg (within cfg) t) (of-next x y next refl) of-world) of-crashes

  pub other-fault : (f : Fault) → In f (faults_by job cfg (within cfg) x s) → OtherFault f (faults_by job cfg (within cfg) y t)
  other-fault f i =
      let p = in-filter (λ g. not (is_next x g)) f (listed job cfg (within cfg) x s) i in
      let r = all-listed f p.0 p.1 in
      record { other = r.other; is_in = to-filter (λ g. not (is_next y g)) r.other (listed job cfg (within cfg) y t) r.is_in r.is_fault; is_fault = r.is_fault; one = r.one }

-- One event more of two alike plays: they are alike behind it.
use Rattle.std.proofs.Common.{ℕ, ◌+◌, ◌≤◌, ◌≡◌, inl, inr, refl, sym, ◌∙◌, ap, subst, arith, Bool, true, false, ◌&&◌, ◌||◌, List, [], ◌∷◌, ◌++◌, length, length-append, nat_lt, slice_get, Option, Some, None, is_none, if◌then◌else◌}
use Rattle.std.specs.List.{list_any}
use Rattle.std.proofs.lemmas.Bool.{and_parts, true≢false, eqb-true, eq-eqb, ltb-true, lt-ltb}
use Rattle.std.proofs.lemmas.List.{append-nil}
use Rattle.std.proofs.lemmas.List.Folds.{list_any-append}
use Rattle.mr_packet.specs.declared.packet.ContainerId.{ContainerId}
use Rattle.mr_world_model.specs.Packets.{Config, Envelope}
use Rattle.mr_world_model.specs.World.{World, Event, Deliver, opening_world}
use Rattle.mr_world_model.specs.Sending.{sent}
use Rattle.mr_world_model.specs.Effect.{effect, happens, not_now, run}
use Rattle.mr_world_model.specs.Claims.{world_of}
use Rattle.mr_world_model.specs.Sequential.{Job}
use Rattle.mr_world_model.proofs.Basic.{run-append}
use Rattle.mr_world_alike.specs.Alike.{IsSame}
use Rattle.mr_world_alike.specs.Laws.{StayAlike}
use Rattle.mr_world_alike.specs.Packets.{SamePackets}
use Rattle.mr_world_alike.proofs.Packets.{packets_stay}
use Rattle.mr_world_alike.proofs.Worlds.{what_stays}
use Rattle.mr_world_state.specs.Histories.{change_of, changed}
use Rattle.mr_world_state.specs.Limits.{launch_count, within}
use Rattle.mr_world_state.proofs.Saying.{bounds_bytes}
use Rattle.mr_world.specs.declared.limits.TheConstants.{MAX_EVENTS}
use Rattle.mr_world.proofs.Histories.{history-one}
use Rattle.mr_play.specs.Played.{Played, is_dropped, taken}
use Rattle.mr_play_alike.specs.Plays.{SamePlay}
use Rattle.mr_play_alike.proofs.Calming.{take_alike}
use Rattle.mr_explore_faults.specs.Kinds.{is_delivery}
use Rattle.mr_explore_likeness.specs.Plays.{IsOnePacket, LikePlays, asking_last, cluster, was_delivered}
use Rattle.mr_explore_likeness.proofs.Asking.{asking-on}
use Rattle.mr_explore_likeness.proofs.Counting.{launched, launched-on, launched-same}
use Rattle.mr_explore_likeness.proofs.Limits.{alike-back, changes, same-back, takes}
use Rattle.mr_explore_likeness.proofs.Moves.{Moves, get-drop, one-since}

-- the same event of two plays: where a packet comes, it is one packet
abbrev pub IsOneEvent : Config → Played → Played → Event → Event → Type 0
IsOneEvent cfg s t (Deliver i) (Deliver j) = IsOnePacket (cluster cfg s).bag (cluster cfg t).bag s.cursor t.cursor i j
IsOneEvent cfg s t (Deliver i) f = ⊥
IsOneEvent cfg s t e f = e ≡ f

-- a play with an event more, behind which this container stepped last
abbrev pub with-event : Event → Option ContainerId → Played → Played
with-event e last s = record s { events = s.events ++ e ∷ []; stepped = last }

-- a world and a journal have room for it
abbrev pub fits-at : Config → Event → Played → Bool
fits-at cfg e s = nat_lt (length s.events) MAX_EVENTS && within cfg (cluster cfg s) e

left-or : (p : ℕ → Event → Bool) (i : ℕ) (es fs : List Event) → list_any (p i) es ≡ true → list_any (p i) (es ++ fs) ≡ true
left-or p i es fs e = list_any-append (p i) es fs ∙ ap (λ b. b || list_any (p i) fs) e

right-or : (p : ℕ → Event → Bool) (i : ℕ) (es fs : List Event) → list_any (p i) fs ≡ true → list_any (p i) (es ++ fs) ≡ true
right-or p i es fs e = list_any-append (p i) es fs ∙ by (list_any (p i) es) (list_any (p i) fs) e
  where
    by : (b c : Bool) → c ≡ true → (b || c) ≡ true
    by true c e = refl
    by false c e = e

-- ---- where calms have come to

module _ (level : Bool) (job : Job) (cfg : Config) where
  abbrev Like : Played → Played → Type 0
  Like s t = LikePlays level job cfg s t

  abbrev W : Played → World
  W s = cluster cfg s

  module _ (s t : Played) (o : Like s t) (i at to : ℕ) (here : at ≡ s.cursor + i) (there : to ≡ t.cursor + i) (fits : s.cursor + i ≤ length (W s).bag) where
    abbrev S : Played
    S = record s { cursor = at }

    abbrev T : Played
    T = record t { cursor = to }

    pub moved-moves : Moves cfg s t S T [] []
    moved-moves = record {
      passed = i;
      here = here;
      there = there;
      added = [];
      bag = sym (append-nil (W s).bag);
      bag_there = sym (append-nil (W t).bag);
      events = sym (append-nil s.events);
      events_there = sym (append-nil t.events);
    }

    packets-at : SamePackets (W s) (W t) s.events t.events at to
    packets-at =
        subst (λ (m : ℕ). SamePackets (W s) (W t) s.events t.events m to) (sym here) (subst (λ (n : ℕ). SamePackets (W s) (W t) s.events t.events (s.cursor + i) n) (sym there)
        (packets_stay.passed (W s) (W t) s.events t.events s.cursor t.cursor i o.same.packets fits))

    dropped-at : (j : ℕ) → is_dropped s.dropped (at + j) ≡ is_dropped t.dropped (to + j)
    dropped-at j =
        let a : at + j ≡ s.cursor + (i + j) = omega (arith, here) in
        let b : t.cursor + (i + j) ≡ to + j = omega (arith, there) in
        ap (λ (n : ℕ). is_dropped s.dropped n) a ∙ (o.same.dropped (i + j) ∙ ap (λ (n : ℕ). is_dropped t.dropped n) b)

    pub moved : Like S T
    moved = record {
      same = record { alike = o.same.alike; packets = packets-at; dropped = dropped-at; stepped = o.same.stepped };
      delivered = λ k q. let d = o.delivered k q in (d.0, d.1, one-since cfg s t S T [] [] o.same.packets moved-moves k d.0 d.2);
      asking = o.asking;
      history = o.history;
      no_nearer = record { events = o.no_nearer.events; packets = o.no_nearer.packets; launches = o.no_nearer.launches };
      no_farther = λ l. let n = o.no_farther l in record { events = n.events; packets = n.packets; launches = n.launches };
    }

  -- ---- an event

  module _ (s t : Played) (o : Like s t) (e f : Event) (one : IsOneEvent cfg s t e f) where
    -- it is the same in both worlds
    same-packet : (i j : ℕ) → IsOnePacket (W s).bag (W t).bag s.cursor t.cursor i j → slice_get (W s).bag i ≡ slice_get (W t).bag j
    same-packet i j (inl p) = p.2
    same-packet i j (inr p) =
        ap (λ (k : ℕ). slice_get (W s).bag k) p.1
        ∙ (get-drop (W s).bag s.cursor p.0 ∙ (ap (λ (xs : List Envelope). slice_get xs p.0) o.same.packets.ahead ∙ (sym (get-drop (W t).bag t.cursor p.0) ∙ ap (λ (k : ℕ). slice_get (W t).bag k) (sym p.2))))

    same-of : (x y : Event) → IsOneEvent cfg s t x y → IsSame (W s) (W t) x y
    same-of (Deliver i) (Deliver j) p = same-packet i j p
    same-of (Deliver i) y p = absurd p
    same-of x y p = p

    pub is-same : IsSame (W s) (W t) e f
    is-same = same-of e f one

    pub stays : StayAlike cfg (W s) (W t) e f
    stays = what_stays cfg (within cfg) (bounds_bytes cfg) s.events t.events e f o.same.alike is-same

    -- whoever is no nearer to a limit takes it too
    pub fits-too : not_now cfg (W s) e ≡ None → fits-at cfg e s ≡ true → fits-at cfg f t ≡ true
    fits-too now q =
        let p = and_parts (nat_lt (length s.events) MAX_EVENTS) (within cfg (W s) e) q in
        let l = ltb-true (length s.events) MAX_EVENTS p.0 in
        let m = o.no_nearer.events in
        let a = lt-ltb (length t.events) MAX_EVENTS (omega (arith, l, m)) in
        let b = takes cfg s.events t.events o.same.alike e f is-same now (stays.sends now) o.no_nearer.packets o.no_nearer.launches p.1 in
        λ i. a i && b i

    pub fits-back : not_now cfg (W s) e ≡ None → level ≡ true → fits-at cfg f t ≡ true → fits-at cfg e s ≡ true
    fits-back now lev q =
        let n = o.no_farther lev in
        let p = and_parts (nat_lt (length t.events) MAX_EVENTS) (within cfg (W t) f) q in
        let l = ltb-true (length t.events) MAX_EVENTS p.0 in
        let m = n.events in
        let a = lt-ltb (length s.events) MAX_EVENTS (omega (arith, l, m)) in
        let b = takes cfg t.events s.events (alike-back cfg (W s) (W t) o.same.alike) f e (same-back (W s) (W t) e f is-same) (sym stays.permitted ∙ now) (sym (stays.sends now)) n.packets n.launches p.1 in
        λ i. a i && b i

    module _ (last last' : Option ContainerId) (l : last ≡ last') (now : not_now cfg (W s) e ≡ None) (here : fits-at cfg e s ≡ true) (there : fits-at cfg f t ≡ true) where
      abbrev S' : Played
      S' = with-event e last s

      abbrev T' : Played
      T' = with-event f last' t

      made : (es : List Event) (x : Event) → not_now cfg (world_of cfg (within cfg) es) x ≡ None → within cfg (world_of cfg (within cfg) es) x ≡ true
          → world_of cfg (within cfg) (es ++ x ∷ []) ≡ effect cfg (world_of cfg (within cfg) es) x
      unfolding run happens
      made es x n b = run-append cfg (within cfg) opening_world es (x ∷ []) ∙ (λ j. if is_none (n j) && b j then effect cfg (world_of cfg (within cfg) es) x else world_of cfg (within cfg) es)

      made-here : W S' ≡ effect cfg (W s) e
      made-here = made s.events e now (and_parts (nat_lt (length s.events) MAX_EVENTS) (within cfg (W s) e) here).1

      made-there : W T' ≡ effect cfg (W t) f
      made-there = made t.events f (sym stays.permitted ∙ now) (and_parts (nat_lt (length t.events) MAX_EVENTS) (within cfg (W t) f) there).1

      bag-here : (W S').bag ≡ (W s).bag ++ sent cfg (W s) e
      bag-here = ap (λ (w : World). w.bag) made-here

      bag-there : (W T').bag ≡ (W t).bag ++ sent cfg (W s) e
      bag-there = ap (λ (w : World). w.bag) made-there ∙ ap (λ (xs : List Envelope). (W t).bag ++ xs) (sym (stays.sends now))

      pub took-moves : Moves cfg s t S' T' (e ∷ []) (f ∷ [])
      took-moves = record {
        passed = 0;
        here = omega arith;
        there = omega arith;
        added = sent cfg (W s) e;
        bag = bag-here;
        bag_there = bag-there;
        events = refl;
        events_there = refl;
      }

      -- the play's part
      took : taken job cfg (within cfg) e last s ≡ Some S'
      took = λ i. if here i then Some S' else None

      took-there : taken job cfg (within cfg) f last t ≡ Some (with-event f last t)
      took-there = λ i. if there i then Some (with-event f last t) else None

      same-after : SamePlay job cfg (within cfg) S' T'
      same-after =
          let P : Option ContainerId → Type 0 = λ c. SamePlay job cfg (within cfg) S' (with-event f c t) in
          subst P l (take_alike job cfg (within cfg) (bounds_bytes cfg) e f last s t S' (with-event f last t) o.same is-same now took took-there)

      -- what was delivered
      since : (i j : ℕ) → IsOnePacket (W s).bag (W t).bag s.cursor t.cursor i j → IsOnePacket (W S').bag (W T').bag s.cursor t.cursor i j
      since i j p = one-since cfg s t S' T' (e ∷ []) (f ∷ []) o.same.packets took-moves i j p

      abbrev Other : ℕ → Type 0
      Other i = (j : ℕ) × (was_delivered T'.events j ≡ true) × IsOnePacket (W S').bag (W T').bag s.cursor t.cursor i j

      by-this : (i : ℕ) (x y : Event) → IsOneEvent cfg s t x y → y ≡ f → is_delivery i x ≡ true → Other i
      by-this i (Deliver k) (Deliver j) p q d =
          let r : k ≡ i = eqb-true k i d in
          let is : is_delivery j f ≡ true = ap (λ (z : Event). is_delivery j z) (sym q) ∙ eq-eqb j j refl in
          (j, right-or is_delivery j t.events (f ∷ []) (ap (λ b. b || false) is), since i j (subst (λ (z : ℕ). IsOnePacket (W s).bag (W t).bag s.cursor t.cursor z j) r p))
      by-this i (Deliver k) y p q d = absurd p
      by-this i x y p q d = absurd (true≢false (sym d))

      delivered-after : (i : ℕ) → was_delivered S'.events i ≡ true → Other i
      delivered-after i q = by (was_delivered s.events i) refl (sym (list_any-append (is_delivery i) s.events (e ∷ [])) ∙ q)
        where
          or-last : (b c : Bool) → b ≡ false → (b || (c || false)) ≡ true → c ≡ true
          or-last true c n q = absurd (true≢false n)
          or-last false true n q = refl
          or-last false false n q = q

          by : (b : Bool) → was_delivered s.events i ≡ b → (was_delivered s.events i || (is_delivery i e || false)) ≡ true → Other i
          by true n q = let d = o.delivered i n in (d.0, left-or is_delivery d.0 t.events (f ∷ []) d.1, since i d.0 d.2)
          by false n q = by-this i e f one refl (or-last (was_delivered s.events i) (is_delivery i e) n q)

      -- limits
      more-events : length S'.events ≡ length s.events + 1
      more-events = length-append s.events (e ∷ [])

      more-events-there : length T'.events ≡ length t.events + 1
      more-events-there = length-append t.events (f ∷ [])

      more-packets : length (W S').bag ≡ length (W s).bag + length (sent cfg (W s) e)
      more-packets = ap (λ (xs : List Envelope). length xs) bag-here ∙ length-append (W s).bag (sent cfg (W s) e)

      more-packets-there : length (W T').bag ≡ length (W t).bag + length (sent cfg (W s) e)
      more-packets-there = ap (λ (xs : List Envelope). length xs) bag-there ∙ length-append (W t).bag (sent cfg (W s) e)

      more-launches : launch_count (W S') ≡ launch_count (W s) + launched e
      more-launches = ap (λ (w : World). launch_count w) made-here ∙ launched-on cfg (W s) e

      more-launches-there : launch_count (W T') ≡ launch_count (W t) + launched e
      more-launches-there = ap (λ (w : World). launch_count w) made-there ∙ (launched-on cfg (W t) f ∙ ap (λ (n : ℕ). launch_count (W t) + n) (sym (launched-same (W s) (W t) e f is-same)))

      no-more : (a b c d n : ℕ) → c ≡ a + n → d ≡ b + n → b ≤ a → d ≤ c
      no-more a b c d n p q l = omega (arith, p, q, l)

      changes-are : change_of cfg (W s) e ≡ change_of cfg (W t) f
      changes-are = changes cfg s.events t.events o.same.alike e f is-same now

      pub took-like : Like S' T'
      took-like = record {
        same = same-after;
        delivered = delivered-after;
        asking = ap (λ (xs : List Envelope). asking_last xs) bag-here ∙ (asking-on (W s).bag (W t).bag (sent cfg (W s) e) o.asking ∙ ap (λ (xs : List Envelope). asking_last xs) (sym bag-there));
        history = history-one cfg s.events e ∙ ((λ i. changed (o.history i) (changes-are i)) ∙ sym (history-one cfg t.events f));
        no_nearer = record {
          events = no-more (length s.events) (length t.events) (length S'.events) (length T'.events) 1 more-events more-events-there o.no_nearer.events;
          packets = no-more (length (W s).bag) (length (W t).bag) (length (W S').bag) (length (W T').bag) (length (sent cfg (W s) e)) more-packets more-packets-there o.no_nearer.packets;
          launches = no-more (launch_count (W s)) (launch_count (W t)) (launch_count (W S')) (launch_count (W T')) (launched e) more-launches more-launches-there o.no_nearer.launches;
        };
        no_farther = λ lev. let n = o.no_farther lev in record {
          events = no-more (length t.events) (length s.events) (length T'.events) (length S'.events) 1 more-events-there more-events n.events;
          packets = no-more (length (W t).bag) (length (W s).bag) (length (W T').bag) (length (W S').bag) (length (sent cfg (W s) e)) more-packets-there more-packets n.packets;
          launches = no-more (launch_count (W t)) (launch_count (W s)) (launch_count (W T')) (launch_count (W S')) (launched e) more-launches-there more-launches n.launches;
        };
      }

-- What was delivered in one play was delivered in another, event by event.
use Rattle.std.proofs.Common.{ℕ, zero, suc, ◌<◌, ◌≡◌, inl, inr, refl, sym, ◌∙◌, ap, subst, Bool, true, false, ◌||◌, List, [], ◌∷◌, drop, length, slice_get, Some}
use Rattle.std.specs.List.{AllByRecursion}
use Rattle.std.proofs.lemmas.Bool.{true≢false, eqb-true, eq-eqb}
use Rattle.mr_packet.specs.declared.packet.Envelope.{Envelope}
use Rattle.mr_world_model.specs.World.{Event, Deliver}
use Rattle.mr_world_model.specs.Claims.{In}
use Rattle.mr_world_alike.specs.Packets.{SamePackets}
use Rattle.mr_play.specs.declared.player.Player.{Player}
use Rattle.mr_play.specs.Players.{cluster_in, state_in}
use Rattle.mr_explore_faults.specs.Kinds.{is_delivery}
use Rattle.mr_explore_likeness.specs.Plays.{was_delivered}
use Rattle.mr_explore_likeness.proofs.Moves.{get-drop}
use Rattle.mr_explore_compared.specs.inner.Compared.{CameIn, CameToo, HaveOneAhead, IsOne, IsThis}

or-right : (a b : Bool) → b ≡ true → (a || b) ≡ true
or-right true b e = refl
or-right false b e = e

or-left : (a b : Bool) → a ≡ true → (a || b) ≡ true
or-left true b e = refl
or-left false b e = absurd (true≢false (sym e))

-- one of the events is this one
in-events : (e : Event) (es : List Event) (at j : ℕ) → slice_get es at ≡ Some e → is_delivery j e ≡ true → was_delivered es j ≡ true
in-events e [] at j is d = absurd (cc)
in-events e (x ∷ es) zero j is d = or-left (is_delivery j x) (was_delivered es j) (ap (is_delivery j) (cc) ∙ d)
in-events e (x ∷ es) (suc at) j is d = or-right (is_delivery j x) (was_delivered es j) (in-events e es at j is d)

module _ (p q : Player) where
  abbrev bag : List Envelope
  bag = (cluster_in p).bag

  abbrev other : List Envelope
  other = (cluster_in q).bag

  abbrev m : ℕ
  m = (state_in p).cursor

  abbrev n : ℕ
  n = (state_in q).cursor

  -- an event that delivered the packet is among these
  pub came_by : (i : ℕ) (e : Event) (es : List Event) (at : ℕ) → slice_get es at ≡ Some e → IsThis p q i e → CameIn p q i es
  came_by i (Deliver j) es at is one = (j, in-events (Deliver j) es at j is (eq-eqb j j refl), one)
  came_by i _ es at is one = absurd one

  -- of all events, each that delivered a packet
  pub each-came : (fs es : List Event) → AllByRecursion (CameToo p q fs) es → (i : ℕ) → was_delivered es i ≡ true → (i < length bag) × CameIn p q i fs
  each-came fs [] all i d = absurd (true≢false (sym d))
  each-came fs (e ∷ es) all i d = by (is_delivery i e) refl d (each-came fs es all.1 i)
    where
      this : (x : Event) → CameToo p q fs x → is_delivery i x ≡ true → (i < length bag) × CameIn p q i fs
      this (Deliver j) c is = let r : j ≡ i = eqb-true j i is in subst (λ (k : ℕ). (k < length bag) × CameIn p q k fs) r c
      this _ c is = absurd (true≢false (sym is))

      by : (b : Bool) → is_delivery i e ≡ b → (b || was_delivered es i) ≡ true → (was_delivered es i ≡ true → (i < length bag) × CameIn p q i fs) → (i < length bag) × CameIn p q i fs
      by true is r more = this e all.0 is
      by false is r more = more r

  -- so what comes more than once comes to both
  get-ahead : drop m bag ≡ drop n other → (i j : ℕ) → IsOne p q i j → slice_get bag i ≡ slice_get other j
  get-ahead ahead i j (inl one) = one.2
  get-ahead ahead i j (inr one) =
      ap (slice_get bag) one.1
      ∙ (get-drop bag m one.0 ∙ (ap (λ (xs : List Envelope). slice_get xs one.0) ahead ∙ (sym (get-drop other n one.0) ∙ ap (slice_get other) (sym one.2))))

-- an event that delivered a packet is one of those that did, and the other way round
was-in : (es : List Event) (i : ℕ) → In (Deliver i) es → was_delivered es i ≡ true
was-in [] i d = absurd d
was-in (e ∷ es) i (inl q) = or-left (is_delivery i e) (was_delivered es i) (ap (is_delivery i) q ∙ eq-eqb i i refl)
was-in (e ∷ es) i (inr d) = or-right (is_delivery i e) (was_delivered es i) (was-in es i d)

in-was : (es : List Event) (i : ℕ) → was_delivered es i ≡ true → In (Deliver i) es
in-was [] i d = absurd (true≢false (sym d))
in-was (e ∷ es) i d = by (is_delivery i e) refl d (in-was es i)
  where
    this : (x : Event) → is_delivery i x ≡ true → x ≡ Deliver i
    this (Deliver j) q = ap Deliver (eqb-true j i q)
    this _ q = absurd (true≢false (sym q))

    by : (b : Bool) → is_delivery i e ≡ b → (b || was_delivered es i) ≡ true → (was_delivered es i ≡ true → In (Deliver i) es) → In (Deliver i) (e ∷ es)
    by true q r more = inl (this e q)
    by false q r more = inr (more r)

pub one-before : (p q : Player) → HaveOneAhead (cluster_in p).bag (cluster_in q).bag (state_in p).cursor (state_in q).cursor → AllByRecursion (CameToo p q (state_in q).events) (state_in p).events
    → SamePackets (cluster_in p) (cluster_in q) (state_in p).events (state_in q).events (state_in p).cursor (state_in q).cursor
one-before p q one all = record {
  from = one.from;
  to = one.to;
  ahead = one.ahead;
  are_sent = λ i d. (each-came p q (state_in q).events (state_in p).events all i (was-in (state_in p).events i d)).0;
  delivered = λ x d. let c = (each-came p q (state_in q).events (state_in p).events all d.0 (was-in (state_in p).events d.0 d.1)).1 in
      (c.0, in-was (state_in q).events c.0 c.1, sym (get-ahead p q one.ahead d.0 c.0 c.2) ∙ d.2);
}

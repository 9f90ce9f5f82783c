-- Where containers and nodes of two worlds are alike, they stay so where the same comes to them.
use Rattle.std.proofs.Common.{ℕ, ◌≡◌, refl, sym, ◌∙◌, ap, subst, Bool, true, false, ◌&&◌, ◌||◌, not, List, [], Some, length, nat_eq, nat_lt}
use Rattle.std.proofs.lemmas.Bool.{true≢false, eq-eqb, eqb-true, and_parts}
use Rattle.mr_container.specs.Readings as container_readings
use Rattle.mr_container.specs.State as container
use Rattle.mr_container.specs.Past as container_past
use Rattle.mr_node.specs.declared.reaction.Reaction.{Reaction}
use Rattle.mr_node.specs.declared.reaction.Reaction.TheVariants.{Nothing, Starts, Adds}
use Rattle.mr_node.specs.Readings as readings
use Rattle.mr_node.specs.State as node
use Rattle.mr_world_model.specs.Ids.{Attempt, ContainerId, container_eq}
use Rattle.mr_world_model.specs.Packets.{Config, Packet, Envelope}
use Rattle.mr_world_model.specs.Pasts.{Place}
use Rattle.mr_world_model.specs.World.{World, is_on}
use Rattle.mr_world_model.specs.Actors.{SameContainers, SameNodes, ContainerMoved, NodeMoved, is_finished}
use Rattle.mr_world_model.specs.Acts.{Dies, Restarts, NodeHeard, begins, is_killed}
use Rattle.mr_world_model.proofs.Closed.{container_eq-true}
use Rattle.mr_world_alike.specs.Alike.{OneContainer, OneNode}

pub record ContainersAlike (cfg : Config) (w u : World) : Type 0 where
  pub living : (c : ContainerId) → w.is_alive c ≡ u.is_alive c
  pub same : (c : ContainerId) → w.is_alive c ≡ true → OneContainer cfg w u c

abbrev pub NodesAlike : Config → World → World → Type 0
NodesAlike cfg w u = (n : ℕ) → nat_lt n cfg.nodes ≡ true → OneNode cfg w u n

-- ---- containers

module _ (cfg : Config) (w u : World) (e : ContainersAlike cfg w u) (w' u' : World) where
  pub containers-rest : SameContainers cfg w w' → SameContainers cfg u u' → ContainersAlike cfg w' u'
  containers-rest a b = record {
    living = λ c. a.living c ∙ (e.living c ∙ sym (b.living c));
    same = λ c t. let o = e.same c (sym (a.living c) ∙ t) in record { machine = o.machine; one = a.machines c o.machine o.one; other = b.machines c o.machine o.other };
  }

  pub containers-move : (c : ContainerId) (m : container.Container) → ContainerMoved cfg w w' c m → ContainerMoved cfg u u' c m → ContainersAlike cfg w' u'
  containers-move c m a b = record {
    living = λ d. a.living d ∙ (ap (λ x. x && not (container_eq d c && is_finished m.seen.wish)) (e.living d) ∙ sym (b.living d));
    same = λ d t. by d t (container_eq d c) refl;
  }
    where
      by : (d : ContainerId) → w'.is_alive d ≡ true → (x : Bool) → container_eq d c ≡ x → OneContainer cfg w' u' d
      by d t true x =
          let P : ContainerId → Type 0 = λ z. OneContainer cfg w' u' z in
          subst P (sym (container_eq-true d c x)) (record { machine = m; one = a.now; other = b.now })
      by d t false x =
          let both = and_parts (w.is_alive d) (not (container_eq d c && is_finished m.seen.wish)) (sym (a.living d) ∙ t) in
          let o = e.same d both.0 in
          record { machine = o.machine; one = a.others d o.machine x o.one; other = b.others d o.machine x o.other }

  pub containers-die : (c : ContainerId) (p q : List Envelope) → Dies cfg w w' c p → Dies cfg u u' c q → ContainersAlike cfg w' u'
  containers-die c p q a b = record {
    living = λ d. a.living d ∙ (ap (λ x. x && not (container_eq d c)) (e.living d) ∙ sym (b.living d));
    same = λ d t.
        let both = and_parts (w.is_alive d) (not (container_eq d c)) (sym (a.living d) ∙ t) in
        let o = e.same d both.0 in
        record { machine = o.machine; one = a.machines d o.machine o.one; other = b.machines d o.machine o.other };
  }

  -- the containers of a node end
  pub containers-end : (n : ℕ) (m k : node.Node) (p q : List Envelope) → Restarts cfg w w' n m p → Restarts cfg u u' n k q → ContainersAlike cfg w' u'
  containers-end n m k p q a b = record {
    living = λ c. a.living c ∙ (ends c ∙ sym (b.living c));
    same = λ c t.
        let both = and_parts (w.is_alive c) (not (is_on n (w.place c))) (sym (a.living c) ∙ t) in
        let o = e.same c both.0 in
        record { machine = o.machine; one = a.machines c o.machine o.one; other = b.machines c o.machine o.other };
  }
    where
      ends : (c : ContainerId) → (w.is_alive c && not (is_on n (w.place c))) ≡ (u.is_alive c && not (is_on n (u.place c)))
      ends c = by (w.is_alive c) refl
        where
          by : (x : Bool) → w.is_alive c ≡ x → (w.is_alive c && not (is_on n (w.place c))) ≡ (u.is_alive c && not (is_on n (u.place c)))
          by true x =
              let o = e.same c x in
              let here : w.place c ≡ Some o.machine.place = o.one.place ∙ ap Some (sym o.one.stands.place) in
              let there : u.place c ≡ Some o.machine.place = o.other.place ∙ ap Some (sym o.other.stands.place) in
              let places : w.place c ≡ u.place c = here ∙ sym there in
              let lives = e.living c in
              λ i. lives i && not (is_on n (places i))
          by false x = ap (λ b. b && not (is_on n (w.place c))) x ∙ sym (ap (λ b. b && not (is_on n (u.place c))) (sym (e.living c) ∙ x))

  -- a node heard a packet, by which a container may start or end
  pub containers-hear : (n : ℕ) (p : Packet) (m new : node.Node) (x y : List Envelope) → NodeHeard cfg w w' n p m new x → NodeHeard cfg u u' n p m new y
      → ((c : ContainerId) (a : Attempt) → readings.reaction m.number m.seen p ≡ Starts c a → (w.container_past c ≡ []) × (u.container_past c ≡ [])) → ContainersAlike cfg w' u'
  containers-hear n p m new x y a b fresh = record {
    living = λ d. a.living d ∙ (ap (λ z. (begins (readings.reaction m.number m.seen p) d || z) && not (is_killed p d)) (e.living d) ∙ sym (b.living d));
    same = λ d t. by d t (begins (readings.reaction m.number m.seen p) d) refl;
  }
    where
      start : (d : ContainerId) (r : Reaction) → readings.reaction m.number m.seen p ≡ r → begins r d ≡ true → OneContainer cfg w' u' d
      start d Nothing q t = absurd (true≢false (sym t))
      start d (Adds v) q t = absurd (true≢false (sym t))
      start d (Starts c v) q t =
          let none = fresh c v q in
          let at : Place = record { attempt = v; node = n; incarnation = m.seen.incarnation } in
          let k : container.Container = record { id = c; place = at; maps = length cfg.splits; seen = container_readings.seen (length cfg.splits) v [] } in
          let stands : container.StandsFor k c (length cfg.splits) (container_past.launched_as at) = record { id = refl; place = refl; maps = refl; seen = refl } in
          let P : ContainerId → Type 0 = λ z. OneContainer cfg w' u' z in
          subst P (sym (container_eq-true d c t)) (record { machine = k; one = a.started c v k q none.0 stands; other = b.started c v k q none.1 stands })

      by : (d : ContainerId) → w'.is_alive d ≡ true → (z : Bool) → begins (readings.reaction m.number m.seen p) d ≡ z → OneContainer cfg w' u' d
      by d t true z = start d (readings.reaction m.number m.seen p) refl z
      by d t false z =
          let both = and_parts (begins (readings.reaction m.number m.seen p) d || w.is_alive d) (not (is_killed p d)) (sym (a.living d) ∙ t) in
          let o = e.same d (sym (ap (λ c. c || w.is_alive d) z) ∙ both.0) in
          record { machine = o.machine; one = a.others d o.machine z o.one; other = b.others d o.machine z o.other }

-- ---- nodes

module _ (cfg : Config) (w u : World) (e : NodesAlike cfg w u) (w' u' : World) where
  pub nodes-rest : SameNodes cfg w w' → SameNodes cfg u u' → NodesAlike cfg w' u'
  nodes-rest a b n t = let o = e n t in record { machine = o.machine; one = a n o.machine o.one; other = b n o.machine o.other }

  pub nodes-move : (n : ℕ) (m : node.Node) → NodeMoved cfg w w' n m → NodeMoved cfg u u' n m → NodesAlike cfg w' u'
  nodes-move n m a b k t = by (nat_eq k n) refl
    where
      by : (x : Bool) → nat_eq k n ≡ x → OneNode cfg w' u' k
      by true x =
          let P : ℕ → Type 0 = λ z. OneNode cfg w' u' z in
          subst P (sym (eqb-true k n x)) (record { machine = m; one = a.now; other = b.now })
      by false x =
          let apart : k ≡ n → ⊥ = λ r. true≢false (sym (eq-eqb k n r) ∙ x) in
          let o = e k t in
          record { machine = o.machine; one = a.others k o.machine apart o.one; other = b.others k o.machine apart o.other }

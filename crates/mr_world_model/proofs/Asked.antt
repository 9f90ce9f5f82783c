-- Who asks a master to commit is a reduce, and the map that is asked for is one of the job's.
use Rattle.std.proofs.Common.{ℕ, ◌<◌, ◌≡◌, refl, sym, ◌∙◌, ap, subst, Bool, true, false, List, Option, Some, None, nat_lt, length, slice_get, arith}
use Rattle.std.proofs.lemmas.Bool.{false≢true}
use Rattle.std.proofs.lemmas.Bool.Decides.{nat_tests}
use Rattle.mr_ids.specs.declared.id.TaskKind.{TaskKind}
use Rattle.mr_ids.specs.declared.id.TaskKind.TheVariants.{Map, Reduce}
use Rattle.mr_container.specs.declared.wish.Wish as container_wish
use Rattle.mr_container.specs.declared.wish.Wish.TheVariants as wished
use Rattle.mr_container.specs.Laws.{Fits}
use Rattle.mr_container.specs.Readings as container
use Rattle.mr_container.proofs.Fetching.{all-fetched}
use Rattle.mr_world_model.specs.Ids.{Attempt, is_reduce, of_reduces}
use Rattle.mr_world_model.specs.Packets.{Config, Packet, Envelope, Address, Master, Container, Node, Pending, Poll, Where}
use Rattle.mr_world_model.specs.Pasts.{Step, Wish, wish, as_wish}
use Rattle.mr_world_model.specs.Pasts.Wish.{To_pend, To_poll, To_ask_where}
use Rattle.mr_world_model.specs.Hearing.{Seen}
use Rattle.mr_world_model.specs.Duties.{Came}
use Rattle.mr_world_model.specs.World.{World, Event, Master_act, came_act}
use Rattle.mr_world_model.specs.Effect.{effect}
use Rattle.mr_world_model.specs.Sending.{sent}
use Rattle.mr_world_model.specs.Made.{IsAsked, IsMade}
use Rattle.mr_world_model.proofs.Lists.{Each, Each-append, Each-In}
use Rattle.mr_world_model.proofs.Cluster.{slice_get-In}
use Rattle.mr_world_model.proofs.Wishes.{is_maps, map-wish}
use Rattle.mr_world_model.proofs.Said.{Quiets, is_quiet, sent-every}

abbrev pub AsksOf : Config → Envelope → Type 0
AsksOf cfg v = IsAsked cfg v.body

quiet-asks : (cfg : Config) → Quiets (AsksOf cfg)
quiet-asks cfg = record { plain = λ v t. by v.body t; won = λ n t a. tt }
  where
    by : (p : Packet) → is_quiet p ≡ true → IsAsked cfg p
    by (Pending a) e = absurd (false≢true e)
    by (Poll a) e = absurd (false≢true e)
    by (Where c m) e = absurd (false≢true e)
    by p e = tt

-- of a map no wish is one of these
reduces : (maps : ℕ) (x : Attempt) (h : List Step) (v : Wish) → wish maps x h ≡ v → is_maps v ≡ false → is_reduce x ≡ true
reduces maps x h v e n = by (is_reduce x) refl
  where
    by : (b : Bool) → is_reduce x ≡ b → b ≡ true
    by true q = refl
    by false q = absurd (false≢true (sym n ∙ (ap is_maps (sym e) ∙ map-wish maps x h q)))

kind-is : (k : TaskKind) → of_reduces k ≡ true → k ≡ Reduce
kind-is Reduce e = refl
kind-is Map e = absurd (false≢true e)

where-fits : (maps count m : ℕ) (p : container.Pieces) (v : container_wish.Wish) → as_wish p v ≡ To_ask_where m → Fits maps count v → m < maps
unfolding Fits
where-fits maps count m p (wished.Where n) e f = let q : n ≡ m = cc in let u = f.0 in let l = f.1 in omega (arith, q, u, l)
where-fits maps count m p v e f = cc

where-below : (maps : ℕ) (x : Attempt) (h : List Step) (m : ℕ) → wish maps x h ≡ To_ask_where m → m < maps
unfolding wish
where-below maps x h m e = where-fits maps _ m (container.seen maps x h).pieces (container.seen maps x h).wish e (all-fetched maps x h (kind-is x.task.kind (reduces maps x h (To_ask_where m) e refl)))

asked-below : (m n : ℕ) → m < n → nat_lt m n ≡ true
asked-below m n l = grind (arith, nat_tests, l)

sent-asks : (cfg : Config) (w : World) (e : Event) → Each (AsksOf cfg) (sent cfg w e)
sent-asks cfg w e = sent-every (AsksOf cfg) (quiet-asks cfg) cfg w e (λ a q m b f g. tt) (λ c f p q u z. tt)
    (λ c f p q u. (
      λ z. reduces (length cfg.splits) p.attempt (w.container_past c) To_pend z refl,
      λ z. reduces (length cfg.splits) p.attempt (w.container_past c) To_poll z refl,
      λ m z. asked-below m (length cfg.splits) (where-below (length cfg.splits) p.attempt (w.container_past c) m z),
    ))

pub bag-asks : (cfg : Config) (w : World) (e : Event) → Each (AsksOf cfg) w.bag → Each (AsksOf cfg) (effect cfg w e).bag
bag-asks cfg w e o = Each-append (AsksOf cfg) w.bag (sent cfg w e) o (sent-asks cfg w e)

pub came-asks : (cfg : Config) (vs : List Envelope) (i : ℕ) (a : Master_act) (s : Seen) → Each (AsksOf cfg) vs → came_act (slice_get vs i) ≡ Some a → IsMade cfg a.who s a.step
came-asks cfg vs i a s o e = at (slice_get vs i) refl e
  where
    to : (x : Address) (p : Packet) → IsAsked cfg p → came_act (Some (record { to = x; body = p })) ≡ Some a → IsMade cfg a.who s a.step
    to (Master k) p f e = let x : record { who = k; step = Came p } ≡ a = cc in subst (λ (y : Master_act). IsMade cfg a.who s y.step) x f
    to (Container c) p f e = cc
    to (Node n) p f e = cc

    at : (b : Option Envelope) → slice_get vs i ≡ b → came_act b ≡ Some a → IsMade cfg a.who s a.step
    at None q e = cc
    at (Some v) q e = to v.to v.body (Each-In (AsksOf cfg) vs o v (slice_get-In vs i v q)) e

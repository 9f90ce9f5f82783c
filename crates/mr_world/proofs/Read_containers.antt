-- What is read of a container that lives is what the definitions say of it.
use Rattle.std.proofs.Common.{◌≡◌, ℕ, refl, sym, ◌∙◌, ap, subst, Bool, true, false, List, Option, Some, None, if◌then◌else◌, is_some, length, slice_get}
use Rattle.std.specs.Option.{option_map}
use Rattle.mr_ids.specs.declared.id.TaskId.{TaskId}
use Rattle.mr_ids.specs.declared.id.TaskKind.{TaskKind}
use Rattle.mr_ids.specs.declared.id.TaskKind.TheVariants.{Map, Reduce}
use Rattle.mr_container.specs.declared.wish.Wish.{Wish}
use Rattle.mr_container.specs.Readings.{Seen, seen, is_computing}
use Rattle.mr_container.specs.State as container
use Rattle.mr_world_model.specs.Ids.{ContainerId, is_reduce, of_reduces}
use Rattle.mr_world_model.specs.Packets.{Config}
use Rattle.mr_world_model.specs.Pasts.{Place, fetched}
use Rattle.mr_world_model.specs.World.{World, wish_of, wish_at}
use Rattle.mr_world_model.specs.Effect.{wants_compute}
use Rattle.mr_world_model.specs.Sequential as sequential
use Rattle.mr_world_model.proofs.Containers.{blocks-agree}
use Rattle.mr_world_state.specs.mr_world_actors.specs.Living.{kept}
use Rattle.mr_world_state.specs.declared.parts.Parts.{Parts}
use Rattle.mr_world.specs.Readings.{wish_by, wish_in, input_in, place_in}
use Rattle.mr_world_state.specs.Standing.{Standing}
use Rattle.mr_world_state.proofs.Saying.{says}

alive : (p : Parts) (w : World) (c : ContainerId) (m : container.Container) → Standing p w → kept p.living c ≡ Some m → w.is_alive c ≡ true
alive p w c m s at = sym (s.living.alive c) ∙ ap is_some at

pub none-read : {A : Type 0} (p : Parts) (w : World) (c : ContainerId) (o : Option A) → Standing p w → kept p.living c ≡ None → None ≡ (if w.is_alive c then o else None)
none-read p w c o s at = ap (λ (b : Bool). if b then o else None) (ap is_some (sym at) ∙ s.living.alive c)

is-read : {A : Type 0} (p : Parts) (w : World) (c : ContainerId) (m : container.Container) (o : Option A) → Standing p w → kept p.living c ≡ Some m → o ≡ (if w.is_alive c then o else None)
is-read p w c m o s at = sym (ap (λ (b : Bool). if b then o else None) (alive p w c m s at))

pub place-is : (p : Parts) (w : World) (c : ContainerId) (m : container.Container) → Standing p w → kept p.living c ≡ Some m → Some m.place ≡ place_in w c
place-is p w c m s at =
    let i = s.living.machines c m at in
    ap (λ (x : Place). Some x) i.stands.place ∙ sym i.place ∙ is-read p w c m (w.place c) s at

pub wish-is : (p : Parts) (w : World) (c : ContainerId) (m : container.Container) → Standing p w → kept p.living c ≡ Some m → Some m.seen.wish ≡ wish_in p.config w c
wish-is p w c m s at =
    let i = s.living.machines c m at in
    ap Some (ap (λ (x : Seen). x.wish) i.stands.seen ∙ ap (λ o. wish_by p.config o (w.container_past c)) (sym i.place))
    ∙ is-read p w c m (Some (wish_by p.config (w.place c) (w.container_past c))) s at

-- ---- the input

-- of one that does not wish to compute
no-input : (cfg : Config) (w : World) (c : ContainerId) (o : Option Place) → w.place c ≡ o → wants_compute (wish_of cfg w c) ≡ false → sequential.input_of cfg w c ≡ None
no-input cfg w c None e wants = ap (λ o. sequential.input_at cfg o (w.container_past c)) e
no-input cfg w c (Some p) e wants = ap (λ o. sequential.input_at cfg o (w.container_past c)) e
    ∙ ap (λ (b : Bool). if b then sequential.given cfg p.attempt (w.container_past c) else None) (ap (λ o. wants_compute (wish_at cfg c o (w.container_past c))) (sym e) ∙ wants)

given-input : (cfg : Config) (w : World) (c : ContainerId) (p : Place) → w.place c ≡ Some p → wants_compute (wish_of cfg w c) ≡ true → sequential.input_of cfg w c ≡ sequential.given cfg p.attempt (w.container_past c)
given-input cfg w c p e wants = ap (λ o. sequential.input_at cfg o (w.container_past c)) e
    ∙ ap (λ (b : Bool). if b then sequential.given cfg p.attempt (w.container_past c) else None) (ap (λ o. wants_compute (wish_at cfg c o (w.container_past c))) (sym e) ∙ wants)

pub none-wished : (p : Parts) (w : World) (c : ContainerId) (m : container.Container) → Standing p w → kept p.living c ≡ Some m → is_computing m.seen.wish ≡ false → None ≡ input_in p.config w c
none-wished p w c m s at not = let e = says p w c m s at in
    sym (ap (λ (b : Bool). if b then sequential.input_of p.config w c else None) (alive p w c m s at) ∙ no-input p.config w c (w.place c) refl (e.computes ∙ not))

-- what a container for a task of this kind is given
abbrev given_to : Config → TaskId → List (List ℕ) → TaskKind → Option sequential.Input
given_to cfg t blocks Map = option_map (sequential.Split t.number) (slice_get cfg.splits t.number)
given_to cfg t blocks Reduce = Some (sequential.Pieces t.number blocks)

given-is : (cfg : Config) (t : TaskId) (blocks : List (List ℕ)) (k : TaskKind) → (if of_reduces k then Some (sequential.Pieces t.number blocks) else option_map (sequential.Split t.number) (slice_get cfg.splits t.number)) ≡ given_to cfg t blocks k
given-is cfg t blocks Map = refl
given-is cfg t blocks Reduce = refl

input-is : (p : Parts) (w : World) (c : ContainerId) (m : container.Container) → Standing p w → kept p.living c ≡ Some m → is_computing m.seen.wish ≡ true
    → given_to p.config m.place.attempt.task m.seen.pieces.blocks m.place.attempt.task.kind ≡ input_in p.config w c
input-is p w c m s at wish =
    let e = says p w c m s at in
    let i = s.living.machines c m at in
    let h = w.container_past c in
    let a = m.place.attempt in
    let blocks : fetched (length p.config.splits) a h ≡ m.seen.pieces.blocks = blocks-agree (length p.config.splits) a h ∙ (ap (λ (x : Place). (seen (length p.config.splits) x.attempt h).pieces.blocks) i.stands.place ∙ sym (ap (λ (x : Seen). x.pieces.blocks) i.stands.seen)) in
    sym (ap (λ (b : Bool). if b then sequential.input_of p.config w c else None) (alive p w c m s at)
    ∙ (given-input p.config w c m.place e.place (e.computes ∙ wish)
    ∙ (ap (λ bs. if is_reduce a then Some (sequential.Pieces a.task.number bs) else option_map (sequential.Split a.task.number) (slice_get p.config.splits a.task.number)) blocks
    ∙ given-is p.config a.task m.seen.pieces.blocks a.task.kind)))

-- ---- as the code finds it: what the machine was launched as, its task, and its wish

pub record Finds (p : Parts) (c : ContainerId) (m : container.Container) (v : Wish) (launched : Place) (of : TaskId) : Type 0 where
  pub there : Some m ≡ kept p.living c
  pub wish : v ≡ m.seen.wish
  pub computes : true ≡ is_computing v
  pub place : launched ≡ m.place
  pub task : of ≡ launched.attempt.task

found-input : (p : Parts) (w : World) (c : ContainerId) (m : container.Container) (v : Wish) (place : Place) (task : TaskId) (k : TaskKind) → Standing p w → Finds p c m v place task → task.kind ≡ k
    → given_to p.config task m.seen.pieces.blocks k ≡ input_in p.config w c
found-input p w c m v place task k s f kind =
    let same : m.place.attempt.task ≡ task = sym (f.task ∙ ap (λ (x : Place). x.attempt.task) f.place) in
    subst (λ (j : TaskKind). given_to p.config task m.seen.pieces.blocks j ≡ input_in p.config w c) kind
    (subst (λ (t : TaskId). given_to p.config t m.seen.pieces.blocks t.kind ≡ input_in p.config w c) same (input-is p w c m s (sym f.there) (sym (ap is_computing f.wish) ∙ sym f.computes)))

pub no-split : (p : Parts) (w : World) (c : ContainerId) (m : container.Container) (v : Wish) (place : Place) (task : TaskId) → Standing p w → Finds p c m v place task → task.kind ≡ Map
    → None ≡ slice_get p.config.splits task.number → None ≡ input_in p.config w c
no-split p w c m v place task s f kind none = ap (option_map (sequential.Split task.number)) none ∙ found-input p w c m v place task Map s f kind

pub split-is : (p : Parts) (w : World) (c : ContainerId) (m : container.Container) (v : Wish) (place : Place) (task : TaskId) (bytes : List ℕ) → Standing p w → Finds p c m v place task → task.kind ≡ Map
    → Some bytes ≡ slice_get p.config.splits task.number → Some (sequential.Split task.number bytes) ≡ input_in p.config w c
split-is p w c m v place task bytes s f kind there = ap (option_map (sequential.Split task.number)) there ∙ found-input p w c m v place task Map s f kind

pub pieces-are : (p : Parts) (w : World) (c : ContainerId) (m : container.Container) (v : Wish) (place : Place) (task : TaskId) (blocks : List (List ℕ)) → Standing p w → Finds p c m v place task → task.kind ≡ Reduce
    → blocks ≡ m.seen.pieces.blocks → Some (sequential.Pieces task.number blocks) ≡ input_in p.config w c
pieces-are p w c m v place task blocks s f kind is = ap (λ bs. Some (sequential.Pieces task.number bs)) is ∙ found-input p w c m v place task Reduce s f kind

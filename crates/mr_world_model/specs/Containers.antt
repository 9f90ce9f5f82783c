-- What is read off a container's past is what mr_container reads, over which its machine is proved.
-- Our own: it ties the cluster to the crates beneath it.
use Rattle.std.specs.Prelude.{◌≡◌, ◌<◌, ◌^◌, ℕ, true, List, [], ◌∷◌, Some, length}
use Rattle.mr_container.specs.declared.wish.Wish as container_wish
use Rattle.mr_container.specs.Readings as container
use Rattle.mr_container.specs.Wished as called
use Rattle.mr_world_model.specs.Ids.{Attempt, ContainerId, dest, is_reduce}
use Rattle.mr_world_model.specs.Content.{Op}
use Rattle.mr_world_model.specs.Pasts.{Step, Got, Sent, Computed, Called, wish_of_seen, wish, fetched, computed, wished_op, wished_packet}
use Rattle.mr_world_model.specs.World.{caller_as, is_over}
use Rattle.mr_world_model.specs.Sending.{said_ended}

-- bytes were handed in only where they were wished
abbrev pub IsWished : container_wish.Wish → Step → Type 0
IsWished w (Computed bytes) = container.is_computing w ≡ true
IsWished w (Got p) = Unit {0}
IsWished w (Sent p) = Unit {0}
IsWished w (Called op r) = Unit {0}

abbrev pub AllWished : ℕ → Attempt → List Step → Type 0
AllWished maps x [] = Unit {0}
AllWished maps x (s ∷ h) = IsWished (container.seen maps x h).wish s × AllWished maps x h

-- For each past of a container of attempt x in a job of `maps` maps: its wish, the blocks that it fetched, and whether it is over
pub record ContainersAgree : Type 0 where
  pub wishes : (maps : ℕ) (x : Attempt) (h : List Step) → wish maps x h ≡ wish_of_seen (container.seen maps x h)
  pub blocks : (maps : ℕ) (x : Attempt) (h : List Step) → fetched maps x h ≡ (container.seen maps x h).pieces.blocks
  pub ends : (maps : ℕ) (x : Attempt) (h : List Step) (c : ContainerId) → said_ended (is_over (wish maps x h)) c ≡ called.end_of c (container.seen maps x h).wish
  -- what a reduce's container computed, where bytes were handed in only as wished
  pub results : (maps : ℕ) (x : Attempt) (h : List Step) → is_reduce x ≡ true → AllWished maps x h → computed h ≡ (container.seen maps x h).result
  -- its call, and who makes it
  pub calls : (maps : ℕ) (k : ℕ) (x : Attempt) (h : List Step) → AllWished maps x h →
      wished_op k x (computed h) (wish maps x h) ≡ called.wished_op dest k x (container.seen maps x h).result (container.seen maps x h).wish
  pub callers : (maps : ℕ) (c : ContainerId) (x : Attempt) (h : List Step) (op : Op) → wished_op c.app x (computed h) (wish maps x h) ≡ Some op → caller_as c x ≡ called.caller_of c x
  -- its packet, where the length that it reports is one that a packet can tell
  pub packets : (maps : ℕ) (c : ContainerId) (x : Attempt) (h : List Step) → AllWished maps x h → length (computed h) < 2 ^ 32 →
      wished_packet c x (computed h) (wish maps x h) ≡ called.wished_packet c x (container.seen maps x h) (container.seen maps x h).wish

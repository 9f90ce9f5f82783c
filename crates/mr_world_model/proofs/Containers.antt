-- What is read off a container's past is what mr_container reads.
use Rattle.std.proofs.Common.{ℕ, ◌<◌, ◌^◌, ◌≡◌, refl, sym, ◌∙◌, ap, subst, Bool, true, false, List, [], ◌∷◌, Option, Some, None, if◌then◌else◌, length}
use Rattle.std.proofs.lemmas.Bool.{false≢true, lt-ltb}
use Rattle.mr_ids.specs.declared.id.TaskKind.{TaskKind}
use Rattle.mr_ids.specs.declared.id.TaskKind.TheVariants.{Map, Reduce}
use Rattle.mr_paths.specs.Layout as layout
use Rattle.mr_container.specs.declared.wish.Wish as container_wish
use Rattle.mr_container.specs.declared.wish.Wish.TheVariants as wished
use Rattle.mr_container.specs.Readings as container
use Rattle.mr_container.specs.Wished as called
use Rattle.mr_world_model.specs.Ids.{Attempt, ContainerId, is_reduce, of_reduces, dest, generation_name, attempt_name, task_name, part_name}
use Rattle.mr_world_model.specs.Content.{Op}
use Rattle.mr_world_model.specs.Packets.{Master, Done}
use Rattle.mr_world_model.specs.Pasts.{Step, Got, Sent, Computed, Called, as_wish, wish_of_seen, wish, fetched, computed, wished_op, wished_packet, part_length}
use Rattle.mr_world_model.specs.Containers.{AllWished, ContainersAgree}
use Rattle.mr_world_model.specs.World.{caller_as, is_over}
use Rattle.mr_world_model.specs.Sending.{said_ended}
use Rattle.mr_world_model.proofs.Nexts.{heard-result, handed-result}
use Rattle.mr_world_model.proofs.Wishes.{map-wish, maps-no_op}

pub wish-agrees : (maps : ℕ) (x : Attempt) (h : List Step) → wish maps x h ≡ wish_of_seen (container.seen maps x h)
unfolding wish
wish-agrees maps x h = refl

pub blocks-agree : (maps : ℕ) (x : Attempt) (h : List Step) → fetched maps x h ≡ (container.seen maps x h).pieces.blocks
unfolding fetched
blocks-agree maps x h = refl

pub ends-agree : (maps : ℕ) (x : Attempt) (h : List Step) (c : ContainerId) → said_ended (is_over (wish maps x h)) c ≡ called.end_of c (container.seen maps x h).wish
ends-agree maps x h c = ap (λ w. said_ended (is_over w) c) (wish-agrees maps x h) ∙ by (container.seen maps x h).pieces (container.seen maps x h).wish
  where
    by : (p : container.Pieces) (v : container_wish.Wish) → said_ended (is_over (as_wish p v)) c ≡ called.end_of c v
    by p wished.Over = refl
    by p v = refl

pub results-agree : (maps : ℕ) (x : Attempt) (h : List Step) → is_reduce x ≡ true → AllWished maps x h → computed h ≡ (container.seen maps x h).result
unfolding computed container.seen container.next_seen
results-agree maps x [] r o = refl
results-agree maps x (Got q ∷ h) r o = results-agree maps x h r o.1 ∙ sym (heard-result maps x (container.seen maps x h).pieces (container.seen maps x h).result (container.seen maps x h).wish q)
results-agree maps x (Sent q ∷ h) r o = results-agree maps x h r o.1
results-agree maps x (Computed bytes ∷ h) r o = sym (handed-result maps x (container.seen maps x h).pieces (container.seen maps x h).result (container.seen maps x h).wish bytes r o.0)
results-agree maps x (Called op q ∷ h) r o = results-agree maps x h r o.1

-- the call of a wish
op-is : (k : ℕ) (x : Attempt) (bytes : List ℕ) (p : container.Pieces) (v : container_wish.Wish) → wished_op k x bytes (as_wish p v) ≡ called.wished_op dest k x bytes v
unfolding wished_op called.wished_op layout.task_attempt layout.committed layout.part generation_name attempt_name task_name part_name
op-is k x bytes p wished.Mkdirs = refl
op-is k x bytes p wished.Create = refl
op-is k x bytes p wished.Write = refl
op-is k x bytes p wished.Close = refl
op-is k x bytes p wished.Needs = refl
op-is k x bytes p wished.Look = refl
op-is k x bytes p wished.Clear = refl
op-is k x bytes p wished.Rename = refl
op-is k x bytes p wished.Abort = refl
op-is k x bytes p v = refl

none-some : {A P : Type 0} (o : Option A) (a : A) → o ≡ None → o ≡ Some a → P
none-some o a e f = let g = sym e ∙ f in cc

pub calls-agree : (maps : ℕ) (k : ℕ) (x : Attempt) (h : List Step) → AllWished maps x h →
    wished_op k x (computed h) (wish maps x h) ≡ called.wished_op dest k x (container.seen maps x h).result (container.seen maps x h).wish
calls-agree maps k x h o = by (is_reduce x) refl
  where
    s : container.Seen
    s = container.seen maps x h

    with-text : (text : List ℕ) → wished_op k x text (wish maps x h) ≡ called.wished_op dest k x text s.wish
    with-text text = ap (wished_op k x text) (wish-agrees maps x h) ∙ op-is k x text s.pieces s.wish

    by : (t : Bool) → is_reduce x ≡ t → wished_op k x (computed h) (wish maps x h) ≡ called.wished_op dest k x s.result s.wish
    by true e = with-text (computed h) ∙ ap (λ b. called.wished_op dest k x b s.wish) (results-agree maps x h e o)
    by false e = maps-no_op k x (computed h) (wish maps x h) (map-wish maps x h e) ∙ (sym (maps-no_op k x s.result (wish maps x h) (map-wish maps x h e)) ∙ with-text s.result)

pub callers-agree : (maps : ℕ) (c : ContainerId) (x : Attempt) (h : List Step) (op : Op) → wished_op c.app x (computed h) (wish maps x h) ≡ Some op → caller_as c x ≡ called.caller_of c x
callers-agree maps c x h op e = by (is_reduce x) refl
  where
    as-kind : (k : TaskKind) → of_reduces k ≡ true → Some x ≡ called.calling_attempt k x
    as-kind Map q = absurd (false≢true q)
    as-kind Reduce q = refl

    by : (t : Bool) → is_reduce x ≡ t → caller_as c x ≡ called.caller_of c x
    by true q = ap (λ o. record { app = c.app; attempt = o }) (as-kind x.task.kind q)
    by false q = none-some (wished_op c.app x (computed h) (wish maps x h)) op (maps-no_op c.app x (computed h) (wish maps x h) (map-wish maps x h q)) e

-- the length that is reported
length-is : (x : Attempt) (bytes text : List ℕ) → (is_reduce x ≡ true → bytes ≡ text) → length bytes < 2 ^ 32 → part_length x bytes ≡ called.reported x.task.kind text
unfolding called.told_length
length-is x bytes text same small = by x.task.kind same
  where
    by : (k : TaskKind) → (of_reduces k ≡ true → bytes ≡ text) → (if of_reduces k then Some (length bytes) else None) ≡ called.reported k text
    by Map q = refl
    by Reduce q = subst (λ b. Some (length bytes) ≡ Some (called.told_length (length b))) (q refl) (rw (lt-ltb (length bytes) (2 ^ 32) small) refl)

packet-is : (c : ContainerId) (x : Attempt) (bytes text : List ℕ) (p : container.Pieces) (v : container_wish.Wish) → part_length x bytes ≡ called.reported x.task.kind text →
    wished_packet c x bytes (as_wish p v) ≡ called.wished_packet c x (record { wish = v; pieces = p; result = text }) v
unfolding wished_packet called.wished_packet
packet-is c x bytes text p wished.Report e = ap (λ n. Some (record { to = Master c.app; body = Done x n })) e
packet-is c x bytes text p v e = refl

pub packets-agree : (maps : ℕ) (c : ContainerId) (x : Attempt) (h : List Step) → AllWished maps x h → length (computed h) < 2 ^ 32 →
    wished_packet c x (computed h) (wish maps x h) ≡ called.wished_packet c x (container.seen maps x h) (container.seen maps x h).wish
packets-agree maps c x h o small =
    let s = container.seen maps x h in
    ap (wished_packet c x (computed h)) (wish-agrees maps x h) ∙ packet-is c x (computed h) s.result s.pieces s.wish (length-is x (computed h) s.result (λ r. results-agree maps x h r o) small)

pub containers_agree : ContainersAgree
containers_agree = record {
  wishes = wish-agrees;
  blocks = blocks-agree;
  ends = ends-agree;
  results = results-agree;
  calls = calls-agree;
  callers = callers-agree;
  packets = packets-agree;
}

-- The wish of a container in cases: what it is at first, and what each step makes of it, as mr_container reads it.
use Rattle.std.proofs.Common.{ℕ, suc, ◌<◌, ◌≡◌, refl, sym, ◌∙◌, ap, subst, Bool, true, false, ◌&&◌, ◌==◌, List, [], ◌∷◌, ◌++◌, Option, Some, None, if◌then◌else◌, nat_eq, nat_lt, nat_le, length, length-append, arith}
use Rattle.std.proofs.lemmas.Bool.{false≢true, true≢false, ltb-true, lt-ltb}
use Rattle.mr_ids.specs.declared.id.TaskKind.{TaskKind}
use Rattle.mr_ids.specs.declared.id.TaskKind.TheVariants.{Map, Reduce}
use Rattle.mr_container.specs.declared.reply.Reply.{Reply}
use Rattle.mr_container.specs.declared.wish.Wish as container_wish
use Rattle.mr_container.specs.declared.wish.Wish.TheVariants as wished
use Rattle.mr_container.specs.Readings as container
use Rattle.mr_world_model.specs.Ids.{Attempt, attempt_eq, task_eq, is_reduce, of_reduces}
use Rattle.mr_world_model.specs.Content.{Op}
use Rattle.mr_world_model.specs.Packets.{Packet, Answer, DoneAck, MapReady, Piece, FetchLost}
use Rattle.mr_world_model.specs.Pasts.{Step, Got, Sent, Computed, Called, Wish, To_ask_where, To_fetch, To_say_lost, To_compute, To_mkdirs, To_create, To_write, To_close, To_need, To_pend, To_poll, To_look, To_clear, To_rename, To_report, To_abort, To_fail, Over, as_wish, wish_of_seen, wish, fetched}
use Rattle.mr_world_model.proofs.Basic.{if_cases}
use Rattle.mr_world_model.proofs.Lists.{attempt_eq-true}

-- the first map to ask for from this one on, or computing
abbrev pub ask_from : ℕ → ℕ → Wish
ask_from maps m = if nat_lt m maps then To_ask_where m else To_compute

abbrev pub first_wish : ℕ → Attempt → Wish
first_wish maps a = if is_reduce a then ask_from maps 0 else To_compute

abbrev pub if_fine : Reply → Wish → Wish
if_fine r w = if container.is_fine r then w else To_abort

abbrev pub if_found : Reply → Wish → Wish
if_found r w = if container.is_found r then w else To_abort

abbrev pub if_cleared : Reply → Wish → Wish
if_cleared r w = if container.is_cleared r then w else To_abort

-- the answer to its own attempt: a yes goes on, a no leads to the other
abbrev pub answered : Bool → Wish → Wish
answered true w = To_look
answered false w = w

-- a piece that is waited for: of the attempt, for its own reduce, from where the bytes that were got end
abbrev pub is_awaited : Attempt → Attempt → List ℕ → Attempt → (reduce offset : ℕ) → Bool
is_awaited x a got b r o = attempt_eq a b && (nat_eq r x.task.number && nat_eq o (length got))

-- the block is there in full
abbrev pub is_all : (total : ℕ) → List ℕ → Bool
is_all total got = nat_le total (length got)

-- the wish after a step
unfoldable pub next_wish : ℕ → Attempt → Wish → Step → Wish
next_wish maps x (To_ask_where m) (Got (MapReady m' a n i)) = if nat_eq m m' then To_fetch m a n i [] else To_ask_where m
next_wish maps x (To_fetch m a n i got) (Got (Piece a' r o total bytes)) =
    if is_awaited x a got a' r o then (if is_all total (got ++ bytes) then ask_from maps (suc m) else To_fetch m a n i (got ++ bytes)) else To_fetch m a n i got
next_wish maps x (To_fetch m a n i got) (Got (FetchLost c a')) = if attempt_eq a a' then To_say_lost m a else To_fetch m a n i got
next_wish maps x (To_say_lost m a) (Sent p) = To_ask_where m
next_wish maps x To_compute (Computed bytes) = if is_reduce x then To_mkdirs else To_report
next_wish maps x To_mkdirs (Called op r) = if_fine r To_create
next_wish maps x To_create (Called op r) = if_fine r To_write
next_wish maps x To_write (Called op r) = if_fine r To_close
next_wish maps x To_close (Called op r) = if_fine r To_need
next_wish maps x To_need (Called op r) = if_found r To_pend
next_wish maps x To_pend (Got (Answer a is_yes)) = if attempt_eq x a then answered is_yes To_poll else To_pend
next_wish maps x To_poll (Got (Answer a is_yes)) = if attempt_eq x a then answered is_yes To_pend else To_poll
next_wish maps x To_look (Called op r) = if_found r To_clear
next_wish maps x To_clear (Called op r) = if_cleared r To_rename
next_wish maps x To_rename (Called op r) = if_fine r To_report
next_wish maps x To_report (Got (DoneAck a)) = if attempt_eq x a then Over else To_report
next_wish maps x To_abort (Called op r) = To_fail
next_wish maps x To_fail (Sent p) = Over
next_wish maps x w s = w

-- the block that a step completes
abbrev pub completed : Attempt → Wish → Step → Option (List ℕ)
completed x (To_fetch m a n i got) (Got (Piece a' r o total bytes)) = if is_awaited x a got a' r o && is_all total (got ++ bytes) then Some (got ++ bytes) else None
completed x w s = None

abbrev pub with_block : List (List ℕ) → Option (List ℕ) → List (List ℕ)
with_block blocks None = blocks
with_block blocks (Some block) = blocks ++ block ∷ []

-- That these are mr_container's

-- two attempts are one alike
pub same-attempt : (a b : Attempt) → container.same_attempt a b ≡ attempt_eq a b
unfolding task_eq container.same_attempt
same-attempt a b = refl

-- a function of one of two, by a test
pub two : {A B : Type 0} (f : A → B) (b c : Bool) (x y : A) (u v : B) → b ≡ c → (c ≡ true → f x ≡ u) → (c ≡ false → f y ≡ v) → f (if b then x else y) ≡ (if c then u else v)
two {A} {B} f b c x y u v e p q = subst (λ z. f (if z then x else y) ≡ (if c then u else v)) (sym e) (by c p q)
  where
    by : (c : Bool) → (c ≡ true → f x ≡ u) → (c ≡ false → f y ≡ v) → f (if c then x else y) ≡ (if c then u else v)
    by true p q = p refl
    by false p q = q refl

-- while a block is missing, it is that of the map that is asked for, and there nothing was got
abbrev pub Asks : ℕ → container.Pieces → container_wish.Wish → Type 0
Asks maps p (wished.Where m) = (m ≡ length p.blocks) × (length p.blocks < maps) × (p.got ≡ [])
Asks maps p (wished.Fetch a n i) = length p.blocks < maps
Asks maps p (wished.Lost a) = (length p.blocks < maps) × (p.got ≡ [])
Asks maps p _ = Unit {0}

abbrev AsksIn : ℕ → container.Seen → Type 0
AsksIn maps s = Asks maps s.pieces s.wish

next-asks : (maps : ℕ) (p : container.Pieces) (v : container_wish.Wish) → p.got ≡ [] → v ≡ container.ask_next maps p.blocks → Asks maps p v
next-asks maps p v g e = subst (Asks maps p) (sym e) (if_cases (Asks maps p) (nat_lt (length p.blocks) maps) _ _ (λ t. (refl, ltb-true _ _ t, g)) (λ t. tt))

as-next : (maps : ℕ) (p : container.Pieces) → as_wish p (container.ask_next maps p.blocks) ≡ ask_from maps (length p.blocks)
as-next maps p = two (as_wish p) (nat_lt (length p.blocks) maps) (nat_lt (length p.blocks) maps) _ _ _ _ refl (λ t. refl) (λ t. refl)

length-snoc : {A : Type 0} (xs : List A) (x : A) → length (xs ++ x ∷ []) ≡ suc (length xs)
length-snoc xs x = let l = length-append xs (x ∷ []) in omega arith

module _ (maps : ℕ) (x : Attempt) (p : container.Pieces) (text : List ℕ) where
  abbrev At : container_wish.Wish → container.Seen
  At v = record { wish = v; pieces = p; result = text }

  awaited-is : (a : Attempt) (n i : ℕ) (b : Attempt) (r o : ℕ) → container.is_awaited x (At (wished.Fetch a n i)) b r o ≡ is_awaited x a p.got b r o
  unfolding task_eq container.same_attempt
  awaited-is a n i b r o = refl

  -- a piece that is waited for
  piece-wish : (a : Attempt) (n i total : ℕ) (bytes : List ℕ) (t : Bool) → nat_le total (length (p.got ++ bytes)) ≡ t →
      wish_of_seen (container.with_piece maps (At (wished.Fetch a n i)) total bytes) ≡ (if t then ask_from maps (suc (length p.blocks)) else To_fetch (length p.blocks) a n i (p.got ++ bytes))
  piece-wish a n i total bytes true e = rw e (as-next maps (record { got = []; blocks = p.blocks ++ (p.got ++ bytes) ∷ [] }) ∙ ap (ask_from maps) (length-snoc p.blocks (p.got ++ bytes)))
  piece-wish a n i total bytes false e = rw e refl

  heard-wish : (v : container_wish.Wish) (q : Packet) → Asks maps p v → wish_of_seen (container.after_packet maps x (At v) q) ≡ next_wish maps x (as_wish p v) (Got q)
  unfolding next_wish container.after_packet
  heard-wish (wished.Where m) (MapReady m' a n i) k = two wish_of_seen (m == m') (nat_eq m m') _ _ _ _ refl (λ t. rw (k.0, k.2) refl) (λ t. refl)
  heard-wish v (MapReady m' a n i) k = refl
  heard-wish (wished.Fetch a n i) (Piece b r o total bytes) k = two wish_of_seen (container.is_awaited x (At (wished.Fetch a n i)) b r o) (is_awaited x a p.got b r o) _ _ _ _ (awaited-is a n i b r o)
      (λ t. piece-wish a n i total bytes (is_all total (p.got ++ bytes)) refl) (λ t. refl)
  heard-wish v (Piece b r o total bytes) k = refl
  heard-wish (wished.Fetch a n i) (FetchLost c b) k = two wish_of_seen (container.same_attempt a b) (attempt_eq a b) _ _ _ _ (same-attempt a b) (λ t. ap (To_say_lost (length p.blocks)) (sym (attempt_eq-true a b t))) (λ t. refl)
  heard-wish v (FetchLost c b) k = refl
  heard-wish wished.Pending (Answer a true) k = two wish_of_seen (container.same_attempt x a) (attempt_eq x a) _ _ _ _ (same-attempt x a) (λ t. refl) (λ t. refl)
  heard-wish wished.Pending (Answer a false) k = two wish_of_seen (container.same_attempt x a) (attempt_eq x a) _ _ _ _ (same-attempt x a) (λ t. refl) (λ t. refl)
  heard-wish wished.Poll (Answer a true) k = two wish_of_seen (container.same_attempt x a) (attempt_eq x a) _ _ _ _ (same-attempt x a) (λ t. refl) (λ t. refl)
  heard-wish wished.Poll (Answer a false) k = two wish_of_seen (container.same_attempt x a) (attempt_eq x a) _ _ _ _ (same-attempt x a) (λ t. refl) (λ t. refl)
  heard-wish v (Answer a true) k = if_cases (λ z. wish_of_seen z ≡ as_wish p v) (container.same_attempt x a) _ _ (λ t. refl) (λ t. refl)
  heard-wish v (Answer a false) k = if_cases (λ z. wish_of_seen z ≡ as_wish p v) (container.same_attempt x a) _ _ (λ t. refl) (λ t. refl)
  heard-wish wished.Report (DoneAck a) k = two wish_of_seen (container.same_attempt x a) (attempt_eq x a) _ _ _ _ (same-attempt x a) (λ t. refl) (λ t. refl)
  heard-wish v (DoneAck a) k = refl
  heard-wish v q k = refl

  sent-wish : (v : container_wish.Wish) (q : Packet) → Asks maps p v → wish_of_seen (container.with_wish (At v) (container.wish_sent maps p.blocks v)) ≡ next_wish maps x (as_wish p v) (Sent q)
  unfolding next_wish
  sent-wish (wished.Lost a) q k = as-next maps p ∙ two (λ z. z) (nat_lt (length p.blocks) maps) true _ _ _ To_compute (lt-ltb _ _ k.0) (λ t. refl) (λ t. absurd (true≢false t))
  sent-wish v q k = refl

  called-wish : (v : container_wish.Wish) (op : Op) (r : Reply) → wish_of_seen (container.with_wish (At v) (container.wish_called v r)) ≡ next_wish maps x (as_wish p v) (Called op r)
  unfolding next_wish container.wish_called
  called-wish wished.Mkdirs op r = two (as_wish p) (container.is_fine r) (container.is_fine r) _ _ _ _ refl (λ t. refl) (λ t. refl)
  called-wish wished.Create op r = two (as_wish p) (container.is_fine r) (container.is_fine r) _ _ _ _ refl (λ t. refl) (λ t. refl)
  called-wish wished.Write op r = two (as_wish p) (container.is_fine r) (container.is_fine r) _ _ _ _ refl (λ t. refl) (λ t. refl)
  called-wish wished.Close op r = two (as_wish p) (container.is_fine r) (container.is_fine r) _ _ _ _ refl (λ t. refl) (λ t. refl)
  called-wish wished.Needs op r = two (as_wish p) (container.is_found r) (container.is_found r) _ _ _ _ refl (λ t. refl) (λ t. refl)
  called-wish wished.Look op r = two (as_wish p) (container.is_found r) (container.is_found r) _ _ _ _ refl (λ t. refl) (λ t. refl)
  called-wish wished.Clear op r = two (as_wish p) (container.is_cleared r) (container.is_cleared r) _ _ _ _ refl (λ t. refl) (λ t. refl)
  called-wish wished.Rename op r = two (as_wish p) (container.is_fine r) (container.is_fine r) _ _ _ _ refl (λ t. refl) (λ t. refl)
  called-wish v op r = refl

  -- its bytes, of a reduce or of a map
  bytes-wish : (k : TaskKind) (bytes : List ℕ) → wish_of_seen (container.with_result k (At wished.Compute) bytes) ≡ (if of_reduces k then To_mkdirs else To_report)
  bytes-wish Map bytes = refl
  bytes-wish Reduce bytes = refl

  computed-wish : (v : container_wish.Wish) (bytes : List ℕ) → wish_of_seen (container.after_bytes x (At v) bytes) ≡ next_wish maps x (as_wish p v) (Computed bytes)
  unfolding next_wish
  computed-wish wished.Compute bytes = bytes-wish x.task.kind bytes
  computed-wish v bytes = refl

  next-wished : (v : container_wish.Wish) (s : Step) → Asks maps p v → wish_of_seen (container.next_seen maps x (At v) s) ≡ next_wish maps x (as_wish p v) s
  unfolding container.next_seen
  next-wished v (Got q) k = heard-wish v q k
  next-wished v (Sent q) k = sent-wish v q k
  next-wished v (Computed bytes) k = computed-wish v bytes
  next-wished v (Called op r) k = called-wish v op r

  -- what is asked for stays so

  piece-asks : (a : Attempt) (n i total : ℕ) (bytes : List ℕ) → length p.blocks < maps → (t : Bool) → nat_le total (length (p.got ++ bytes)) ≡ t → AsksIn maps (container.with_piece maps (At (wished.Fetch a n i)) total bytes)
  piece-asks a n i total bytes k true e = rw e (next-asks maps (record { got = []; blocks = p.blocks ++ (p.got ++ bytes) ∷ [] }) _ refl refl)
  piece-asks a n i total bytes k false e = rw e k

  heard-asks : (v : container_wish.Wish) (q : Packet) → Asks maps p v → AsksIn maps (container.after_packet maps x (At v) q)
  unfolding container.after_packet
  heard-asks (wished.Where m) (MapReady m' a n i) k = if_cases (AsksIn maps) (m == m') _ _ (λ t. k.1) (λ t. k)
  heard-asks v (MapReady m' a n i) k = k
  heard-asks (wished.Fetch a n i) (Piece b r o total bytes) k = if_cases (AsksIn maps) (container.is_awaited x (At (wished.Fetch a n i)) b r o) _ _ (λ t. piece-asks a n i total bytes k _ refl) (λ t. k)
  heard-asks v (Piece b r o total bytes) k = k
  heard-asks (wished.Fetch a n i) (FetchLost c b) k = if_cases (AsksIn maps) (container.same_attempt a b) _ _ (λ t. (k, refl)) (λ t. k)
  heard-asks v (FetchLost c b) k = k
  heard-asks v (Answer a true) k = if_cases (AsksIn maps) (container.same_attempt x a) _ _ (λ t. yes v k) (λ t. k)
    where
      yes : (v : container_wish.Wish) → Asks maps p v → Asks maps p (container.answered true v)
      yes wished.Pending k = tt
      yes wished.Poll k = tt
      yes v k = k
  heard-asks v (Answer a false) k = if_cases (AsksIn maps) (container.same_attempt x a) _ _ (λ t. no v k) (λ t. k)
    where
      no : (v : container_wish.Wish) → Asks maps p v → Asks maps p (container.answered false v)
      no wished.Pending k = tt
      no wished.Poll k = tt
      no v k = k
  heard-asks wished.Report (DoneAck a) k = if_cases (AsksIn maps) (container.same_attempt x a) _ _ (λ t. tt) (λ t. tt)
  heard-asks v (DoneAck a) k = k
  heard-asks v q k = k

  sent-asks : (v : container_wish.Wish) → Asks maps p v → Asks maps p (container.wish_sent maps p.blocks v)
  sent-asks (wished.Lost a) k = next-asks maps p _ k.1 refl
  sent-asks wished.Failed k = tt
  sent-asks v k = k

  or-asks : (t : Bool) (v : container_wish.Wish) → Asks maps p v → Asks maps p (container.or_abort t v)
  or-asks t v k = if_cases (Asks maps p) t _ _ (λ u. k) (λ u. tt)

  called-asks : (v : container_wish.Wish) (r : Reply) → Asks maps p v → Asks maps p (container.wish_called v r)
  unfolding container.wish_called
  called-asks wished.Mkdirs r k = or-asks _ wished.Create tt
  called-asks wished.Create r k = or-asks _ wished.Write tt
  called-asks wished.Write r k = or-asks _ wished.Close tt
  called-asks wished.Close r k = or-asks _ wished.Needs tt
  called-asks wished.Needs r k = or-asks _ wished.Pending tt
  called-asks wished.Look r k = or-asks _ wished.Clear tt
  called-asks wished.Clear r k = or-asks _ wished.Rename tt
  called-asks wished.Rename r k = or-asks _ wished.Report tt
  called-asks wished.Abort r k = tt
  called-asks v r k = k

  bytes-asks : (k : TaskKind) (bytes : List ℕ) → AsksIn maps (container.with_result k (At wished.Compute) bytes)
  bytes-asks Map bytes = tt
  bytes-asks Reduce bytes = tt

  computed-asks : (v : container_wish.Wish) (bytes : List ℕ) → Asks maps p v → AsksIn maps (container.after_bytes x (At v) bytes)
  computed-asks wished.Compute bytes k = bytes-asks x.task.kind bytes
  computed-asks v bytes k = k

  next-asked : (v : container_wish.Wish) (s : Step) → Asks maps p v → AsksIn maps (container.next_seen maps x (At v) s)
  unfolding container.next_seen
  next-asked v (Got q) k = heard-asks v q k
  next-asked v (Sent q) k = sent-asks v k
  next-asked v (Computed bytes) k = computed-asks v bytes k
  next-asked v (Called op r) k = called-asks v r k

  -- the block that a step completes

  piece-blocks : (total : ℕ) (bytes : List ℕ) (t : Bool) → nat_le total (length (p.got ++ bytes)) ≡ t → (container.with_bytes p total bytes).blocks ≡ with_block p.blocks (if t then Some (p.got ++ bytes) else None)
  piece-blocks total bytes true e = rw e refl
  piece-blocks total bytes false e = rw e refl

  heard-blocks : (v : container_wish.Wish) (q : Packet) → (container.after_packet maps x (At v) q).pieces.blocks ≡ with_block p.blocks (completed x (as_wish p v) (Got q))
  unfolding container.after_packet
  heard-blocks (wished.Where m) (MapReady m' a n i) = if_cases (λ (z : container.Seen). z.pieces.blocks ≡ p.blocks) (m == m') _ _ (λ t. refl) (λ t. refl)
  heard-blocks v (MapReady m' a n i) = refl
  heard-blocks (wished.Fetch a n i) (Piece b r o total bytes) = by (is_awaited x a p.got b r o) (awaited-is a n i b r o)
    where
      by : (t : Bool) → container.is_awaited x (At (wished.Fetch a n i)) b r o ≡ t →
          (container.after_piece maps x (At (wished.Fetch a n i)) b r o total bytes).pieces.blocks ≡ with_block p.blocks (if t && is_all total (p.got ++ bytes) then Some (p.got ++ bytes) else None)
      by true e = rw e (piece-blocks total bytes _ refl)
      by false e = rw e refl
  heard-blocks v (Piece b r o total bytes) = refl
  heard-blocks (wished.Fetch a n i) (FetchLost c b) = if_cases (λ (z : container.Seen). z.pieces.blocks ≡ p.blocks) (container.same_attempt a b) _ _ (λ t. refl) (λ t. refl)
  heard-blocks v (FetchLost c b) = refl
  heard-blocks v (Answer a b) = if_cases (λ (z : container.Seen). z.pieces.blocks ≡ p.blocks) (container.same_attempt x a) _ _ (λ t. refl) (λ t. refl)
  heard-blocks wished.Report (DoneAck a) = if_cases (λ (z : container.Seen). z.pieces.blocks ≡ p.blocks) (container.same_attempt x a) _ _ (λ t. refl) (λ t. refl)
  heard-blocks v (DoneAck a) = refl
  heard-blocks v q = refl

  bytes-blocks : (k : TaskKind) (v : container_wish.Wish) (bytes : List ℕ) → (container.with_result k (At v) bytes).pieces.blocks ≡ p.blocks
  bytes-blocks Map v bytes = refl
  bytes-blocks Reduce v bytes = refl

  next-blocks : (v : container_wish.Wish) (s : Step) → (container.next_seen maps x (At v) s).pieces.blocks ≡ with_block p.blocks (completed x (as_wish p v) s)
  unfolding container.next_seen
  next-blocks v (Got q) = heard-blocks v q
  next-blocks (wished.Fetch a n i) (Sent q) = refl
  next-blocks v (Sent q) = refl
  next-blocks wished.Compute (Computed bytes) = bytes-blocks x.task.kind wished.Compute bytes
  next-blocks v (Computed bytes) = refl
  next-blocks (wished.Fetch a n i) (Called op r) = refl
  next-blocks v (Called op r) = refl

  -- what was handed in is not changed by what else comes

  pub heard-result : (v : container_wish.Wish) (q : Packet) → (container.after_packet maps x (At v) q).result ≡ text
  unfolding container.after_packet
  heard-result v (MapReady m' a n i) = if_cases (λ (z : container.Seen). z.result ≡ text) (container.asks_where v m') (container.with_wish (At v) (wished.Fetch a n i)) (At v) (λ t. refl) (λ t. refl)
  heard-result v (Piece b r o total bytes) = if_cases (λ (z : container.Seen). z.result ≡ text) (container.is_awaited x (At v) b r o) (container.with_piece maps (At v) total bytes) (At v) (λ t. refl) (λ t. refl)
  heard-result v (FetchLost c b) = if_cases (λ (z : container.Seen). z.result ≡ text) (container.fetches v b) (record { wish = wished.Lost b; pieces = record { got = []; blocks = p.blocks }; result = text }) (At v) (λ t. refl) (λ t. refl)
  heard-result v (Answer a b) = if_cases (λ (z : container.Seen). z.result ≡ text) (container.same_attempt x a) (container.with_wish (At v) (container.answered b v)) (At v) (λ t. refl) (λ t. refl)
  heard-result v (DoneAck a) = if_cases (λ (z : container.Seen). z.result ≡ text) (container.is_reporting v && container.same_attempt x a) (container.with_wish (At v) wished.Over) (At v) (λ t. refl) (λ t. refl)
  heard-result v q = refl

  -- a reduce's bytes are kept
  pub handed-result : (v : container_wish.Wish) (bytes : List ℕ) → is_reduce x ≡ true → container.is_computing v ≡ true → (container.after_bytes x (At v) bytes).result ≡ bytes
  handed-result v bytes r c = rw c (by x.task.kind r)
    where
      by : (k : TaskKind) → of_reduces k ≡ true → (container.with_result k (At v) bytes).result ≡ bytes
      by Map e = absurd (false≢true e)
      by Reduce e = refl

-- For every past

first-asks : (maps : ℕ) (x : Attempt) → AsksIn maps (container.opening maps x)
first-asks maps x = by x.task.kind
  where
    by : (k : TaskKind) → Asks maps container.no_pieces (container.first_wish maps k)
    by Map = tt
    by Reduce = next-asks maps container.no_pieces _ refl refl

first-wished : (maps : ℕ) (x : Attempt) → first_wish maps x ≡ wish_of_seen (container.opening maps x)
first-wished maps x = by x.task.kind
  where
    by : (k : TaskKind) → (if of_reduces k then ask_from maps 0 else To_compute) ≡ as_wish container.no_pieces (container.first_wish maps k)
    by Map = refl
    by Reduce = sym (as-next maps container.no_pieces)

pub asks : (maps : ℕ) (x : Attempt) (h : List Step) → AsksIn maps (container.seen maps x h)
unfolding container.seen
asks maps x [] = first-asks maps x
asks maps x (s ∷ h) = next-asked maps x (container.seen maps x h).pieces (container.seen maps x h).result (container.seen maps x h).wish s (asks maps x h)

-- the first wish, and the wish after one step more
pub wish-first : (maps : ℕ) (x : Attempt) → wish maps x [] ≡ first_wish maps x
unfolding wish container.seen
wish-first maps x = sym (first-wished maps x)

pub wish-step : (maps : ℕ) (x : Attempt) (h : List Step) (s : Step) → wish maps x (s ∷ h) ≡ next_wish maps x (wish maps x h) s
unfolding wish container.seen
wish-step maps x h s = next-wished maps x (container.seen maps x h).pieces (container.seen maps x h).result (container.seen maps x h).wish s (asks maps x h)

-- the blocks that are fetched, after one step more
pub fetched-step : (maps : ℕ) (x : Attempt) (h : List Step) (s : Step) → fetched maps x (s ∷ h) ≡ with_block (fetched maps x h) (completed x (wish maps x h) s)
unfolding wish fetched container.seen
fetched-step maps x h s = next-blocks maps x (container.seen maps x h).pieces (container.seen maps x h).result (container.seen maps x h).wish s

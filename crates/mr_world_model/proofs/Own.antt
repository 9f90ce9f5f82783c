-- An attempt's own directory through each step of its container.
use Rattle.std.proofs.Common.{ℕ, ◌≡◌, refl, sym, ◌∙◌, ap, subst, Bool, true, false, ◌&&◌, not, List, [], ◌∷◌, Option, Some, None, is_none, nat_eq, nat_lt, inl, inr, slice_get}
use Rattle.std.proofs.lemmas.Bool.{false≢true}
use Rattle.mr_world_model.specs.Ids.{Path, Attempt, ContainerId, container_eq, attempt_eq, task_attempt, committed, part_name, TaskId, is_reduce}
use Rattle.mr_world_model.specs.Content.{Full, NoMemory, Content, Kind, entry_at, Op, MkDirs, Create, Append, Close, Delete, Exist, left, refusal, NameFault, Missing, Superseded, Exists, NotDir, NotFile, NoParent, IntoItself, Barred, option_kind}
use Rattle.mr_world_model.specs.Packets.{Config, Packet, Envelope, Address, Master, Container, Node, Answer, MapReady, Piece, FetchLost, DoneAck, Reply, Found, Refused, Names}
use Rattle.mr_world_model.specs.Pasts.{Step, Got, Sent, Computed, Called, Wish, To_ask_where, To_fetch, To_say_lost, To_compute, To_mkdirs, To_create, To_write, To_close, To_need, To_pend, To_poll, To_look, To_clear, To_rename, To_report, To_abort, To_fail, wished_op, wished_packet, computed, part_at, Place}
use Rattle.mr_world_model.proofs.Nexts.{next_wish, is_awaited, if_found, if_cleared}
use Rattle.mr_world_model.specs.Hearing.{has}
use Rattle.mr_world_model.specs.World.{World, Event, Start, Crash, Duty, LaunchOn, Deliver, ContainerStep, Compute, Die, NodeRestart, Expire, unless_stopped, is_stopped, caller_of, caller_as, attempt_of, reply_to, Weather, container_act, Container_act, step_act, op_of, packet_of, call_of, reply_under, wish_at, as_heard}
use Rattle.mr_world_model.specs.Effect.{with_container_step, effect, not_now, content_after, wants_compute}
use Rattle.mr_container.specs.Readings.{is_fine}
use Rattle.mr_world_model.proofs.Pieces.{piece-wish}
use Rattle.mr_world_model.proofs.Basic.{if_cases, unless_parts}
use Rattle.mr_world_model.proofs.Files.{OwnDir, OwnDir-same, close-own}
use Rattle.mr_world_model.proofs.Commits.{there, may-close, create-step, write-step, mkdirs-step}
use Rattle.mr_world_model.proofs.Closed.{container_eq-true, container_eq-refl}
use Rattle.mr_world_model.proofs.Wishes.{StepOk}
use Rattle.mr_world_model.proofs.Reports.{wish_as}
use Rattle.mr_world_model.proofs.Steps.{Calls}
use Rattle.mr_world_model.proofs.Apart.{attempt_committed, left-elsewhere}
use Rattle.mr_world_model.proofs.Regions.{Answered, good, no, lost}

abbrev pub IsPlain : Step → Type 0
IsPlain (Called op r) = ⊥
IsPlain (Got p) = Unit {0}
IsPlain (Sent p) = Unit {0}
IsPlain (Computed b) = Unit {0}

pub plain-own : (c : Content) (d : Path) (t : TaskId) (maps : ℕ) (x : Attempt) (h : List Step) (v : Wish) (s : Step) → StepOk v s → IsPlain s → OwnDir c d t (computed h) v → OwnDir c d t (computed (s ∷ h)) (next_wish maps x v s)
unfolding next_wish computed
plain-own c d t maps x h v (Called op r) k i o = absurd i
plain-own c d t maps x h To_compute (Computed b) k i o = if_cases (λ z. OwnDir c d t b z) (is_reduce x) _ _ (λ q. o) (λ q. tt)
plain-own c d t maps x h v (Computed b) k i o = absurd (false≢true k)
plain-own c d t maps x h (To_ask_where m) (Got (MapReady m' a n j)) k i o = if_cases (λ z. OwnDir c d t (computed h) z) (nat_eq m m') _ _ (λ q. o) (λ q. o)
plain-own c d t maps x h (To_fetch m a n j got) (Got (Piece a' r off total bytes)) k i o = piece-wish (λ z. OwnDir c d t (computed h) z) maps m a n j got (is_awaited x a got a' r off) total bytes o o (λ g. o)
plain-own c d t maps x h (To_fetch m a n j got) (Got (FetchLost e a')) k i o = if_cases (λ z. OwnDir c d t (computed h) z) (attempt_eq a a') _ _ (λ q. o) (λ q. o)
plain-own c d t maps x h (To_say_lost m a) (Sent p) k i o = o
plain-own c d t maps x h To_pend (Sent p) k i o = o
plain-own c d t maps x h To_poll (Sent p) k i o = o
plain-own c d t maps x h To_pend (Got (Answer a true)) k i o = if_cases (λ z. OwnDir c d t (computed h) z) (attempt_eq x a) _ _ (λ q. o) (λ q. o)
plain-own c d t maps x h To_pend (Got (Answer a false)) k i o = if_cases (λ z. OwnDir c d t (computed h) z) (attempt_eq x a) _ _ (λ q. o) (λ q. o)
plain-own c d t maps x h To_poll (Got (Answer a true)) k i o = if_cases (λ z. OwnDir c d t (computed h) z) (attempt_eq x a) _ _ (λ q. o) (λ q. o)
plain-own c d t maps x h To_poll (Got (Answer a false)) k i o = if_cases (λ z. OwnDir c d t (computed h) z) (attempt_eq x a) _ _ (λ q. o) (λ q. o)
plain-own c d t maps x h To_report (Got (DoneAck a)) k i o = if_cases (λ z. OwnDir c d t (computed h) z) (attempt_eq x a) _ _ (λ q. tt) (λ q. o)
plain-own c d t maps x h To_fail (Sent p) k i o = tt
plain-own c d t maps x h v (Got p) k i o = o
plain-own c d t maps x h v (Sent p) k i o = o

close-there : (c : Content) (p : Path) → refusal c (Close p) ≡ None → is_none (entry_at c p) ≡ false
close-there c p e = there _ _ (may-close c p e).is_open

close-step : (c : Content) (k : ℕ) (a : Attempt) (bytes : List ℕ) → OwnDir c (task_attempt k a) a.task bytes To_close → refusal c (Close (part_at k a)) ≡ None →
    OwnDir (left c (Close (part_at k a))) (task_attempt k a) a.task bytes To_need
close-step c k a bytes (inl gone) ok = absurd (false≢true (sym (close-there c (part_at k a) ok) ∙ rw (gone (part_name a.task ∷ [])) refl))
close-step c k a bytes (inr h) ok = inr (close-own c (task_attempt k a) a.task bytes h)

abbrev After : Content → ℕ → Attempt → List ℕ → ℕ → Wish → Op → Reply → Type 0
After c' k a bytes maps v op r = OwnDir c' (task_attempt k a) a.task bytes (next_wish maps a v (Called op (as_heard r)))

found-own : (c : Content) (d : Path) (t : TaskId) (bytes : List ℕ) (o : Option Kind) (v : Wish) → OwnDir c d t bytes v → OwnDir c d t bytes (if_found (as_heard (Found o)) v)
found-own c d t bytes None v i = tt
found-own c d t bytes (Some k) v i = i

cleared-own : (c : Content) (d : Path) (t : TaskId) (bytes : List ℕ) (f : NameFault) → OwnDir c d t bytes To_rename → OwnDir c d t bytes (if_cleared (as_heard (Refused f)) To_rename)
cleared-own c d t bytes Missing i = i
cleared-own c d t bytes (Superseded g) i = tt
cleared-own c d t bytes Exists i = tt
cleared-own c d t bytes Barred i = tt
cleared-own c d t bytes NotDir i = tt
cleared-own c d t bytes NotFile i = tt
cleared-own c d t bytes NameFault.Closed i = tt
cleared-own c d t bytes NoParent i = tt
cleared-own c d t bytes IntoItself i = tt
cleared-own c d t bytes Full i = tt
cleared-own c d t bytes NoMemory i = tt

module _ (c c' : Content) (k : ℕ) (a : Attempt) (bytes : List ℕ) (maps : ℕ) where
  mkdirs-own : (r : Reply) → OwnDir c (task_attempt k a) a.task bytes To_mkdirs → Answered c (MkDirs (task_attempt k a)) c' r → After c' k a bytes maps To_mkdirs (MkDirs (task_attempt k a)) r
  unfolding next_wish
  mkdirs-own r o (good ok e) = subst (λ z. OwnDir z (task_attempt k a) a.task bytes To_create) (sym e) (mkdirs-step c k a bytes o)
  mkdirs-own r o (no f e) = tt
  mkdirs-own r o lost = tt

  create-own : (r : Reply) → OwnDir c (task_attempt k a) a.task bytes To_create → Answered c (Create (part_at k a) false) c' r → After c' k a bytes maps To_create (Create (part_at k a) false) r
  unfolding next_wish
  create-own r o (good ok e) = subst (λ z. OwnDir z (task_attempt k a) a.task bytes To_write) (sym e) (create-step c k a bytes o ok)
  create-own r o (no f e) = tt
  create-own r o lost = tt

  write-own : (r : Reply) → OwnDir c (task_attempt k a) a.task bytes To_write → Answered c (Append (part_at k a) bytes) c' r → After c' k a bytes maps To_write (Append (part_at k a) bytes) r
  unfolding next_wish
  write-own r o (good ok e) = subst (λ z. OwnDir z (task_attempt k a) a.task bytes To_close) (sym e) (write-step c k a bytes o ok)
  write-own r o (no f e) = tt
  write-own r o lost = tt

  closed-own : (r : Reply) → OwnDir c (task_attempt k a) a.task bytes To_close → Answered c (Close (part_at k a)) c' r → After c' k a bytes maps To_close (Close (part_at k a)) r
  unfolding next_wish
  closed-own r o (good ok e) = subst (λ z. OwnDir z (task_attempt k a) a.task bytes To_need) (sym e) (close-step c k a bytes o ok)
  closed-own r o (no f e) = tt
  closed-own r o lost = tt

  need-own : (r : Reply) → OwnDir c (task_attempt k a) a.task bytes To_need → Answered c (Exist (task_attempt k a)) c' r → After c' k a bytes maps To_need (Exist (task_attempt k a)) r
  unfolding next_wish left
  need-own r o (good ok e) = found-own c' (task_attempt k a) a.task bytes (option_kind (entry_at c (task_attempt k a))) To_pend (subst (λ z. OwnDir z (task_attempt k a) a.task bytes To_pend) (sym e) o)
  need-own r o (no f e) = tt
  need-own r o lost = tt

  look-own : (r : Reply) → OwnDir c (task_attempt k a) a.task bytes To_look → Answered c (Exist (task_attempt k a)) c' r → After c' k a bytes maps To_look (Exist (task_attempt k a)) r
  unfolding next_wish left
  look-own r o (good ok e) = found-own c' (task_attempt k a) a.task bytes (option_kind (entry_at c (task_attempt k a))) To_clear (subst (λ z. OwnDir z (task_attempt k a) a.task bytes To_clear) (sym e) o)
  look-own r o (no f e) = tt
  look-own r o lost = tt

  clear-own : (r : Reply) → OwnDir c (task_attempt k a) a.task bytes To_clear → Answered c (Delete (committed k a.task)) c' r → After c' k a bytes maps To_clear (Delete (committed k a.task)) r
  unfolding next_wish
  clear-own r o (good ok e) = subst (λ z. OwnDir z (task_attempt k a) a.task bytes To_rename) (sym e)
      (OwnDir-same c (left c (Delete (committed k a.task))) (task_attempt k a) a.task bytes To_rename (left-elsewhere c (Delete (committed k a.task)) (task_attempt k a) (attempt_committed k k a a.task)) o)
  clear-own r o (no f e) = cleared-own c' (task_attempt k a) a.task bytes f (subst (λ z. OwnDir z (task_attempt k a) a.task bytes To_rename) (sym e) o)
  clear-own r o lost = tt

  rename-own : (op : Op) (r : Reply) → Answered c op c' r → After c' k a bytes maps To_rename op r
  unfolding next_wish
  rename-own op r x = if_cases (λ z. OwnDir c' (task_attempt k a) a.task bytes z) (is_fine (as_heard r)) _ _ (λ t. tt) (λ t. tt)

  abort-own : (op : Op) (r : Reply) → After c' k a bytes maps To_abort op r
  unfolding next_wish
  abort-own op r = tt

  pub call-own : (v : Wish) (op : Op) (r : Reply) → wished_op k a bytes v ≡ Some op → OwnDir c (task_attempt k a) a.task bytes v → Answered c op c' r → After c' k a bytes maps v op r
  unfolding wished_op
  call-own To_mkdirs op r e o x = let f : MkDirs (task_attempt k a) ≡ op = cc in subst (λ z. Answered c z c' r → After c' k a bytes maps To_mkdirs z r) f (mkdirs-own r o) x
  call-own To_create op r e o x = let f : Create (part_at k a) false ≡ op = cc in subst (λ z. Answered c z c' r → After c' k a bytes maps To_create z r) f (create-own r o) x
  call-own To_write op r e o x = let f : Append (part_at k a) bytes ≡ op = cc in subst (λ z. Answered c z c' r → After c' k a bytes maps To_write z r) f (write-own r o) x
  call-own To_close op r e o x = let f : Close (part_at k a) ≡ op = cc in subst (λ z. Answered c z c' r → After c' k a bytes maps To_close z r) f (closed-own r o) x
  call-own To_need op r e o x = let f : Exist (task_attempt k a) ≡ op = cc in subst (λ z. Answered c z c' r → After c' k a bytes maps To_need z r) f (need-own r o) x
  call-own To_look op r e o x = let f : Exist (task_attempt k a) ≡ op = cc in subst (λ z. Answered c z c' r → After c' k a bytes maps To_look z r) f (look-own r o) x
  call-own To_clear op r e o x = let f : Delete (committed k a.task) ≡ op = cc in subst (λ z. Answered c z c' r → After c' k a bytes maps To_clear z r) f (clear-own r o) x
  call-own To_rename op r e o x = rename-own op r x
  call-own To_abort op r e o x = abort-own op r
  call-own _ op r e o x = cc

-- What an event adds to a container's past
pub data PastCase (cfg : Config) (w : World) (e : Event) (c : ContainerId) (p : Place) : Type 0 where
  stays : (effect cfg w e).container_past c ≡ w.container_past c → ((k : Calls cfg w e) → k.who ≡ c → ⊥) → PastCase cfg w e c p
  takes : (s : Step) → (effect cfg w e).container_past c ≡ s ∷ w.container_past c → IsPlain s → StepOk (wish_as cfg w c p) s → (effect cfg w e).content ≡ w.content → PastCase cfg w e c p
  called : (op : Op) → (g : Weather) → e ≡ ContainerStep c g → wished_op c.app p.attempt (computed (w.container_past c)) (wish_as cfg w c p) ≡ Some op →
      (effect cfg w e).container_past c ≡ Called op (as_heard (reply_under g (reply_to w (caller_as c p.attempt) (Names op)))) ∷ w.container_past c →
      (effect cfg w e).content ≡ content_after w (unless_stopped (is_stopped w (caller_as c p.attempt)) (Some (record { app = c.app; call = Names op; fault = g }))) → PastCase cfg w e c p

no-calls : {cfg : Config} {w : World} {e : Event} → ((c : ContainerId) (g : Weather) → e ≡ ContainerStep c g → ⊥) → (c : ContainerId) → (k : Calls cfg w e) → k.who ≡ c → ⊥
no-calls n c k q = n k.who k.weather k.event

unstopped : (w : World) (b : Bool) → content_after w (unless_stopped b None) ≡ w.content
unstopped w true = refl
unstopped w false = refl

step-past : (cfg : Config) (w : World) (d : ContainerId) (g : Weather) (c : ContainerId) (p : Place) → w.place c ≡ Some p → PastCase cfg w (ContainerStep d g) c p
unfolding container_act call_of
step-past cfg w d g c p q = by (container_eq c d) refl
  where
    by : (t : Bool) → container_eq c d ≡ t → PastCase cfg w (ContainerStep d g) c p
    by false t = stays (other (step_act w d g (op_of cfg w d) (packet_of cfg w d)) refl) (λ k m. false≢true (sym t ∙ same k m))
      where
        same : (k : Calls cfg w (ContainerStep d g)) → k.who ≡ c → container_eq c d ≡ true
        same k m = let f : ContainerStep d g ≡ ContainerStep k.who k.weather = k.event in let h : d ≡ k.who = cc in
            subst (λ z. container_eq c z ≡ true) (sym (h ∙ m)) (container_eq-refl c)

        other : (o : Option Container_act) → step_act w d g (op_of cfg w d) (packet_of cfg w d) ≡ o → (effect cfg w (ContainerStep d g)).container_past c ≡ w.container_past c
        other o u = who (op_of cfg w d) (packet_of cfg w d)
          where
            who : (o : Option Op) (v : Option Envelope) → with_container_step w.container_past (step_act w d g o v) c ≡ w.container_past c
            who (Some op) v = rw t refl
            who None (Some v) = rw t refl
            who None None = refl
    by true t = let cd = container_eq-true c d t in subst (λ z. PastCase cfg w (ContainerStep z g) c p) cd (at (wished_op c.app p.attempt (computed (w.container_past c)) (wish_as cfg w c p)) refl (wished_packet c p.attempt (computed (w.container_past c)) (wish_as cfg w c p)) refl)
      where
        callers : caller_of w c ≡ caller_as c p.attempt
        callers = ap (λ o. record { app = c.app; attempt = attempt_of o }) q

        refl-eq : container_eq c c ≡ true
        refl-eq = container_eq-refl c

        at : (o : Option Op) → wished_op c.app p.attempt (computed (w.container_past c)) (wish_as cfg w c p) ≡ o → (v : Option Envelope) → wished_packet c p.attempt (computed (w.container_past c)) (wish_as cfg w c p) ≡ v → PastCase cfg w (ContainerStep c g) c p
        at (Some op) r v s = called op g refl r (rw (q, r, refl-eq) (ap (λ z. Called op (as_heard (reply_under g (reply_to w z (Names op)))) ∷ w.container_past c) callers)) (rw (q, r) refl)
        at None r (Some v) s = takes (Sent v.body) (rw (q, r, s, refl-eq) refl) tt tt (rw (q, r) (unstopped w (has w.barred p.attempt && not (nat_lt c.app w.fence))))
        at None r None s = stays (rw (q, r, s) refl) (λ k m. none k m)
          where
            none : (k : Calls cfg w (ContainerStep c g)) → k.who ≡ c → ⊥
            none k m =
                let pl : w.place c ≡ Some k.place = subst (λ z. w.place z ≡ Some k.place) m k.placed in
                let kp : k.place ≡ p = cc (pl, q) in
                let u : wished_op c.app k.place.attempt (computed (w.container_past c)) (wish_as cfg w c k.place) ≡ Some k.op = subst (λ z. wished_op z.app k.place.attempt (computed (w.container_past z)) (wish_as cfg w z k.place) ≡ Some k.op) m k.wished in
                let v : wished_op c.app p.attempt (computed (w.container_past c)) (wish_as cfg w c p) ≡ Some k.op = subst (λ (z : Place). wished_op c.app z.attempt (computed (w.container_past c)) (wish_as cfg w c z) ≡ Some k.op) kp u in
                none-some (sym r ∙ v)
              where
                none-some : {x : Op} → None ≡ Some x → ⊥
                none-some e = cc

deliver-past : (cfg : Config) (w : World) (i : ℕ) (c : ContainerId) (p : Place) → PastCase cfg w (Deliver i) c p
unfolding container_act call_of
deliver-past cfg w i c p = by (slice_get w.bag i) refl
  where
    nope : (k : Calls cfg w (Deliver i)) → k.who ≡ c → ⊥
    nope = no-calls (λ d g e. cc) c

    by : (o : Option Envelope) → slice_get w.bag i ≡ o → PastCase cfg w (Deliver i) c p
    by None q = stays (rw q refl) nope
    by (Some v) q = to v.to v.body q
      where
        to : (x : Address) (b : Packet) → slice_get w.bag i ≡ Some (record { to = x; body = b }) → PastCase cfg w (Deliver i) c p
        to (Master k) b q = stays (rw q refl) nope
        to (Node n) b q = stays (rw q refl) nope
        to (Container d) b q = eq (container_eq c d) refl
          where
            eq : (t : Bool) → container_eq c d ≡ t → PastCase cfg w (Deliver i) c p
            eq true t = takes (Got b) (rw (q, t) refl) tt tt refl
            eq false t = stays (rw (q, t) refl) nope

compute-past : (cfg : Config) (w : World) (d : ContainerId) (b : List ℕ) (c : ContainerId) (p : Place) → w.place c ≡ Some p → not_now cfg w (Compute d b) ≡ None → PastCase cfg w (Compute d b) c p
unfolding container_act call_of not_now
compute-past cfg w d b c p q n = eq (container_eq c d) refl
  where
    eq : (t : Bool) → container_eq c d ≡ t → PastCase cfg w (Compute d b) c p
    eq true t = takes (Computed b) (rw t refl) tt (subst (λ o. wants_compute (wish_at cfg c o (w.container_past c)) ≡ true) q (subst (λ z. wants_compute (wish_at cfg z (w.place z) (w.container_past z)) ≡ true) (sym (container_eq-true c d t)) (unless_parts _ _ _ (unless_parts _ _ _ n).1).0)) refl
    eq false t = stays (rw t refl) (no-calls (λ d g e. cc) c)

pub past_case : (cfg : Config) (w : World) (e : Event) → not_now cfg w e ≡ None → (c : ContainerId) (p : Place) → w.place c ≡ Some p → PastCase cfg w e c p
unfolding container_act
past_case cfg w (Deliver i) n c p q = deliver-past cfg w i c p
past_case cfg w (ContainerStep d g) n c p q = step-past cfg w d g c p q
past_case cfg w (Compute d b) n c p q = compute-past cfg w d b c p q n
past_case cfg w (Start k kept) n c p q = stays refl (no-calls (λ d g e. cc) c)
past_case cfg w (Crash k kept) n c p q = stays refl (no-calls (λ d g e. cc) c)
past_case cfg w (Expire k m) n c p q = stays refl (no-calls (λ d g e. cc) c)
past_case cfg w (Duty k f) n c p q = stays refl (no-calls (λ d g e. cc) c)
past_case cfg w (LaunchOn k t m) n c p q = stays refl (no-calls (λ d g e. cc) c)
past_case cfg w (Die d) n c p q = stays refl (no-calls (λ d g e. cc) c)
past_case cfg w (NodeRestart m) n c p q = stays refl (no-calls (λ d g e. cc) c)

-- What stands of maps, and what was read of them, lies on nodes of the cluster; so a container fetches there.
use Rattle.std.proofs.Common.{ℕ, zero, suc, ◌<◌, ◌≡◌, refl, sym, ◌∙◌, subst, Bool, true, false, ◌&&◌, not, List, [], ◌∷◌, ◌++◌, Option, Some, None, if◌then◌else◌, is_some, nat_eq, nat_lt, nat_le, inl, inr}
use Rattle.std.proofs.lemmas.Bool.{false≢true}
use Rattle.mr_world_model.specs.Ids.{Attempt, ContainerId, TaskId, is_reduce, task_eq, attempt_eq}
use Rattle.mr_world_model.specs.Content.{Content, Op, NameFault, MkDirs, Create, Append, Close, Delete, Rename, ListDir, Exist, Read, Bar, refusal, bar_of}
use Rattle.mr_world_model.specs.Records.{Record, History, AttemptStarted, MapSucceeded, ReduceSucceeded, AttemptFailed, JobUnsuccessful, records_below, as_written}
use Rattle.mr_world_model.specs.Packets.{Config, Packet, Store, Reply, Names, Append_record, Flush, Read_history, MapReady}
use Rattle.mr_world_model.specs.Pasts.{Step, Got, Sent, Computed, Wish, To_ask_where, To_fetch, To_say_lost, To_compute}
use Rattle.mr_world_model.specs.Hearing.{Seen, Phase, Launched, Placed, is_running, heard, only_known, after_end, after_ended, end_there, end_maps, ended_by, over_with, has, find_launched, find_container, may_accept, is_live, is_won, failures, can_hear, placed, still_there, lose_there, without_placed, expired, stands, has_container}
use Rattle.mr_world_model.specs.Duties.{Master_step, Came, Launches, Expires, Asks, seen, next_seen, told, worked, with_read, is_fine, is_read, phase_told, records_of, newest_maps, without_task, success_of, rest_of}
use Rattle.mr_world_model.specs.World.{World, reply_of, own_reply, names_answer, unless_refused, reply_under, Weather, Calm, Unavailable, Unanswered}
use Rattle.mr_world_model.specs.Claims.{In}
use Rattle.mr_world_model.proofs.Basic.{if_cases}
use Rattle.mr_world_model.proofs.Lists.{Each, Each-append, Each-by, In-left}
use Rattle.mr_world_model.proofs.Closed.{bar-by, or-true}
use Rattle.mr_world_model.proofs.Told.{Stores}
use Rattle.mr_world_model.proofs.Nexts.{next_wish, ask_from, is_awaited, is_all}
use Rattle.mr_world_model.proofs.Wishes.{StepOk, is_late, is_result, late-next}
use Rattle.mr_world_model.proofs.Ranges.{Says, NamesOne, LaunchIn, always-placed}
use Rattle.mr_world_model.proofs.Ranges as ranges

-- ---- what stands, and what was read, lies on nodes of the cluster

abbrev pub Below : Config → Placed → Type 0
Below cfg p = p.node < cfg.nodes

-- a success of a map tells of such a node
abbrev pub TellsIn : Config → Record → Type 0
TellsIn cfg (MapSucceeded a n i) = n < cfg.nodes
TellsIn cfg (AttemptStarted a n) = Unit {0}
TellsIn cfg (ReduceSucceeded a z) = Unit {0}
TellsIn cfg (AttemptFailed a) = Unit {0}
TellsIn cfg JobUnsuccessful = Unit {0}

pub record Here (cfg : Config) (s : Seen) : Type 0 where
  pub stand : Each (Below cfg) s.standing
  pub read : Each (TellsIn cfg) s.history

module _ (cfg : Config) where
  abbrev pub B : List Placed → Type 0
  B ps = Each (Below cfg) ps

  still-below : (rs : List Attempt) (n i : ℕ) (ps : List Placed) → B ps → B (still_there rs n i ps)
  still-below rs n i [] o = tt
  still-below rs n i (p ∷ ps) o = if_cases B (has rs p.attempt && (nat_eq p.node n && nat_lt p.incarnation i)) _ _ (λ t. still-below rs n i ps o.1) (λ t. (o.0, still-below rs n i ps o.1))

  lose-below : (rs : List Attempt) (n : ℕ) (ps : List Placed) → B ps → B (lose_there rs n ps)
  lose-below rs n [] o = tt
  lose-below rs n (p ∷ ps) o = if_cases B (has rs p.attempt && nat_eq p.node n) _ _ (λ t. lose-below rs n ps o.1) (λ t. (o.0, lose-below rs n ps o.1))

  without-below : (a : Attempt) (ps : List Placed) → B ps → B (without_placed ps a)
  without-below a [] o = tt
  without-below a (p ∷ ps) o = if_cases B (attempt_eq a p.attempt) _ _ (λ t. without-below a ps o.1) (λ t. (o.0, without-below a ps o.1))

  task-below : (t : TaskId) (ps : List Placed) → B ps → B (without_task t ps)
  task-below t [] o = tt
  task-below t (p ∷ ps) o = if_cases B (task_eq p.attempt.task t) _ _ (λ e. task-below t ps o.1) (λ e. (o.0, task-below t ps o.1))

  newest-below : (f : ℕ → ℕ) (rs : List Record) (ps : List Placed) → Each (TellsIn cfg) rs → B ps → B (newest_maps f rs ps)
  unfolding newest_maps
  newest-below f [] ps r o = o
  newest-below f (MapSucceeded a n i ∷ rs) ps r o = newest-below f rs _ r.1 (if_cases B (nat_lt i (f n)) (without_task a.task ps) (record { attempt = a; node = n; incarnation = i } ∷ without_task a.task ps) (λ t. task-below a.task ps o) (λ t. (r.0, task-below a.task ps o)))
  newest-below f (AttemptStarted a n ∷ rs) ps r o = newest-below f rs ps r.1 o
  newest-below f (ReduceSucceeded a z ∷ rs) ps r o = newest-below f rs ps r.1 o
  newest-below f (AttemptFailed a ∷ rs) ps r o = newest-below f rs ps r.1 o
  newest-below f (JobUnsuccessful ∷ rs) ps r o = newest-below f rs ps r.1 o

  abbrev pub H : Seen → Type 0
  H s = Here cfg s

  ended_by-here : (s : Seen) (a : Attempt) (f : Bool) → H s → H (ended_by cfg s a f)
  ended_by-here s a false o = record { stand = o.stand; read = o.read }
  ended_by-here s a true o = if_cases H (nat_le cfg.limit (failures (over_with s a true) a) && not (is_won s (is_reduce a) a.task)) _ _
      (λ t. record { stand = o.stand; read = o.read }) (λ t. record { stand = o.stand; read = o.read })

  after_end-here : (s : Seen) (a : Attempt) (f : Bool) → H s → H (after_end cfg s a f)
  after_end-here s a f o = if_cases H (is_live s a) _ _ (λ t. ended_by-here s a f o) (λ t. o)

  after_ended-here : (s : Seen) (c : ContainerId) (l : Option Launched) → H s → H (after_ended cfg s c l)
  after_ended-here s c None o = o
  after_ended-here s c (Some l) o = after_end-here s l.attempt (not (has_container s.killed c)) o

  there-here : (n i : ℕ) (ls : List Launched) (s : Seen) → H s → H (end_there n i ls s)
  there-here n i [] s o = o
  there-here n i (l ∷ ls) s o = if_cases H (nat_eq l.node n && (nat_lt l.incarnation i && is_live s l.attempt)) _ _
      (λ t. there-here n i ls _ (record { stand = o.stand; read = o.read })) (λ t. there-here n i ls s o)

  maps-here : (n : ℕ) (ls : List Launched) (s : Seen) → H s → H (end_maps n ls s)
  maps-here n [] s o = o
  maps-here n (l ∷ ls) s o = if_cases H (nat_eq l.node n && (not (is_reduce l.attempt) && is_live s l.attempt)) _ _
      (λ t. maps-here n ls _ (record { stand = o.stand; read = o.read })) (λ t. maps-here n ls s o)

  pub stands-in : (ps : List Placed) (m : ℕ) (p : Placed) → stands ps m ≡ Some p → In p ps
  stands-in [] m p e = cc
  stands-in (x ∷ ps) m p e = by (nat_eq x.attempt.task.number m) e (stands-in ps m p)
    where
      by : (b : Bool) → (if b then Some x else stands ps m) ≡ Some p → (stands ps m ≡ Some p → In p ps) → In p (x ∷ ps)
      by true e go = let q : x ≡ p = cc in inl q
      by false e go = inr (go e)

  abbrev pub Launched-below : Seen → Type 0
  Launched-below s = (l : Launched) → In l s.launched → l.node < cfg.nodes

  placed-below : (s : Seen) (a : Attempt) (o : Option Launched) → find_launched s.launched a ≡ o → Launched-below s → B (placed a o)
  placed-below s a None e f = tt
  placed-below s a (Some l) e f = if_cases B (is_reduce a) _ _ (λ t. tt) (λ t. (f l (ranges.found s.launched a l e).0, tt))

  heard-here : (s : Seen) (p : Packet) → Launched-below s → H s → H (heard cfg s p)
  unfolding heard
  heard-here s (Packet.Pending b) f o = if_cases H (is_some (find_launched s.launched b) && not (has s.asked b)) _ _ (λ t. record { stand = o.stand; read = o.read }) (λ t. o)
  heard-here s (Packet.Poll b) f o = if_cases H (is_some (find_launched s.launched b) && not (has s.asked b)) _ _ (λ t. record { stand = o.stand; read = o.read }) (λ t. o)
  heard-here s (Packet.Done b z) f o = if_cases H (may_accept s b) _ _
      (λ t. record { stand = Each-append (Below cfg) (placed b (find_launched s.launched b)) s.standing (placed-below s b (find_launched s.launched b) refl f) o.stand; read = o.read }) (λ t. o)
  heard-here s (Packet.Failed b) f o = after_end-here s b true o
  heard-here s (Packet.Ended d) f o = after_ended-here s d (find_container s.launched d) o
  heard-here s (Packet.NodeUp m i) f o = if_cases H (nat_lt (s.known m) i) _ _ (λ t. there-here m i s.launched _ (record { stand = still-below s.recorded m i s.standing o.stand; read = o.read })) (λ t. o)
  heard-here s (Packet.FetchLost d b) f o = if_cases H (is_some (find_container s.launched d) && has s.recorded b) _ _ (λ t. record { stand = without-below b s.standing o.stand; read = o.read }) (λ t. o)
  heard-here s (Packet.Where d m) f o = o
  heard-here s _ f o = o

  known-here : (s : Seen) (p : Packet) → H s → H (only_known s p)
  known-here s (Packet.NodeUp m i) o = if_cases H (can_hear s.phase && nat_lt (s.known m) i) _ _ (λ t. record { stand = o.stand; read = o.read }) (λ t. o)
  known-here s _ o = o

  worked-here : (s : Seen) (call : Store) → H s → H (worked s call)
  worked-here s (Append_record r) o = record { stand = o.stand; read = o.read }
  worked-here s Flush o = record { stand = o.stand; read = o.read }
  worked-here s (Names op) o = bar-by H s (bar_of op) (λ a t ks. record { stand = o.stand; read = o.read }) o
  worked-here s Read_history o = o

  told-here : (k : ℕ) (s : Seen) (call : Store) (r : Reply) → Each (TellsIn cfg) (records_of r) → H s → H (told cfg k s call r)
  unfolding told
  told-here k s call r u o = if_cases H (is_running p && not (is_running F.phase)) (record F { phase = p; standing = newest_maps F.known F.history []; recorded = Rattle.mr_world_model.specs.Duties.attempts_of (newest_maps F.known F.history []) }) (record F { phase = p })
      (λ t. record { stand = newest-below F.known F.history [] read.read tt; read = read.read }) (λ t. record { stand = read.stand; read = read.read })
    where
      p : Phase
      p = phase_told k s s.phase call r

      F : Seen
      F = with_read cfg (if is_fine r then worked s call else s) call r

      fine : H (if is_fine r then worked s call else s)
      fine = if_cases H (is_fine r) _ _ (λ t. worked-here s call o) (λ t. o)

      read : H F
      read = if_cases H (is_read call) _ _ (λ t. record { stand = fine.stand; read = u }) (λ t. fine)

  -- what a step reads
  abbrev pub ReadIn : Master_step → Type 0
  ReadIn (Asks call r) = Each (TellsIn cfg) (records_of r)
  ReadIn (Came p) = Unit {0}
  ReadIn (Launches l) = Unit {0}
  ReadIn (Expires n) = Unit {0}

  pub next-here : (k : ℕ) (s : Seen) (x : Master_step) → Launched-below s → ReadIn x → H s → H (next_seen cfg k s x)
  unfolding next_seen expired
  next-here k s (Came p) f u o = if_cases H (is_running s.phase) _ _ (λ t. heard-here s p f o) (λ t. known-here s p o)
  next-here k s (Launches l) f u o = record { stand = o.stand; read = o.read }
  next-here k s (Expires n) f u o = maps-here n s.launched _ (record { stand = lose-below s.recorded n s.standing o.stand; read = o.read })
  next-here k s (Asks call r) f u o = told-here k s call r u o

  -- ---- what is read was stored

  pub written-in : (v : ℕ) (r : Record) → TellsIn cfg r → TellsIn cfg (as_written v r)
  written-in v (AttemptStarted a m) o = tt
  written-in v (MapSucceeded a m i) o = o
  written-in v (ReduceSucceeded a z) o = tt
  written-in v (AttemptFailed a) o = tt
  written-in v JobUnsuccessful o = tt

  pub named-in : (ls : List Launched) (r : Record) → ((l : Launched) → In l ls → l.node < cfg.nodes) → NamesOne ls r → TellsIn cfg r
  named-in ls (MapSucceeded a n i) f (inl e) = cc
  named-in ls (MapSucceeded a n i) f (inr u) = subst (λ z. z < cfg.nodes) u.2.1 (f u.0 u.1)
  named-in ls (AttemptStarted a m) f o = tt
  named-in ls (ReduceSucceeded a z) f o = tt
  named-in ls (AttemptFailed a) f o = tt
  named-in ls JobUnsuccessful f o = tt

  below-in : (h : History) (n : ℕ) → ((j : ℕ) (x : Record) → Stores (h j) x → TellsIn cfg x) → Each (TellsIn cfg) (records_below h n)
  unfolding records_below
  below-in h zero o = tt
  below-in h (suc n) o = Each-append (TellsIn cfg) (records_below h n) (h n).stable (below-in h n o) (Each-by (TellsIn cfg) (h n).stable (λ x i. o n x (In-left x (h n).stable (h n).tail i)))

  pub reply-in : (w : World) (k : ℕ) (f : Weather) (call : Store) → ((j : ℕ) (x : Record) → Stores (w.history j) x → TellsIn cfg x) → Each (TellsIn cfg) (records_of (reply_under f (reply_of w k call)))
  unfolding reply_of
  reply-in w k Unavailable call o = tt
  reply-in w k Unanswered call o = tt
  reply-in w k Calm call o = if_cases (λ r. Each (TellsIn cfg) (records_of r)) (nat_lt k w.fence) _ _ (λ t. tt) (λ t. own call)
    where
      names : (c : Content) (op : Op) → Each (TellsIn cfg) (records_of (names_answer c op))
      names c (MkDirs p) = tt
      names c (Create p z) = tt
      names c (Append p z) = tt
      names c (Close p) = tt
      names c (Delete p) = tt
      names c (Rename p q) = tt
      names c (ListDir p) = tt
      names c (Exist p) = tt
      names c (Read p) = tt
      names c (Bar a) = tt

      un : (m : Option NameFault) (r : Reply) → Each (TellsIn cfg) (records_of r) → Each (TellsIn cfg) (records_of (unless_refused m r))
      un None r g = g
      un (Some why) r g = tt

      own : (call : Store) → Each (TellsIn cfg) (records_of (own_reply w k call))
      own (Names op) = un (refusal w.content op) (names_answer w.content op) (names w.content op)
      own (Append_record r) = if_cases (λ y. Each (TellsIn cfg) (records_of y)) (w.history k).is_sealed _ _ (λ t. tt) (λ t. tt)
      own Flush = if_cases (λ y. Each (TellsIn cfg) (records_of y)) (w.history k).is_sealed _ _ (λ t. tt) (λ t. tt)
      own Read_history = below-in w.history k o

  -- ---- where a container fetches

  abbrev pub FetchesIn : Wish → Type 0
  FetchesIn (To_fetch m a n i got) = n < cfg.nodes
  FetchesIn _ = Unit {0}

  late-in : (v : Wish) → is_late v ≡ true → FetchesIn v
  late-in (To_fetch m a n i got) e = absurd (false≢true e)
  late-in v e = tt

  pub asks-in : (maps m : ℕ) → FetchesIn (ask_from maps m)
  asks-in maps m = if_cases FetchesIn (nat_lt m maps) _ _ (λ t. tt) (λ t. tt)

  -- where an output lies
  abbrev pub GotIn : Step → Type 0
  GotIn (Got (MapReady m a n i)) = n < cfg.nodes
  GotIn _ = Unit {0}

  pub wish-next : (maps : ℕ) (x : Attempt) (v : Wish) (s : Step) → StepOk v s → GotIn s → FetchesIn v → FetchesIn (next_wish maps x v s)
  unfolding next_wish
  wish-next maps x (To_ask_where m) (Got (MapReady m' a n i)) k c o = if_cases FetchesIn (nat_eq m m') _ _ (λ t. c) (λ t. tt)
  wish-next maps x (To_ask_where m) s k c o = tt
  wish-next maps x (To_fetch m a n i got) (Got (Packet.Piece b r off total bytes)) k c o =
      if_cases FetchesIn (is_awaited x a got b r off) _ _ (λ t. if_cases FetchesIn (is_all total (got ++ bytes)) _ _ (λ u. asks-in maps (suc m)) (λ u. o)) (λ t. o)
  wish-next maps x (To_fetch m a n i got) (Got (Packet.FetchLost d b)) k c o = if_cases FetchesIn (attempt_eq a b) _ _ (λ t. tt) (λ t. o)
  wish-next maps x (To_fetch m a n i got) s k c o = o
  wish-next maps x (To_say_lost m a) (Sent p) k c o = tt
  wish-next maps x (To_say_lost m a) s k c o = tt
  wish-next maps x To_compute (Computed bytes) k c o = if_cases FetchesIn (is_reduce x) _ _ (λ t. tt) (λ t. tt)
  wish-next maps x To_compute s k c o = tt
  wish-next maps x v s k c o = late-in (next_wish maps x v s) (sym (late-next maps x v s k) ∙ or-true (is_result s))

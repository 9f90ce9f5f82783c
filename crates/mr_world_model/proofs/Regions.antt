-- Which calls reach which parts of the layout, before job commit and abort.
use Rattle.std.proofs.Common.{ℕ, zero, suc, ◌≡◌, refl, sym, ◌∙◌, subst, Bool, true, false, not, List, [], ◌∷◌, ◌++◌, Option, Some, None, if◌then◌else◌, is_none, nat_lt, inl, inr}
use Rattle.std.proofs.lemmas.Bool.{true≢false}
use Rattle.mr_world_model.specs.Ids.{Name, Path, Attempt, name_eq, task_attempt, committed, job_attempt, dest, commit_started, part_name, task_name, is_hidden, TaskId, generation_name, dest_name, temporary_name}
use Rattle.mr_world_model.proofs.Names.{generation-ne}
use Rattle.mr_world_model.specs.Content.{Content, entry_at, Op, MkDirs, Create, Delete, Rename, Exist, Read, Bar, left, refusal, NameFault, Superseded, Barred}
use Rattle.mr_world_model.specs.Records.{Record}
use Rattle.mr_world_model.specs.Packets.{Config, Caller, Store, Reply, Names, Append_record, Flush, Read_history, Refused, Fault}
use Rattle.mr_world_model.specs.Pasts.{Wish, To_mkdirs, To_create, To_write, To_close, To_need, To_look, To_clear, To_rename, To_abort, wished_op}
use Rattle.mr_world_model.specs.Hearing.{Seen, Phase, Opening, Setting_up, Recovering, Running, Committing, Failing, Finished, Stopped, Recover_step, Measure, Look_below, Clear_own, Move_from, Todo_winner}
use Rattle.mr_world_model.specs.Duties.{bar_call, first_bar, duty_of, mark_at, record_call, recover_call, all_won, wants_flush, is_temporary}
use Rattle.mr_world_model.specs.World.{World, unless_stopped, is_stopped, reply_to, Weather, Calm, Unavailable, Unanswered, is_applied, names_left, reply_of, reply_under, unless_refused, names_answer}
use Rattle.mr_world_model.specs.Effect.{content_after}
use Rattle.mr_world_model.proofs.Basic.{if_cases}
use Rattle.mr_world_model.proofs.Paths.{name_eq-refl, name_eq-true, Away, left-away}
use Rattle.mr_world_model.proofs.Apart.{other_task, Diverge, Diverge-sym, Diverge-longer, elsewhere-away, OpElsewhere, attempt_committed}

-- a call leaves all of d as it is
abbrev pub AwayFrom : Op → Path → Type 0
AwayFrom op d = (x : Path) → Away op (d ++ x)

pub away-same : (c : Content) (op : Op) (d : Path) → AwayFrom op d → (x : Path) → entry_at (left c op) (d ++ x) ≡ entry_at c (d ++ x)
away-same c op d a x = left-away c op (d ++ x) (a x)

-- Containers

abbrev pub commits : Wish → Bool
commits To_clear = true
commits To_rename = true
commits _ = false

wish-region : (k : ℕ) (a : Attempt) (bytes : List ℕ) (v : Wish) (d : Path) → Diverge (task_attempt k a) d → (commits v ≡ true → Diverge (committed k a.task) d) → OpElsewhere (wished_op k a bytes v) d
unfolding wished_op
wish-region k a bytes To_mkdirs d e f = e
wish-region k a bytes To_create d e f = Diverge-longer (task_attempt k a) d (part_name a.task ∷ []) e
wish-region k a bytes To_write d e f = Diverge-longer (task_attempt k a) d (part_name a.task ∷ []) e
wish-region k a bytes To_close d e f = Diverge-longer (task_attempt k a) d (part_name a.task ∷ []) e
wish-region k a bytes To_need d e f = tt
wish-region k a bytes To_look d e f = tt
wish-region k a bytes To_clear d e f = f refl
wish-region k a bytes To_rename d e f = (e, f refl)
wish-region k a bytes To_abort d e f = e
wish-region k a bytes _ d e f = tt

pub op-region : (k : ℕ) (a : Attempt) (bytes : List ℕ) (v : Wish) (op : Op) (d : Path) → wished_op k a bytes v ≡ Some op → Diverge (task_attempt k a) d → (commits v ≡ true → Diverge (committed k a.task) d) → AwayFrom op d
op-region k a bytes v op d q e f = λ x. elsewhere-away op d x (subst (λ o. OpElsewhere o d) q (wish-region k a bytes v d e f))

-- Where paths part

pub name-ne : (a b : Name) → (a ≡ b → ⊥) → name_eq a b ≡ false
name-ne a b n = by (name_eq a b) refl
  where
    by : (t : Bool) → name_eq a b ≡ t → name_eq a b ≡ false
    by true e = absurd (n (name_eq-true a b e))
    by false e = e

pub attempt_other_job : (f k : ℕ) (a : Attempt) → (f ≡ k → ⊥) → Diverge (task_attempt f a) (job_attempt k)
attempt_other_job f k a n = inr (inr (inl (generation-ne f k n)))

pub committed_other_job : (f k : ℕ) (t : TaskId) → (f ≡ k → ⊥) → Diverge (committed f t) (job_attempt k)
committed_other_job f k t n = inr (inr (inl (generation-ne f k n)))

pub job_other_job : (f k : ℕ) → (f ≡ k → ⊥) → Diverge (job_attempt f) (job_attempt k)
job_other_job f k n = inr (inr (inl (generation-ne f k n)))

pub committed_other : (f k : ℕ) (t u : TaskId) → (f ≡ k → t ≡ u → ⊥) → Diverge (committed f t) (committed k u)
committed_other f k t u n = other_task f k t u n

pub attempt_from_committed : (f j : ℕ) (a : Attempt) (t : TaskId) → Diverge (task_attempt f a) (committed j t)
attempt_from_committed f j a t = Diverge-sym (committed j t) (task_attempt f a) (attempt_committed f j a t)

pub attempt_apart_name : (f k : ℕ) (a : Attempt) (n : Name) → is_temporary n ≡ false → Diverge (task_attempt f a) (job_attempt k ++ n ∷ [])
attempt_apart_name f k a n e = inr (inr (inr (inl (name-ne temporary_name n (λ q. true≢false (sym (subst (λ z. name_eq z temporary_name ≡ true) q (name_eq-refl temporary_name)) ∙ e))))))

pub committed_name : (f k : ℕ) (t : TaskId) (n : Name) → (n ≡ task_name t → ⊥) → Diverge (committed f t) (job_attempt k ++ n ∷ [])
committed_name f k t n e = inr (inr (inr (inl (name-ne (task_name t) n (λ q. e (sym q))))))

pub attempt_visible : (f : ℕ) (a : Attempt) (n : Name) → is_hidden n ≡ false → Diverge (task_attempt f a) (dest ++ n ∷ [])
attempt_visible f a n e = inr (inl (name-ne temporary_name n (λ q. true≢false (subst (λ z. is_hidden z ≡ false) (sym q) e))))

pub committed_visible : (f : ℕ) (t : TaskId) (n : Name) → is_hidden n ≡ false → Diverge (committed f t) (dest ++ n ∷ [])
committed_visible f t n e = inr (inl (name-ne temporary_name n (λ q. true≢false (subst (λ z. is_hidden z ≡ false) (sym q) e))))

-- making the job attempt's directory leaves all beneath it
pub setup-away : (f k : ℕ) (n : Name) (d : Path) → AwayFrom (MkDirs (job_attempt f)) (dest_name ∷ temporary_name ∷ generation_name k ∷ n ∷ d)
setup-away f k n d x = by (name_eq (generation_name k) (generation_name f)) None refl
  where
    by : (b : Bool) (o : Option Path) → o ≡ None → (if b then o else None) ≡ None
    by true o e = e
    by false o e = refl

-- The calls of a master before it commits or aborts

abbrev pub is_loud : Phase → Bool
is_loud (Committing at) = true
is_loud (Failing f) = f
is_loud _ = false

pub data Quiet_op (k : ℕ) (p : Phase) : Op → Type 0 where
  looks : (q : Path) → Quiet_op k p (Exist q)
  measures : (q : Path) → Quiet_op k p (Read q)
  sets_up : p ≡ Setting_up → Quiet_op k p (MkDirs (job_attempt k))
  clears : (x : Todo_winner) → (ws : List Todo_winner) → (j : ℕ) → p ≡ Recovering (x ∷ ws) (Clear_own j) → Quiet_op k p (Delete (committed k x.task))
  moves : (x : Todo_winner) → (ws : List Todo_winner) → (j : ℕ) → p ≡ Recovering (x ∷ ws) (Move_from j) → Quiet_op k p (Rename (committed j x.task) (committed k x.task))
  commits_now : p ≡ Running → Quiet_op k p (Create commit_started true)
  bars_now : (a : Attempt) → p ≡ Running → Quiet_op k p (Bar a)

abbrev QuietCall : ℕ → Phase → Option Store → Type 0
QuietCall k p None = Unit {0}
QuietCall k p (Some (Names op)) = Quiet_op k p op
QuietCall k p (Some (Append_record r)) = Unit {0}
QuietCall k p (Some Flush) = Unit {0}
QuietCall k p (Some Read_history) = Unit {0}

quiet-mark : (k : ℕ) (p : Phase) (n : ℕ) → QuietCall k p (Some (mark_at n))
quiet-mark k p zero = looks _
quiet-mark k p (suc zero) = looks _
quiet-mark k p (suc (suc zero)) = looks _
quiet-mark k p (suc (suc (suc n))) = tt

quiet-record : (k : ℕ) (p : Phase) (due tail : List Record) (o : Option Store) → QuietCall k p o → QuietCall k p (record_call due tail o)
quiet-record k p (r ∷ due) tail o q = tt
quiet-record k p [] tail o q = if_cases (QuietCall k p) (wants_flush tail) _ _ (λ t. tt) (λ t. q)

quiet-bar : (k : ℕ) (m : Option Attempt) (o : Option Store) → QuietCall k Running o → QuietCall k Running (bar_call m o)
quiet-bar k None o q = q
quiet-bar k (Some a) o q = bars_now a refl

quiet-recover : (k : ℕ) (ws : List Todo_winner) (at : Recover_step) → QuietCall k (Recovering ws at) (recover_call k ws at)
quiet-recover k [] at = tt
quiet-recover k (x ∷ ws) (Look_below j) = looks _
quiet-recover k (x ∷ ws) (Measure j) = measures _
quiet-recover k (x ∷ ws) (Clear_own j) = clears x ws j refl
quiet-recover k (x ∷ ws) (Move_from j) = moves x ws j refl

quiet-duty : (cfg : Config) (k : ℕ) (s : Seen) (p : Phase) → is_loud p ≡ false → QuietCall k p (duty_of cfg k s p)
unfolding duty_of
quiet-duty cfg k s (Opening n) l = quiet-mark k (Opening n) n
quiet-duty cfg k s Setting_up l = sets_up refl
quiet-duty cfg k s (Recovering ws at) l = quiet-recover k ws at
quiet-duty cfg k s Running l = quiet-bar k (first_bar s s.bars) _ (quiet-record k Running s.due s.tail _ (if_cases (QuietCall k Running) (all_won s.recorded s.winners cfg.job cfg.reduces) _ _ (λ t. commits_now refl) (λ t. tt)))
quiet-duty cfg k s (Failing true) l = absurd (true≢false l)
quiet-duty cfg k s (Failing false) l = quiet-record k (Failing false) s.due s.tail _ tt
quiet-duty cfg k s (Committing at) l = absurd (true≢false l)
quiet-duty cfg k s (Finished b) l = tt
quiet-duty cfg k s Stopped l = tt

pub quiet-op : (cfg : Config) (k : ℕ) (s : Seen) (op : Op) → is_loud s.phase ≡ false → duty_of cfg k s s.phase ≡ Some (Names op) → Quiet_op k s.phase op
quiet-op cfg k s op l d = subst (QuietCall k s.phase) d (quiet-duty cfg k s s.phase l)

-- What a call leaves

pub data Leaves (c : Content) (call : Store) (c' : Content) : Type 0 where
  same : c' ≡ c → Leaves c call c'
  did : (op : Op) → call ≡ Names op → refusal c op ≡ None → c' ≡ left c op → Leaves c call c'

named-left : (c : Content) (op : Op) → Leaves c (Names op) (names_left c (Names op))
named-left c op = by (refusal c op) refl
  where
    by : (f : Option NameFault) → refusal c op ≡ f → Leaves c (Names op) (if is_none f then left c op else c)
    by None e = did op refl e refl
    by (Some f) e = same refl

call-left : (c : Content) (call : Store) → Leaves c call (names_left c call)
call-left c (Names op) = named-left c op
call-left c (Append_record r) = same refl
call-left c Flush = same refl
call-left c Read_history = same refl

pub made-left : (w : World) (k : ℕ) (call : Store) (g : Weather) → Leaves w.content call (content_after w (Some (record { app = k; call = call; fault = g })))
made-left w k call g = if_cases (Leaves w.content call) (is_applied w k g) _ _ (λ t. call-left w.content call) (λ t. same refl)

-- What a call of names is answered: what was done, a refusal that left all, or a fault
pub data Answered (c : Content) (op : Op) (c' : Content) : Reply → Type 0 where
  good : refusal c op ≡ None → c' ≡ left c op → Answered c op c' (names_answer c op)
  no : (f : NameFault) → c' ≡ c → Answered c op c' (Refused f)
  lost : Answered c op c' Fault

pub answered : (w : World) (k : ℕ) (op : Op) (g : Weather) → Answered w.content op (content_after w (Some (record { app = k; call = Names op; fault = g }))) (reply_under g (reply_of w k (Names op)))
unfolding reply_of
answered w k op Unavailable = lost
answered w k op Unanswered = lost
answered w k op Calm = by (nat_lt k w.fence) (refusal w.content op) refl
  where
    by : (b : Bool) (f : Option NameFault) → refusal w.content op ≡ f →
        Answered w.content op (if not b then (if is_none f then left w.content op else w.content) else w.content) (if b then Refused (Superseded w.fence) else unless_refused f (names_answer w.content op))
    by true f e = no (Superseded w.fence) refl
    by false None e = good e refl
    by false (Some f) e = no f refl

-- the same where a bar may turn the call away
pub answered-to : (w : World) (c : Caller) (op : Op) (g : Weather) →
    Answered w.content op (content_after w (unless_stopped (is_stopped w c) (Some (record { app = c.app; call = Names op; fault = g })))) (reply_under g (reply_to w c (Names op)))
unfolding reply_to
answered-to w c op g = by (is_stopped w c)
  where
    refuse : (g : Weather) → Answered w.content op w.content (reply_under g (Refused Barred))
    refuse Calm = no Barred refl
    refuse Unavailable = lost
    refuse Unanswered = lost

    by : (b : Bool) → Answered w.content op (content_after w (unless_stopped b (Some (record { app = c.app; call = Names op; fault = g })))) (reply_under g (if b then Refused Barred else reply_of w c.app (Names op)))
    by true = refuse g
    by false = answered w c.app op g

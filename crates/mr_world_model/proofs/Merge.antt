-- The merge: what the phase of the newest master says of the destination, the marker and the marks, and which events change them.
use Rattle.std.proofs.Common.{ℕ, zero, suc, ◌≡◌, refl, sym, ◌∙◌, ap, subst, Bool, true, false, List, [], ◌∷◌, ◌++◌, Option, Some, None, is_none, ◌⊎◌, inl, inr}
use Rattle.std.proofs.lemmas.Bool.{true≢false}
use Rattle.mr_world_model.specs.Claims.{IsReduce}
use Rattle.mr_world_model.specs.Ids.{Name, Path, Attempt, path_eq, committed, job_attempt, temporary, marker, dest, commit_started, commit_success, commit_fail, part_name, task_name, part, TaskId, generation_name}
use Rattle.mr_world_model.specs.Content.{Dir, File, entry_at, Op, MkDirs, Create, Delete, Rename, ListDir, Exist, Read, Bar, left}
use Rattle.mr_world_model.specs.Records.{Record, JobUnsuccessful}
use Rattle.mr_world_model.specs.Packets.{Config, Store, Names, Append_record, Flush, Read_history}
use Rattle.mr_world_model.specs.Hearing.{Seen, Phase, Opening, Setting_up, Recovering, Running, Committing, Failing, Finished, Stopped, List_job, Merging, Cleaning, Marking, Succeeding, Failing_mark, Aborting, Merge_step, Look_at, List_into, Move_to}
use Rattle.mr_world_model.specs.Duties.{is_temporary, duty_of, record_call, merge_call, wants_flush}
use Rattle.mr_world_model.specs.World.{World, Event}
use Rattle.mr_world_model.specs.Effect.{effect, not_now, content_after}
use Rattle.mr_world_model.specs.Claims.{In, winner, records, IsWhole, IsMarked, IsVisible, IsComplete}
use Rattle.mr_world_model.proofs.Basic.{if_cases}
use Rattle.mr_world_model.proofs.Paths.{path_eq-refl, put-other}
use Rattle.mr_world_model.proofs.Apart.{Diverge, Diverge-longer, Elsewhere}
use Rattle.mr_world_model.proofs.Regions
use Rattle.mr_world_model.proofs.Regions.{is_loud, Quiet_op, looks, measures, sets_up, clears, moves, commits_now, bars_now, quiet-op, Leaves, did, made-left, name-ne}
use Rattle.mr_world_model.proofs.Steps.{Case, still, hears, asks, calls, starts, case_of, newest}
use Rattle.mr_world_model.proofs.Dirs.{Known}
use Rattle.mr_world_model.proofs.Recorded.{Ready}
use Rattle.mr_world_model.proofs.Sorted.{Waits, waiting, IsOnce}
use Rattle.mr_world_model.proofs.Outside.{Outside, elsewhere-at, calls-kept}

abbrev pub IsNotThere : World → Path → Type 0
IsNotThere w p = entry_at w.content p ≡ None

abbrev pub IsThere : World → Path → Type 0
IsThere w p = is_none (entry_at w.content p) ≡ false

abbrev pub NothingSeen : World → Type 0
NothingSeen w = (p : Path) → IsVisible p → entry_at w.content p ≡ None

abbrev pub Unmarked : World → Type 0
Unmarked w = IsNotThere w marker × (IsNotThere w commit_success × IsNotThere w commit_fail)

-- the part of reduce t is shown
pub record Shown (w : World) (t : TaskId) : Type 0 where
  pub attempt : Attempt
  pub bytes : List ℕ
  pub wins : winner w t ≡ Some attempt
  pub whole : IsWhole w attempt bytes
  pub file : entry_at w.content (part t) ≡ Some (File bytes true)

-- the stages of one task in a merge; d is the kind that the listing gave its part
abbrev pub Lists : ℕ → TaskId → Merge_step
Lists k t = List_into (committed k t) dest

abbrev pub Looks : ℕ → TaskId → Bool → Merge_step
Looks k t d = Look_at (committed k t ++ part_name t ∷ []) (dest ++ part_name t ∷ []) d

abbrev pub Moves : ℕ → TaskId → Merge_step
Moves k t = Move_to (committed k t ++ part_name t ∷ []) (dest ++ part_name t ∷ [])

pub data Stage (k : ℕ) (now : TaskId) (rest : List TaskId) : List Merge_step → Type 0 where
  waits : Stage k now rest (Waits k now ∷ waiting k rest)
  lists : Stage k now rest (Lists k now ∷ waiting k rest)
  looking : (d : Bool) → Stage k now rest (Looks k now d ∷ waiting k rest)
  moving : Stage k now rest (Moves k now ∷ waiting k rest)

-- the tasks that are left to merge, each once: theirs are ready, all others' are shown, and nothing else is seen
pub record Tasks (cfg : Config) (w : World) (k : ℕ) (todo : List TaskId) : Type 0 where
  pub once : IsOnce todo
  pub small : (t : TaskId) → In t todo → IsReduce cfg t
  pub ready : (t : TaskId) → In t todo → Ready w k t
  pub merged : (t : TaskId) → IsReduce cfg t → (In t todo → ⊥) → Shown w t
  pub only : (p : Path) → IsVisible p → ((t : TaskId) → IsReduce cfg t → (In t todo → ⊥) → p ≡ part t → ⊥) → entry_at w.content p ≡ None

-- the first of them at one of its stages
pub record MergeAt (cfg : Config) (w : World) (k : ℕ) (todo : List Merge_step) : Type 0 where
  pub now : TaskId
  pub rest : List TaskId
  pub tasks : Tasks cfg w k (now ∷ rest)
  pub stage : Stage k now rest todo

-- where a commit begins: all is won, beside its staging folder the job attempt has the reduces' directories alone, and nothing is seen
pub record Begun (cfg : Config) (w : World) (k : ℕ) : Type 0 where
  pub won : (t : TaskId) → IsReduce cfg t → Ready w k t
  pub tasks : (n : Name) → is_temporary n ≡ false → ((t : TaskId) → IsReduce cfg t → n ≡ task_name t → ⊥) → entry_at w.content (job_attempt k ++ n ∷ []) ≡ None
  pub clear : NothingSeen w

abbrev pub HasDest : World → Type 0
HasDest w = entry_at w.content dest ≡ Some Dir

abbrev pub Loose : Config → World → Type 0
Loose cfg w = IsMarked w → IsComplete cfg w

-- what is known where an outcome was told
abbrev pub Ended : World → Bool → Type 0
Ended w true = IsThere w commit_success
Ended w false = IsNotThere w commit_success × (IsThere w commit_started ⊎ In JobUnsuccessful (records w))

-- what the phase of the newest master, k, says of the merge, the marker and the marks
abbrev pub MergePhase : Config → World → ℕ → Phase → Type 0
MergePhase cfg w k (Opening zero) = Loose cfg w
MergePhase cfg w k (Opening (suc zero)) = IsNotThere w commit_success × Loose cfg w
MergePhase cfg w k (Opening (suc (suc n))) = (IsNotThere w commit_success × IsNotThere w commit_fail) × Loose cfg w
MergePhase cfg w k Setting_up = Loose cfg w
MergePhase cfg w k (Recovering ws at) = HasDest w × Loose cfg w
MergePhase cfg w k Running = HasDest w × Loose cfg w
MergePhase cfg w k (Failing f) = Loose cfg w
MergePhase cfg w k (Committing List_job) = Unmarked w × (HasDest w × Begun cfg w k)
MergePhase cfg w k (Committing (Merging ms)) = Unmarked w × (HasDest w × MergeAt cfg w k ms)
MergePhase cfg w k (Committing Cleaning) = Unmarked w × IsComplete cfg w
MergePhase cfg w k (Committing Marking) = Unmarked w × IsComplete cfg w
MergePhase cfg w k (Committing Succeeding) = (IsNotThere w commit_success × IsNotThere w commit_fail) × (IsMarked w × IsComplete cfg w)
MergePhase cfg w k (Committing Failing_mark) = (IsNotThere w commit_success × IsNotThere w commit_fail) × Loose cfg w
MergePhase cfg w k (Committing Aborting) = (IsNotThere w commit_success × IsThere w commit_fail) × Loose cfg w
MergePhase cfg w k (Finished b) = Ended w b × Loose cfg w
MergePhase cfg w k Stopped = Loose cfg w

pub record Merge (cfg : Config) (w : World) : Type 0 where
  pub before : IsNotThere w commit_started → Unmarked w × NothingSeen w
  pub success : IsThere w commit_success → IsMarked w × IsNotThere w commit_fail
  pub phase : MergePhase cfg w w.fence (newest cfg w).phase

-- Which calls of a master reach outside the staging folder

abbrev pub created_by : Phase → Option Path
created_by Running = Some commit_started
created_by (Committing Marking) = Some marker
created_by (Committing Succeeding) = Some commit_success
created_by (Committing Failing_mark) = Some commit_fail
created_by _ = None

abbrev pub is_created : Option Path → Path → Bool
is_created None d = false
is_created (Some q) d = path_eq q d

abbrev pub is_merging : Phase → Bool
is_merging (Committing (Merging ms)) = true
is_merging _ = false

pub data Outer (cfg : Config) (w : World) (e : Event) : Type 0 where
  keeps : ((d : Path) → Outside d → entry_at (effect cfg w e).content d ≡ entry_at w.content d) → Outer cfg w e
  creates : (q : Path) → created_by (newest cfg w).phase ≡ Some q → (effect cfg w e).content ≡ left w.content (Create q true) → Outer cfg w e
  shows : (t : TaskId) → (rest : List TaskId) → Tasks cfg w w.fence (t ∷ rest) → is_merging (newest cfg w).phase ≡ true → (effect cfg w e).content ≡ left w.content (Rename (committed w.fence t ++ part_name t ∷ []) (dest ++ part_name t ∷ [])) → Outer cfg w e

abbrev FailCall : Bool → Option Store → Type 0
FailCall f None = Unit {0}
FailCall f (Some (Names op)) = (op ≡ Delete temporary) × (f ≡ true)
FailCall f (Some (Append_record r)) = Unit {0}
FailCall f (Some Flush) = Unit {0}
FailCall f (Some Read_history) = Unit {0}

fail-record : (f : Bool) (due tail : List Record) (o : Option Store) → FailCall f o → FailCall f (record_call due tail o)
fail-record f (r ∷ due) tail o q = tt
fail-record f [] tail o q = if_cases (FailCall f) (wants_flush tail) _ _ (λ t. tt) (λ t. q)

fail-duty : (cfg : Config) (k : ℕ) (s : Seen) (f : Bool) → FailCall f (duty_of cfg k s (Failing f))
unfolding duty_of
fail-duty cfg k s f = fail-record f s.due s.tail _ (if_cases (FailCall f) f _ _ (λ t. (refl, t)) (λ t. tt))

pub fail-op : (cfg : Config) (k : ℕ) (s : Seen) (f : Bool) (op : Op) → duty_of cfg k s (Failing f) ≡ Some (Names op) → (op ≡ Delete temporary) × (f ≡ true)
fail-op cfg k s f op d = subst (FailCall f) d (fail-duty cfg k s f)

module _ (cfg : Config) (w : World) (e : Event) where
  op-keeps : (op : Op) → (effect cfg w e).content ≡ left w.content op → ((d : Path) → Outside d → Elsewhere op d) → Outer cfg w e
  op-keeps op c f = keeps (λ d o. ap (λ z. entry_at z d) c ∙ elsewhere-at w.content op d (f d o))

  named-keeps : (op' op : Op) → op' ≡ op → (effect cfg w e).content ≡ left w.content op → ((d : Path) → Outside d → Elsewhere op' d) → Outer cfg w e
  named-keeps op' op q c f = op-keeps op' (c ∙ ap (λ z. left w.content z) (sym q)) f

  quiet-outer : (op : Op) → Quiet_op w.fence (newest cfg w).phase op → (effect cfg w e).content ≡ left w.content op → Outer cfg w e
  quiet-outer _ (looks q) c = op-keeps (Exist q) c (λ d o. tt)
  quiet-outer _ (measures q) c = op-keeps (Read q) c (λ d o. tt)
  quiet-outer _ (bars_now a q) c = op-keeps (Bar a) c (λ d o. tt)
  quiet-outer _ (sets_up q) c = op-keeps (MkDirs (job_attempt w.fence)) c (λ d o. Diverge-longer temporary d (generation_name w.fence ∷ []) o)
  quiet-outer _ (clears x ws j q) c = op-keeps (Delete (committed w.fence x.task)) c (λ d o. Diverge-longer temporary d (generation_name w.fence ∷ task_name x.task ∷ []) o)
  quiet-outer _ (moves x ws j q) c = op-keeps (Rename (committed j x.task) (committed w.fence x.task)) c
      (λ d o. (Diverge-longer temporary d (generation_name j ∷ task_name x.task ∷ []) o, Diverge-longer temporary d (generation_name w.fence ∷ task_name x.task ∷ []) o))
  quiet-outer _ (commits_now q) c = creates commit_started (rw q refl) c

  stage-outer : (now : TaskId) (rest : List TaskId) (todo : List Merge_step) → Stage w.fence now rest todo → Tasks cfg w w.fence (now ∷ rest) → is_merging (newest cfg w).phase ≡ true → (op : Op) → merge_call todo ≡ Some (Names op) → (effect cfg w e).content ≡ left w.content op → Outer cfg w e
  stage-outer now rest _ waits a m op d c = named-keeps (Exist dest) op (cc) c (λ d o. tt)
  stage-outer now rest _ lists a m op d c = named-keeps (ListDir (committed w.fence now)) op (cc) c (λ d o. tt)
  stage-outer now rest _ (looking b) a m op d c = named-keeps (Exist (dest ++ part_name now ∷ [])) op (cc) c (λ d o. tt)
  stage-outer now rest _ moving a m op d c = let q : Rename (committed w.fence now ++ part_name now ∷ []) (dest ++ part_name now ∷ []) ≡ op = cc in shows now rest a m (c ∙ ap (λ z. left w.content z) (sym q))

  op-outer : (op : Op) (p : Phase) → (newest cfg w).phase ≡ p → duty_of cfg w.fence (newest cfg w) p ≡ Some (Names op) → MergePhase cfg w w.fence p → (effect cfg w e).content ≡ left w.content op → Outer cfg w e
  unfolding duty_of
  op-outer op p ph du m c = by p ph du m
    where
      quiet : (p : Phase) → (newest cfg w).phase ≡ p → duty_of cfg w.fence (newest cfg w) p ≡ Some (Names op) → is_loud p ≡ false → Outer cfg w e
      quiet p z d l = quiet-outer op (quiet-op cfg w.fence (newest cfg w) op (subst (λ q. is_loud q ≡ false) (sym z) l) (subst (λ q. duty_of cfg w.fence (newest cfg w) q ≡ Some (Names op)) (sym z) d)) c

      by : (p : Phase) → (newest cfg w).phase ≡ p → duty_of cfg w.fence (newest cfg w) p ≡ Some (Names op) → MergePhase cfg w w.fence p → Outer cfg w e
      by (Opening i) z d m = quiet (Opening i) z d refl
      by Setting_up z d m = quiet Setting_up z d refl
      by (Recovering ws at) z d m = quiet (Recovering ws at) z d refl
      by Running z d m = quiet Running z d refl
      by (Failing f) z d m = named-keeps (Delete temporary) op (sym (fail-op cfg w.fence (newest cfg w) f op d).0) c (λ d o. o)
      by (Committing List_job) z d m = named-keeps (ListDir (job_attempt w.fence)) op (cc) c (λ d o. tt)
      by (Committing (Merging ms)) z d m = let a = m.1.1 in stage-outer a.now a.rest ms a.stage a.tasks (subst (λ q. is_merging q ≡ true) (sym z) refl) op d c
      by (Committing Cleaning) z d m = named-keeps (Delete temporary) op (cc) c (λ d o. o)
      by (Committing Marking) z d m = let q : Create marker true ≡ op = cc in creates marker (rw z refl) (c ∙ ap (λ z. left w.content z) (sym q))
      by (Committing Succeeding) z d m = let q : Create commit_success true ≡ op = cc in creates commit_success (rw z refl) (c ∙ ap (λ z. left w.content z) (sym q))
      by (Committing Failing_mark) z d m = let q : Create commit_fail true ≡ op = cc in creates commit_fail (rw z refl) (c ∙ ap (λ z. left w.content z) (sym q))
      by (Committing Aborting) z d m = named-keeps (Delete temporary) op (cc) c (λ d o. o)
      by (Finished b) z d m = cc
      by Stopped z d m = cc

  -- every event, by what it changes outside
  pub outer : Known cfg w → not_now cfg w e ≡ None → Merge cfg w → Outer cfg w e
  outer kn n m = by (case_of cfg w e kn.honest kn.cluster n)
    where
      by : Case cfg w e → Outer cfg w e
      by (still fe c s) = keeps (λ d o. ap (λ z. entry_at z d) c)
      by (hears y h al sf fe c s) = keeps (λ d o. ap (λ z. entry_at z d) c)
      by (calls k) = keeps (calls-kept cfg w e kn n k).outside
      by (starts fe c s) = keeps (λ d o. ap (λ z. entry_at z d) c)
      by (asks call g ev du fe c s) = lv (made-left w w.fence call g)
        where
          lv : Leaves w.content call (content_after w (Some (record { app = w.fence; call = call; fault = g }))) → Outer cfg w e
          lv (Regions.same q) = keeps (λ d o. ap (λ z. entry_at z d) (c ∙ q))
          lv (did op q ok l) = op-outer op (newest cfg w).phase refl (du ∙ ap Some q) m.phase (c ∙ l)

-- an entry outside that no event of this kind reaches
pub same-at : (cfg : Config) (w : World) (e : Event) → Outer cfg w e → (d : Path) → Outside d → is_created (created_by (newest cfg w).phase) d ≡ false →
    (is_merging (newest cfg w).phase ≡ false) ⊎ ((t : TaskId) → Diverge (dest ++ part_name t ∷ []) d) → entry_at (effect cfg w e).content d ≡ entry_at w.content d
unfolding left
same-at cfg w e (keeps f) d o i m = f d o
same-at cfg w e (creates q r c) d o i m = ap (λ z. entry_at z d) c ∙ put-other w.content q _ d
    (λ u. true≢false (sym (path_eq-refl d) ∙ subst (λ z. path_eq z d ≡ false) u (subst (λ z. is_created z d ≡ false) r i)))
same-at cfg w e (shows t rest a r c) d o i (inl f) = absurd (true≢false (sym r ∙ f))
same-at cfg w e (shows t rest a r c) d o i (inr f) = ap (λ z. entry_at z d) c ∙ elsewhere-at w.content (Rename (committed w.fence t ++ part_name t ∷ []) (dest ++ part_name t ∷ [])) d
    (Diverge-longer temporary d (generation_name w.fence ∷ task_name t ∷ part_name t ∷ []) o, f t)

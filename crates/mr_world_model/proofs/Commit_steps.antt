-- Every event keeps what is said of the merge: the calls of the newest master, phase by phase, and the whole.
use Rattle.std.proofs.Common.{ℕ, zero, suc, ◌≡◌, refl, sym, ◌∙◌, ap, subst, Bool, true, false, List, [], ◌∷◌, ◌++◌, Option, Some, None, if◌then◌else◌, is_some, is_none, nat_eq, ◌⊎◌, inl, inr}
use Rattle.std.proofs.lemmas.Bool.{false≢true, true≢false}
use Rattle.mr_world_model.proofs.Names.{part-marker, part_name-visible}
use Rattle.mr_world_model.proofs.Tasks.{is-task, part-same}
use Rattle.mr_world_model.specs.Claims.{IsReduce}
use Rattle.mr_world_model.specs.Ids.{Path, path_eq, committed, job_attempt, marker, dest, commit_started, commit_success, commit_fail, part_name, task_name, part, TaskId}
use Rattle.mr_world_model.specs.Content.{Content, Entry, Dir, File, entry_at, Op, MkDirs, Create, Rename, ListDir, Exist, bar_of, left, is_file, children, Listed, option_kind, Superseded}
use Rattle.mr_world_model.specs.Records.{JobUnsuccessful}
use Rattle.mr_world_model.specs.Packets.{Config, Store, Reply, Names, Append_record, Flush, Read_history, Found, Refused, Fault, Records}
use Rattle.mr_world_model.specs.Hearing.{Seen, Phase, Opening, Setting_up, Recovering, Running, Committing, Failing, Finished, Stopped, Commit_step, List_job, Merging, Cleaning, Marking, Succeeding, Failing_mark, Aborting, Merge_step, Todo_winner, is_running}
use Rattle.mr_world_model.specs.Duties.{duty_of, merge_call, merge_next, merging, committing, refused, is_fine, is_cleared, is_superseded, tops, inners, is_dir_kind, Master_step, Came, Launches, Expires, Asks, next_seen, phase_told, looked, was_read, is_unsuccessful, is_read, mark_at, running, failing, recover_rest, all_won}
use Rattle.mr_world_model.specs.World.{World, Event, Weather, reply_of, reply_under, seen_by}
use Rattle.mr_world_model.specs.Effect.{effect, not_now, content_after}
use Rattle.mr_world_model.specs.Claims.{In, records, IsMarked, IsComplete}
use Rattle.mr_world_model.proofs.Basic.{if_cases}
use Rattle.mr_world_model.proofs.Lists.{Each-by}
use Rattle.mr_world_model.proofs.Paths.{put-same}
use Rattle.mr_world_model.proofs.Files.{at_itself}
use Rattle.mr_world_model.proofs.Listing.{children-names}
use Rattle.mr_world_model.proofs.Apart.{Diverge, left-elsewhere}
use Rattle.mr_world_model.proofs.Regions
use Rattle.mr_world_model.proofs.Regions.{is_loud, Quiet_op, looks, measures, sets_up, clears, moves, commits_now, bars_now, quiet-op, Leaves, did, made-left, name-ne}
use Rattle.mr_world_model.proofs.Masters.{came-phase, launches-phase, expires-phase, told-phase}
use Rattle.mr_world_model.proofs.Marks.{StartPhase, FailPhase, Started, may_run, rest-runs, recovering-runs, running-quiet, opening-call}
use Rattle.mr_world_model.proofs.Steps.{Case, still, hears, asks, calls, starts, case_of, newest, IsHeard}
use Rattle.mr_world_model.proofs.Dirs.{Known, Dirs, none-some}
use Rattle.mr_world_model.proofs.Found.{Sure}
use Rattle.mr_world_model.proofs.Recorded.{Recorded, all-ready, starts-won}
use Rattle.mr_world_model.proofs.Sorted.{Waits, waiting, children-rise, IsTask, Tops, tops-tasks, In-name}
use Rattle.mr_world_model.proofs.Outside.{Outside, elsewhere-at, Kept, same-kept, calls-kept, visible-outside, Result, good, no, gone, blind, result, made-there, mkdirs-dest, clear-dest, move-dest, start-dest}
use Rattle.mr_world_model.proofs.Merge.{IsNotThere, IsThere, NothingSeen, Unmarked, Lists, Looks, Moves, Stage, waits, lists, looking, moving, Tasks, Begun, HasDest, Loose, MergePhase, Merge, created_by, is_created, is_merging, Outer, outer, same-at, fail-op}
use Rattle.mr_world_model.proofs.Merged.{next-merge, one-part, some-true, some-not, ready-on, complete-on, loose-on, loose-none, tasks-on, begun-on, success-on, fail-on, unmarked-on, kept-loose, phase-on, record-on, VisibleSame, other-at, moved-tasks, moved-dest}
pub use Rattle.mr_world_model.proofs.Before_commit.{created-visible, mark-same, result-at, loose-of, setup-call}

module _ (cfg : Config) (w : World) (e : Event) (su : Sure cfg w) (rec : Recorded cfg w) (m : Merge cfg w) (n : not_now cfg w e ≡ None) where
  pub kn : Known cfg w
  kn = su.known

  out : Outer cfg w e
  out = outer cfg w e kn n m

  u : World
  u = effect cfg w e

  abbrev Phased : Phase → Type 0
  Phased p = MergePhase cfg (effect cfg w e) w.fence p

  abbrev NotDone : Type 0
  NotDone = IsNotThere (effect cfg w e) commit_success × IsNotThere (effect cfg w e) commit_fail

  -- a mark that the phase does not make
  mark-on : (p : Phase) → (newest cfg w).phase ≡ p → (d : Path) → Outside d → is_created (created_by p) d ≡ false → ((t : TaskId) → Diverge (dest ++ part_name t ∷ []) d) → entry_at (effect cfg w e).content d ≡ entry_at w.content d
  mark-on p z d o i f = same-at cfg w e out d o (subst (λ q. is_created (created_by q) d ≡ false) (sym z) i) (inr f)

  pub marker-at : (p : Phase) → (newest cfg w).phase ≡ p → is_created (created_by p) marker ≡ false → entry_at (effect cfg w e).content marker ≡ entry_at w.content marker
  marker-at p z i = mark-on p z marker (inr (inl refl)) i (λ t. inr (inl (part-marker t)))

  pub success-at : (p : Phase) → (newest cfg w).phase ≡ p → is_created (created_by p) commit_success ≡ false → entry_at (effect cfg w e).content commit_success ≡ entry_at w.content commit_success
  success-at p z i = mark-on p z commit_success (inl refl) i (λ t. inl refl)

  pub fail-at : (p : Phase) → (newest cfg w).phase ≡ p → is_created (created_by p) commit_fail ≡ false → entry_at (effect cfg w e).content commit_fail ≡ entry_at w.content commit_fail
  fail-at p z i = mark-on p z commit_fail (inl refl) i (λ t. inl refl)

  pub started-at : (p : Phase) → (newest cfg w).phase ≡ p → is_created (created_by p) commit_started ≡ false → entry_at (effect cfg w e).content commit_started ≡ entry_at w.content commit_started
  started-at p z i = mark-on p z commit_started (inl refl) i (λ t. inl refl)

  pub visible-at : (p : Phase) → (newest cfg w).phase ≡ p → is_merging p ≡ false → VisibleSame cfg w e kn n
  visible-at p z f x v = same-at cfg w e out x (visible-outside x v) (created-visible (newest cfg w).phase x v) (inl (subst (λ q. is_merging q ≡ false) (sym z) f))

  complete-at : (p : Phase) → (newest cfg w).phase ≡ p → is_merging p ≡ false → IsComplete cfg w → IsComplete cfg (effect cfg w e)
  complete-at p z f o = complete-on cfg w e kn n (visible-at p z f) o

  loose-at : (p : Phase) → (newest cfg w).phase ≡ p → is_merging p ≡ false → is_created (created_by p) marker ≡ false → Loose cfg w → Loose cfg (effect cfg w e)
  loose-at p z f i o = loose-on cfg w e kn n (visible-at p z f) (marker-at p z i) o

  loose-complete : IsComplete cfg (effect cfg w e) → Loose cfg (effect cfg w e)
  loose-complete o x = o

  refused-on : (r : Reply) → NotDone → Loose cfg (effect cfg w e) → Phased (refused r)
  refused-on (Refused (Superseded f)) d l = l
  refused-on _ d l = (d, l)

  -- what is refused while nothing is marked
  unmarked-refused : (r : Reply) → Unmarked (effect cfg w e) → Phased (refused r)
  unmarked-refused r x = refused-on r x.1 (loose-none cfg w e kn n x.0)

  -- The listing of the job attempt

  list-next : Kept cfg w e → Unmarked w × (HasDest w × Begun cfg w w.fence) → Phased (Committing (merge_next (tops (job_attempt w.fence) (children w.content (job_attempt w.fence)))))
  list-next k o = subst (λ z. Phased (Committing (merge_next z))) (sym x.is) (next-merge cfg (effect cfg w e) w.fence x.tasks (unmarked-on cfg w e kn n k o.0) (k.destination o.1.0) (record {
    once = x.once;
    small = x.small;
    ready = λ t i. b.won t (x.small t i);
    merged = λ t l f. absurd (f (listed t l));
    only = λ p v f. b.clear p v;
  }))
    where
      es : List Listed
      es = children w.content (job_attempt w.fence)

      b : Begun cfg (effect cfg w e) w.fence
      b = begun-on cfg w e kn n k o.1.1

      each : (l : Listed) → In l es → IsTask cfg l
      each l i tmp = by (is-task l.name cfg.job cfg.reduces)
        where
          by : ((t : TaskId) × (l.name ≡ task_name t) × IsReduce cfg t) ⊎ ((t : TaskId) → IsReduce cfg t → l.name ≡ task_name t → ⊥) → (t : TaskId) × (l.name ≡ task_name t) × IsReduce cfg t
          by (inl q) = q
          by (inr f) = some-not (entry_at w.content (job_attempt w.fence ++ l.name ∷ [])) (sym (children-names w.content (job_attempt w.fence) l.name) ∙ In-name es l i) (o.1.1.tasks l.name tmp f)

      x : Tops cfg w.fence es
      x = tops-tasks cfg w.fence es (children-rise w.content (job_attempt w.fence)) (Each-by (IsTask cfg) es each)

      listed : (t : TaskId) → IsReduce cfg t → In t x.tasks
      listed t l = x.all t (children-names w.content (job_attempt w.fence) (task_name t) ∙ some-true _ Dir (o.1.1.won t l).holds.holds.dir)

  list-on : (c' : Content) (r : Reply) → (effect cfg w e).content ≡ c' → Result w.content (ListDir (job_attempt w.fence)) c' r → Unmarked w × (HasDest w × Begun cfg w w.fence) → Phased (committing w.fence List_job r)
  unfolding left
  list-on c' _ c (good ok l) o = list-next (same-kept cfg w e (c ∙ l)) o
  list-on c' _ c (no f l) o = unmarked-refused (Refused f) (unmarked-on cfg w e kn n (same-kept cfg w e (c ∙ l)) o.0)
  list-on c' _ c (gone l) o = unmarked-refused Fault (unmarked-on cfg w e kn n (same-kept cfg w e (c ∙ l)) o.0)
  list-on c' _ c (blind ok l) o = unmarked-refused Fault (unmarked-on cfg w e kn n (same-kept cfg w e (c ∙ l)) o.0)

  -- The stages of a merge

  module _ (now : TaskId) (rest : List TaskId) (a : Tasks cfg w w.fence (now ∷ rest)) (un : Unmarked w) (hd : HasDest w) where
    stage-next : (ms : List Merge_step) → Kept cfg w e → Stage w.fence now rest ms → Phased (Committing (Merging ms))
    stage-next ms k s = (unmarked-on cfg w e kn n k un, (k.destination hd, record { now = now; rest = rest; tasks = tasks-on cfg w e kn n (now ∷ rest) k a; stage = s }))

    same-refused : (r : Reply) → (effect cfg w e).content ≡ w.content → Phased (refused r)
    same-refused r c = unmarked-refused r (unmarked-on cfg w e kn n (same-kept cfg w e c) un)

    waits-on : (c' : Content) (r : Reply) → (effect cfg w e).content ≡ c' → Result w.content (Exist dest) c' r → Phased (merging (Waits w.fence now ∷ waiting w.fence rest) r Cleaning)
    unfolding left
    waits-on c' _ c (good ok l) = subst (λ o. Phased (merging (Waits w.fence now ∷ waiting w.fence rest) (Found (option_kind o)) Cleaning)) (sym hd) (stage-next _ (same-kept cfg w e (c ∙ l)) lists)
    waits-on c' _ c (no f l) = same-refused (Refused f) (c ∙ l)
    waits-on c' _ c (gone l) = same-refused Fault (c ∙ l)
    waits-on c' _ c (blind ok l) = same-refused Fault (c ∙ l)

    lists-on : (c' : Content) (r : Reply) → (effect cfg w e).content ≡ c' → Result w.content (ListDir (committed w.fence now)) c' r → Phased (merging (Lists w.fence now ∷ waiting w.fence rest) r Cleaning)
    unfolding left
    lists-on c' _ c (good ok l) = let rd = a.ready now (inl refl) in let one = one-part w w.fence now rd.attempt rd.holds in
        subst (λ es. Phased (Committing (merge_next (inners (committed w.fence now) dest es ++ waiting w.fence rest)))) (sym one.1) (stage-next _ (same-kept cfg w e (c ∙ l)) (looking (is_dir_kind one.0)))
    lists-on c' _ c (no f l) = same-refused (Refused f) (c ∙ l)
    lists-on c' _ c (gone l) = same-refused Fault (c ∙ l)
    lists-on c' _ c (blind ok l) = same-refused Fault (c ∙ l)

    looks-on : (d : Bool) (c' : Content) (r : Reply) → (effect cfg w e).content ≡ c' → Result w.content (Exist (part now)) c' r → Phased (merging (Looks w.fence now d ∷ waiting w.fence rest) r Cleaning)
    unfolding left
    looks-on d c' _ c (good ok l) = subst (λ o. Phased (merging (Looks w.fence now d ∷ waiting w.fence rest) (Found (option_kind o)) Cleaning)) (sym none) (stage-next _ (same-kept cfg w e (c ∙ l)) moving)
      where
        none : entry_at w.content (part now) ≡ None
        none = a.only (part now) (part_name now, [], refl, part_name-visible now) (λ t l o (q : part now ≡ part t). o (inl (part-same cfg now t (a.small now (inl refl)) l q)))
    looks-on d c' _ c (no f l) = same-refused (Refused f) (c ∙ l)
    looks-on d c' _ c (gone l) = same-refused Fault (c ∙ l)
    looks-on d c' _ c (blind ok l) = same-refused Fault (c ∙ l)

    moved-unmarked : (effect cfg w e).content ≡ left w.content (Rename (committed w.fence now ++ part_name now ∷ []) (part now)) → Unmarked (effect cfg w e)
    moved-unmarked c = (
      other-at cfg w e kn n now rest a c marker (inr (inl refl)) (inr (inl (part-marker now))) ∙ un.0,
      (other-at cfg w e kn n now rest a c commit_success (inl refl) (inl refl) ∙ un.1.0, other-at cfg w e kn n now rest a c commit_fail (inl refl) (inl refl) ∙ un.1.1),
    )

    moves-on : (c' : Content) (r : Reply) → (effect cfg w e).content ≡ c' → Result w.content (Rename (committed w.fence now ++ part_name now ∷ []) (part now)) c' r → Phased (merging (Moves w.fence now ∷ waiting w.fence rest) r Cleaning)
    moves-on c' _ c (good ok l) = next-merge cfg (effect cfg w e) w.fence rest (moved-unmarked (c ∙ l)) (moved-dest cfg w e kn n now rest a (c ∙ l) hd) (moved-tasks cfg w e kn n now rest a (c ∙ l))
    moves-on c' _ c (no f l) = same-refused (Refused f) (c ∙ l)
    moves-on c' _ c (gone l) = same-refused Fault (c ∙ l)
    moves-on c' _ c (blind ok l) = unmarked-refused Fault (moved-unmarked (c ∙ l))

    stage-on : (todo : List Merge_step) → Stage w.fence now rest todo → (call : Store) (g : Weather) → merge_call todo ≡ Some call → (effect cfg w e).content ≡ content_after w (Some (record { app = w.fence; call = call; fault = g })) →
        Phased (merging todo (reply_under g (reply_of w w.fence call)) Cleaning)
    stage-on _ waits call g d c = let q : Names (Exist dest) ≡ call = cc in waits-on _ _ c (result-at w (Exist dest) call g q)
    stage-on _ lists call g d c = let q : Names (ListDir (committed w.fence now)) ≡ call = cc in lists-on _ _ c (result-at w (ListDir (committed w.fence now)) call g q)
    stage-on _ (looking b) call g d c = let q : Names (Exist (part now)) ≡ call = cc in looks-on b _ _ c (result-at w (Exist (part now)) call g q)
    stage-on _ moving call g d c = let q : Names (Rename (committed w.fence now ++ part_name now ∷ []) (part now)) ≡ call = cc in moves-on _ _ c (result-at w (Rename (committed w.fence now ++ part_name now ∷ []) (part now)) call g q)

  -- After the merge

  marking-on : (c' : Content) (r : Reply) → (effect cfg w e).content ≡ c' → Result w.content (Create marker true) c' r → NotDone → IsComplete cfg (effect cfg w e) → Phased (if is_fine r then Committing Succeeding else refused r)
  unfolding left
  marking-on c' _ c (good ok l) d o = (d, (ap is_file (ap (λ z. entry_at z marker) (c ∙ l) ∙ put-same w.content marker (File [] true)), o))
  marking-on c' _ c (no f l) d o = refused-on (Refused f) d (loose-complete o)
  marking-on c' _ c (gone l) d o = refused-on Fault d (loose-complete o)
  marking-on c' _ c (blind ok l) d o = refused-on Fault d (loose-complete o)

  failing-on : (c' : Content) (r : Reply) → (effect cfg w e).content ≡ c' → Result w.content (Create commit_fail true) c' r → IsNotThere (effect cfg w e) commit_success → Loose cfg (effect cfg w e) → Phased (if is_fine r then Committing Aborting else Stopped)
  unfolding left
  failing-on c' _ c (good ok l) d o = ((d, ap is_none (ap (λ z. entry_at z commit_fail) (c ∙ l) ∙ put-same w.content commit_fail (File [] true))), o)
  failing-on c' _ c (no f l) d o = o
  failing-on c' _ c (gone l) d o = o
  failing-on c' _ c (blind ok l) d o = o

  succeeding-on : (c' : Content) (r : Reply) → (effect cfg w e).content ≡ c' → Result w.content (Create commit_success true) c' r → Loose cfg (effect cfg w e) → Phased (if is_fine r then Finished true else Stopped)
  unfolding left
  succeeding-on c' _ c (good ok l) o = (ap is_none (ap (λ z. entry_at z commit_success) (c ∙ l) ∙ put-same w.content commit_success (File [] true)), o)
  succeeding-on c' _ c (no f l) o = o
  succeeding-on c' _ c (gone l) o = o
  succeeding-on c' _ c (blind ok l) o = o

  commit-on : (at : Commit_step) → (newest cfg w).phase ≡ Committing at → (call : Store) (g : Weather) → duty_of cfg w.fence (newest cfg w) (Committing at) ≡ Some call →
      (effect cfg w e).content ≡ content_after w (Some (record { app = w.fence; call = call; fault = g })) → MergePhase cfg w w.fence (Committing at) → IsThere w commit_started → Phased (committing w.fence at (reply_under g (reply_of w w.fence call)))
  unfolding duty_of
  commit-on List_job z call g d c o s = let q : Names (ListDir (job_attempt w.fence)) ≡ call = cc in list-on _ _ c (result-at w (ListDir (job_attempt w.fence)) call g q) o
  commit-on (Merging ms) z call g d c o s = stage-on o.1.1.now o.1.1.rest o.1.1.tasks o.0 o.1.0 ms o.1.1.stage call g d c
  commit-on Cleaning z call g d c o s = if_cases Phased (is_cleared (reply_under g (reply_of w w.fence call))) _ _ (λ t. (un, complete)) (λ t. refused-on (reply_under g (reply_of w w.fence call)) un.1 (loose-complete complete))
    where
      un : Unmarked (effect cfg w e)
      un = (marker-at (Committing Cleaning) z refl ∙ o.0.0, (success-at (Committing Cleaning) z refl ∙ o.0.1.0, fail-at (Committing Cleaning) z refl ∙ o.0.1.1))

      complete : IsComplete cfg (effect cfg w e)
      complete = complete-at (Committing Cleaning) z refl o.1
  commit-on Marking z call g d c o s = let q : Names (Create marker true) ≡ call = cc in marking-on _ _ c (result-at w (Create marker true) call g q)
      (success-at (Committing Marking) z refl ∙ o.0.1.0, fail-at (Committing Marking) z refl ∙ o.0.1.1) (complete-at (Committing Marking) z refl o.1)
  commit-on Succeeding z call g d c o s = let q : Names (Create commit_success true) ≡ call = cc in succeeding-on _ _ c (result-at w (Create commit_success true) call g q)
      (loose-complete (complete-at (Committing Succeeding) z refl o.1.1))
  commit-on Failing_mark z call g d c o s = let q : Names (Create commit_fail true) ≡ call = cc in failing-on _ _ c (result-at w (Create commit_fail true) call g q)
      (success-at (Committing Failing_mark) z refl ∙ o.0.0) (loose-at (Committing Failing_mark) z refl refl o.1)
  commit-on Aborting z call g d c o s = if_cases Phased (is_superseded (reply_under g (reply_of w w.fence call))) _ _ (λ t. loose)
      (λ t. ((success-at (Committing Aborting) z refl ∙ o.0.0, inl (ap is_none (started-at (Committing Aborting) z refl) ∙ s)), loose))
    where
      loose : Loose cfg (effect cfg w e)
      loose = loose-at (Committing Aborting) z refl refl o.1

  -- Before a commit

  fails-on : (f : Bool) → (newest cfg w).phase ≡ Failing f → (call : Store) (r : Reply) → duty_of cfg w.fence (newest cfg w) (Failing f) ≡ Some call → FailPhase (records w) (Failing f) → IsNotThere (effect cfg w e) commit_success → Loose cfg (effect cfg w e) →
      Phased (failing f (newest cfg w).tail call r)
  fails-on f z (Names op) r d i t l = if_cases Phased (is_cleared r) _ _ (λ q. ((t, inr (record-on cfg w e kn n JobUnsuccessful (subst (λ b. FailPhase (records w) (Failing b)) (fail-op cfg w.fence (newest cfg w) f op d).1 i))), l)) (λ q. l)
  fails-on f z (Append_record x) r d i t l = if_cases Phased (is_fine r) _ _ (λ q. l) (λ q. l)
  fails-on f z Flush r d i t l = if_cases Phased (is_fine r) _ _ (λ q. l) (λ q. l)
  fails-on f z Read_history r d i t l = l

  runs-on : (p : Phase) → may_run p ≡ true → HasDest (effect cfg w e) → Loose cfg (effect cfg w e) → Phased p
  runs-on (Recovering ws at) b h l = (h, l)
  runs-on Running b h l = (h, l)
  runs-on Stopped b h l = l
  runs-on p b h l = absurd (false≢true b)

  kind-none : (o : Option Entry) → option_kind o ≡ None → o ≡ None
  kind-none None q = refl
  kind-none (Some x) q = cc

  found-on : (i : ℕ) (o : Option Entry) → (o ≡ None → Phased (Opening (suc i))) → (is_none o ≡ false → Phased (Finished (nat_eq i 0))) → Phased (looked i (Found (option_kind o)))
  found-on i None f g = f refl
  found-on i (Some x) f g = g refl

  look-on : (i : ℕ) (d : Path) (c' : Content) (r : Reply) → Result w.content (Exist d) c' r → Loose cfg (effect cfg w e) → (entry_at w.content d ≡ None → Phased (Opening (suc i))) → (IsThere w d → Phased (Finished (nat_eq i 0))) → Phased (looked i r)
  look-on i d c' _ (good ok l) o f h = found-on i (entry_at w.content d) f h
  look-on i d c' _ (no x l) o f h = o
  look-on i d c' _ (gone l) o f h = o
  look-on i d c' _ (blind ok l) o f h = o

  -- a failure's mark comes after that of the commit
  fail-started : IsThere w commit_fail → IsThere w commit_started
  fail-started f = by (is_none (Started w)) refl
    where
      none-is : (o : Option Entry) → is_none o ≡ true → o ≡ None
      none-is None q = refl
      none-is (Some x) q = absurd (false≢true q)

      by : (b : Bool) → is_none (Started w) ≡ b → is_none (Started w) ≡ false
      by true q = absurd (true≢false (sym (ap is_none (m.before (none-is (Started w) q)).0.1.1) ∙ f))
      by false q = q

  read-on : (r : Reply) → Loose cfg (effect cfg w e) → Phased (was_read r)
  read-on (Records rs) o = if_cases Phased (is_unsuccessful rs) _ _ (λ t. o) (λ t. o)
  read-on _ o = o

  open-on : (i : ℕ) → (newest cfg w).phase ≡ Opening i → (call : Store) (g : Weather) → mark_at i ≡ call → (effect cfg w e).content ≡ content_after w (Some (record { app = w.fence; call = call; fault = g })) → MergePhase cfg w w.fence (Opening i) →
      Phased (if is_read call then was_read (reply_under g (reply_of w w.fence call)) else looked i (reply_under g (reply_of w w.fence call)))
  open-on i z call g q c o = subst (λ y. Phased (if is_read y then was_read (reply_under g (reply_of w w.fence y)) else looked i (reply_under g (reply_of w w.fence y)))) q (by i z q o)
    where
      same : (i : ℕ) → mark_at i ≡ call → Kept cfg w e
      same i q = same-kept cfg w e (c ∙ (ap (λ y. content_after w (Some (record { app = w.fence; call = y; fault = g }))) (sym q) ∙ mark-same w g i))

      by : (i : ℕ) → (newest cfg w).phase ≡ Opening i → mark_at i ≡ call → MergePhase cfg w w.fence (Opening i) → Phased (if is_read (mark_at i) then was_read (reply_under g (reply_of w w.fence (mark_at i))) else looked i (reply_under g (reply_of w w.fence (mark_at i))))
      by zero z q o = let k = same zero q in let l = kept-loose cfg w e kn n k o in look-on zero commit_success _ _ (result w w.fence (Exist commit_success) g) l
          (λ f. (success-on cfg w e kn n k ∙ f, l)) (λ f. (ap is_none (success-on cfg w e kn n k) ∙ f, l))
      by (suc zero) z q o = let k = same (suc zero) q in let l = kept-loose cfg w e kn n k o.1 in let s = success-on cfg w e kn n k ∙ o.0 in look-on (suc zero) commit_fail _ _ (result w w.fence (Exist commit_fail) g) l
          (λ f. ((s, fail-on cfg w e kn n k ∙ f), l)) (λ f. ((s, inl (ap is_none (k.outside commit_started (inl refl)) ∙ fail-started f)), l))
      by (suc (suc zero)) z q o = let k = same (suc (suc zero)) q in let l = kept-loose cfg w e kn n k o.1 in let s = success-on cfg w e kn n k ∙ o.0.0 in look-on (suc (suc zero)) commit_started _ _ (result w w.fence (Exist commit_started) g) l
          (λ f. ((s, fail-on cfg w e kn n k ∙ o.0.1), l)) (λ f. ((s, inl (ap is_none (k.outside commit_started (inl refl)) ∙ f)), l))
      by (suc (suc (suc i))) z q o = read-on (reply_under g (reply_of w w.fence Read_history)) (kept-loose cfg w e kn n (same (suc (suc (suc i))) q) o.1)

  setup-on : (ws : List Todo_winner) (c' : Content) (r : Reply) → (effect cfg w e).content ≡ c' → Result w.content (MkDirs (job_attempt w.fence)) c' r → Loose cfg (effect cfg w e) → Phased (if is_fine r then recover_rest w.fence ws else Stopped)
  setup-on ws c' _ c (good ok l) o = runs-on (recover_rest w.fence ws) (rest-runs w.fence ws) (ap (λ z. entry_at z dest) (c ∙ l) ∙ mkdirs-dest w.content w.fence ok) o
  setup-on ws c' _ c (no f l) o = o
  setup-on ws c' _ c (gone l) o = o
  setup-on ws c' _ c (blind ok l) o = o

  -- a quiet master keeps the destination's directory
  quiet-dest : (op : Op) → Quiet_op w.fence (newest cfg w).phase op → HasDest w → entry_at (left w.content op) dest ≡ Some Dir
  unfolding left
  quiet-dest _ (looks q) h = h
  quiet-dest _ (measures q) h = h
  quiet-dest _ (bars_now a q) h = h
  quiet-dest _ (sets_up q) h = made-there w.content (job_attempt w.fence) dest h
  quiet-dest _ (clears x ws j q) h = clear-dest w.content w.fence x.task h
  quiet-dest _ (moves x ws j q) h = move-dest w.content j w.fence x.task h
  quiet-dest _ (commits_now q) h = start-dest w.content h

  dest-on : (p : Phase) → (newest cfg w).phase ≡ p → is_loud p ≡ false → (call : Store) (g : Weather) → duty_of cfg w.fence (newest cfg w) p ≡ Some call → (effect cfg w e).content ≡ content_after w (Some (record { app = w.fence; call = call; fault = g })) → HasDest w → HasDest (effect cfg w e)
  dest-on p z q call g d c h = lv (made-left w w.fence call g)
    where
      lv : Leaves w.content call (content_after w (Some (record { app = w.fence; call = call; fault = g }))) → HasDest (effect cfg w e)
      lv (Regions.same f) = ap (λ z. entry_at z dest) (c ∙ f) ∙ h
      lv (did op f ok l) = ap (λ z. entry_at z dest) (c ∙ l) ∙ quiet-dest op (quiet-op cfg w.fence (newest cfg w) op (subst (λ y. is_loud y ≡ false) (sym z) q)
          (subst (λ y. duty_of cfg w.fence (newest cfg w) y ≡ Some (Names op)) (sym z) (d ∙ ap Some f))) h

  -- the commit begins
  begin-on : (newest cfg w).phase ≡ Running → all_won (newest cfg w).recorded (newest cfg w).winners cfg.job cfg.reduces ≡ true → IsNotThere w commit_started → HasDest w → (c' : Content) (r : Reply) → (effect cfg w e).content ≡ c' → Result w.content (Create commit_started true) c' r →
      Loose cfg (effect cfg w e) → Phased (if is_fine r then Committing List_job else Stopped)
  begin-on z won t h c' _ c (good ok l) o = (
    un,
    (
      ap (λ y. entry_at y dest) (c ∙ l) ∙ start-dest w.content h,
      record {
        won = λ r lt. ready-on cfg w e kn n r (λ a q x. ap (λ y. entry_at y (committed w.fence r ++ x)) (c ∙ l) ∙ left-elsewhere w.content (Create commit_started true) (committed w.fence r) (inl refl) x) (all-ready cfg w kn dirs rec z won r lt);
        tasks = λ x i f. ap (λ y. entry_at y (job_attempt w.fence ++ x ∷ [])) (c ∙ l) ∙ (elsewhere-at w.content (Create commit_started true) (job_attempt w.fence ++ x ∷ []) (inl refl) ∙ at_itself w.content (job_attempt w.fence ++ x ∷ []) None (dirs.names x i f []));
        clear = λ p v. visible-at Running z refl p v ∙ (m.before t).1 p v;
      },
    ),
  )
    where
      dirs : Dirs cfg w
      dirs = su.dirs (running-quiet cfg w su.marks su.mild_masters (subst (λ y. is_running y ≡ true) (sym z) refl))

      un : Unmarked (effect cfg w e)
      un = (marker-at Running z refl ∙ (m.before t).0.0, (success-at Running z refl ∙ (m.before t).0.1.0, fail-at Running z refl ∙ (m.before t).0.1.1))
  begin-on z won t h c' _ c (no f l) o = o
  begin-on z won t h c' _ c (gone l) o = o
  begin-on z won t h c' _ c (blind ok l) o = o

  run-on : (newest cfg w).phase ≡ Running → (call : Store) (g : Weather) → duty_of cfg w.fence (newest cfg w) Running ≡ Some call → (effect cfg w e).content ≡ content_after w (Some (record { app = w.fence; call = call; fault = g })) →
      IsNotThere w commit_started → HasDest w → HasDest (effect cfg w e) → Loose cfg (effect cfg w e) → Phased (running (newest cfg w).tail call (reply_under g (reply_of w w.fence call)))
  run-on z (Names op) g d c t h h' o = by (starts-won cfg w.fence (newest cfg w) op d)
    where
      After : Op → Type 0
      After x = Phased (if is_fine (reply_under g (reply_of w w.fence (Names op))) then (if is_some (bar_of x) then Running else Committing List_job) else Stopped)

      by : (is_some (bar_of op) ≡ true) ⊎ ((op ≡ Create commit_started true) × (all_won (newest cfg w).recorded (newest cfg w).winners cfg.job cfg.reduces ≡ true)) → After op
      by (inl b) = if_cases Phased (is_fine (reply_under g (reply_of w w.fence (Names op)))) _ _ (λ q. subst (λ y. Phased (if y then Running else Committing List_job)) (sym b) (h', o)) (λ q. o)
      by (inr s) = subst After (sym s.0) (begin-on z s.1 t h _ _ c (result-at w (Create commit_started true) (Names op) g (ap Names (sym s.0))) o)
  run-on z (Append_record x) g d c t h h' o = if_cases Phased (is_fine (reply_under g (reply_of w w.fence (Append_record x)))) _ _ (λ t. (h', o)) (λ t. o)
  run-on z Flush g d c t h h' o = if_cases Phased (is_fine (reply_under g (reply_of w w.fence Flush))) _ _ (λ t. (h', o)) (λ t. o)
  run-on z Read_history g d c t h h' o = o

  asks-on : (p : Phase) (call : Store) (g : Weather) → (newest cfg w).phase ≡ p → duty_of cfg w.fence (newest cfg w) p ≡ Some call → (effect cfg w e).content ≡ content_after w (Some (record { app = w.fence; call = call; fault = g })) →
      MergePhase cfg w w.fence p → StartPhase (Started w) p → FailPhase (records w) p → Phased (phase_told w.fence (newest cfg w) p call (reply_under g (reply_of w w.fence call)))
  unfolding phase_told duty_of
  asks-on p call g z d c o s i = by p z d o s i
    where
      r : Reply
      r = reply_under g (reply_of w w.fence call)

      none : (p : Phase) → (newest cfg w).phase ≡ p → is_created (created_by p) marker ≡ false → IsNotThere w commit_started → Loose cfg (effect cfg w e)
      none p z i t = loose-none cfg w e kn n (marker-at p z i ∙ (m.before t).0.0)

      by : (p : Phase) → (newest cfg w).phase ≡ p → duty_of cfg w.fence (newest cfg w) p ≡ Some call → MergePhase cfg w w.fence p → StartPhase (Started w) p → FailPhase (records w) p → Phased (phase_told w.fence (newest cfg w) p call r)
      by (Opening j) z d o s i = open-on j z call g (opening-call cfg w.fence (newest cfg w) j call d) c o
      by Setting_up z d o s i = setup-on (newest cfg w).winners _ r c (result-at w (MkDirs (job_attempt w.fence)) call g (setup-call cfg w.fence (newest cfg w) call d)) (none Setting_up z refl s)
      by (Recovering ws at) z d o s i = runs-on _ (recovering-runs w.fence ws at r) (dest-on (Recovering ws at) z refl call g d c o.0) (none (Recovering ws at) z refl s)
      by Running z d o s i = run-on z call g d c s o.0 (dest-on Running z refl call g d c o.0) (none Running z refl s)
      by (Failing f) z d o s i = fails-on f z call r d i (success-at (Failing f) z refl ∙ (m.before s).0.1.0) (none (Failing f) z refl s)
      by (Committing at) z d o s i = commit-on at z call g d c o s
      by (Finished b) z d o s i = none-some d
      by Stopped z d o s i = none-some d

  hears-on : (x : Master_step) → IsHeard x → Kept cfg w e → Phased (next_seen cfg w.fence (newest cfg w) x).phase
  hears-on (Came p) i k = by (came-phase cfg w.fence (newest cfg w) p)
    where
      fails : (q : Phase) → is_running q ≡ true → Phased q → Phased (Failing false)
      fails Running t o = o.1
      fails q t o = absurd (false≢true t)

      by : ((next_seen cfg w.fence (newest cfg w) (Came p)).phase ≡ (newest cfg w).phase) ⊎ ((is_running (newest cfg w).phase ≡ true) × ((next_seen cfg w.fence (newest cfg w) (Came p)).phase ≡ Failing false)) → Phased (next_seen cfg w.fence (newest cfg w) (Came p)).phase
      by (inl q) = subst Phased (sym q) (phase-on cfg w e kn n k (newest cfg w).phase m.phase)
      by (inr q) = subst Phased (sym q.1) (fails (newest cfg w).phase q.0 (phase-on cfg w e kn n k (newest cfg w).phase m.phase))
  hears-on (Launches l) i k = subst Phased (sym (launches-phase cfg w.fence (newest cfg w) l)) (phase-on cfg w e kn n k (newest cfg w).phase m.phase)
  hears-on (Expires m') i k = subst Phased (sym (expires-phase cfg w.fence (newest cfg w) m')) (phase-on cfg w e kn n k (newest cfg w).phase m.phase)
  hears-on (Asks call r) i k = absurd i

  to-newest : (k : ℕ) → (effect cfg w e).fence ≡ k → MergePhase cfg (effect cfg w e) k (seen_by cfg (effect cfg w e) k).phase → MergePhase cfg (effect cfg w e) (effect cfg w e).fence (newest cfg (effect cfg w e)).phase
  to-newest k fe o = subst (λ z. MergePhase cfg (effect cfg w e) z (seen_by cfg (effect cfg w e) z).phase) (sym fe) o

  phase_after : MergePhase cfg (effect cfg w e) (effect cfg w e).fence (newest cfg (effect cfg w e)).phase
  phase_after = by (case_of cfg w e kn.honest kn.cluster n)
    where
      by : Case cfg w e → MergePhase cfg (effect cfg w e) (effect cfg w e).fence (newest cfg (effect cfg w e)).phase
      by (still fe c s) = to-newest w.fence fe (subst (λ (z : Seen). Phased z.phase) (sym s) (phase-on cfg w e kn n (same-kept cfg w e c) (newest cfg w).phase m.phase))
      by (hears y h al sf fe c s) = to-newest w.fence fe (subst (λ (z : Seen). Phased z.phase) (sym s) (hears-on y h (same-kept cfg w e c)))
      by (calls k) = to-newest w.fence k.fence (subst (λ (z : Seen). Phased z.phase) (sym k.seen) (phase-on cfg w e kn n (calls-kept cfg w e kn n k) (newest cfg w).phase m.phase))
      by (asks call g ev du fe c s) = to-newest w.fence fe (subst (λ (z : Seen). Phased z.phase) (sym s)
          (subst Phased (sym (told-phase cfg w.fence (newest cfg w) call (reply_under g (reply_of w w.fence call)))) (asks-on (newest cfg w).phase call g refl du c m.phase su.marks.start su.marks.fail)))
      by (starts fe c s) = to-newest (suc w.fence) fe (subst (λ (z : Seen). MergePhase cfg (effect cfg w e) (suc w.fence) z.phase) (sym s) (kept-loose cfg w e kn n (same-kept cfg w e c) (loose-of cfg w m)))

  -- The marks

  started-none : (p : Phase) → is_created (created_by p) commit_started ≡ true → StartPhase (Started w) p → Started w ≡ None
  started-none Running i s = s
  started-none (Committing List_job) i s = absurd (false≢true i)
  started-none (Committing (Merging ms)) i s = absurd (false≢true i)
  started-none (Committing Cleaning) i s = absurd (false≢true i)
  started-none (Committing Marking) i s = absurd (false≢true i)
  started-none (Committing Succeeding) i s = absurd (false≢true i)
  started-none (Committing Failing_mark) i s = absurd (false≢true i)
  started-none (Committing Aborting) i s = absurd (false≢true i)
  started-none p i s = absurd (false≢true i)

  quiet-phase : (p : Phase) → StartPhase (Started w) p → Started w ≡ None → ((d : Path) → path_eq commit_started d ≡ false → is_created (created_by p) d ≡ false) × (is_merging p ≡ false)
  quiet-phase (Committing at) s t = absurd (true≢false (sym (ap is_none t) ∙ s))
  quiet-phase Running s t = (λ d f. f, refl)
  quiet-phase (Opening i) s t = (λ d f. refl, refl)
  quiet-phase Setting_up s t = (λ d f. refl, refl)
  quiet-phase (Recovering ws at) s t = (λ d f. refl, refl)
  quiet-phase (Failing f) s t = (λ d f. refl, refl)
  quiet-phase (Finished b) s t = (λ d f. refl, refl)
  quiet-phase Stopped s t = (λ d f. refl, refl)

  before_after : IsNotThere (effect cfg w e) commit_started → Unmarked (effect cfg w e) × NothingSeen (effect cfg w e)
  before_after t' = (
    (marker-at p refl (q.0 marker refl) ∙ b.0.0, (success-at p refl (q.0 commit_success refl) ∙ b.0.1.0, fail-at p refl (q.0 commit_fail refl) ∙ b.0.1.1)),
    λ x v. visible-at p refl q.1 x v ∙ b.1 x v,
  )
    where
      p : Phase
      p = (newest cfg w).phase

      was : (i : Bool) → is_created (created_by p) commit_started ≡ i → Started w ≡ None
      was true i = started-none p i su.marks.start
      was false i = sym (started-at p refl i) ∙ t'

      t : Started w ≡ None
      t = was (is_created (created_by p) commit_started) refl

      q : ((d : Path) → path_eq commit_started d ≡ false → is_created (created_by p) d ≡ false) × (is_merging p ≡ false)
      q = quiet-phase p su.marks.start t

      b : Unmarked w × NothingSeen w
      b = m.before t

  -- where success is there, neither marker nor failure is made
  success-free : (p : Phase) → MergePhase cfg w w.fence p → IsThere w commit_success → (is_created (created_by p) marker ≡ false) × (is_created (created_by p) commit_fail ≡ false)
  success-free (Committing Marking) o s = absurd (true≢false (sym (ap is_none o.0.1.0) ∙ s))
  success-free (Committing Failing_mark) o s = absurd (true≢false (sym (ap is_none o.0.0) ∙ s))
  success-free (Committing List_job) o s = (refl, refl)
  success-free (Committing (Merging ms)) o s = (refl, refl)
  success-free (Committing Cleaning) o s = (refl, refl)
  success-free (Committing Succeeding) o s = (refl, refl)
  success-free (Committing Aborting) o s = (refl, refl)
  success-free Running o s = (refl, refl)
  success-free (Opening i) o s = (refl, refl)
  success-free Setting_up o s = (refl, refl)
  success-free (Recovering ws at) o s = (refl, refl)
  success-free (Failing f) o s = (refl, refl)
  success-free (Finished b) o s = (refl, refl)
  success-free Stopped o s = (refl, refl)

  success-made : (p : Phase) → is_created (created_by p) commit_success ≡ true → MergePhase cfg w w.fence p → (IsMarked w × IsNotThere w commit_fail) × ((is_created (created_by p) marker ≡ false) × (is_created (created_by p) commit_fail ≡ false))
  success-made (Committing Succeeding) i o = ((o.1.0, o.0.1), (refl, refl))
  success-made Running i o = absurd (false≢true i)
  success-made (Committing List_job) i o = absurd (false≢true i)
  success-made (Committing (Merging ms)) i o = absurd (false≢true i)
  success-made (Committing Cleaning) i o = absurd (false≢true i)
  success-made (Committing Marking) i o = absurd (false≢true i)
  success-made (Committing Failing_mark) i o = absurd (false≢true i)
  success-made (Committing Aborting) i o = absurd (false≢true i)
  success-made p i o = absurd (false≢true i)

  success_after : IsThere (effect cfg w e) commit_success → IsMarked (effect cfg w e) × IsNotThere (effect cfg w e) commit_fail
  success_after s' = by (is_none (entry_at w.content commit_success)) refl (is_created (created_by p) commit_success) refl
    where
      p : Phase
      p = (newest cfg w).phase

      keep : (IsMarked w × IsNotThere w commit_fail) × ((is_created (created_by p) marker ≡ false) × (is_created (created_by p) commit_fail ≡ false)) → IsMarked (effect cfg w e) × IsNotThere (effect cfg w e) commit_fail
      keep x = (ap is_file (marker-at p refl x.1.0) ∙ x.0.0, fail-at p refl x.1.1 ∙ x.0.1)

      by : (b : Bool) → is_none (entry_at w.content commit_success) ≡ b → (i : Bool) → is_created (created_by p) commit_success ≡ i → IsMarked (effect cfg w e) × IsNotThere (effect cfg w e) commit_fail
      by false s i v = keep (m.success s, success-free p m.phase s)
      by true s true v = keep (success-made p v m.phase)
      by true s false v = absurd (true≢false (sym (ap is_none (success-at p refl v) ∙ s) ∙ s'))

  pub merge_after : Merge cfg (effect cfg w e)
  merge_after = record { before = before_after; success = success_after; phase = phase_after }

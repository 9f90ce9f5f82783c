-- Two masters that are alike stay so where their store call is answered the same.
use Rattle.std.proofs.Common.{◌≡◌, Bool, ◌&&◌, ◌||◌, not, List, [], ◌∷◌, ◌++◌, Option, Some, None, is_some, refl, ap, ◌∙◌, subst, if◌then◌else◌}
use Rattle.std.specs.List.{list_any, find}
use Rattle.mr_ids.specs.Attempt.{Attempt}
use Rattle.mr_task.specs.Calls as task_call
use Rattle.mr_history.specs.declared.record.Record.{Record}
use Rattle.mr_master_model.specs.declared.phase.DutyName.{DutyName}
use Rattle.mr_master_model.specs.declared.phase.DutyName.TheVariants as name
use Rattle.mr_master_model.specs.declared.setting.Setting.{Setting}
use Rattle.mr_master_model.specs.declared.store.StoreAnswer.{StoreAnswer}
use Rattle.mr_master_model.specs.declared.store.StoreAnswer.TheVariants as answer
use Rattle.mr_master_model.specs.Job.{is_task}
use Rattle.mr_master_model.specs.Past.{Work, LooksForSuccess, LooksForFail, LooksForStarted, Reads, SetsUp, TakesOver, Runs, CommitsJob, TellsSuccess, TellsFail, AbortsCommit, Fails, Ends, Stops}
use Rattle.mr_master_model.specs.Readings.{Seen, is_running, is_live}
use Rattle.mr_master_model.specs.Duty.{Duty, duty}
use Rattle.mr_master_model.specs.Answered.{is_fine, stepped, is_finished, heard_by, is_unsuccessful, with_earlier, next_winner, taken_of, with_maps, after_bar, moved_first, success_in, tell_recorded, recorded, flushed, after_duty, after_due, changed, name_of, running_after, failing_after, work_after, with_work, after_answer}
use Rattle.mr_world_alike.specs.Masters.{SameMasters}
use Rattle.mr_world_alike.proofs.Shown.{first-bar-same, winners-same, taken-same, duty-same}
use Rattle.mr_world_alike.proofs.Moving.{if-same, with-work-of, with-earlier-of, with-writing, without-tail, told-same, each-same}

-- ---- records that are flushed

pub recorded-same : (w : Setting) (r s : Seen) → SameMasters w r s → (rs : List Record) → SameMasters w (recorded w r rs) (recorded w s rs)
unfolding recorded
recorded-same w r s e [] = e
recorded-same w r s e (x ∷ rs) = recorded-same w (tell_recorded w r (success_in x)) (tell_recorded w s (success_in x)) (by (success_in x)) rs
  where
    by : (o : Option Attempt) → SameMasters w (tell_recorded w r o) (tell_recorded w s o)
    by None = e
    by (Some a) = if-same (is_task w a.task) (is_task w a.task) refl (told-same w r s e a.task (task_call.Records a)) e

module _ (w : Setting) (r s : Seen) (e : SameMasters w r s) where
  flushed-same : SameMasters w (flushed w r) (flushed w s)
  flushed-same =
      let P : List Record → Type 0 = λ l. SameMasters w (recorded w r r.tail) (recorded w s l) in
      without-tail w (recorded w r r.tail) (recorded w s s.tail) (subst P e.tail (recorded-same w r s e r.tail))

  moved-same : SameMasters w (moved_first r r.due) (moved_first s s.due)
  moved-same = subst (λ (l : List Record). SameMasters w (moved_first r r.due) (moved_first s l)) e.due (by r.due)
    where
      by : (l : List Record) → SameMasters w (moved_first r l) (moved_first s l)
      by [] = e
      by (x ∷ due) = with-writing w r s e due due (r.tail ++ x ∷ []) (s.tail ++ x ∷ []) refl (ap (λ (l : List Record). l ++ x ∷ []) e.tail)

  bar-same : SameMasters w (after_bar r (find (is_live w r) r.bars)) (after_bar s (find (is_live w s) s.bars))
  bar-same = subst (λ (o : Option Attempt). SameMasters w (after_bar r (find (is_live w r) r.bars)) (after_bar s o)) (first-bar-same w r s e) (by (find (is_live w r) r.bars))
    where
      by : (o : Option Attempt) → SameMasters w (after_bar r o) (after_bar s o)
      by None = e
      by (Some a) = told-same w r s e a.task (task_call.Dies a)

  after-duty-same : (n : DutyName) → SameMasters w (after_duty w r n) (after_duty w s n)
  after-duty-same name.Bar = bar-same
  after-duty-same name.Append = moved-same
  after-duty-same name.Flush = flushed-same
  after-duty-same _ = e

  due-same : SameMasters w (after_due w r (duty w r)) (after_due w s (duty w s))
  due-same = subst (λ (o : Option Duty). SameMasters w (after_due w r (duty w r)) (after_due w s o)) (duty-same w r s e) (by (duty w r))
    where
      by : (o : Option Duty) → SameMasters w (after_due w r o) (after_due w s o)
      by None = e
      by (Some d) = after-duty-same d.name

  -- ---- what changes, the work aside

  read-same : (a : StoreAnswer) → SameMasters w (with_earlier r a) (with_earlier s a)
  read-same (answer.Told rs) = with-earlier-of w r s e rs
  read-same _ = e

  changed-same : (a : StoreAnswer) (x : Work) → SameMasters w (changed w r a x) (changed w s a x)
  unfolding changed
  changed-same a Reads = read-same a
  changed-same a (TakesOver x left others) = if-same (is_finished (heard_by left a).0) (is_finished (heard_by left a).0) refl (told-same w r s e x.task (task_call.Recovers x.attempt)) e
  changed-same a Runs = if-same (is_fine a) (is_fine a) refl due-same e
  changed-same a (Fails is_stable) = if-same (is_fine a) (is_fine a) refl due-same e
  changed-same a LooksForSuccess = e
  changed-same a LooksForFail = e
  changed-same a LooksForStarted = e
  changed-same a (SetsUp left) = e
  changed-same a (CommitsJob left) = e
  changed-same a TellsSuccess = e
  changed-same a TellsFail = e
  changed-same a AbortsCommit = e
  changed-same a (Ends succeeded) = e
  changed-same a Stops = e

  -- ---- the work

  failing-same : (a : StoreAnswer) (b : Bool) (n : Option DutyName) → failing_after w r a b n ≡ failing_after w s a b n
  failing-same a b (Some name.Flush) = λ i. if is_fine a then Fails (b || list_any is_unsuccessful (e.tail i)) else Stops
  failing-same a b (Some name.Abort) = refl
  failing-same a b (Some name.Marks) = refl
  failing-same a b (Some name.Read) = refl
  failing-same a b (Some name.Setup) = refl
  failing-same a b (Some name.Recover) = refl
  failing-same a b (Some name.Bar) = refl
  failing-same a b (Some name.Append) = refl
  failing-same a b (Some name.Started) = refl
  failing-same a b (Some name.Merge) = refl
  failing-same a b (Some name.Cleanup) = refl
  failing-same a b (Some name.Marker) = refl
  failing-same a b (Some name.Success) = refl
  failing-same a b (Some name.Fail) = refl
  failing-same a b None = refl

  pub work-same : (a : StoreAnswer) (x : Work) → work_after w r a x ≡ work_after w s a x
  unfolding work_after
  work-same a LooksForSuccess = refl
  work-same a LooksForFail = refl
  work-same a LooksForStarted = refl
  work-same a Reads = refl
  work-same a (SetsUp left) = let q = winners-same w r s e in λ i. stepped left a SetsUp (next_winner w (q i)) Stops
  work-same a (TakesOver x left others) = refl
  work-same a Runs = let q = duty-same w r s e in λ i. if is_fine a then running_after w (name_of (q i)) else Stops
  work-same a (CommitsJob left) = refl
  work-same a TellsSuccess = refl
  work-same a TellsFail = refl
  work-same a AbortsCommit = refl
  work-same a (Fails is_stable) = failing-same a is_stable (name_of (duty w r)) ∙ ap (λ (o : Option Duty). failing_after w s a is_stable (name_of o)) (duty-same w r s e)
  work-same a (Ends succeeded) = refl
  work-same a Stops = refl

  maps-same : SameMasters w (with_maps w r) (with_maps w s)
  maps-same = each-same w r s e (λ a. task_call.Recovers a) (taken_of r) (taken_of s) (taken-same w r s e)

module _ (w : Setting) where
  with-same : (r s : Seen) → SameMasters w r s → (x y : Work) → x ≡ y → SameMasters w (with_work w r x) (with_work w s y)
  with-same r s e x y p =
      let begun = if-same (is_running x && not (is_running r.work)) (is_running y && not (is_running s.work)) (λ i. is_running (p i) && not (is_running (e.work i))) (maps-same w r s e) e in
      with-work-of w (if is_running x && not (is_running r.work) then with_maps w r else r) (if is_running y && not (is_running s.work) then with_maps w s else s) begun x y p

  pub answered-same : (r s : Seen) → SameMasters w r s → (a : StoreAnswer) → SameMasters w (after_answer w r a) (after_answer w s a)
  answered-same r s e a =
      if-same (is_some (duty w r)) (is_some (duty w s)) (ap is_some (duty-same w r s e))
      (with-same (changed w r a r.work) (changed w s a s.work) change (work_after w r a r.work) (work_after w s a s.work) work)
      e
    where
      change : SameMasters w (changed w r a r.work) (changed w s a s.work)
      change = subst (λ (x : Work). SameMasters w (changed w r a r.work) (changed w s a x)) e.work (changed-same w r s e a r.work)

      work : work_after w r a r.work ≡ work_after w s a s.work
      work = work-same w r s e a r.work ∙ ap (λ (x : Work). work_after w s a x) e.work

-- A marker means whole files, a marker is final, and there is one outcome.
use Rattle.std.proofs.Common.{◌∷◌, [], ℕ, suc, ◌≡◌, refl, sym, ◌∙◌, ap, subst, Bool, true, false, List, ◌++◌, Option, Some, None, is_none, nat_lt, ◌⊎◌, inl, inr, arith}
use Rattle.std.proofs.lemmas.Bool.{false≢true, true≢false, eq-eqb, ltb-false}
use Rattle.mr_world_model.proofs.Opening.{opening-dest, opening-mark}
use Rattle.mr_world_model.specs.Ids.{Path, marker, commit_started, commit_success, commit_fail, marker_name}
use Rattle.mr_world_model.specs.Content.{Entry, entry_at, is_file}
use Rattle.mr_world_model.specs.Records.{JobUnsuccessful, records_below}
use Rattle.mr_world_model.specs.Packets.{Config, Envelope, Won, Outcome, Done}
use Rattle.mr_world_model.specs.Pasts.{part_length, computed}
use Rattle.mr_world_model.specs.Hearing.{Seen, Phase, Opening, Setting_up, Recovering, Running, Committing, Failing, Finished, Stopped, List_job, Merging, Cleaning, Marking, Succeeding, Failing_mark, Aborting, is_running}
use Rattle.mr_world_model.specs.Duties.{Master_step, Came, Launches, Expires, Asks, seen, next_seen, is_unsuccessful}
use Rattle.mr_world_model.specs.World.{World, Event, Start, Crash, Duty, LaunchOn, Deliver, ContainerStep, Compute, Die, NodeRestart, Expire, Master_act, master_act, seen_by, opening_world, reply_of, reply_under}
use Rattle.mr_world_model.specs.Sending.{sent}
use Rattle.mr_world_model.specs.Effect.{effect, not_now, run}
use Rattle.mr_world_model.specs.Claims.{In, records, IsMarked, IsToldOutcome, Limits, world_of, MarkerMeansWholeFiles, LooksTheSame, MarkerIsFinal, OneOutcome}
use Rattle.mr_world_model.proofs.Basic.{along, run-append}
use Rattle.mr_world_model.proofs.Lists.{In-left, In-parts, Each, Each-In}
use Rattle.mr_world_model.proofs.Allowed.{Allowed, permits, seen_after}
use Rattle.mr_world_model.proofs.Told.{is_allowed}
use Rattle.mr_world_model.proofs.Said.{Sayings, sent-each, is_plain, is_finished}
use Rattle.mr_world_model.proofs.Masters.{came-phase, launches-phase, expires-phase, told-phase}
use Rattle.mr_world_model.proofs.Mild.{is_bad, Clean}
use Rattle.mr_world_model.proofs.Marks.{StartPhase, Started, In-unsuccessful}
use Rattle.mr_world_model.proofs.Steps.{Case, still, hears, asks, calls, starts, case_of, newest, IsHeard}
use Rattle.mr_world_model.proofs.Dirs.{Known, R}
use Rattle.mr_world_model.proofs.Found.{Sure, sure, opening-sure}
use Rattle.mr_world_model.proofs.Recorded.{Recorded, recorded, opening-recorded}
use Rattle.mr_world_model.proofs.Merge.{IsNotThere, IsThere, Unmarked, Ended, MergePhase, Merge, created_by, is_created, is_merging}
use Rattle.mr_world_model.proofs.Merged.{record-on}
use Rattle.mr_world_model.proofs.Commit_steps.{merge_after, marker-at, success-at, fail-at, started-at, visible-at, loose-of}
use Rattle.mr_world_model.proofs.Late.{IsLate, late-reply, Late, stops, fails, ends, rests, late-told}
pub use Rattle.mr_world_model.proofs.Stills.{is_still, still-free, may_still, still-may, bad-may, open-may, told-may}

abbrev pub IsSettled : Config → World → Type 0
IsSettled cfg w = Ended w false × (is_still (newest cfg w).phase ≡ true)

pub record Outcomes (cfg : Config) (w : World) : Type 0 where
  pub success : IsToldOutcome w true → IsThere w commit_success
  pub failure : IsToldOutcome w false → IsSettled cfg w
  pub aborting : (k : ℕ) → (seen_by cfg w k).phase ≡ Committing Aborting → IsThere w commit_fail

pub record All (cfg : Config) (w : World) : Type 0 where
  pub sures : Sure cfg w
  pub records : Recorded cfg w
  pub merge : Merge cfg w
  pub outcomes : Outcomes cfg w

-- where a failure's reason is there, no job is set up
ended-still : (cfg : Config) (w : World) → Sure cfg w → IsThere w commit_started ⊎ In JobUnsuccessful (records w) → may_still (newest cfg w).phase ≡ true → is_still (newest cfg w).phase ≡ true
unfolding records_below
ended-still cfg w su why t = by (newest cfg w).phase refl t su.marks.start (su.mild_masters.clean w.fence (omega arith))
  where
    sets : (newest cfg w).phase ≡ Setting_up → Started w ≡ None → is_unsuccessful (R w) ≡ false → IsThere w commit_started ⊎ In JobUnsuccessful (records w) → ⊥
    sets z s c (inl x) = true≢false (sym (ap is_none s) ∙ x)
    sets z s c (inr i) = two (In-parts JobUnsuccessful (R w) (w.history w.fence).stable i)
      where
        two : In JobUnsuccessful (R w) ⊎ In JobUnsuccessful (w.history w.fence).stable → ⊥
        two (inl j) = true≢false (sym (In-unsuccessful (R w) j) ∙ c)
        two (inr j) = false≢true (subst (λ z. is_bad z ≡ true) z (su.mild_masters.stored w.fence (In-left JobUnsuccessful (w.history w.fence).stable (w.history w.fence).tail j)))

    by : (p : Phase) → (newest cfg w).phase ≡ p → may_still p ≡ true → StartPhase (Started w) p → Clean (is_unsuccessful (R w)) p → is_still p ≡ true
    by Setting_up z t s c = absurd (sets z s c why)
    by (Opening n) z t s c = refl
    by (Recovering ws at) z t s c = t
    by Running z t s c = t
    by (Committing at) z t s c = t
    by (Failing f) z t s c = refl
    by (Finished b) z t s c = refl
    by Stopped z t s c = refl

-- where the mark of a failure is there, the failure is settled
fail-settled : (cfg : Config) (w : World) → Sure cfg w → Merge cfg w → IsThere w commit_fail → IsSettled cfg w
fail-settled cfg w su m f = ((success (is_none (entry_at w.content commit_success)) refl, inl started), by (newest cfg w).phase m.phase su.marks.start)
  where
    none-is : (o : Option Entry) → is_none o ≡ true → o ≡ None
    none-is None q = refl
    none-is (Some x) q = absurd (false≢true q)

    not_none : IsNotThere w commit_fail → ⊥
    not_none q = true≢false (sym (ap is_none q) ∙ f)

    success : (b : Bool) → is_none (entry_at w.content commit_success) ≡ b → entry_at w.content commit_success ≡ None
    success true q = none-is (entry_at w.content commit_success) q
    success false q = absurd (not_none (m.success q).1)

    no_start : Started w ≡ None → ⊥
    no_start q = not_none (m.before q).0.1.1

    started : is_none (Started w) ≡ false
    started = two (is_none (Started w)) refl
      where
        two : (b : Bool) → is_none (Started w) ≡ b → is_none (Started w) ≡ false
        two true q = absurd (no_start (none-is (Started w) q))
        two false q = q

    by : (p : Phase) → MergePhase cfg w w.fence p → StartPhase (Started w) p → is_still p ≡ true
    by (Opening n) o s = refl
    by Setting_up o s = absurd (no_start s)
    by (Recovering ws at) o s = absurd (no_start s)
    by Running o s = absurd (no_start s)
    by (Failing b) o s = refl
    by (Committing List_job) o s = absurd (not_none o.0.1.1)
    by (Committing (Merging ms)) o s = absurd (not_none o.0.1.1)
    by (Committing Cleaning) o s = absurd (not_none o.0.1.1)
    by (Committing Marking) o s = absurd (not_none o.0.1.1)
    by (Committing Succeeding) o s = absurd (not_none o.0.1)
    by (Committing Failing_mark) o s = absurd (not_none o.0.1)
    by (Committing Aborting) o s = refl
    by (Finished b) o s = refl
    by Stopped o s = refl

-- The phases of a marked world make no marker and merge nothing
marked-free : (cfg : Config) (w : World) → Sure cfg w → Merge cfg w → IsMarked w → (is_merging (newest cfg w).phase ≡ false) × (is_created (created_by (newest cfg w).phase) marker ≡ false)
marked-free cfg w su m k = by (newest cfg w).phase m.phase
  where
    un : Unmarked w → ⊥
    un x = false≢true (sym (ap is_file x.0) ∙ k)

    by : (p : Phase) → MergePhase cfg w w.fence p → (is_merging p ≡ false) × (is_created (created_by p) marker ≡ false)
    by (Opening n) o = (refl, refl)
    by Setting_up o = (refl, refl)
    by (Recovering ws at) o = (refl, refl)
    by Running o = (refl, refl)
    by (Failing b) o = (refl, refl)
    by (Committing List_job) o = (refl, refl)
    by (Committing (Merging ms)) o = absurd (un o.0)
    by (Committing Cleaning) o = (refl, refl)
    by (Committing Marking) o = absurd (un o.0)
    by (Committing Succeeding) o = (refl, refl)
    by (Committing Failing_mark) o = (refl, refl)
    by (Committing Aborting) o = (refl, refl)
    by (Finished b) o = (refl, refl)
    by Stopped o = (refl, refl)

-- who acts, and what has it seen then

act-fence : (cfg : Config) (w : World) (e : Event) (a : Master_act) → master_act cfg w e ≡ Some a → (effect cfg w e).fence ≡ w.fence
unfolding master_act
act-fence cfg w (Start k kept) a q = cc
act-fence cfg w (Crash k kept) a q = refl
act-fence cfg w (Duty k f) a q = refl
act-fence cfg w (LaunchOn k t n) a q = refl
act-fence cfg w (Deliver i) a q = refl
act-fence cfg w (ContainerStep c f) a q = refl
act-fence cfg w (Compute c b) a q = refl
act-fence cfg w (Die c) a q = refl
act-fence cfg w (NodeRestart m) a q = refl
act-fence cfg w (Expire k n) a q = refl

stepped : (cfg : Config) (w : World) (e : Event) (a : Master_act) → master_act cfg w e ≡ Some a → seen_by cfg (effect cfg w e) a.who ≡ next_seen cfg a.who (seen_by cfg w a.who) a.step
unfolding seen
stepped cfg w e a q = rw (q, eq-eqb a.who a.who refl) refl

module _ (cfg : Config) (w : World) (e : Event) (x : All cfg w) (n : not_now cfg w e ≡ None) where
  su : Sure cfg w
  su = x.sures

  su' : Sure cfg (effect cfg w e)
  su' = sure cfg w e x.sures n

  m' : Merge cfg (effect cfg w e)
  m' = merge_after cfg w e x.sures x.records x.merge n

  known-on : Known cfg w
  known-on = x.sures.known

  -- a marked world stays marked and looks the same
  pub marked-on : IsMarked w → IsMarked (effect cfg w e) × LooksTheSame w (effect cfg w e)
  marked-on k = let f = marked-free cfg w x.sures x.merge k in
      (ap is_file (marker-at cfg w e x.sures x.records x.merge n (newest cfg w).phase refl f.1) ∙ k, λ p v. visible-at cfg w e x.sures x.records x.merge n (newest cfg w).phase refl f.0 p v)

  may-on : is_still (newest cfg w).phase ≡ true → may_still (newest cfg (effect cfg w e)).phase ≡ true
  may-on s = by (case_of cfg w e known-on.honest known-on.cluster n)
    where
      there : (k : ℕ) → (effect cfg w e).fence ≡ k → may_still (seen_by cfg (effect cfg w e) k).phase ≡ true → may_still (newest cfg (effect cfg w e)).phase ≡ true
      there k fe o = subst (λ z. may_still (seen_by cfg (effect cfg w e) z).phase ≡ true) (sym fe) o

      same : may_still (newest cfg w).phase ≡ true
      same = still-may (newest cfg w).phase s

      heard : (y : Master_step) → IsHeard y → may_still (next_seen cfg w.fence (newest cfg w) y).phase ≡ true
      heard (Came p) i = two (came-phase cfg w.fence (newest cfg w) p)
        where
          two : ((next_seen cfg w.fence (newest cfg w) (Came p)).phase ≡ (newest cfg w).phase) ⊎ ((is_running (newest cfg w).phase ≡ true) × ((next_seen cfg w.fence (newest cfg w) (Came p)).phase ≡ Failing false)) → may_still (next_seen cfg w.fence (newest cfg w) (Came p)).phase ≡ true
          two (inl q) = subst (λ z. may_still z ≡ true) (sym q) same
          two (inr q) = subst (λ z. may_still z ≡ true) (sym q.1) refl
      heard (Launches l) i = subst (λ z. may_still z ≡ true) (sym (launches-phase cfg w.fence (newest cfg w) l)) same
      heard (Expires m) i = subst (λ z. may_still z ≡ true) (sym (expires-phase cfg w.fence (newest cfg w) m)) same
      heard (Asks call r) i = absurd i

      by : Case cfg w e → may_still (newest cfg (effect cfg w e)).phase ≡ true
      by (still fe c q) = there w.fence fe (subst (λ (z : Seen). may_still z.phase ≡ true) (sym q) same)
      by (hears y h al sf fe c q) = there w.fence fe (subst (λ (z : Seen). may_still z.phase ≡ true) (sym q) (heard y h))
      by (calls k) = there w.fence k.fence (subst (λ (z : Seen). may_still z.phase ≡ true) (sym k.seen) same)
      by (asks call g ev du fe c q) = there w.fence fe (subst (λ (z : Seen). may_still z.phase ≡ true) (sym q)
          (subst (λ z. may_still z ≡ true) (sym (told-phase cfg w.fence (newest cfg w) call (reply_under g (reply_of w w.fence call)))) (told-may w.fence (newest cfg w) (newest cfg w).phase call (reply_under g (reply_of w w.fence call)) s)))
      by (starts fe c q) = there (suc w.fence) fe (subst (λ (z : Seen). may_still z.phase ≡ true) (sym q) refl)

  -- a failure that is settled stays so, and nothing that is seen changes
  pub settled-on : IsSettled cfg w → IsSettled cfg (effect cfg w e) × ((entry_at (effect cfg w e).content marker ≡ entry_at w.content marker) × LooksTheSame w (effect cfg w e))
  settled-on s = (
    (ended, ended-still cfg (effect cfg w e) su' ended.1 (may-on s.1)),
    (marker-at cfg w e x.sures x.records x.merge n (newest cfg w).phase refl (f.0 marker), λ p v. visible-at cfg w e x.sures x.records x.merge n (newest cfg w).phase refl f.1 p v),
  )
    where
      f : ((d : Path) → is_created (created_by (newest cfg w).phase) d ≡ false) × (is_merging (newest cfg w).phase ≡ false)
      f = still-free (newest cfg w).phase s.1

      why : IsThere w commit_started ⊎ In JobUnsuccessful (records w) → IsThere (effect cfg w e) commit_started ⊎ In JobUnsuccessful (records (effect cfg w e))
      why (inl t) = inl (ap is_none (started-at cfg w e x.sures x.records x.merge n (newest cfg w).phase refl (f.0 commit_started)) ∙ t)
      why (inr i) = inr (record-on cfg w e known-on n JobUnsuccessful i)

      ended : Ended (effect cfg w e) false
      ended = (success-at cfg w e x.sures x.records x.merge n (newest cfg w).phase refl (f.0 commit_success) ∙ s.0.0, why s.0.1)

  -- marks stay

  there-or : (o o' : Option Entry) (b : Bool) → (b ≡ false → o' ≡ o) → (b ≡ true → is_none o ≡ false → ⊥) → is_none o ≡ false → is_none o' ≡ false
  there-or o o' false f g t = ap is_none (f refl) ∙ t
  there-or o o' true f g t = absurd (g refl t)

  success-stays : IsThere w commit_success → IsThere (effect cfg w e) commit_success
  success-stays s = there-or (entry_at w.content commit_success) (entry_at (effect cfg w e).content commit_success) (is_created (created_by (newest cfg w).phase) commit_success)
      (λ q. success-at cfg w e x.sures x.records x.merge n (newest cfg w).phase refl q) (λ q t. made (newest cfg w).phase x.merge.phase q t) s
    where
      made : (p : Phase) → MergePhase cfg w w.fence p → is_created (created_by p) commit_success ≡ true → IsThere w commit_success → ⊥
      made (Committing Succeeding) o i t = true≢false (sym (ap is_none o.0.0) ∙ t)
      made (Committing List_job) o i t = false≢true i
      made (Committing (Merging ms)) o i t = false≢true i
      made (Committing Cleaning) o i t = false≢true i
      made (Committing Marking) o i t = false≢true i
      made (Committing Failing_mark) o i t = false≢true i
      made (Committing Aborting) o i t = false≢true i
      made Running o i t = false≢true i
      made p o i t = false≢true i

  fail-stays : IsThere w commit_fail → IsThere (effect cfg w e) commit_fail
  fail-stays s = there-or (entry_at w.content commit_fail) (entry_at (effect cfg w e).content commit_fail) (is_created (created_by (newest cfg w).phase) commit_fail)
      (λ q. fail-at cfg w e x.sures x.records x.merge n (newest cfg w).phase refl q) (λ q t. made (newest cfg w).phase x.merge.phase q t) s
    where
      made : (p : Phase) → MergePhase cfg w w.fence p → is_created (created_by p) commit_fail ≡ true → IsThere w commit_fail → ⊥
      made (Committing Failing_mark) o i t = true≢false (sym (ap is_none o.0.1) ∙ t)
      made (Committing List_job) o i t = false≢true i
      made (Committing (Merging ms)) o i t = false≢true i
      made (Committing Cleaning) o i t = false≢true i
      made (Committing Marking) o i t = false≢true i
      made (Committing Succeeding) o i t = false≢true i
      made (Committing Aborting) o i t = false≢true i
      made Running o i t = false≢true i
      made p o i t = false≢true i

  -- The step of a master: the newest, or a late one

  allowed : (a : Master_act) → master_act cfg w e ≡ Some a → (w.is_master a.who ≡ true) × Allowed cfg w a.who a.step
  allowed a q = is_allowed cfg w _ (permits cfg w e n) a q

  newest-is : (a : Master_act) → master_act cfg w e ≡ Some a → nat_lt a.who w.fence ≡ false → a.who ≡ (effect cfg w e).fence
  newest-is a q l = let up = ltb-false a.who w.fence l in let down = known-on.honest.is_aged.masters_started a.who (allowed a q).0 in let fe = act-fence cfg w e a q in omega (arith, up, down, fe)

  -- a step to another phase is a late call's, or the newest's
  data Stepped (k : ℕ) (p q : Phase) : Type 0 where
    same : q ≡ p → Stepped k p q
    fell : q ≡ Failing false → Stepped k p q
    late : Late p q → Stepped k p q
    new : k ≡ (effect cfg w e).fence → Stepped k p q

  step-is : (a : Master_act) → master_act cfg w e ≡ Some a → Stepped a.who (seen_by cfg w a.who).phase (next_seen cfg a.who (seen_by cfg w a.who) a.step).phase
  step-is a q = by a.step (allowed a q).1
    where
      by : (y : Master_step) → Allowed cfg w a.who y → Stepped a.who (seen_by cfg w a.who).phase (next_seen cfg a.who (seen_by cfg w a.who) y).phase
      by (Came p) al = two (came-phase cfg a.who (seen_by cfg w a.who) p)
        where
          two : ((next_seen cfg a.who (seen_by cfg w a.who) (Came p)).phase ≡ (seen_by cfg w a.who).phase) ⊎ ((is_running (seen_by cfg w a.who).phase ≡ true) × ((next_seen cfg a.who (seen_by cfg w a.who) (Came p)).phase ≡ Failing false)) → Stepped a.who (seen_by cfg w a.who).phase (next_seen cfg a.who (seen_by cfg w a.who) (Came p)).phase
          two (inl z) = same z
          two (inr z) = fell z.1
      by (Launches l) al = same (launches-phase cfg a.who (seen_by cfg w a.who) l)
      by (Expires m) al = same (expires-phase cfg a.who (seen_by cfg w a.who) m)
      by (Asks call r) al = which (nat_lt a.who w.fence) refl
        where
          which : (b : Bool) → nat_lt a.who w.fence ≡ b → Stepped a.who (seen_by cfg w a.who).phase (next_seen cfg a.who (seen_by cfg w a.who) (Asks call r)).phase
          which false l = new (newest-is a q l)
          which true l = late (subst (Late (seen_by cfg w a.who).phase) (sym (told-phase cfg a.who (seen_by cfg w a.who) call r))
              (late-told a.who (seen_by cfg w a.who) (seen_by cfg w a.who).phase call r (subst IsLate (sym al.2) (late-reply w a.who call al.1 l))))

  -- what is said of an outcome
  abbrev Says : Bool → Type 0
  Says true = IsThere (effect cfg w e) commit_success
  Says false = IsSettled cfg (effect cfg w e)

  finished-says : (b : Bool) → (newest cfg (effect cfg w e)).phase ≡ Finished b → Says b
  finished-says true z = (subst (MergePhase cfg (effect cfg w e) (effect cfg w e).fence) z m'.phase).0
  finished-says false z = ((subst (MergePhase cfg (effect cfg w e) (effect cfg w e).fence) z m'.phase).0, subst (λ p. is_still p ≡ true) (sym z) refl)

  told-says : (a : Master_act) → master_act cfg w e ≡ Some a → (b : Bool) → (next_seen cfg a.who (seen_by cfg w a.who) a.step).phase ≡ Finished b → is_finished (seen_by cfg w a.who).phase ≡ false → Says b
  told-says a q b f nf = by (step-is a q)
    where
      lates : Late (seen_by cfg w a.who).phase (next_seen cfg a.who (seen_by cfg w a.who) a.step).phase → Says b
      lates (stops z) = let y : Stopped ≡ Finished b = sym z ∙ f in cc
      lates (fails z) = let y : Committing Failing_mark ≡ Finished b = sym z ∙ f in cc
      lates (ends z y) = let v : Finished false ≡ Finished b = sym y ∙ f in let fb : false ≡ b = cc in
          subst Says fb (fail-settled cfg (effect cfg w e) su' m' (fail-stays (x.outcomes.aborting a.who z)))
      lates (rests c z y) = absurd (true≢false (sym (subst (λ p. is_finished p ≡ true) (sym z) refl) ∙ nf))

      by : Stepped a.who (seen_by cfg w a.who).phase (next_seen cfg a.who (seen_by cfg w a.who) a.step).phase → Says b
      by (same z) = absurd (true≢false (sym (subst (λ p. is_finished p ≡ true) (sym f ∙ z) refl) ∙ nf))
      by (fell z) = let y : Failing false ≡ Finished b = sym z ∙ f in cc
      by (late l) = lates l
      by (new z) = finished-says b (subst (λ k. (seen_by cfg (effect cfg w e) k).phase ≡ Finished b) z (ap (λ (s : Seen). s.phase) (stepped cfg w e a q) ∙ f))

  abbrev Tells : Envelope → Type 0
  Tells v = (b : Bool) → v.body ≡ Outcome b → Says b

  tells-sayings : Sayings Tells
  tells-sayings = record {
    plain = λ v t b q. absurd (false≢true (sym (ap is_plain q) ∙ t));
    won = λ k t a b (q : Won t a ≡ Outcome b). cc;
  }

  sent-says : Each Tells (sent cfg w e)
  sent-says = sent-each Tells tells-sayings cfg w e
      (λ a q k b f g c (r : Outcome b ≡ Outcome c). let bc : b ≡ c = cc in subst Says bc (told-says a q b f g))
      (λ c f p q z y b (r : Done p.attempt (part_length p.attempt (computed (w.container_past c))) ≡ Outcome b). cc)

  outcome-on : (b : Bool) → (IsToldOutcome w b → Says b) → IsToldOutcome (effect cfg w e) b → Says b
  outcome-on b old t = by (In-parts t.0 w.bag (sent cfg w e) t.1)
    where
      by : In t.0 w.bag ⊎ In t.0 (sent cfg w e) → Says b
      by (inl i) = old (t.0, i, t.2)
      by (inr i) = Each-In Tells (sent cfg w e) sent-says t.0 i b t.2

  abbrev Aborts : Seen → Type 0
  Aborts s = s.phase ≡ Committing Aborting → IsThere (effect cfg w e) commit_fail

  aborting-on : (k : ℕ) → Aborts (seen_by cfg (effect cfg w e) k)
  aborting-on k = seen_after Aborts cfg w (master_act cfg w e) k (λ z. fail-stays (x.outcomes.aborting k z))
      (λ a q f. subst (λ j. Aborts (next_seen cfg j (seen_by cfg w j) a.step)) f (acts a q))
    where
      acts : (a : Master_act) → master_act cfg w e ≡ Some a → Aborts (next_seen cfg a.who (seen_by cfg w a.who) a.step)
      acts a q f = by (step-is a q)
        where
          lates : Late (seen_by cfg w a.who).phase (next_seen cfg a.who (seen_by cfg w a.who) a.step).phase → IsThere (effect cfg w e) commit_fail
          lates (stops z) = let y : Stopped ≡ Committing Aborting = sym z ∙ f in cc
          lates (fails z) = let y : Committing Failing_mark ≡ Committing Aborting = sym z ∙ f in cc
          lates (ends z y) = let v : Finished false ≡ Committing Aborting = sym y ∙ f in cc
          lates (rests c z y) = let v : Finished c ≡ Committing Aborting = sym y ∙ f in cc

          by : Stepped a.who (seen_by cfg w a.who).phase (next_seen cfg a.who (seen_by cfg w a.who) a.step).phase → IsThere (effect cfg w e) commit_fail
          by (same z) = fail-stays (x.outcomes.aborting a.who (sym z ∙ f))
          by (fell z) = let y : Failing false ≡ Committing Aborting = sym z ∙ f in cc
          by (late l) = lates l
          by (new z) = (subst (MergePhase cfg (effect cfg w e) (effect cfg w e).fence)
              (subst (λ j. (seen_by cfg (effect cfg w e) j).phase ≡ Committing Aborting) z (ap (λ (s : Seen). s.phase) (stepped cfg w e a q) ∙ f)) m'.phase).0.1

  pub all_after : All cfg (effect cfg w e)
  all_after = record {
    sures = su';
    records = recorded cfg w e known-on x.records n;
    merge = m';
    outcomes = record {
      success = λ t. outcome-on true (λ o. success-stays (x.outcomes.success o)) t;
      failure = λ t. outcome-on false (λ o. (settled-on (x.outcomes.failure o)).0) t;
      aborting = aborting-on;
    };
  }

pub opening-all : (cfg : Config) → All cfg opening_world
unfolding seen
opening-all cfg = record {
  sures = opening-sure cfg;
  records = opening-recorded cfg;
  merge = record {
    before = λ t. ((opening-dest (marker_name ∷ []), (opening-mark _, opening-mark _)), λ p v. subst (λ z. entry_at opening_world.content z ≡ None) (sym v.2) (opening-dest (v.0 ∷ v.1)));
    success = λ s. absurd (true≢false (sym (ap is_none (opening-mark _)) ∙ s));
    phase = λ k. absurd (false≢true (sym (ap is_file (opening-dest (marker_name ∷ []))) ∙ k));
  };
  outcomes = record { success = λ t. absurd t.1; failure = λ t. absurd t.1; aborting = λ k (q : Opening 0 ≡ Committing Aborting). cc };
}

pub ever : (cfg : Config) (within : Limits) (es : List Event) → All cfg (world_of cfg within es)
ever cfg within es = along (All cfg) cfg within (λ w e s n. all_after cfg w e s n) opening_world es (opening-all cfg)

-- The theorems

pub marker_means_complete : (cfg : Config) (within : Limits) → MarkerMeansWholeFiles cfg within
marker_means_complete cfg within es k = loose-of cfg (world_of cfg within es) (ever cfg within es).merge k

pub record Marked_since (cfg : Config) (w v : World) : Type 0 where
  pub all : All cfg v
  pub marked : IsMarked v
  pub looks : LooksTheSame w v

marked_later : (cfg : Config) (within : Limits) (w : World) (fs : List Event) → All cfg w → IsMarked w → Marked_since cfg w (run cfg within w fs)
marked_later cfg within w fs x k = along (Marked_since cfg w) cfg within
    (λ v e s n. let o = marked-on cfg v e s.all n s.marked in record { all = all_after cfg v e s.all n; marked = o.0; looks = λ p q. o.1 p q ∙ s.looks p q })
    w fs (record { all = x; marked = k; looks = λ p q. refl })

pub no_later_event : (cfg : Config) (within : Limits) → MarkerIsFinal cfg within
no_later_event cfg within es fs k = rw (run-append cfg within opening_world es fs)
    (let s = marked_later cfg within (world_of cfg within es) fs (ever cfg within es) k in (s.marked, s.looks))

pub record Settled_since (cfg : Config) (w v : World) : Type 0 where
  pub all : All cfg v
  pub settled : IsSettled cfg v
  pub marker : entry_at v.content marker ≡ entry_at w.content marker
  pub looks : LooksTheSame w v

settled_later : (cfg : Config) (within : Limits) (w : World) (fs : List Event) → All cfg w → IsSettled cfg w → Settled_since cfg w (run cfg within w fs)
settled_later cfg within w fs x k = along (Settled_since cfg w) cfg within
    (λ v e s n. let o = settled-on cfg v e s.all n s.settled in record { all = all_after cfg v e s.all n; settled = o.0; marker = o.1.0 ∙ s.marker; looks = λ p q. o.1.1 p q ∙ s.looks p q })
    w fs (record { all = x; settled = k; marker = refl; looks = λ p q. refl })

pub outcomes_agree : (cfg : Config) (within : Limits) → OneOutcome cfg within
outcomes_agree cfg within = record { agree = agree; marked = λ es t. ((ever cfg within es).merge.success ((ever cfg within es).outcomes.success t)).0; settled = settled }
  where
    both : (es : List Event) → IsToldOutcome (world_of cfg within es) true → IsToldOutcome (world_of cfg within es) false → ⊥
    both es t f = let o = (ever cfg within es).outcomes in true≢false (sym (ap is_none (o.failure f).0.0) ∙ o.success t)

    agree : (es : List Event) (b c : Bool) → IsToldOutcome (world_of cfg within es) b → IsToldOutcome (world_of cfg within es) c → b ≡ c
    agree es true true t u = refl
    agree es false false t u = refl
    agree es true false t u = absurd (both es t u)
    agree es false true t u = absurd (both es u t)

    settled : (es fs : List Event) (b : Bool) → IsToldOutcome (world_of cfg within es) b →
        LooksTheSame (world_of cfg within es) (world_of cfg within (es ++ fs)) ×
        ((IsMarked (world_of cfg within es) → IsMarked (world_of cfg within (es ++ fs))) × (IsMarked (world_of cfg within (es ++ fs)) → IsMarked (world_of cfg within es)))
    settled es fs true t = let k = ((ever cfg within es).merge.success ((ever cfg within es).outcomes.success t)).0 in let l = no_later_event cfg within es fs k in (l.1, (λ q. l.0, λ q. k))
    settled es fs false t = rw (run-append cfg within opening_world es fs)
        (let s = settled_later cfg within (world_of cfg within es) fs (ever cfg within es) ((ever cfg within es).outcomes.failure t) in (s.looks, (λ q. ap is_file s.marker ∙ q, λ q. sym (ap is_file s.marker) ∙ q)))

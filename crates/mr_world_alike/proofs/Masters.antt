-- Two masters whose pasts are alike have the same store call due, refuse the same, and send the same.
use Rattle.std.proofs.Common.{ℕ, ◌≡◌, refl, sym, ◌∙◌, ap, subst, Bool, true, false, ◌&&◌, ◌||◌, not, List, [], ◌∷◌, Option, Some, None, nat_eq, nat_lt}
use Rattle.std.proofs.lemmas.Bool.{true≢false, eq-eqb, eqb-true, and_parts}
use Rattle.mr_ids.specs.declared.id.TaskId.{TaskId}
use Rattle.mr_task.proofs.Launches.{none-stand}
use Rattle.mr_master_model.specs.declared.phase.LaunchFault.{LaunchFault}
use Rattle.mr_master_model.specs.declared.phase.LaunchFault.TheVariants as refused
use Rattle.mr_master_model.specs.declared.store.StoreCall.{StoreCall}
use Rattle.mr_master_model.specs.declared.store.StoreCall.TheVariants as call
use Rattle.mr_master_model.specs.Past as machine
use Rattle.mr_master_model.specs.Duty as due
use Rattle.mr_master_model.specs.Next as next
use Rattle.mr_world_model.specs.Packets.{Config, Store, Names, Append_record, Flush, Read_history}
use Rattle.mr_world_model.specs.Hearing.{Seen, Phase, is_running, is_won}
use Rattle.mr_world_model.specs.Duties.{Master_step, duty_of, seen}
use Rattle.mr_world_model.specs.World.{World, Event, Start, Crash, count_of}
use Rattle.mr_world_model.specs.Effect.{Why, NotRunning, NoTask, NoNode, Task, AlreadyWon, TooManyLive, TooManyAttempts, unless, is_task, live_count, task_fault, effect}
use Rattle.mr_world_model.specs.Ids.{of_reduces}
use Rattle.mr_world_model.specs.Made.{AllMade}
use Rattle.mr_master_refinement.specs.Steps.{setting, steps, step_of}
use Rattle.mr_master_refinement.specs.Works.{named}
use Rattle.mr_master_refinement.specs.Agreement.{machine_seen}
use Rattle.mr_master_refinement.specs.Points.{launch_why, expire_why, refusal_as}
use Rattle.mr_master_refinement.specs.Stores.{MasterMoves, MastersRest, MasterStarts, MasterCrashes}
use Rattle.mr_master_refinement.proofs.Whole.{masters_agree}
use Rattle.mr_world_alike.specs.Masters.{SameMasters}
use Rattle.mr_world_alike.proofs.Shown.{duty-same, refusal-same, expire-same}
use Rattle.mr_world_alike.proofs.Sending.{step-same}

-- ---- a store call, and a refusal, read back

abbrev call_back : StoreCall → Store
call_back (call.Names o) = Names o
call_back (call.Append r) = Append_record r
call_back call.Flush = Flush
call_back call.Read = Read_history

abbrev back_of : Option due.Duty → Option Store
back_of None = None
back_of (Some d) = Some (call_back d.call)

back-named : (p : Phase) (o : Option Store) → back_of (named p o) ≡ o
back-named p None = refl
back-named p (Some (Names o)) = refl
back-named p (Some (Append_record r)) = refl
back-named p (Some Flush) = refl
back-named p (Some Read_history) = refl

abbrev why_back : Option LaunchFault → Option Why
why_back None = None
why_back (Some refused.NotRunning) = Some NotRunning
why_back (Some refused.NoTask) = Some NoTask
why_back (Some refused.NoNode) = Some NoNode
why_back (Some (refused.Task f)) = Some (Task f)

fault-back : (s : Seen) (t : TaskId) → why_back (refusal_as (task_fault s t)) ≡ task_fault s t
fault-back s t = by (not (is_won s (of_reduces t.kind) t)) (nat_lt (live_count s t s.launched) 2) (nat_lt (count_of s.launched t) 1000)
  where
    by : (a b c : Bool) → why_back (refusal_as (unless a (Task AlreadyWon) (unless b (Task TooManyLive) (unless c (Task TooManyAttempts) None))))
        ≡ unless a (Task AlreadyWon) (unless b (Task TooManyLive) (unless c (Task TooManyAttempts) None))
    by false b c = refl
    by true false c = refl
    by true true false = refl
    by true true true = refl

launch-back : (cfg : Config) (s : Seen) (t : TaskId) (n : ℕ) → why_back (refusal_as (launch_why cfg s t n)) ≡ launch_why cfg s t n
launch-back cfg s t n = by (is_running s.phase) (is_task cfg t) (nat_lt n cfg.nodes)
  where
    by : (a b c : Bool) → why_back (refusal_as (unless a NotRunning (unless b NoTask (unless c NoNode (task_fault s t))))) ≡ unless a NotRunning (unless b NoTask (unless c NoNode (task_fault s t)))
    by false b c = refl
    by true false c = refl
    by true true false = refl
    by true true true = fault-back s t

expire-back : (cfg : Config) (s : Seen) (n : ℕ) → why_back (refusal_as (expire_why cfg s n)) ≡ expire_why cfg s n
expire-back cfg s n = by (is_running s.phase) (nat_lt n cfg.nodes)
  where
    by : (a c : Bool) → why_back (refusal_as (unless a NotRunning (unless c NoNode None))) ≡ unless a NotRunning (unless c NoNode None)
    by false c = refl
    by true false = refl
    by true true = refl

-- ---- two pasts of masters of one generation

abbrev pub SamePasts : Config → ℕ → List Master_step → List Master_step → Type 0
SamePasts cfg k p q = SameMasters (setting cfg k) (machine_seen cfg k p) (machine_seen cfg k q)

module _ (cfg : Config) (k : ℕ) (p q : List Master_step) (e : SamePasts cfg k p q) (a : AllMade cfg k p) (b : AllMade cfg k q) where
  pub due-same : duty_of cfg k (seen cfg k p) (seen cfg k p).phase ≡ duty_of cfg k (seen cfg k q) (seen cfg k q).phase
  due-same =
      let x = masters_agree cfg k p a in
      let y = masters_agree cfg k q b in
      let both : named (seen cfg k p).phase (duty_of cfg k (seen cfg k p) (seen cfg k p).phase) ≡ named (seen cfg k q).phase (duty_of cfg k (seen cfg k q) (seen cfg k q).phase) =
      sym x.point.duty ∙ (duty-same (setting cfg k) (machine_seen cfg k p) (machine_seen cfg k q) e ∙ y.point.duty) in
      sym (back-named (seen cfg k p).phase (duty_of cfg k (seen cfg k p) (seen cfg k p).phase))
      ∙ (ap back_of both ∙ back-named (seen cfg k q).phase (duty_of cfg k (seen cfg k q) (seen cfg k q).phase))

  pub launch-same : (t : TaskId) (n : ℕ) → launch_why cfg (seen cfg k p) t n ≡ launch_why cfg (seen cfg k q) t n
  launch-same t n =
      let x = masters_agree cfg k p a in
      let y = masters_agree cfg k q b in
      let both : refusal_as (launch_why cfg (seen cfg k p) t n) ≡ refusal_as (launch_why cfg (seen cfg k q) t n) =
      sym (x.point.launch t n) ∙ (refusal-same (setting cfg k) (machine_seen cfg k p) (machine_seen cfg k q) e t n ∙ y.point.launch t n) in
      sym (launch-back cfg (seen cfg k p) t n) ∙ (ap why_back both ∙ launch-back cfg (seen cfg k q) t n)

  pub expiry-same : (n : ℕ) → expire_why cfg (seen cfg k p) n ≡ expire_why cfg (seen cfg k q) n
  expiry-same n =
      let x = masters_agree cfg k p a in
      let y = masters_agree cfg k q b in
      let both : refusal_as (expire_why cfg (seen cfg k p) n) ≡ refusal_as (expire_why cfg (seen cfg k q) n) =
      sym (x.point.expiry n) ∙ (expire-same (setting cfg k) (machine_seen cfg k p) (machine_seen cfg k q) e n ∙ y.point.expiry n) in
      sym (expire-back cfg (seen cfg k p) n) ∙ (ap why_back both ∙ expire-back cfg (seen cfg k q) n)

-- ---- a world's masters

pub record MastersAlike (cfg : Config) (w u : World) : Type 0 where
  pub living : (k : ℕ) → w.is_master k ≡ u.is_master k
  pub same : (k : ℕ) → w.is_master k ≡ true → SamePasts cfg k (w.master_past k) (u.master_past k)

carried : (cfg : Config) (k : ℕ) (p q p' q' : List Master_step) → p' ≡ p → q' ≡ q → SamePasts cfg k p q → SamePasts cfg k p' q'
carried cfg k p q p' q' a b e = subst (λ (x : List Master_step). SamePasts cfg k x q') (sym a) (subst (λ (y : List Master_step). SamePasts cfg k p y) (sym b) e)

-- masters who have done nothing
pub unborn-same : (cfg : Config) (k : ℕ) → SamePasts cfg k [] []
unfolding next.seen
unborn-same cfg k = record {
  work = refl;
  tasks = λ t. record { machine = record { task = t; app = k; attempts = []; grant = record { attempts = []; is_fixed = false }; numbered = 0 }; one = none-stand t k; other = none-stand t k };
  launched = refl;
  killed = λ n. refl;
  known = λ n. refl;
  earlier = refl;
  due = refl;
  tail = refl;
  bars = refl;
}

module _ (cfg : Config) (w u : World) (e : MastersAlike cfg w u) (x y : Event) where
  pub masters-rest : MastersRest cfg w x → MastersRest cfg u y → MastersAlike cfg (effect cfg w x) (effect cfg u y)
  masters-rest a b = record {
    living = λ k. a.living k ∙ (e.living k ∙ sym (b.living k));
    same = λ k t. carried cfg k (w.master_past k) (u.master_past k) ((effect cfg w x).master_past k) ((effect cfg u y).master_past k) (a.pasts k) (b.pasts k) (e.same k (sym (a.living k) ∙ t));
  }

  -- one step of master k
  pub masters-move : (k : ℕ) (p q : Master_step) → w.is_master k ≡ true → step_of p ≡ step_of q → MasterMoves cfg w x k p → MasterMoves cfg u y k q → MastersAlike cfg (effect cfg w x) (effect cfg u y)
  masters-move k p q lives is a b = record {
    living = λ j. a.living j ∙ (e.living j ∙ sym (b.living j));
    same = λ j t. by j t (nat_eq j k) refl;
  }
    where
      here : SameMasters (setting cfg k) (next.seen (setting cfg k) (steps ((effect cfg w x).master_past k))) (next.seen (setting cfg k) (steps ((effect cfg u y).master_past k)))
      here =
          let more = step-same (setting cfg k) (steps (w.master_past k)) (steps (u.master_past k)) (step_of p) (e.same k lives) in
          let now : steps ((effect cfg u y).master_past k) ≡ step_of p ∷ steps (u.master_past k) = b.now ∙ ap (λ z. z ∷ steps (u.master_past k)) (sym is) in
          let P : List machine.Step → Type 0 = λ h. SameMasters (setting cfg k) (next.seen (setting cfg k) h) (next.seen (setting cfg k) (steps ((effect cfg u y).master_past k))) in
          let Q : List machine.Step → Type 0 = λ h. SameMasters (setting cfg k) (next.seen (setting cfg k) (step_of p ∷ steps (w.master_past k))) (next.seen (setting cfg k) h) in
          subst P (sym a.now) (subst Q (sym now) more)

      by : (j : ℕ) → (effect cfg w x).is_master j ≡ true → (c : Bool) → nat_eq j k ≡ c → SamePasts cfg j ((effect cfg w x).master_past j) ((effect cfg u y).master_past j)
      by j t true c =
          let P : ℕ → Type 0 = λ n. SamePasts cfg n ((effect cfg w x).master_past n) ((effect cfg u y).master_past n) in
          subst P (sym (eqb-true j k c)) here
      by j t false c =
          let apart : j ≡ k → ⊥ = λ r. true≢false (sym (eq-eqb j k r) ∙ c) in
          carried cfg j (w.master_past j) (u.master_past j) ((effect cfg w x).master_past j) ((effect cfg u y).master_past j) (a.others j apart) (b.others j apart) (e.same j (sym (a.living j) ∙ t))

-- a new master
pub masters-start : (cfg : Config) (w u : World) (e : MastersAlike cfg w u) (k kept : ℕ) → MasterStarts cfg w k kept → MasterStarts cfg u k kept → MastersAlike cfg (effect cfg w (Start k kept)) (effect cfg u (Start k kept))
masters-start cfg w u e k kept a b = record {
  living = λ j. a.living j ∙ (ap (λ c. nat_eq j k || c) (e.living j) ∙ sym (b.living j));
  same = λ j t. by j (nat_eq j k) refl (sym (a.living j) ∙ t);
}
  where
    by : (j : ℕ) (c : Bool) → nat_eq j k ≡ c → (nat_eq j k || w.is_master j) ≡ true → SamePasts cfg j ((effect cfg w (Start k kept)).master_past j) ((effect cfg u (Start k kept)).master_past j)
    by j true c t =
        let P : ℕ → Type 0 = λ n. SamePasts cfg n ((effect cfg w (Start k kept)).master_past n) ((effect cfg u (Start k kept)).master_past n) in
        subst P (sym (eqb-true j k c)) (carried cfg k [] [] ((effect cfg w (Start k kept)).master_past k) ((effect cfg u (Start k kept)).master_past k) a.none b.none (unborn-same cfg k))
    by j false c t =
        carried cfg j (w.master_past j) (u.master_past j) ((effect cfg w (Start k kept)).master_past j) ((effect cfg u (Start k kept)).master_past j) (a.pasts j) (b.pasts j)
        (e.same j (sym (ap (λ d. d || w.is_master j) c) ∙ t))

-- a master crashes
pub masters-crash : (cfg : Config) (w u : World) (e : MastersAlike cfg w u) (k kept : ℕ) → MasterCrashes cfg w k kept → MasterCrashes cfg u k kept → MastersAlike cfg (effect cfg w (Crash k kept)) (effect cfg u (Crash k kept))
masters-crash cfg w u e k kept a b = record {
  living = λ j. a.living j ∙ (ap (λ c. not (nat_eq j k) && c) (e.living j) ∙ sym (b.living j));
  same = λ j t.
      let both = and_parts (not (nat_eq j k)) (w.is_master j) (sym (a.living j) ∙ t) in
      carried cfg j (w.master_past j) (u.master_past j) ((effect cfg w (Crash k kept)).master_past j) ((effect cfg u (Crash k kept)).master_past j) (a.pasts j) (b.pasts j) (e.same j both.1);
}

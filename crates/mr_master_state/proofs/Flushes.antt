-- What is seen once all that was appended is stable.
use Rattle.std.proofs.Common.{ℕ, ◌+◌, ◌<◌, ◌≤◌, ◌≡◌, refl, sym, ◌∙◌, ap, subst, true, cond, List, [], ◌∷◌, ◌++◌, append-nil, append_assoc, take, drop, length, get_or, add-one, Some}
use Rattle.std.proofs.Math.Seq.{take-suc}
use Rattle.std.proofs.lemmas.List.{take_all}
use Rattle.mr_ids.specs.Attempt.{Attempt}
use Rattle.mr_packet.specs.declared.packet.Envelope.{Envelope}
use Rattle.mr_task.specs.Calls.{Records}
use Rattle.mr_history.specs.declared.record.Record.{Record}
use Rattle.mr_master_model.specs.declared.setting.Setting.{Setting}
use Rattle.mr_master_model.specs.Job.{is_task}
use Rattle.mr_master_model.specs.Readings.{Seen, tell}
use Rattle.mr_master_model.specs.Answered.{recorded, tell_recorded, success_in, moved_first}
use Rattle.mr_master_tasks.specs.Tasks.{Tasks, Takes}
use Rattle.mr_master_tasks.specs.Places.{place_of}
use Rattle.mr_master_state.specs.State.{Master, Keeps}
use Rattle.mr_master_state.proofs.Keeping.{tell-keeps}

recorded-last : (w : Setting) (s : Seen) (rs : List Record) (r : Record) → recorded w s (rs ++ r ∷ []) ≡ tell_recorded w (recorded w s rs) (success_in r)
unfolding recorded
recorded-last w s [] r = refl
recorded-last w s (x ∷ rs) r = recorded-last w (tell_recorded w s (success_in x)) rs r

pub recorded-none : {m : Master} (w : Setting) (s : Seen) → Keeps m w s → Keeps m w (recorded w s [])
unfolding recorded
recorded-none {m} w s k = k

pub recorded-more : {m : Master} (w : Setting) (s : Seen) (rs : List Record) (i : ℕ) (r : Record) → i < length rs → r ≡ get_or rs i r
    → Keeps m w (tell_recorded w (recorded w s (take i rs)) (success_in r)) → Keeps m w (recorded w s (take (i + 1) rs))
recorded-more {m} w s rs i r within is k =
    let more : take (i + 1) rs ≡ take i rs ++ r ∷ [] = ap (λ (n : ℕ). take n rs) (add-one i) ∙ take-suc rs i r within ∙ ap (λ (y : Record). take i rs ++ y ∷ []) (sym is) in
    subst (λ (x : Seen). Keeps m w x) (sym (ap (λ (l : List Record). recorded w s l) more ∙ recorded-last w s (take i rs) r)) k

pub recorded-all : {m : Master} (w : Setting) (s : Seen) (rs : List Record) (i : ℕ) → length rs ≤ i → rs ≡ s.tail → Keeps m w (recorded w s (take i rs)) → Keeps m w (recorded w s s.tail)
recorded-all {m} w s rs i all is k = subst (λ (l : List Record). Keeps m w (recorded w s l)) (take_all i rs all ∙ is) k

-- one success of a task of the job; of another nothing changes
pub success-keeps : (m : Master) (w : Setting) (s : Seen) (a : Attempt) (i : ℕ) (new : Tasks) → Keeps m w s → (is_task w a.task ≡ true) × (i ≡ place_of w a.task) → Takes m.tasks i (Records a) new
    → Keeps (record m { tasks = new }) w (tell_recorded w s (Some a))
success-keeps m w s a i new k p takes = subst (λ b. Keeps (record m { tasks = new }) w (cond b (tell s a.task (Records a)) s)) (sym p.0) (tell-keeps m w s a.task i (Records a) new k p.0 p.1 takes)

pub first-moved : (s : Seen) (due : List Record) → due ≡ s.due → record s { due = drop 1 due; tail = s.tail ++ take 1 due } ≡ moved_first s due
first-moved s [] e = λ i. record s { due = e i; tail = append-nil s.tail i }
first-moved s (r ∷ due) e = refl

-- ---- packets of one record behind those of the records before it

pub told-more : (old mid one new : List Envelope) (x y : List Envelope) → mid ≡ old → one ≡ mid ++ x → new ≡ one ++ y → new ≡ old ++ (x ++ y)
told-more old mid one new x y e f g = g ∙ ap (λ l. l ++ y) (f ∙ ap (λ l. l ++ x) e) ∙ append_assoc old x y

-- What is answered to Done.
use Rattle.std.proofs.Common.{ℕ, None, ◌⊎◌, inl, inr, ◌≡◌, refl, sym, ◌∙◌, ap, Bool, true, false, ◌&&◌, ◌||◌, List, [], ◌∷◌, Option, Some, Ok, Err, if◌then◌else◌, true≢false}
use Rattle.mr_ids.specs.Attempt.{Attempt}
use Rattle.mr_grant.specs.Attempts.{has}
use Rattle.mr_task.specs.Calls.{TaskCall, Asks, Reports}
use Rattle.mr_task.specs.State.{done_answer, reply_or}
use Rattle.mr_task.specs.declared.fault.TaskFault.TheVariants.{Unknown}
use Rattle.mr_task.specs.declared.reply.DoneReply.{DoneReply}
use Rattle.mr_task.specs.declared.reply.DoneReply.TheVariants as reply
use Rattle.mr_task.specs.Readings as reading
use Rattle.mr_packet.specs.declared.packet.Packet.TheVariants as packet
use Rattle.mr_packet.specs.Sends.{to_container}
use Rattle.mr_master_model.specs.declared.launch.Launch.{Launch}
use Rattle.mr_master_model.specs.declared.setting.Setting.{Setting}
use Rattle.mr_master_model.specs.Readings.{Seen, of_task, launch_of, tell, with_due}
use Rattle.mr_master_model.specs.Sends.{ack_to, answer_to, pending_answer}
use Rattle.mr_master_model.specs.Hearing.{after_ask, after_done, success_of}
use Rattle.mr_master_state.specs.mr_master_tasks.proofs.Keeping.{told-it}

abbrev pub reply_to : Seen → Setting → Attempt → DoneReply
reply_to s w a = reply_or (done_answer a a.task w.app (s.calls a.task)) reply.Ignored

accepts : (seen : reading.Seen) (a : Attempt) → reply.Accepted ≡ reply_or (if has seen.arrived a then Ok (if has seen.accepted a then reply.Again else if reading.may_accept seen a then reply.Accepted else reply.Ignored) else Err Unknown) reply.Ignored
    → reading.may_accept seen a ≡ true
accepts seen a e = by (has seen.arrived a) (has seen.accepted a) (reading.may_accept seen a) e
  where
    by : (b c d : Bool) → reply.Accepted ≡ reply_or {A = DoneReply} (if b then Ok (if c then reply.Again else if d then reply.Accepted else reply.Ignored) else Err Unknown) reply.Ignored → d ≡ true
    by true true d e = cc
    by true false true e = refl
    by true false false e = cc
    by false c d e = cc

pub accepted-now : (w : Setting) (s : Seen) (a : Attempt) → reply.Accepted ≡ reply_to s w a → reading.may_accept (of_task w s a.task) a ≡ true
accepted-now w s a e = accepts (of_task w s a.task) a e

pub record AcceptedBefore (w : Setting) (s : Seen) (a : Attempt) : Type 0 where
  pub before : has (of_task w s a.task).accepted a ≡ true
  pub now : reading.may_accept (of_task w s a.task) a ≡ false

pub record NotAccepted (w : Setting) (s : Seen) (a : Attempt) : Type 0 where
  pub before : has (of_task w s a.task).accepted a ≡ false
  pub now : reading.may_accept (of_task w s a.task) a ≡ false

pub accepted-before : (w : Setting) (s : Seen) (a : Attempt) → reply.Again ≡ reply_to s w a → AcceptedBefore w s a
accepted-before w s a e = let p = by (has q.arrived a) (has q.accepted a) (reading.may_accept q a) e in
    record { before = p; now = rw p (no (has q.arrived a)) }
  where
    q : reading.Seen
    q = of_task w s a.task

    by : (b c d : Bool) → reply.Again ≡ reply_or {A = DoneReply} (if b then Ok (if c then reply.Again else if d then reply.Accepted else reply.Ignored) else Err Unknown) reply.Ignored → c ≡ true
    by true true d e = refl
    by true false true e = cc
    by true false false e = cc
    by false c d e = cc

    no : (b : Bool) → (b && false) ≡ false
    no true = refl
    no false = refl

pub not-accepted : (w : Setting) (s : Seen) (a : Attempt) → has (of_task w s a.task).arrived a ≡ true → reply.Ignored ≡ reply_to s w a → NotAccepted w s a
not-accepted w s a there e = let p = by (has q.arrived a) (has q.accepted a) (reading.may_accept q a) there e in record { before = p.0; now = p.1 }
  where
    q : reading.Seen
    q = of_task w s a.task

    by : (b c d : Bool) → b ≡ true → reply.Ignored ≡ reply_or {A = DoneReply} (if b then Ok (if c then reply.Again else if d then reply.Accepted else reply.Ignored) else Err Unknown) reply.Ignored → (c ≡ false) × (d ≡ false)
    by true true d t e = cc
    by true false true t e = cc
    by true false false t e = (refl, refl)
    by false c d t e = absurd (true≢false (sym t))

or-right : (b c : Bool) → c ≡ true → (b || c) ≡ true
or-right true c e = refl
or-right false c e = e

pub acked : (w : Setting) (s : Seen) (a : Attempt) (l : Launch) → launch_of w s a ≡ Some l → (has (of_task w s a.task).accepted a || reading.may_accept (of_task w s a.task) a) ≡ true
    → to_container l.container (packet.DoneAck a) ∷ [] ≡ ack_to w s a (launch_of w s a)
acked w s a l e yes' =
    ap (λ b. if b then to_container l.container (packet.DoneAck a) ∷ [] else []) (sym yes') ∙ ap (λ o. ack_to w s a o) (sym e)

pub acked-now : (w : Setting) (s : Seen) (a : Attempt) (l : Launch) → launch_of w s a ≡ Some l → reading.may_accept (of_task w s a.task) a ≡ true
    → to_container l.container (packet.DoneAck a) ∷ [] ≡ ack_to w s a (launch_of w s a)
acked-now w s a l e may = acked w s a l e (or-right (has (of_task w s a.task).accepted a) (reading.may_accept (of_task w s a.task) a) may)

pub acked-again : (w : Setting) (s : Seen) (a : Attempt) (l : Launch) → launch_of w s a ≡ Some l → AcceptedBefore w s a
    → to_container l.container (packet.DoneAck a) ∷ [] ≡ ack_to w s a (launch_of w s a)
acked-again w s a l e may = acked w s a l e (ap (λ b. b || reading.may_accept (of_task w s a.task) a) may.before)

pub not-acked : (w : Setting) (s : Seen) (a : Attempt) (l : Launch) → launch_of w s a ≡ Some l → NotAccepted w s a → [] ≡ ack_to w s a (launch_of w s a)
not-acked w s a l e none =
    (λ j. if sym none.before j || sym none.now j then to_container l.container (packet.DoneAck a) ∷ [] else []) ∙ ap (λ o. ack_to w s a o) (sym e)

-- ---- to Pending and Poll

pub pending-none : (w : Setting) (s : Seen) (a : Attempt) → launch_of w s a ≡ None → [] ≡ pending_answer w s a
pending-none w s a e = ap (λ (o : Option Launch). answer_to a o (reading.is_named (of_task w (after_ask s a o) a.task) a)) (sym e)

-- where it is told what is read off the calls with its own
pub pending-some : (w : Setting) (s : Seen) (a : Attempt) (l : Launch) (may : Bool) → launch_of w s a ≡ Some l → may ≡ reading.is_named (reading.seen a.task w.app (Asks a ∷ s.calls a.task)) a
    → to_container l.container (packet.Answer a may) ∷ [] ≡ pending_answer w s a
pending-some w s a l may e named =
    ap (λ b. to_container l.container (packet.Answer a b) ∷ []) (named ∙ ap (λ (h : List TaskCall). reading.is_named (reading.seen a.task w.app h) a) (sym (told-it a.task (Asks a) s.calls)))
    ∙ ap (λ (o : Option Launch). answer_to a o (reading.is_named (of_task w (after_ask s a o) a.task) a)) (sym e)

pub none-acked : (w : Setting) (s : Seen) (a : Attempt) → launch_of w s a ≡ None → [] ≡ ack_to w s a (launch_of w s a)
none-acked w s a e = ap (λ (o : Option Launch). ack_to w s a o) (sym e)

-- ---- after Done

pub accepted-is : (w : Setting) (s : Seen) (a : Attempt) (bytes : Option ℕ) (l : Launch) → launch_of w s a ≡ Some l → reading.may_accept (of_task w s a.task) a ≡ true
    → after_done w s a bytes (launch_of w s a) ≡ with_due (tell s a.task (Reports a)) (success_of a.task.kind a l bytes ∷ [])
accepted-is w s a bytes l e may =
    ap (λ (o : Option Launch). after_done w s a bytes o) e
    ∙ ap (λ b. if b then with_due (tell s a.task (Reports a)) (success_of a.task.kind a l bytes ∷ []) else tell s a.task (Reports a)) may

pub not-accepted-is : (w : Setting) (s : Seen) (a : Attempt) (bytes : Option ℕ) (l : Launch) → launch_of w s a ≡ Some l → reading.may_accept (of_task w s a.task) a ≡ false
    → after_done w s a bytes (launch_of w s a) ≡ tell s a.task (Reports a)
not-accepted-is w s a bytes l e may =
    ap (λ (o : Option Launch). after_done w s a bytes o) e
    ∙ ap (λ b. if b then with_due (tell s a.task (Reports a)) (success_of a.task.kind a l bytes ∷ []) else tell s a.task (Reports a)) may

pub refused : (w : Setting) (s : Seen) (a : Attempt) (r : DoneReply) → has (of_task w s a.task).arrived a ≡ true → r ≡ reply_to s w a → (r ≡ reply.Again) ⊎ (r ≡ reply.Ignored)
    → reading.may_accept (of_task w s a.task) a ≡ false
refused w s a r there told (inl e) = (accepted-before w s a (sym e ∙ told)).now
refused w s a r there told (inr e) = (not-accepted w s a there (sym e ∙ told)).now

-- What the answers of the reading and of a committer's calls change and send.
use Rattle.std.proofs.Common.{◌≡◌, refl, sym, ap, ◌∙◌, Bool, true, false, ◌&&◌, not, append-nil, Result, Ok, Err, cond, List, [], ◌∷◌, ◌++◌, drop, Option, Some, None, if◌then◌else◌, true≢false}
use Rattle.std.specs.List.{list_any}
use Rattle.mr_history.specs.declared.record.Record.{Record}
use Rattle.mr_commit.specs.Tables.{setup_job}
use Rattle.mr_commit.specs.Line.{Line}
use Rattle.mr_commit.specs.Halves.{Following}
use Rattle.mr_commit.specs.Recovery.{Recovery, recover_task}
use Rattle.mr_commit.specs.Recovery.Recovery.{Nowhere, Left}
use Rattle.mr_commit.specs.declared.fault.CommitFault.{CommitFault}
use Rattle.mr_commit.specs.declared.fault.StepDone.{StepDone}
use Rattle.mr_commit.specs.declared.fault.StepDone.TheVariants as done
use Rattle.mr_recover.specs.declared.winner.TaskWinner.{TaskWinner}
use Rattle.mr_task.specs.Calls.{Recovers}
use Rattle.mr_packet.specs.declared.packet.Packet.TheVariants as packet
use Rattle.mr_packet.specs.declared.packet.Envelope.{Envelope}
use Rattle.mr_master_model.specs.declared.setting.Setting.{Setting}
use Rattle.mr_master_model.specs.declared.store.StoreAnswer.{StoreAnswer}
use Rattle.mr_master_model.specs.declared.store.StoreAnswer.TheVariants as answer
use Rattle.mr_master_model.specs.Past.{Work, Reads, SetsUp, TakesOver, CommitsJob, TellsSuccess, TellsFail, Fails, Stops}
use Rattle.mr_master_model.specs.Readings.{Seen, is_running, tell}
use Rattle.mr_master_model.specs.Answered.{changed, work_after, with_work, with_earlier, read_by, is_unsuccessful, heard_by, goes_on, is_finished, is_superseded, takes_over, next_winner, winners, with_maps}
use Rattle.mr_master_model.specs.Sends.{work_sends, outcome_of, to_all}
use Rattle.mr_master_phase.specs.WorkKinds.{is_read, records_in, is_step, left_of, with_left, refused_when, finished_by, others_of, with_others}
use Rattle.mr_master_phase.specs.declared.store.Coming.TheVariants as coming
use Rattle.mr_master_phase.specs.Coming.{IsComing, begun_by}
use Rattle.mr_master_phase.specs.Heard.{Heard, heard_as, has_finished}
use Rattle.mr_master_phase.specs.Taking.{winner_of, after_winner, won_of, after_table}
use Rattle.mr_master_phase.specs.Answering.{answered_sends, answered_seen}
use Rattle.mr_master_phase.proofs.Replies.{quiet}
use Rattle.mr_master_phase.proofs.Stepping.{when-more, when-finished, when-refused}

-- ---- the reading

pub told-is : (a : StoreAnswer) (rs : List Record) → Some rs ≡ records_in a → answer.Told rs ≡ a
told-is (answer.Told xs) rs e = cc
told-is _ rs e = cc

pub unread : (w : Setting) (s : Seen) (a : StoreAnswer) → None ≡ records_in a → (s ≡ with_earlier s a) × (Stops ≡ read_by w a)
unread w s (answer.Told xs) e = cc
unread w s _ e = (refl, refl)

pub read-is : (work : Work) → is_read work ≡ true → work ≡ Reads
read-is Reads e = refl
read-is _ e = absurd (true≢false (sym e))

-- what is next neither runs nor ended
pub read-quiet : (w : Setting) (a : StoreAnswer) → (is_running (read_by w a) ≡ false) × ([] ≡ outcome_of w (read_by w a))
read-quiet w (answer.Told rs) = by (list_any is_unsuccessful rs)
  where
    by : (b : Bool) → (is_running (cond b (Fails true) (SetsUp (setup_job w.layout.dest w.app))) ≡ false) × ([] ≡ outcome_of w (cond b (Fails true) (SetsUp (setup_job w.layout.dest w.app))))
    by true = (refl, refl)
    by false = (refl, refl)
read-quiet w _ = (refl, refl)

pub read-seen : (w : Setting) (s : Seen) (a : StoreAnswer) → s.work ≡ Reads → record (with_earlier s a) { work = read_by w a } ≡ answered_seen w s a
unfolding changed work_after
read-seen w s a e = quiet w (with_earlier s a) (read_by w a) (read-quiet w a).0 ∙ (λ i. with_work w (changed w s a (sym e i)) (work_after w s a (sym e i)))

pub read-sends : (w : Setting) (s : Seen) (a : StoreAnswer) → s.work ≡ Reads → [] ≡ answered_sends w s a
unfolding work_sends work_after
read-sends w s a e = (read-quiet w a).1 ∙ (λ i. work_sends w s a (sym e i) ++ outcome_of w (work_after w s a (sym e i)))

-- ---- a committer's calls

-- the answer was not that of the last one
pub record Unfinished (w : Setting) (s : Seen) (a : StoreAnswer) (work : Work) : Type 0 where
  pub changes : s ≡ changed w s a work
  pub sends : [] ≡ work_sends w s a work
  pub tells : [] ≡ outcome_of w (work_after w s a work)
  pub rests : is_running (work_after w s a work) ≡ false

-- neither runs nor ended
abbrev IsQuiet : Setting → Work → Type 0
IsQuiet w work = ([] ≡ outcome_of w work) × (is_running work ≡ false)

goes-quiet : (w : Setting) (r : Result StepDone CommitFault) (left : List Line) → has_finished (heard_as r) ≡ false → (more : List Line → Work) (finished refused : Work) → IsQuiet w (more left) → IsQuiet w refused
    → IsQuiet w (goes_on r left more finished refused)
goes-quiet w (Ok done.More) left e more finished refused p q = p
goes-quiet w (Ok done.Finished) left e more finished refused p q = absurd (true≢false e)
goes-quiet w (Err f) left e more finished refused p q = q

not-finished : (r : Result StepDone CommitFault) → has_finished (heard_as r) ≡ false → is_finished r ≡ false
not-finished (Ok done.More) e = refl
not-finished (Ok done.Finished) e = e
not-finished (Err f) e = refl

did-finish : (r : Result StepDone CommitFault) → has_finished (heard_as r) ≡ true → is_finished r ≡ true
did-finish (Ok done.More) e = e
did-finish (Ok done.Finished) e = refl
did-finish (Err f) e = e

refusal-quiet : (w : Setting) (b : Bool) → IsQuiet w (if b then Stops else TellsFail)
refusal-quiet w true = (refl, refl)
refusal-quiet w false = (refl, refl)

pub unfinished : (w : Setting) (s : Seen) (a : StoreAnswer) (work : Work) → is_step work ≡ true → has_finished (heard_as (heard_by (left_of work) a).0) ≡ false → Unfinished w s a work
unfolding changed work_sends work_after
unfinished w s a (SetsUp left) is e =
    let p = goes-quiet w (heard_by left a).0 (heard_by left a).1 e SetsUp (next_winner w (winners w s)) Stops (refl, refl) (refl, refl) in
    record { changes = refl; sends = refl; tells = p.0; rests = p.1 }
unfinished w s a (TakesOver x left others) is e =
    let p = goes-quiet w (heard_by left a).0 (heard_by left a).1 e (λ l. TakesOver x l others) (next_winner w others) Stops (refl, refl) (refl, refl) in
    let f = sym (not-finished (heard_by left a).0 e) in
    record {
      changes = λ i. if f i then tell s x.task (Recovers x.attempt) else s;
      sends = λ i. if f i then to_all w.nodes (packet.Won x.task x.attempt) else [];
      tells = p.0;
      rests = p.1;
    }
unfinished w s a (CommitsJob left) is e =
    let p = goes-quiet w (heard_by left a).0 (heard_by left a).1 e CommitsJob TellsSuccess (if is_superseded a then Stops else TellsFail) (refl, refl) (refusal-quiet w (is_superseded a)) in
    record { changes = refl; sends = refl; tells = p.0; rests = p.1 }
unfinished w s a _ is e = absurd (true≢false (sym is))

-- it was
pub record Finishing (w : Setting) (s : Seen) (a : StoreAnswer) (work : Work) : Type 0 where
  pub changes : after_winner s (winner_of work) ≡ changed w s a work
  pub sends : won_of w (winner_of work) ≡ work_sends w s a work
  pub tells : [] ≡ outcome_of w (finished_by w s work)
  pub rests : is_running work ≡ false

next-tells : (w : Setting) (xs : List TaskWinner) → [] ≡ outcome_of w (next_winner w xs)
next-tells w [] = refl
next-tells w (x ∷ others) = by (recover_task w.layout.dest w.app x.task x.bytes)
  where
    by : (r : Recovery) → [] ≡ outcome_of w (takes_over x r others)
    by Nowhere = refl
    by (Left left) = refl

pub finishing : (w : Setting) (s : Seen) (a : StoreAnswer) (work : Work) → is_step work ≡ true → has_finished (heard_as (heard_by (left_of work) a).0) ≡ true → Finishing w s a work
unfolding changed work_sends
finishing w s a (SetsUp left) is e = record { changes = refl; sends = refl; tells = next-tells w (winners w s); rests = refl }
finishing w s a (TakesOver x left others) is e =
    let f = sym (did-finish (heard_by left a).0 e) in
    record {
      changes = λ i. if f i then tell s x.task (Recovers x.attempt) else s;
      sends = λ i. if f i then to_all w.nodes (packet.Won x.task x.attempt) else [];
      tells = next-tells w others;
      rests = refl;
    }
finishing w s a (CommitsJob left) is e = record { changes = refl; sends = refl; tells = refl; rests = refl }
finishing w s a _ is e = absurd (true≢false (sym is))

-- by the work after the answer
pub step-seen : (w : Setting) (s : Seen) (a : StoreAnswer) (new : Work) → Unfinished w s a s.work → new ≡ work_after w s a s.work → record s { work = new } ≡ answered_seen w s a
step-seen w s a new u e = quiet w s new (ap (λ (x : Work). is_running x) e ∙ u.rests) ∙ (λ i. with_work w (u.changes i) (e i))

pub step-sends : (w : Setting) (s : Seen) (a : StoreAnswer) → Unfinished w s a s.work → [] ≡ answered_sends w s a
step-sends w s a u = λ i. u.sends i ++ u.tells i

runs-anew : (w : Setting) (s : Seen) (work : Work) → is_running s.work ≡ false → record (if is_running work then with_maps w s else s) { work = work } ≡ with_work w s work
runs-anew w s work e = (λ i. record (if and-true (is_running work) i then with_maps w s else s) { work = work }) ∙ (λ i. record (if is_running work && not (sym e i) then with_maps w s else s) { work = work })
  where
    and-true : (b : Bool) → b ≡ (b && true)
    and-true true = refl
    and-true false = refl

calls-only : (w : Setting) (s : Seen) (o : Option TaskWinner) (b : Bool) (work : Work) → record s { calls = (after_table w s o b).calls; work = work } ≡ record (after_table w s o b) { work = work }
calls-only w s o true work = refl
calls-only w s o false work = refl

pub finish-seen : (w : Setting) (s : Seen) (a : StoreAnswer) (new : Work) → Finishing w s a s.work → new ≡ work_after w s a s.work
    → record s { calls = (after_table w s (winner_of s.work) (is_running new)).calls; work = new } ≡ answered_seen w s a
finish-seen w s a new f e =
    calls-only w s (winner_of s.work) (is_running new) new ∙ runs-anew w (after_winner s (winner_of s.work)) new f.rests ∙ (λ i. with_work w (f.changes i) (e i))

pub finish-sends : (w : Setting) (s : Seen) (a : StoreAnswer) (new : Work) (es : List Envelope) → Finishing w s a s.work → new ≡ finished_by w s s.work → new ≡ work_after w s a s.work → es ≡ won_of w (winner_of s.work) → es ≡ answered_sends w s a
finish-sends w s a new es f n e q = q ∙ f.sends ∙ sym (append-nil (work_sends w s a s.work)) ∙ (λ i. work_sends w s a s.work ++ (f.tells ∙ ap (λ (x : Work). outcome_of w x) (sym n ∙ e)) i)

-- no attempt is taken over by it
pub finished-tells : (w : Setting) (s : Seen) (work : Work) → is_step work ≡ true → [] ≡ outcome_of w (finished_by w s work)
finished-tells w s (SetsUp left) is = next-tells w (winners w s)
finished-tells w s (TakesOver x left others) is = next-tells w others
finished-tells w s (CommitsJob left) is = refl
finished-tells w s _ is = absurd (true≢false (sym is))

pub nobody-told : (w : Setting) (s : Seen) (new : Work) → is_step s.work ≡ true → None ≡ winner_of s.work → new ≡ finished_by w s s.work → outcome_of w new ≡ won_of w (winner_of s.work)
nobody-told w s new is none n = ap (λ (x : Work). outcome_of w x) n ∙ sym (finished-tells w s s.work is) ∙ ap (λ (o : Option TaskWinner). won_of w o) none

pub nobody-enters : (w : Setting) (s : Seen) (new : Work) → None ≡ winner_of s.work → is_running new ≡ false → new ≡ finished_by w s s.work
    → record s { work = new } ≡ record s { calls = (after_table w s (winner_of s.work) (is_running (finished_by w s s.work))).calls; work = finished_by w s s.work }
nobody-enters w s new none rests n =
    let quiet' : false ≡ is_running (finished_by w s s.work) = sym rests ∙ ap (λ (x : Work). is_running x) n in
    λ i. record s { calls = (after_table w s (none i) (quiet' i)).calls; work = n i }

-- ---- the next work, where the reduces that are left after the next one are not in it yet

-- no reduce was taken over: nothing is left out
pub nobody-left : (w : Setting) (s : Seen) (work : Work) → None ≡ winner_of work → begun_by w s work ≡ finished_by w s work
nobody-left w s (TakesOver x left others) none = cc
nobody-left w s _ none = refl

-- one of them is taken over: the master does not run
taking-rests : (x : TaskWinner) (r : Recovery) (others : List TaskWinner) → is_running (takes_over x r others) ≡ false
taking-rests x Nowhere others = refl
taking-rests x (Left left) others = refl

first-rests : (w : Setting) (x : TaskWinner) (others : List TaskWinner) → is_running (next_winner w (x ∷ others)) ≡ false
first-rests w x others = taking-rests x (recover_task w.layout.dest w.app x.task x.bytes) others

-- the master runs: none is left
pub runs-whole : (w : Setting) (s : Seen) (work : Work) → is_running (begun_by w s work) ≡ true → begun_by w s work ≡ finished_by w s work
runs-whole w s (TakesOver x left []) runs = refl
runs-whole w s (TakesOver x left (y ∷ others)) runs = absurd (true≢false (sym runs ∙ first-rests w y []))
runs-whole w s _ runs = refl

-- those that are left are moved to it
moved-to : (x : TaskWinner) (r : Recovery) (others : List TaskWinner) → with_others (takes_over x r []) others ≡ takes_over x r others
moved-to x Nowhere others = refl
moved-to x (Left left) others = refl

-- a reduce was taken over, and the master does not run yet
pub record Joined (w : Setting) (s : Seen) (work : Work) : Type 0 where
  pub whole : with_others (begun_by w s work) (drop 1 (others_of work)) ≡ finished_by w s work
  pub rests : false ≡ is_running (finished_by w s work)

pub joined : (w : Setting) (s : Seen) (x : TaskWinner) (work : Work) → Some x ≡ winner_of work → is_running (begun_by w s work) ≡ false → Joined w s work
joined w s x (TakesOver y left []) is rests = absurd (true≢false rests)
joined w s x (TakesOver y left (z ∷ others)) is rests = record { whole = moved-to z (recover_task w.layout.dest w.app z.task z.bytes) others; rests = sym (first-rests w z others) }
joined w s x _ is rests = cc

-- ---- the three ways in which a call goes

-- lines are left
pub goes-on : (w : Setting) (s : Seen) (a : StoreAnswer) (f : Following) → is_step s.work ≡ true → IsComing (left_of s.work) a (coming.More f)
    → (record s { work = with_left s.work (f.lines ++ drop 1 (left_of s.work)) } ≡ answered_seen w s a) × ([] ≡ answered_sends w s a)
goes-on w s a f is x =
    let u = unfinished w s a s.work is (ap (λ (h : Heard). has_finished h) (sym x.0)) in
    (step-seen w s a _ u (when-more w s a s.work _ is x.0 (ap (λ (l : List Line). with_left s.work l) x.1)), step-sends w s a u)

-- it was the last one
pub goes-last : (w : Setting) (s : Seen) (a : StoreAnswer) → is_step s.work ≡ true → IsComing (left_of s.work) a coming.Finished
    → (record s { calls = (after_table w s (winner_of s.work) (is_running (finished_by w s s.work))).calls; work = finished_by w s s.work } ≡ answered_seen w s a) × (won_of w (winner_of s.work) ≡ answered_sends w s a)
goes-last w s a is x =
    let f = finishing w s a s.work is (ap (λ (h : Heard). has_finished h) (sym x)) in
    let next = when-finished w s a s.work (finished_by w s s.work) is x refl in
    (finish-seen w s a (finished_by w s s.work) f next, finish-sends w s a (finished_by w s s.work) (won_of w (winner_of s.work)) f refl next refl)

-- it was refused, or its answer was lost
pub goes-wrong : (w : Setting) (s : Seen) (a : StoreAnswer) (new : Work) → is_step s.work ≡ true → IsComing (left_of s.work) a coming.Refused → new ≡ refused_when (is_superseded a) s.work
    → (record s { work = new } ≡ answered_seen w s a) × (outcome_of w new ≡ answered_sends w s a)
goes-wrong w s a new is x n =
    let u = unfinished w s a s.work is (ap (λ (h : Heard). has_finished h) (sym x)) in
    let after = when-refused w s a s.work new is x n in
    (step-seen w s a new u after, ap (λ (v : Work). outcome_of w v) after ∙ sym u.tells ∙ step-sends w s a u)
